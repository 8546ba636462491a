use Rattle.derive_core.proofs.Tellings.{entry_key, entries_more}
use Rattle.derive_core.proofs.outcomes.with_entries.Goals as goal

pub with_entry-requires-clause-key : goal.with_entry-requires-clause-key
with_entry-requires-clause-key g c κs within =
    entry_key c.args.accepted.now.model c.args.side c.args.entries.now c.loop-place.place (c.item.result.0.now, c.item.result.1.now) c.requires.side c.item.ensures

pub loop-place-preserved : goal.loop-place-preserved
loop-place-preserved g c =
    entries_more c.args.accepted.now.model c.args.side c.args.entries.now c.loop-place.place (c.item.result.0.now, c.item.result.1.now) c.args.before c.loop-place.told c.in_ok-told.told
    c.item.ensures c.loop-place.invariant c.in_ok-told.ensures.value

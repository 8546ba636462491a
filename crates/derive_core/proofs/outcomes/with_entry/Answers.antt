use Rattle.std.proofs.Common.{sym, subst}
use Rattle.derive_core.specs.Works.{MayBeTold}
use Rattle.derive_core.proofs.Tellings.{entry_told}
use Rattle.derive_core.proofs.outcomes.with_entry.Goals as goal

pub with_block-requires-clause-name : goal.with_block-requires-clause-name
with_block-requires-clause-name g c κs within =
    subst (MayBeTold c.args.accepted.now.model) (sym c.in_ok-name.ensures.name) (entry_told c.args.accepted.now.model c.args.side c.args.key.now c.requires.key)

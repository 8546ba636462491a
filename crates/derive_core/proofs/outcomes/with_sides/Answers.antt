use Rattle.derive_core.proofs.Tellings.{sides_told}
use Rattle.derive_core.proofs.outcomes.with_sides.Goals as goal

pub returns-clause-value : goal.returns-clause-value
returns-clause-value g c =
    sides_told c.args.accepted.now.model c.args.plain.now c.args.conjugate.now c.args.before c.in_ok-first.first c.with_entries-2.result c.in_ok-first.ensures.value c.with_entries-2.ensures.value

use Rattle.std.specs.Prelude.{slice_get}
use Rattle.std.proofs.lemmas.Option.{slice_get_past}
use Rattle.model_core.proofs.FactorLaws.{no_field}
use Rattle.model_core.proofs.factors.push_field_slots.Goals as goal

pub returns-in-None : goal.returns-in-None
returns-in-None c = no_field c.args.slots.now c.args.labels.now (slice_get c.args.fields.now c.args.place) (slice_get_past c.args.fields.now c.args.place c.in-None.ensures.lookup.3)

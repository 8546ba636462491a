use Rattle.std.specs.Prelude.{slice_get}
use Rattle.std.proofs.lemmas.Option.{slice_get_past}
use Rattle.derive_core.proofs.PlaceTokens.{no_token}
use Rattle.derive_core.proofs.component_blocks.push_token.Goals as goal

pub returns-in-None : goal.returns-in-None
returns-in-None c = no_token c.args.kind c.args.tokens.now (slice_get c.args.components.now c.args.place) (slice_get_past c.args.components.now c.args.place c.in-None.ensures.lookup.3)

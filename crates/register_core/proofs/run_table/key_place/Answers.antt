use Rattle.std.proofs.Common.{rules}
use Rattle.std.proofs.lemmas.Fn.{always_returns_same}
use Rattle.register_core.specs.Register.{key_cmp}
use Rattle.register_core.proofs.Tables.{keys_total, place_found}
use Rattle.register_core.proofs.run_table.key_place.Goals as goal

pub returns : goal.returns
returns c =
    place_found keys_total c.args.runs.now c.args.key.now c.requires c.binary_search_by.result c.binary_search_by.ensures.bound
    (c.binary_search_by.ensures.position (λ e. key_cmp e.0 c.args.key.now) (always_returns_same _ _ _ (λ a r g called. (search rules, search rules))))

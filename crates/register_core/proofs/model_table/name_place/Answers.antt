use Rattle.std.proofs.Common.{rules}
use Rattle.std.proofs.lemmas.Fn.{always_returns_same}
use Rattle.std.proofs.lemmas.Cmp.{nat_list_cmp_total}
use Rattle.register_core.specs.Register.{name_cmp}
use Rattle.register_core.proofs.Tables.{place_found}
use Rattle.register_core.proofs.model_table.name_place.Goals as goal

pub returns : goal.returns
returns c =
    place_found nat_list_cmp_total c.args.models.now c.args.name.now c.requires c.binary_search_by.result c.binary_search_by.ensures.bound
    (c.binary_search_by.ensures.position (λ e. name_cmp e.0 c.args.name.now) (always_returns_same _ _ _ (λ a r g called. (search rules, search rules))))

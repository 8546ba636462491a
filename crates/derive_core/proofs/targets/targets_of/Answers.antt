use Rattle.std.proofs.Common.{◌++◌, ◌∙◌, sym, ap, map}
use Rattle.std.specs.List.{flat_map}
use Rattle.derive_core.specs.Targets.{gauge_target, term_targets}
use Rattle.derive_core.proofs.TargetLists.{targets_are}
use Rattle.derive_core.proofs.targets.targets_of.Goals as goal

pub returns : goal.returns
returns c =
    let model = c.args.model.now in
    c.in_ok-push_terms.ensures
    ∙ ap (λ ts. ts ++ flat_map term_targets model.terms) (c.in_ok-targets.ensures ∙ ap (map gauge_target) c.as_slice.ensures)
    ∙ sym (targets_are model)

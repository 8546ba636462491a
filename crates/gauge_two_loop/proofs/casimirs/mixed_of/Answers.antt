use Rattle.std.proofs.Common.{◌≡◌, ℕ, ◌+◌, ◌^◌, sym, subst, ap₂, ◌∙◌, arith}
use Rattle.std.specs.List.{All, list_all}
use Rattle.std.proofs.lemmas.Result.{on_err_weaker, IfOk-weaker}
use Rattle.frac128.specs.Rational.{◌+ℚ◌}
use Rattle.model_core.specs.declared.group.Group.{Group}
use Rattle.model_core.specs.declared.term.TermKind.TheVariants.{Fermion, Scalar}
use Rattle.model_core.specs.Plain.{IsPlainCharge}
use Rattle.model_core.specs.Valid.{is_field}
use Rattle.model_core.proofs.ValidLaws.{valid_parts, parts_scalar_fields}
use Rattle.gauge_two_loop.specs.Refused.{IsShare}
use Rattle.gauge_two_loop.specs.Casimirs.{pair_sum}
use Rattle.gauge_two_loop.proofs.CasimirSums.{mixed-sums}
use Rattle.gauge_two_loop.proofs.Shares.{weaker, share_plus, sum_fits}
use Rattle.gauge_two_loop.proofs.casimirs.mixed_of.Goals as goal

pub pair_sum-requires-2-clause-fields : goal.pair_sum-requires-2-clause-fields
pair_sum-requires-2-clause-fields c =
    let model = c.args.model.now in
    ap₂ (λ gs fs. list_all (is_field gs) fs) c.as_slice-groups.ensures c.as_slice-scalars.ensures ∙ parts_scalar_fields model (valid_parts model c.requires.valid)

pub returns-clause-value : goal.returns-clause-value
returns-clause-value c =
    let model = c.args.model.now in
    let k : ℕ × Group = (c.args.k, c.args.first.now) in
    let l : ℕ × Group = (c.args.l, c.args.second.now) in
    let left : c.in_ok-left.left ≡ pair_sum Fermion model.groups k l model.fermions = c.in_ok-left.ensures.value ∙ ap₂ (λ gs fs. pair_sum Fermion gs k l fs) c.as_slice-groups.ensures c.as_slice-fermions.ensures in
    let right : c.in_ok-right.right ≡ pair_sum Scalar model.groups k l model.scalars = c.in_ok-right.ensures.value ∙ ap₂ (λ gs fs. pair_sum Scalar gs k l fs) c.as_slice-groups.ensures c.as_slice-scalars.ensures in
    IfOk-weaker c.sum_of.result _ _ (λ x is. is ∙ ap₂ ◌+ℚ◌ left right ∙ sym (mixed-sums model c.requires.valid k l c.requires.first)) c.sum_of.ensures.value

pub returns-clause-large : goal.returns-clause-large
returns-clause-large c =
    on_err_weaker c.sum_of.result (λ large plain. large (sum_fits 129600 (2 ^ 90) (2 ^ 90) c.in_ok-left.left c.in_ok-right.right (omega arith) (omega arith) (omega arith)
    (c.in_ok-left.ensures.bound (subst (All (λ field. IsPlainCharge field.charge)) (sym c.as_slice-fermions.ensures) plain.fermions))
    (c.in_ok-right.ensures.bound (subst (All (λ field. IsPlainCharge field.charge)) (sym c.as_slice-scalars.ensures) plain.scalars)))) c.sum_of.ensures.large

pub returns-clause-bound : goal.returns-clause-bound
returns-clause-bound c = λ plain.
    let left = c.in_ok-left.ensures.bound (subst (All (λ field. IsPlainCharge field.charge)) (sym c.as_slice-fermions.ensures) plain.fermions) in
    let right = c.in_ok-right.ensures.bound (subst (All (λ field. IsPlainCharge field.charge)) (sym c.as_slice-scalars.ensures) plain.scalars) in
    let both = share_plus 129600 (2 ^ 90) (2 ^ 90) c.in_ok-left.left c.in_ok-right.right (omega arith) left right in
    IfOk-weaker c.sum_of.result _ (IsShare 129600 (2 ^ 91)) (λ x is. weaker 129600 (2 ^ 90 + 2 ^ 90) (2 ^ 91) x (omega arith) (subst (IsShare 129600 (2 ^ 90 + 2 ^ 90)) (sym is) both)) c.sum_of.ensures.value

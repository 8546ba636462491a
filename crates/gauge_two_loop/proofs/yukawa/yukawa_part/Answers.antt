use Rattle.std.proofs.Common.{◌≡◌, ℕ, ◌-◌, List, [], ◌∷◌, length, map, sym, subst, ap, ap₂, ◌∙◌, refl, arith}
use Rattle.std.proofs.lemmas.List.{length-map}
use Rattle.std.proofs.lemmas.Option.{slice_get_within}
use Rattle.exact_algebra.specs.Sums.{sum-nil}
use Rattle.frac128.specs.Rational.{neg_ℚ, reciprocal}
use Rattle.beta_poly.specs.Exponents.{AllWithin}
use Rattle.beta_poly.specs.Monomial.{power}
use Rattle.beta_poly.specs.Polynomial.{poly_ring, zero_poly, mul_poly}
use Rattle.beta_poly.proofs.ExponentLaws.{products_fit_within, AllWithin-term, IsWithin-power}
use Rattle.sparse_tensor.specs.Tensor.{entries_of}
use Rattle.model_core.specs.declared.group.Group.{Group}
use Rattle.model_core.specs.Component.{fermion_components}
use Rattle.model_core.specs.GaugeBeta.{casimir_at, generator_count}
use Rattle.model_core.specs.GaugeTwoLoop.{gauge_symbol, yukawa_trace}
use Rattle.model_core.specs.Scalar.{scalar_components}
use Rattle.model_core.proofs.Dimensions.{group_passes_at}
use Rattle.model_core.proofs.ValidLaws.{valid_parts, parts_groups, group_limit}
use Rattle.gauge_two_loop.specs.Pieces.{IsYukawa, shares, minus_cube}
use Rattle.gauge_two_loop.proofs.YukawaSums.{coordinate_count, shares_trace}
use Rattle.gauge_two_loop.proofs.YukawaValues.{is_yukawa, shares-within}
use Rattle.gauge_two_loop.proofs.yukawa.yukawa_part.Goals as goal

no_items : {A : Type 0} (xs : List A) → length xs ≡ 0 → xs ≡ []
no_items [] e = refl
no_items (x ∷ xs) e = absurd (omega arith)

pub returns-then-len-eq0-clause-value : goal.returns-then-len-eq0-clause-value
returns-then-len-eq0-clause-value c =
    let model = c.args.model.now in
    let k : ℕ × Group = (c.args.place, c.args.group.now) in
    let t = c.args.yukawa.now in
    let casimirs = map (casimir_at k.1 k.0) (fermion_components model) in
    let dummy = length (scalar_components model) in
    let none : entries_of t ≡ [] = no_items (entries_of t) (omega (arith, c.len.ensures, c.if-len-eq0.true)) in
    let trace : yukawa_trace model k ≡ zero_poly =
    sym (shares_trace model k t c.requires.yukawa) ∙ ap (shares casimirs dummy t) none ∙ sum-nil poly_ring.semiring _ in
    c.zero.ensures ∙ sym (poly_ring.semiring.mul_zero (minus_cube k)) ∙ ap (mul_poly (minus_cube k)) (sym trace)

pub trace_of-requires : goal.trace_of-requires
trace_of-requires c =
    let model = c.args.model.now in
    let count = ap length (c.as_slice.ensures ∙ c.in_ok-casimirs.ensures.value) ∙ length-map (fermion_components model) (casimir_at c.args.group.now c.args.place) in
    subst (λ n. IsYukawa n c.args.yukawa.now) (sym count) (is_yukawa model c.args.yukawa.now c.requires.yukawa)

pub factor_of-requires-clause-place : goal.factor_of-requires-clause-place
factor_of-requires-clause-place c =
    let groups = c.args.model.now.groups in
    omega (arith, slice_get_within groups c.args.place c.args.group.now c.requires.group, group_limit groups (parts_groups c.args.model.now (valid_parts c.args.model.now c.requires.valid)))

pub factor_of-requires-clause-group : goal.factor_of-requires-clause-group
factor_of-requires-clause-group c =
    let model = c.args.model.now in
    group_passes_at model.groups c.args.place c.args.group.now (parts_groups model (valid_parts model c.requires.valid)) c.requires.group

pub mul-requires : goal.mul-requires
mul-requires c =
    let model = c.args.model.now in
    let k : ℕ × Group = (c.args.place, c.args.group.now) in
    let symbol = gauge_symbol c.args.place in
    let cube : AllWithin 3 (minus_cube k) = AllWithin-term 3 (power symbol 3) (neg_ℚ (reciprocal (generator_count k.1))) (IsWithin-power symbol 3) in
    let trace = shares-within c.as_slice.result.now (c.scalar_count-dummy.result - 1) c.args.yukawa.now (length (fermion_components model)) (is_yukawa model c.args.yukawa.now c.requires.yukawa) in
    products_fit_within 3 2 c.in_ok-factor.factor c.in_ok-trace.trace (omega arith)
    (subst (AllWithin 3) (sym c.in_ok-factor.ensures) cube)
    (subst (AllWithin 2) (sym c.in_ok-trace.ensures.value) trace)

pub returns-clause-value : goal.returns-clause-value
returns-clause-value c =
    let model = c.args.model.now in
    let k : ℕ × Group = (c.args.place, c.args.group.now) in
    let t = c.args.yukawa.now in
    let list : c.as_slice.result.now ≡ map (casimir_at k.1 k.0) (fermion_components model) = c.as_slice.ensures ∙ c.in_ok-casimirs.ensures.value in
    let dummy : c.scalar_count-dummy.result - 1 ≡ length (scalar_components model) = omega (arith, c.scalar_count-dummy.ensures, coordinate_count model k t c.requires.yukawa) in
    let trace : c.in_ok-trace.trace ≡ yukawa_trace model k =
    c.in_ok-trace.ensures.value ∙ ap₂ (λ cs d. shares cs d t (entries_of t)) list dummy ∙ shares_trace model k t c.requires.yukawa in
    c.in_ok-mul.ensures.value ∙ ap₂ mul_poly c.in_ok-factor.ensures trace

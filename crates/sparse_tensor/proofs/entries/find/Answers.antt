use Rattle.std.proofs.Common.{◌≡◌, get_or, sym, ap, ◌∙◌, rules, Equal}
use Rattle.std.proofs.lemmas.Fn.{always_returns_same}
use Rattle.exact_algebra.specs.TensorContraction.{places_keys, places_cmp}
use Rattle.beta_poly.specs.Polynomial.{Polynomial, poly_ring, zero_poly}
use Rattle.beta_poly.proofs.Steps.{at_number, coefficient_at, nonzero_at}
use Rattle.beta_poly.proofs.Lookup.{none_equal, outcomes_rise, coefficient_absent}
use Rattle.sparse_tensor.specs.Tensor.{poly_zero_test, value_in}
use Rattle.sparse_tensor.proofs.Kept.{not_zero}
use Rattle.sparse_tensor.proofs.entries.find.Goals as goal

pub returns-in-Ok : goal.returns-in-Ok
returns-in-Ok c =
    let entries = c.args.entries.now in
    let key = c.args.key.now in
    let e = get_or entries c.in-Ok.place c.index-entries-place.result in
    let same : places_cmp e.0 key ≡ Equal = c.in-Ok.ensures.position (λ t. places_cmp t.0 key) (always_returns_same _ _ _ (λ a r g called. (search rules, search rules))) c.index-entries-place.result in
    let there = at_number entries c.in-Ok.place c.index-entries-place.result c.in-Ok.ensures.bound in (
      sym (coefficient_at places_keys poly_ring.semiring poly_zero_test entries c.in-Ok.place e there c.requires) ∙ ap (value_in entries) (places_keys.equal e.0 key same),
      not_zero e.1 (nonzero_at places_keys poly_ring.semiring poly_zero_test entries c.in-Ok.place e there c.requires),
    )

pub returns-in-Err : goal.returns-in-Err
returns-in-Err c =
    let entries = c.args.entries.now in
    let key = c.args.key.now in
    let point = c.in-Err.ensures.position (λ t. places_cmp t.0 key) (always_returns_same _ _ _ (λ a r g called. (search rules, search rules))) (outcomes_rise places_keys Polynomial key entries c.requires.ascending) in
    coefficient_absent places_keys poly_ring.semiring poly_zero_test key entries (key, zero_poly) (none_equal (λ t. places_cmp t.0 key) entries c.in-Err.field-0 point (key, zero_poly))

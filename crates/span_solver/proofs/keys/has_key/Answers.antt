use Rattle.std.proofs.Common.{◌≡◌, get_or, sym, rules, Equal, refl, true≢false}
use Rattle.std.proofs.lemmas.Fn.{always_returns_same}
use Rattle.exact_algebra.specs.TensorContraction.{places_cmp, places_equal}
use Rattle.beta_poly.proofs.Lookup.{none_equal}
use Rattle.span_solver.proofs.Opens.{outcomes_rise, found-in, not_found-in}
use Rattle.span_solver.proofs.keys.has_key.Goals as goal

pub returns-in-Ok : goal.returns-in-Ok
returns-in-Ok c =
    let keys = c.args.keys.now in
    let key = c.args.key.now in
    let same : places_cmp (get_or keys c.in-Ok.field-0 key) key ≡ Equal = c.in-Ok.ensures.position (λ k. places_cmp k key) (always_returns_same _ _ _ (λ a r g called. (search rules, search rules))) key in
    (λ _. found-in key keys c.in-Ok.field-0 key c.in-Ok.ensures.bound (places_equal (get_or keys c.in-Ok.field-0 key) key same), λ _. refl)

pub returns-in-Err : goal.returns-in-Err
returns-in-Err c =
    let keys = c.args.keys.now in
    let key = c.args.key.now in
    let point = c.in-Err.ensures.position (λ k. places_cmp k key) (always_returns_same _ _ _ (λ a r g called. (search rules, search rules))) (outcomes_rise key keys c.requires) in
    (λ t. absurd (true≢false (sym t)), λ i. absurd (not_found-in key keys key (none_equal (λ k. places_cmp k key) keys c.in-Err.field-0 point key) i))

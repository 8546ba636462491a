-- The texts of terms and factors, one after the other.
use Rattle.std.proofs.Common.{◌≡◌, ℕ, suc, ◌+◌, List, ◌∷◌, ◌++◌, drop, drop-cons, append_assoc, Some, sym, ap, ap₂, ◌∙◌, arith}
use Rattle.std.specs.Prelude.{slice_get, unsigned_abs}
use Rattle.std.specs.List.{flat_map}
use Rattle.std.proofs.lemmas.Option.{slice_get_within, get_or_from_slice_get}
use Rattle.frac128.specs.Rational.{ℚ}
use Rattle.beta_poly.specs.declared.symbol.Symbol.{Symbol}
use Rattle.beta_poly.specs.Monomial.{Powers}
use Rattle.derive_core.specs.declared.betas.Target.{Target}
use Rattle.print_beta.specs.Sums.{Style, next_factor, size_text, unsigned_text}

-- the element at a place, and those after it
drop_at : {A : Type 0} (xs : List A) (i : ℕ) (x : A) → slice_get xs i ≡ Some x → drop i xs ≡ x ∷ drop (i + 1) xs
drop_at xs i x found =
    let next : suc i ≡ i + 1 = omega arith in
    drop-cons xs i x (slice_get_within xs i x found) ∙ ap₂ ◌∷◌ (get_or_from_slice_get xs i x x found) (ap (λ k. drop k xs) next)

-- the text of one element more
pub text_step : {A : Type 0} (f : A → List ℕ) (xs : List A) (i : ℕ) (x : A) (old new : List ℕ) → slice_get xs i ≡ Some x → new ≡ old ++ f x
    → new ++ flat_map f (drop (i + 1) xs) ≡ old ++ flat_map f (drop i xs)
text_step f xs i x old new found is =
    ap (λ t. t ++ flat_map f (drop (i + 1) xs)) is ∙ append_assoc old (f x) (flat_map f (drop (i + 1) xs)) ∙ ap (λ ys. old ++ flat_map f ys) (sym (drop_at xs i x found))

-- a term has its first factor and then the others
unsigned_of_cons : (style : Style) (targets : List Target) (c : ℚ) (powers others : Powers) (power : Symbol × ℕ) → powers ≡ power ∷ others
    → unsigned_text style targets c powers ≡ size_text style (unsigned_abs c.num) c.den ++ style.factor targets power ++ flat_map (next_factor style targets) others
unsigned_of_cons style targets c powers others power is = ap (unsigned_text style targets c) is

pub unsigned_first : (style : Style) (targets : List Target) (c : ℚ) (powers : Powers) (power : Symbol × ℕ) → slice_get powers 0 ≡ Some power
    → unsigned_text style targets c powers ≡ size_text style (unsigned_abs c.num) c.den ++ style.factor targets power ++ flat_map (next_factor style targets) (drop 1 powers)
unsigned_first style targets c powers power found = unsigned_of_cons style targets c powers (drop 1 powers) power (drop_at powers 0 power found)

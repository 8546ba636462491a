-- Finite maps from keys to non-zero coefficients, as canonical lists: they are a semiring where the keys are a commutative monoid.
use Rattle.std.specs.Prelude.{◌≡◌, [], ◌∷◌, ◌++◌, map}
use Rattle.std.specs.List.{flat_map}
use Rattle.std.proofs.Common.{refl, sym, ap, ap₂, ◌∙◌}
use mathlib.Core.HLevel.{Σ_prop_path}
use mathlib.Core.Bool.{Bool-set}
use Rattle.std.specs.Ordering.{Ordering-set}
use mathlib.Core.Path.{fun_ext}
use Rattle.exact_algebra.specs.Ring.{CommutativeMonoid, IsMonoidMap, Action, additive, Semiring, ZeroTest, zero_mul, mul_left_comm, one_mul}
use Rattle.exact_algebra.specs.Totals.{total, total-nil, total-cons}
use Rattle.exact_algebra.specs.Sums.{sum, sum-map, sum-flat_map, sum-zero, sum-add, sum-mul, sum-swap}
use Rattle.exact_algebra.specs.Formal.{worth, worth-nil, worth-append, worth-canonical, Keys, Formal, coefficient, eval, eval-nil, eval-append, unit_at, coefficient-eval, Above, Ascending, NonZero, IsCanonical, canonical, eval-canonical, IsCanonical-canonical, canonical_unique}

-- a commutative monoid of ordered keys
pub record Monomials : Type 1 where
  pub keys : Keys
  pub unit : keys.carrier
  pub times : keys.carrier → keys.carrier → keys.carrier
  pub times_assoc : (a b c : keys.carrier) → times (times a b) c ≡ times a (times b c)
  pub times_comm : (a b : keys.carrier) → times a b ≡ times b a
  pub times_unit : (a : keys.carrier) → times a unit ≡ a

-- the keys under their product
abbrev pub key_monoid : Monomials → CommutativeMonoid
key_monoid M = record {
  carrier = M.keys.carrier;
  unit = M.unit;
  times = M.times;
  times_assoc = M.times_assoc;
  times_comm = M.times_comm;
  times_unit = M.times_unit;
}

module _ (K : Keys) (R : Semiring) (Z : ZeroTest R) where
  open R use {carrier as C, zero, one, add as ◌⊕◌, mul as ◌⊗◌}

  infixl 6 ◌⊕◌
  infixl 7 ◌⊗◌
  Above_prop : (k : K.carrier) (p : Formal K R) → IsProp (Above K C k p)
  Above_prop k [] = hlevel
  Above_prop k (e ∷ es) = hlevel (Ordering-set, Above_prop k es)

  Ascending_prop : (p : Formal K R) → IsProp (Ascending K C p)
  Ascending_prop [] = hlevel
  Ascending_prop (e ∷ es) = hlevel (Above_prop e.0 es, Ascending_prop es)

  NonZero_prop : (p : Formal K R) → IsProp (NonZero K R Z p)
  NonZero_prop [] = hlevel
  NonZero_prop (e ∷ es) = hlevel (Bool-set, NonZero_prop es)

  pub IsCanonical_prop : (p : Formal K R) → IsProp (IsCanonical K R Z p)
  IsCanonical_prop p = hlevel (Ascending_prop p, NonZero_prop p)

  -- a finite map
  abbrev pub Canon : Type 0
  Canon = (p : Formal K R) × IsCanonical K R Z p

  -- the map that a formal sum stands for
  pub of : Formal K R → Canon
  of p = (canonical K R Z p, IsCanonical-canonical K R Z p)

  pub of_entries : (p : Formal K R) → (of p).0 ≡ canonical K R Z p
  unfolding of
  of_entries p = refl

  -- the value of a map at a weight of the keys
  abbrev pub value : Canon → (K.carrier → C) → C
  value x F = eval K R x.0 F

  -- maps with the same coefficients are the same
  pub same_coefficients : (x y : Canon) → ((k : K.carrier) → coefficient K R x.0 k ≡ coefficient K R y.0 k) → x ≡ y
  same_coefficients x y h =
      Σ_prop_path IsCanonical_prop (canonical_unique K R Z x.0 y.0 x.1 y.1 h)

  pub same_values : (x y : Canon) → ((F : K.carrier → C) → value x F ≡ value y F) → x ≡ y
  same_values x y h =
      same_coefficients x y (λ k. coefficient-eval K R x.0 k ∙ h (unit_at K R k) ∙ sym (coefficient-eval K R y.0 k))

  pub value-of : (p : Formal K R) (F : K.carrier → C) → value (of p) F ≡ eval K R p F
  unfolding of
  value-of p F = eval-canonical K R Z p F

  -- equal as maps, where they have the same value at each weight
  pub of_same : (p q : Formal K R) → ((F : K.carrier → C) → eval K R p F ≡ eval K R q F) → of p ≡ of q
  of_same p q h = same_values (of p) (of q) (λ F. value-of p F ∙ h F ∙ sym (value-of q F))

  pub of_whole : (x : Canon) → of x.0 ≡ x
  of_whole x = same_values (of x.0) x (λ F. value-of x.0 F)

  -- the map with no entry: 0
  pub nought : Canon
  nought = of []

  pub nought-of : nought ≡ of []
  unfolding nought
  nought-of = refl

  -- the sum of two maps
  pub plus : Canon → Canon → Canon
  plus x y = of (x.0 ++ y.0)

  pub plus-of : (x y : Canon) → plus x y ≡ of (x.0 ++ y.0)
  unfolding plus
  plus-of x y = refl

  pub value-nought : (F : K.carrier → C) → value nought F ≡ zero
  unfolding nought
  value-nought F = value-of [] F ∙ eval-nil K R F

  pub value-plus : (x y : Canon) (F : K.carrier → C) → value (plus x y) F ≡ value x F ⊕ value y F
  unfolding plus
  value-plus x y F = value-of (x.0 ++ y.0) F ∙ eval-append K R x.0 y.0 F

  pub of-append : (p q : Formal K R) → of (p ++ q) ≡ plus (of p) (of q)
  of-append p q =
      same_values (of (p ++ q)) (plus (of p) (of q)) (λ F. value-of (p ++ q) F ∙ simp (value-plus, value-of, eval-append))

  pub eval-single : (k : K.carrier) (c : C) (F : K.carrier → C) → eval K R ((k, c) ∷ []) F ≡ c ⊗ F k
  unfolding eval sum
  eval-single k c F = R.add_zero (c ⊗ F k)

  -- a coefficient 0 counts for nothing
  pub of-zero : (k : K.carrier) (c : C) → c ≡ zero → of ((k, c) ∷ []) ≡ of []
  of-zero k c h =
      of_same ((k, c) ∷ []) [] (λ F. eval-single k c F ∙ ap (λ d. d ⊗ F k) h ∙ zero_mul R (F k) ∙ sym (eval-nil K R F))

  pub plus_assoc : (x y z : Canon) → plus (plus x y) z ≡ plus x (plus y z)
  plus_assoc x y z =
      same_values (plus (plus x y) z) (plus x (plus y z)) (λ F. simp (value-plus, R.add_assoc))

  pub plus_comm : (x y : Canon) → plus x y ≡ plus y x
  plus_comm x y =
      same_values (plus x y) (plus y x) (λ F. value-plus x y F ∙ R.add_comm (value x F) (value y F) ∙ sym (value-plus y x F))

  pub plus_nought : (x : Canon) → plus x nought ≡ x
  plus_nought x =
      same_values (plus x nought) x (λ F. simp (value-plus, value-nought, R.add_zero))

  pub plus_cancel : (x y z : Canon) → plus x y ≡ plus x z → y ≡ z
  plus_cancel x y z e =
      same_values y z (λ F. R.add_cancel (value x F) (value y F) (value z F) (sym (value-plus x y F) ∙ ap (λ w. value w F) e ∙ value-plus x z F))

  -- the finite maps under addition
  abbrev pub canon_monoid : CommutativeMonoid
  canon_monoid = record {
    carrier = Canon;
    unit = nought;
    times = plus;
    times_assoc = plus_assoc;
    times_comm = plus_comm;
    times_unit = plus_nought;
  }

  -- the value at a weight goes under a sum of maps
  pub value-IsMonoidMap : (F : K.carrier → C) → IsMonoidMap canon_monoid (additive R) (λ x. value x F)
  value-IsMonoidMap F = record { at_unit = value-nought F; at_times = λ x y. value-plus x y F }

  pub coefficient-plus : (x y : Canon) (k : K.carrier) → coefficient K R (plus x y).0 k ≡ coefficient K R x.0 k ⊕ coefficient K R y.0 k
  coefficient-plus x y k =
      coefficient-eval K R (plus x y).0 k ∙ value-plus x y (unit_at K R k) ∙ ap₂ ◌⊕◌ (sym (coefficient-eval K R x.0 k)) (sym (coefficient-eval K R y.0 k))

  -- a map is the sum of its entries
  pub of-total : (p : Formal K R) → of p ≡ total canon_monoid p (λ e. of (e ∷ []))
  of-total [] = sym nought-of ∙ sym (total-nil canon_monoid (λ (e : K.carrier × C). of (e ∷ [])))
  of-total (e ∷ es) =
      of-append (e ∷ []) es ∙ ap (plus (of (e ∷ []))) (of-total es) ∙ sym (total-cons canon_monoid e es (λ d. of (d ∷ [])))

-- ---- the value in any commutative monoid that the coefficients act on

module _ (K : Keys) (R : Semiring) (Z : ZeroTest R) (M : CommutativeMonoid) (A : Action R M) where
  pub worth-of : (p : Formal K R) (F : K.carrier → M.carrier) → worth K R M A (of K R Z p).0 F ≡ worth K R M A p F
  worth-of p F = ap (λ q. worth K R M A q F) (of_entries K R Z p) ∙ worth-canonical K R Z M A p F

  -- the value at a weight is a map of monoids
  pub worth-IsMonoidMap : (F : K.carrier → M.carrier) → IsMonoidMap (canon_monoid K R Z) M (λ x. worth K R M A x.0 F)
  worth-IsMonoidMap F = record { at_unit = at_nought; at_times = at_plus }
    where
      at_nought : worth K R M A (nought K R Z).0 F ≡ M.unit
      at_nought = ap (λ x. worth K R M A x.0 F) (nought-of K R Z) ∙ worth-of [] F ∙ worth-nil K R M A F

      at_plus : (x y : Canon K R Z) → worth K R M A (plus K R Z x y).0 F ≡ M.times (worth K R M A x.0 F) (worth K R M A y.0 F)
      at_plus x y =
          ap (λ z. worth K R M A z.0 F) (plus-of K R Z x y) ∙ worth-of (x.0 ++ y.0) F ∙ worth-append K R M A x.0 y.0 F

module _ (M : Monomials) (R : Semiring) (Z : ZeroTest R) where
  open R use {carrier as C, zero, one, add as ◌⊕◌, mul as ◌⊗◌}

  infixl 6 ◌⊕◌
  infixl 7 ◌⊗◌
  -- all pairwise products
  unfoldable pub products : Formal M.keys R → Formal M.keys R → Formal M.keys R
  products p q = flat_map (λ d. map (λ e. (M.times d.0 e.0, d.1 ⊗ e.1)) q) p

  pub eval-products : (p q : Formal M.keys R) (F : M.keys.carrier → C) → eval M.keys R (products p q) F ≡ eval M.keys R p (λ j. eval M.keys R q (λ k. F (M.times j k)))
  unfolding products eval
  eval-products p q F =
      sum-flat_map R (λ d. map (λ e. (M.times d.0 e.0, d.1 ⊗ e.1)) q) p (λ e. e.1 ⊗ F e.0)
      ∙ ap (sum R p) (fun_ext (λ d. sum-map R (λ e. (M.times d.0 e.0, d.1 ⊗ e.1)) q (λ e. e.1 ⊗ F e.0) ∙ ap (sum R q) (fun_ext (λ e. R.mul_assoc d.1 e.1 (F (M.times d.0 e.0)))) ∙ sum-mul R d.1 q (λ e. e.1 ⊗ F (M.times d.0 e.0))))

  eval-swap : (p q : Formal M.keys R) (G : M.keys.carrier → M.keys.carrier → C) → eval M.keys R p (λ j. eval M.keys R q (λ k. G j k)) ≡ eval M.keys R q (λ k. eval M.keys R p (λ j. G j k))
  unfolding eval
  eval-swap p q G =
      ap (sum R p) (fun_ext (λ d. sym (sum-mul R d.1 q (λ e. e.1 ⊗ G d.0 e.0)))) ∙ sum-swap R p q (λ d e. d.1 ⊗ (e.1 ⊗ G d.0 e.0))
      ∙ ap (sum R q) (fun_ext (λ e. ap (sum R p) (fun_ext (λ d. mul_left_comm R d.1 e.1 (G d.0 e.0))) ∙ sum-mul R e.1 p (λ d. d.1 ⊗ G d.0 e.0)))

  eval-add : (p : Formal M.keys R) (F G : M.keys.carrier → C) → eval M.keys R p (λ k. F k ⊕ G k) ≡ eval M.keys R p F ⊕ eval M.keys R p G
  unfolding eval
  eval-add p F G =
      ap (sum R p) (fun_ext (λ e. R.mul_add e.1 (F e.0) (G e.0))) ∙ sum-add R p (λ e. e.1 ⊗ F e.0) (λ e. e.1 ⊗ G e.0)

  eval-zero : (p : Formal M.keys R) → eval M.keys R p (λ _. zero) ≡ zero
  unfolding eval
  eval-zero p = ap (sum R p) (fun_ext (λ e. R.mul_zero e.1)) ∙ sum-zero R p

  -- the map that is 1 at the unit key: 1
  pub unity : Canon M.keys R Z
  unity = of M.keys R Z ((M.unit, one) ∷ [])

  -- the product of two maps: keys and coefficients multiply, pair by pair
  pub mult : Canon M.keys R Z → Canon M.keys R Z → Canon M.keys R Z
  mult x y = of M.keys R Z (products x.0 y.0)

  pub mult-of : (x y : Canon M.keys R Z) → mult x y ≡ of M.keys R Z (products x.0 y.0)
  unfolding mult
  mult-of x y = refl

  pub unity-of : unity ≡ of M.keys R Z ((M.unit, one) ∷ [])
  unfolding unity
  unity-of = refl

  pub value-mult : (x y : Canon M.keys R Z) (F : M.keys.carrier → C) → value M.keys R Z (mult x y) F ≡ value M.keys R Z x (λ j. value M.keys R Z y (λ k. F (M.times j k)))
  unfolding mult
  value-mult x y F = value-of M.keys R Z (products x.0 y.0) F ∙ eval-products x.0 y.0 F

  pub value-unity : (F : M.keys.carrier → C) → value M.keys R Z unity F ≡ F M.unit
  unfolding unity
  value-unity F = value-of M.keys R Z ((M.unit, one) ∷ []) F ∙ eval-single M.keys R Z M.unit one F ∙ one_mul R (F M.unit)

  pub mult_assoc : (x y z : Canon M.keys R Z) → mult (mult x y) z ≡ mult x (mult y z)
  mult_assoc x y z =
      same_values M.keys R Z (mult (mult x y) z) (mult x (mult y z)) (λ F. simp (value-mult, M.times_assoc))

  pub mult_comm : (x y : Canon M.keys R Z) → mult x y ≡ mult y x
  mult_comm x y =
      same_values M.keys R Z (mult x y) (mult y x) (λ F. value-mult x y F ∙ eval-swap x.0 y.0 (λ j k. F (M.times j k)) ∙ ap (λ G. eval M.keys R y.0 (λ k. eval M.keys R x.0 (λ j. G j k))) (fun_ext (λ j. fun_ext (λ k. ap F (M.times_comm j k)))) ∙ sym (value-mult y x F))

  pub mult_unity : (x : Canon M.keys R Z) → mult x unity ≡ x
  mult_unity x =
      same_values M.keys R Z (mult x unity) x (λ F. simp (value-mult, value-unity, M.times_unit))

  pub mult_nought : (x : Canon M.keys R Z) → mult x (nought M.keys R Z) ≡ nought M.keys R Z
  mult_nought x =
      same_values M.keys R Z (mult x (nought M.keys R Z)) (nought M.keys R Z) (λ F. simp (value-mult, value-nought, eval-zero))

  pub mult_plus : (x y z : Canon M.keys R Z) → mult x (plus M.keys R Z y z) ≡ plus M.keys R Z (mult x y) (mult x z)
  mult_plus x y z =
      same_values M.keys R Z (mult x (plus M.keys R Z y z)) (plus M.keys R Z (mult x y) (mult x z)) (λ F. simp (value-mult, value-plus, eval-add))

  -- the polynomials
  abbrev pub canon_semiring : Semiring
  canon_semiring = record {
    carrier = Canon M.keys R Z;
    zero = nought M.keys R Z;
    one = unity;
    add = plus M.keys R Z;
    mul = mult;
    add_assoc = plus_assoc M.keys R Z;
    add_comm = plus_comm M.keys R Z;
    add_zero = plus_nought M.keys R Z;
    add_cancel = plus_cancel M.keys R Z;
    mul_assoc = mult_assoc;
    mul_comm = mult_comm;
    mul_one = mult_unity;
    mul_zero = mult_nought;
    mul_add = mult_plus;
  }

  pub of-products : (p q : Formal M.keys R) → of M.keys R Z (products p q) ≡ mult (of M.keys R Z p) (of M.keys R Z q)
  of-products p q =
      same_values M.keys R Z (of M.keys R Z (products p q)) (mult (of M.keys R Z p) (of M.keys R Z q)) (λ F. simp (value-mult, value-of, eval-products))

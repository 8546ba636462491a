-- Lemmas for the first direction that is dependent on earlier ones.
use Rattle.std.proofs.Common.{◌≡◌, ℕ, suc, ◌+◌, ◌<◌, ◌≤◌, refl, sym, subst, arith, List, Option, None, Some, true, false, add-one}
use Rattle.std.specs.Prelude.{is_some, MatchOption}
use Rattle.std.specs.Option.{IsSome}
use Rattle.frac128.specs.Rational.{ℚ}
use Rattle.span_solver.specs.Elimination.{HaveLength, pivots}
use Rattle.span_solver.specs.RowDependence.{firsts, AreIndependent, IsFirstDependent, IsDependent, lengths-firsts, dependent_from_none, independent_from_some, pivots-exist}

some-of : {X : Type 0} (o : Option X) → is_some o ≡ true → (x : X) × (o ≡ Some x)
some-of None h = absurd (cc h)
some-of (Some x) h = (x, refl)

none-of : {X : Type 0} (o : Option X) → is_some o ≡ false → o ≡ None
none-of None h = refl
none-of (Some x) h = absurd (cc h)

pub first_dependent-at : (n k : ℕ) (rows : List (List ℚ)) → HaveLength k rows → n < k → AreIndependent n rows → is_some (pivots n (firsts n rows)) ≡ true → is_some (pivots (n + 1) (firsts (n + 1) rows)) ≡ false → IsFirstDependent rows n
first_dependent-at n k rows h l i f m =
    let s = some-of (pivots n (firsts n rows)) f in
    let none = none-of (pivots (suc n) (firsts (suc n) rows)) (subst (λ j. is_some (pivots j (firsts j rows)) ≡ false) (add-one n) m) in
    (dependent_from_none n k rows s.0 h l s.1 none, i)

pub independent-more : (n k : ℕ) (rows : List (List ℚ)) → HaveLength k rows → n < k → AreIndependent n rows → is_some (pivots (n + 1) (firsts (n + 1) rows)) ≡ true → AreIndependent (n + 1) rows
independent-more n k rows h l i f p m d =
    let s = some-of (pivots (suc n) (firsts (suc n) rows)) (subst (λ j. is_some (pivots j (firsts j rows)) ≡ true) (add-one n) f) in
    by_place p m d s.0 s.1
  where
    last : (q : ℕ) → q ≡ n → IsDependent rows q → (gs : List ℕ) → pivots (suc n) (firsts (suc n) rows) ≡ Some gs → ⊥
    last q e d gs s = independent_from_some n k rows gs h l s (subst (IsDependent rows) e d)

    by_place : (q : ℕ) → q < n + 1 → IsDependent rows q → (gs : List ℕ) → pivots (suc n) (firsts (suc n) rows) ≡ Some gs → ⊥
    by_place q m d gs s = last q (not_below q m d) d gs s
      where
        not_below : (r : ℕ) → r < n + 1 → IsDependent rows r → r ≡ n
        not_below r m d = let h : r < n → ⊥ = λ u. i r u d in omega (arith, h)

pub have_pivots-requires : (n k : ℕ) (rows front : List (List ℚ)) → n ≤ k → HaveLength k rows → front ≡ firsts n rows → HaveLength n front
have_pivots-requires n k rows front l h e = subst (HaveLength n) (sym e) (lengths-firsts n k rows l h)

pub some_pivots : {X : Type 0} (o : Option X) (Q : X → Type 0) (k : ℕ) (rows : List (List ℚ)) → HaveLength k rows → AreIndependent k rows → MatchOption o (pivots k rows ≡ None) Q → IsSome o
some_pivots None Q k rows h i m = let p = pivots-exist k rows h i in absurd (cc (m, p.1))
some_pivots (Some x) Q k rows h i m = refl

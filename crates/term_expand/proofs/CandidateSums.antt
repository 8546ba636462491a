-- A sum over the candidates for a field, of which one place counts.
use Rattle.std.specs.Prelude.{◌≡◌, ◌<◌, ◌+◌, ℕ, zero, suc, Bool, true, false, if◌then◌else◌, List, [], ◌∷◌, slice_get, Option, Some, None}
use Rattle.std.specs.Ordering.{nat_cmp}
use Rattle.std.proofs.Common.{refl, sym, ap, ap₂, ◌∙◌, arith}
use Rattle.std.proofs.lemmas.Cmp.{tied_itself, nat_cmp_total}
use Rattle.exact_algebra.specs.Ring.{Semiring, zero_add}
use Rattle.exact_algebra.specs.Sums.{sum, sum-nil, sum-cons, where_equal, where_true, where_equal-apart, nat_equal}
use Rattle.model_core.specs.declared.component_lists.FieldComponent.{FieldComponent}
use Rattle.term_expand.specs.declared.candidates.Candidate.{Candidate}
use Rattle.term_expand.specs.Candidates.{candidates_from}

module _ (R : Semiring) where
  open R use {carrier as C, zero as 𝟘, add as ◌⊕◌}

  infixl 6 ◌⊕◌
  -- 0 with or without a test
  pub true-zero : (b : Bool) → where_true R b 𝟘 ≡ 𝟘
  true-zero true = refl
  true-zero false = refl

  -- the component at a place where it passes a test
  abbrev pub at_candidate : (FieldComponent → Bool) → ℕ → (Candidate → C) → Option FieldComponent → C
  at_candidate test place f None = 𝟘
  at_candidate test place f (Some x) = where_true R (test x) (f (record { place = place; slots = x.slots }))

  first : (b : Bool) (c : Candidate) (cs : List Candidate) (f : Candidate → C) → sum R (if b then c ∷ cs else cs) f ≡ where_true R b (f c) ⊕ sum R cs f
  first true c cs f = sum-cons R c cs f
  first false c cs f = sym (zero_add R (sum R cs f))

  at_place : (a b : ℕ) (c : C) → a ≡ b → where_equal R (nat_cmp a b) c ≡ c
  at_place a b c e = ap (λ o. where_equal R o c) (ap (nat_cmp a) (sym e) ∙ tied_itself nat_cmp_total a)

  apart : (b : Bool) (place k : ℕ) (c : C) → (place ≡ k → ⊥) → where_true R b (where_equal R (nat_cmp place k) c) ≡ 𝟘
  apart b place k c ne =
      ap (where_true R b) (where_equal-apart R (nat_cmp place k) c (λ e. ne (nat_equal place k e))) ∙ true-zero b

  none_before : (test : FieldComponent → Bool) (place k : ℕ) (xs : List FieldComponent) (f : Candidate → C) → place < k
      → sum R (candidates_from test k xs) (λ c. where_equal R (nat_cmp place c.place) (f c)) ≡ 𝟘
  none_before test place k [] f h = sum-nil R (λ c. where_equal R (nat_cmp place c.place) (f c))
  none_before test place k (x ∷ xs) f h =
      first (test x) (record { place = k; slots = x.slots }) (candidates_from test (suc k) xs) (λ c. where_equal R (nat_cmp place c.place) (f c))
      ∙ ap₂ ◌⊕◌ (apart (test x) place k (f (record { place = k; slots = x.slots })) (λ e. omega (arith, e))) (none_before test place (suc k) xs f (omega arith))
      ∙ R.add_zero 𝟘

  -- the components from the place k on, of which one counts
  pub sum_candidates : (test : FieldComponent → Bool) (place k p : ℕ) (xs : List FieldComponent) (f : Candidate → C) → place ≡ k + p
      → sum R (candidates_from test k xs) (λ c. where_equal R (nat_cmp place c.place) (f c)) ≡ at_candidate test place f (slice_get xs p)
  sum_candidates test place k p [] f e = sum-nil R (λ c. where_equal R (nat_cmp place c.place) (f c))
  sum_candidates test place k zero (x ∷ xs) f e =
      let same : place ≡ k = omega (arith, e) in
      first (test x) (record { place = k; slots = x.slots }) (candidates_from test (suc k) xs) (λ c. where_equal R (nat_cmp place c.place) (f c))
      ∙ ap₂ ◌⊕◌ (ap (where_true R (test x)) (at_place place k (f (record { place = k; slots = x.slots })) same ∙ ap (λ q. f (record { place = q; slots = x.slots })) (sym same))) (none_before test place (suc k) xs f (omega arith))
      ∙ R.add_zero (where_true R (test x) (f (record { place = place; slots = x.slots })))
  sum_candidates test place k (suc p) (x ∷ xs) f e =
      first (test x) (record { place = k; slots = x.slots }) (candidates_from test (suc k) xs) (λ c. where_equal R (nat_cmp place c.place) (f c))
      ∙ ap₂ ◌⊕◌ (apart (test x) place k (f (record { place = k; slots = x.slots })) (λ s. omega (arith, s, e))) (sum_candidates test place (suc k) p xs f (omega (arith, e)))
      ∙ zero_add R (at_candidate test place f (slice_get xs p))

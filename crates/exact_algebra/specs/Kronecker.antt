-- Kronecker deltas: `where_equal R (cmp a b) c` is c where the keys a and b compare as equal, and 0 elsewhere. They go
-- through products and sums, and leave one summand of a sum.
use Rattle.std.specs.Prelude.{◌≡◌, ◌≢◌, ℕ, List, [], ◌∷◌}
use Rattle.std.specs.List.{AllPairs, Contains}
use Rattle.std.specs.Ordering.{ordering_then}
use Rattle.std.proofs.Common.{refl, sym, ap, ap₂, ◌∙◌, Ordering, Less, Equal, Greater}
use Rattle.std.proofs.lemmas.Cmp.{tied_itself}
use Rattle.exact_algebra.specs.Ring.{Semiring, zero_mul, add_mul}
use Rattle.exact_algebra.specs.Sums.{sum, sum-nil, sum-cons, sum-add, sum-zero, sum-only, below, below-none, where_equal, where_equal-apart}
use Rattle.exact_algebra.specs.Formal.{Keys, Formal, coefficient, eval, AllKeys}
use mathlib.Core.Path.{fun_ext}

-- two comparisons in turn answer equal only where both do
pub then_equal : (o r : Ordering) → ordering_then o r ≡ Equal → (o ≡ Equal) × (r ≡ Equal)
then_equal Less r h = cc
then_equal Equal r h = (refl, h)
then_equal Greater r h = cc

module _ (R : Semiring) where
  open R use {carrier as C, zero as 𝟘, add as ◌⊕◌, mul as ◌⊗◌}

  infixl 6 ◌⊕◌
  infixl 7 ◌⊗◌
  -- a delta of pairs is a product of deltas
  pub where_then : (o r : Ordering) (c : C) → where_equal R (ordering_then o r) c ≡ where_equal R o (where_equal R r c)
  where_then Less r c = refl
  where_then Equal r c = refl
  where_then Greater r c = refl

  pub where_zero : (o : Ordering) → where_equal R o 𝟘 ≡ 𝟘
  where_zero Less = refl
  where_zero Equal = refl
  where_zero Greater = refl

  pub where_mul : (o : Ordering) (c d : C) → where_equal R o c ⊗ d ≡ where_equal R o (c ⊗ d)
  where_mul Less c d = zero_mul R d
  where_mul Equal c d = refl
  where_mul Greater c d = zero_mul R d

  pub mul_where : (o : Ordering) (c d : C) → c ⊗ where_equal R o d ≡ where_equal R o (c ⊗ d)
  mul_where Less c d = R.mul_zero c
  mul_where Equal c d = refl
  mul_where Greater c d = R.mul_zero c

  pub where_add : (o : Ordering) (c d : C) → where_equal R o (c ⊕ d) ≡ where_equal R o c ⊕ where_equal R o d
  where_add Less c d = sym (R.add_zero 𝟘)
  where_add Equal c d = refl
  where_add Greater c d = sym (R.add_zero 𝟘)

  pub where_comm : (o r : Ordering) (c : C) → where_equal R o (where_equal R r c) ≡ where_equal R r (where_equal R o c)
  where_comm Less r c = sym (where_zero r)
  where_comm Equal r c = refl
  where_comm Greater r c = sym (where_zero r)

  -- only equality counts
  pub where_same : (o r : Ordering) (c : C) → (o ≡ Equal → r ≡ Equal) → (r ≡ Equal → o ≡ Equal) → where_equal R o c ≡ where_equal R r c
  where_same Less Less c f g = refl
  where_same Less Equal c f g = absurd (cc (g refl))
  where_same Less Greater c f g = refl
  where_same Equal Less c f g = absurd (cc (f refl))
  where_same Equal Equal c f g = refl
  where_same Equal Greater c f g = absurd (cc (f refl))
  where_same Greater Less c f g = refl
  where_same Greater Equal c f g = absurd (cc (g refl))
  where_same Greater Greater c f g = refl

  pub sum-where : {A : Type 0} (o : Ordering) (xs : List A) (f : A → C) → sum R xs (λ x. where_equal R o (f x)) ≡ where_equal R o (sum R xs f)
  sum-where Less xs f = sum-zero R xs
  sum-where Equal xs f = refl
  sum-where Greater xs f = sum-zero R xs

  pub below-where : (n : ℕ) (o : Ordering) (f : ℕ → C) → below R n (λ i. where_equal R o (f i)) ≡ where_equal R o (below R n f)
  below-where n Less f = below-none R n (λ _. 𝟘) (λ i l. refl)
  below-where n Equal f = refl
  below-where n Greater f = below-none R n (λ _. 𝟘) (λ i l. refl)

module _ (K : Keys) (R : Semiring) where
  -- in a list of keys without repeats a delta leaves one summand
  pub sum-at : (ks : List K.carrier) (k : K.carrier) (f : K.carrier → R.carrier) → AllPairs (λ i j. i ≢ j) ks → Contains ks k → sum R ks (λ j. where_equal R (K.cmp j k) (f j)) ≡ f k
  sum-at ks k f distinct c =
      sum-only R ks k (λ j. where_equal R (K.cmp j k) (f j)) distinct c (λ j ne. where_equal-apart R (K.cmp j k) (f j) (λ e. ne (K.equal j k e)))
      ∙ ap (λ o. where_equal R o (f k)) (tied_itself K.total k)

module _ (K : Keys) (R : Semiring) where
  open R use {carrier as C, add as ◌⊕◌, mul as ◌⊗◌}

  infixl 6 ◌⊕◌
  infixl 7 ◌⊗◌
  -- the sum over all keys is the sum over the entries
  pub sum-coefficient : (ks : List K.carrier) (p : Formal K R) (F : K.carrier → C) → AllPairs (λ i j. i ≢ j) ks → AllKeys K C (Contains ks) p → sum R ks (λ k. coefficient K R p k ⊗ F k) ≡ eval K R p F
  unfolding coefficient eval
  sum-coefficient ks [] F distinct has =
      ap (sum R ks) (fun_ext (λ k. ap (λ c. c ⊗ F k) (sum-nil R (λ (e : K.carrier × C). where_equal R (K.cmp k e.0) e.1)) ∙ zero_mul R (F k)))
      ∙ sum-zero R ks ∙ sym (sum-nil R (λ (e : K.carrier × C). e.1 ⊗ F e.0))
  sum-coefficient ks (e ∷ es) F distinct has =
      ap (sum R ks) (fun_ext (λ k. ap (λ c. c ⊗ F k) (sum-cons R e es (λ d. where_equal R (K.cmp k d.0) d.1)) ∙ add_mul R (where_equal R (K.cmp k e.0) e.1) (coefficient K R es k) (F k) ∙ ap (λ s. s ⊕ coefficient K R es k ⊗ F k) (where_mul R (K.cmp k e.0) e.1 (F k))))
      ∙ sum-add R ks (λ k. where_equal R (K.cmp k e.0) (e.1 ⊗ F k)) (λ k. coefficient K R es k ⊗ F k)
      ∙ ap₂ ◌⊕◌ (sum-at K R ks e.0 (λ k. e.1 ⊗ F k) distinct has.0) (sum-coefficient ks es F distinct has.1)
      ∙ sym (sum-cons R e es (λ d. d.1 ⊗ F d.0))

-- Sums over a list of neighbouring numbers are sums over places.
use Rattle.std.specs.Prelude.{◌≡◌, ℕ, zero, suc, ◌+◌}
use Rattle.std.specs.List.{range_with_len}
use Rattle.std.proofs.Common.{sym, ap, ap₂, ◌∙◌, arith, add-zero}
use Rattle.exact_algebra.specs.Ring.{Semiring, zero_add}
use Rattle.exact_algebra.specs.Sums.{sum, sum-nil, sum-cons, below, below-zero, below-suc, below-split, below-same}

module _ (R : Semiring) where
  open R use {carrier, add as ◌⊕◌}

  infixl 6 ◌⊕◌
  -- the first summand apart
  pub below-first : (n : ℕ) (f : ℕ → carrier) → below R (suc n) f ≡ f 0 ⊕ below R n (λ i. f (1 + i))
  below-first n f =
      let one_more : suc n ≡ 1 + n = omega arith in
      ap (λ k. below R k f) one_more ∙ below-split R 1 n f
      ∙ ap (λ s. s ⊕ below R n (λ i. f (1 + i))) (below-suc R 0 f ∙ ap (λ s. s ⊕ f 0) (below-zero R f) ∙ zero_add R (f 0))

  pub sum-range : (a n : ℕ) (f : ℕ → carrier) → sum R (range_with_len a n) f ≡ below R n (λ i. f (a + i))
  sum-range a zero f = sum-nil R f ∙ sym (below-zero R (λ i. f (a + i)))
  sum-range a (suc n) f =
      sum-cons R a (range_with_len (a + 1) n) f
      ∙ ap₂ ◌⊕◌ (ap f (sym (add-zero a))) (sum-range (a + 1) n f ∙ below-same R n (λ i. f (a + 1 + i)) (λ i. f (a + (1 + i))) (λ i l. ap f (omega arith)))
      ∙ sym (below-first n (λ i. f (a + i)))

-- Kronecker deltas of places and keys.
use Rattle.std.specs.Prelude.{◌≡◌, ◌==◌, ℕ, Bool, true, false, List}
use Rattle.std.specs.Ordering.{nat_cmp, ordering_then}
use Rattle.std.proofs.Common.{refl, sym, ap, ap₂, ◌∙◌, arith, Ordering, Equal}
use Rattle.std.proofs.lemmas.Cmp.{nat_list_cmp_total, tied_itself, nat_cmp_total}
use Rattle.exact_algebra.specs.Ring.{Semiring}
use Rattle.exact_algebra.specs.Sums.{where_equal, where_true, where_equal-apart, nat_equal}
use Rattle.exact_algebra.specs.Kronecker.{then_equal, where_then, where_same}
use Rattle.exact_algebra.specs.TensorContraction.{places_cmp}

pub key_same : (a b : List ℕ) → a ≡ b → places_cmp a b ≡ Equal
key_same a b e = ap (places_cmp a) (sym e) ∙ tied_itself nat_list_cmp_total a

pub place_same : (a b : ℕ) → a ≡ b → nat_cmp a b ≡ Equal
place_same a b e = ap (nat_cmp a) (sym e) ∙ tied_itself nat_cmp_total a

pub equal_number : (a b : ℕ) → (a == b) ≡ true → a ≡ b
equal_number a b h = grind arith

pub other_number : (a b : ℕ) → (a == b) ≡ false → a ≡ b → ⊥
other_number a b h e = grind arith

module _ (R : Semiring) where
  true_at : (b : Bool) (x y : ℕ) (c : R.carrier) → (x == y) ≡ b → where_true R b c ≡ where_equal R (nat_cmp x y) c
  true_at true x y c h = ap (λ o. where_equal R o c) (sym (place_same x y (equal_number x y h)))
  true_at false x y c h = sym (where_equal-apart R (nat_cmp x y) c (λ e. other_number x y h (nat_equal x y e)))

  -- a test of places as a delta
  pub true_equal : (x y : ℕ) (c : R.carrier) → where_true R (x == y) c ≡ where_equal R (nat_cmp x y) c
  true_equal x y c = true_at (x == y) x y c refl

  -- two pairs of deltas that come to the same
  pub deltas_same : (o r s t : Ordering) (c : R.carrier) → (o ≡ Equal → r ≡ Equal → (s ≡ Equal) × (t ≡ Equal)) → (s ≡ Equal → t ≡ Equal → (o ≡ Equal) × (r ≡ Equal)) → where_equal R o (where_equal R r c) ≡ where_equal R s (where_equal R t c)
  deltas_same o r s t c there back =
      sym (where_then R o r c)
      ∙ where_same R (ordering_then o r) (ordering_then s t) c (λ h. let b = then_equal o r h in let d = there b.0 b.1 in ap₂ ordering_then d.0 d.1) (λ h. let b = then_equal s t h in let d = back b.0 b.1 in ap₂ ordering_then d.0 d.1)
      ∙ where_then R s t c

-- The beta functions of scalar couplings at coordinates in another order, and at dummies.
use Rattle.std.specs.Prelude.{◌≡◌, ◌≢◌, ◌⊎◌, suc, nat_le, List, [], ◌∷◌, length, IsPermutation}
use Rattle.std.proofs.Common.{cond, refl, sym, ap, ap₂, ◌∙◌, arith, inl, inr}
use Rattle.exact_algebra.specs.Orders.{Rearranged, length-rearranged, sum_orders-rearranged}
use Rattle.exact_algebra.specs.Orders.Rearranged.{same, keep, swap, then}
use Rattle.exact_algebra.specs.Permuted.{Rearranged-permuted}
use Rattle.beta_poly.specs.Polynomial.{poly_ring, zero_poly}
use Rattle.model_core.specs.declared.model.Model.{Model}
use Rattle.model_core.specs.Scalar.{Coordinate}
use Rattle.model_core.specs.Scalar.Coordinate.{Of, Dummy}
use Rattle.beta_formulas.specs.ScalarBeta.{FourLegs, at_four, dummy_count, beta_function, scalar_beta}
use Rattle.quartic_one_loop.specs.OrderShares.{order_share}
use Rattle.quartic_one_loop.proofs.OrderSums.{over_orders-shares}

-- ---- dummies

dummy-moved : {cs ds : List Coordinate} → Rearranged cs ds → dummy_count cs ≡ dummy_count ds
dummy-moved same = refl
dummy-moved (keep {x = Of a} r) = dummy-moved r
dummy-moved (keep {x = Dummy} r) = ap suc (dummy-moved r)
dummy-moved (swap {x = Of a} {y = Of b}) = refl
dummy-moved (swap {x = Of a} {y = Dummy}) = refl
dummy-moved (swap {x = Dummy} {y = Of b}) = refl
dummy-moved (swap {x = Dummy} {y = Dummy}) = refl
dummy-moved (then r s) = dummy-moved r ∙ dummy-moved s

-- ---- sums over orders

-- a list of coordinates has four of them, or functions of four legs are 0 there
data AreFour : List Coordinate → Type 0 where
  four : (a b c d : Coordinate) → AreFour (a ∷ b ∷ c ∷ d ∷ [])

either_four : (cs : List Coordinate) → AreFour cs ⊎ ((length cs ≢ 4) × ((f : FourLegs) → at_four f cs ≡ zero_poly))
either_four [] = inr (λ l. absurd (omega arith), λ f. refl)
either_four (a ∷ []) = inr (λ l. absurd (omega arith), λ f. refl)
either_four (a ∷ b ∷ []) = inr (λ l. absurd (omega arith), λ f. refl)
either_four (a ∷ b ∷ c ∷ []) = inr (λ l. absurd (omega arith), λ f. refl)
either_four (a ∷ b ∷ c ∷ d ∷ []) = inl (four a b c d)
either_four (a ∷ b ∷ c ∷ d ∷ e ∷ cs) = inr (λ l. absurd (omega arith), λ f. refl)

four_long : {cs : List Coordinate} → AreFour cs → length cs ≡ 4
four_long (four a b c d) = refl

module _ (model : Model) where
  four-moved : {cs ds : List Coordinate} → AreFour cs → AreFour ds → Rearranged cs ds → at_four (beta_function model) cs ≡ at_four (beta_function model) ds
  four-moved (four a b c d) (four x y z w) r =
      sym (over_orders-shares model a b c d)
      ∙ sum_orders-rearranged poly_ring.semiring r (at_four (order_share model))
      ∙ over_orders-shares model x y z w

  beta-moved : (cs ds : List Coordinate) → Rearranged cs ds → at_four (beta_function model) cs ≡ at_four (beta_function model) ds
  beta-moved cs ds r = by_cases (either_four cs) (either_four ds)
    where
      by_cases : AreFour cs ⊎ ((length cs ≢ 4) × ((f : FourLegs) → at_four f cs ≡ zero_poly)) → AreFour ds ⊎ ((length ds ≢ 4) × ((f : FourLegs) → at_four f ds ≡ zero_poly)) → at_four (beta_function model) cs ≡ at_four (beta_function model) ds
      by_cases (inl m) (inl n) = four-moved m n r
      by_cases (inr m) (inr n) = m.1 (beta_function model) ∙ sym (n.1 (beta_function model))
      by_cases (inl m) (inr n) = absurd (n.0 (length-rearranged r ∙ four_long m))
      by_cases (inr m) (inl n) = absurd (m.0 (sym (length-rearranged r) ∙ four_long n))

  -- the beta function doesn't see the order of the legs
  pub scalar_beta_permuted : (cs ds : List Coordinate) → IsPermutation cs ds → scalar_beta model cs ≡ scalar_beta model ds
  unfolding scalar_beta
  scalar_beta_permuted cs ds permuted =
      let r = Rearranged-permuted cs ds permuted in
      ap₂ (λ n p. cond (nat_le n 2) p zero_poly) (dummy-moved r) (beta-moved cs ds r)

-- The beta functions from what one order of the legs gives.
use Rattle.std.specs.Prelude.{◌≡◌, ◌≢◌, ◌<◌, ℕ, zero, suc, List, [], ◌∷◌, map, length}
use Rattle.std.specs.List.{All}
use Rattle.std.proofs.Common.{cond, subst, sym, ap, ◌∙◌, arith}
use mathlib.Core.Path.{fun_ext}
use Rattle.exact_algebra.specs.Sums.{sum}
use Rattle.exact_algebra.specs.Orders.{orders}
use Rattle.beta_poly.specs.Polynomial.{poly_ring, zero_poly, add_poly}
use Rattle.sparse_tensor.specs.declared.fault.TensorFault.{TensorFault}
use Rattle.sparse_tensor.specs.declared.fault.TensorFault.TheVariants.{Overflow, NoMemory}
use Rattle.sparse_tensor.specs.declared.values.Value.{Value}
use Rattle.sparse_tensor.specs.Tensor.{Tensor, HasValues, rank_of, value}
use Rattle.sparse_tensor.specs.Operations.{Values, entry, gathered_at, places_at, put_back, symmetrised_at}
use Rattle.sparse_tensor.specs.Refusals.{IsTensorRefusal}
use Rattle.sparse_tensor.proofs.Parts.{other_values}
use Rattle.sparse_tensor.proofs.PutBack.{length_put_back}
use Rattle.model_core.specs.declared.model.Model.{Model}
use Rattle.model_core.specs.Scalar.{scalar_components}
use Rattle.term_expand.proofs.Expanded.{first_values}
use Rattle.beta_formulas.specs.ScalarBeta.{FourLegs, over_orders, scalar_beta_at}
use Rattle.quartic_one_loop.specs.FewDummies.{has_few, formed_at}
use Rattle.quartic_one_loop.specs.FourLegs.{AddsFour, IsScalarRefusal, four_at}
use Rattle.quartic_one_loop.specs.OrderShares.{loop_share, box_share, leg_share, charge_share, gauge_share, order_share}
use Rattle.quartic_one_loop.proofs.Adding.{adds_both}
use Rattle.quartic_one_loop.proofs.FewDummies.{formed_beta}
use Rattle.quartic_one_loop.proofs.OrderSums.{four_at-symmetrised}

-- ---- the sum over orders

symmetrised-same : (legs : List ℕ) (f g : Values) (n : ℕ) → ((key : List ℕ) → length key ≡ n → f key ≡ g key) → (key : List ℕ) → length key ≡ n → symmetrised_at legs f key ≡ symmetrised_at legs g key
unfolding symmetrised_at
symmetrised-same legs f g n same key l =
    ap (sum poly_ring.semiring (orders (places_at legs key))) (fun_ext (λ ps. same (put_back key legs ps) (length_put_back key legs ps ∙ l)))

-- the five parts one after the other
pub all_shares : (model : Model) (old loops boxes legs charges new : List Value) → old ≡ [] → AddsFour model (loop_share model) old loops → AddsFour model (box_share model) loops boxes → AddsFour model (leg_share model) boxes legs
    → AddsFour model (charge_share model) legs charges → AddsFour model (gauge_share model) charges new → AddsFour model (order_share model) [] new
all_shares model old loops boxes legs charges new none first second third fourth fifth =
    let two : FourLegs = λ a b c d. add_poly (loop_share model a b c d) (box_share model a b c d) in
    let three : FourLegs = λ a b c d. add_poly (two a b c d) (leg_share model a b c d) in
    let four : FourLegs = λ a b c d. add_poly (three a b c d) (charge_share model a b c d) in
    subst (λ vs. AddsFour model (order_share model) vs new) none
    (adds_both model four (gauge_share model) old charges new
    (adds_both model three (charge_share model) old legs charges
    (adds_both model two (leg_share model) old boxes legs (adds_both model (loop_share model) (box_share model) old loops boxes first second) third)
    fourth)
    fifth)

module _ (model : Model) (values : List Value) (adds : AddsFour model (order_share model) [] values) where
  pub share_keys : All {X = Value} (λ v. length v.key ≡ 4) values
  share_keys = adds.keys (λ i d within. absurd (omega (arith, within)))

  module _ (shares : Tensor) (gathered : HasValues 4 (gathered_at (map entry values)) shares) where
    has_shares : HasValues 4 (four_at model (order_share model)) shares
    has_shares = first_values 4 (four_at model (order_share model)) values shares adds gathered

    module _ (sums : Tensor) (symmetrised : HasValues (rank_of shares) (symmetrised_at (0 ∷ 1 ∷ 2 ∷ 3 ∷ []) (value shares)) sums) where
      has_sums : (key : List ℕ) → length key ≡ 4 → value sums key ≡ four_at model (over_orders (order_share model)) key
      has_sums key l =
          symmetrised.value_is key (l ∙ sym gathered.rank_is)
          ∙ symmetrised-same (0 ∷ 1 ∷ 2 ∷ 3 ∷ []) (value shares) (four_at model (order_share model)) 4 has_shares.value_is key l
          ∙ four_at-symmetrised (order_share model) model key l

      -- and what is formed of it
      pub has_scalar_betas : (dummy : ℕ) → dummy ≡ length (scalar_components model) → (betas : Tensor) → HasValues (rank_of sums) (formed_at dummy (value sums)) betas → HasValues 4 (scalar_beta_at model) betas
      has_scalar_betas dummy last betas =
          other_values (rank_of sums) 4 (formed_at dummy (value sums)) (scalar_beta_at model) betas (symmetrised.rank_is ∙ gathered.rank_is) (λ key l.
          ap (λ p. cond (has_few dummy key) p zero_poly) (has_sums key l) ∙ formed_beta model dummy last key l)

-- all four legs of a tensor of so many
pub four_inside : (rank : ℕ) → rank ≡ 4 → All (λ leg. leg < rank) (0 ∷ 1 ∷ 2 ∷ 3 ∷ [])
four_inside rank is zero d within = omega (arith, is)
four_inside rank is (suc zero) d within = omega (arith, is)
four_inside rank is (suc (suc zero)) d within = omega (arith, is)
four_inside rank is (suc (suc (suc zero))) d within = omega (arith, is)
four_inside rank is (suc (suc (suc (suc k)))) d within = absurd (omega (arith, within))

-- ---- refusals

pub scalar_refusal : (model : Model) → model.scalars ≢ [] → (fault : TensorFault) → IsTensorRefusal fault → IsScalarRefusal model fault
scalar_refusal model some (Overflow pair) refused = (some, refused)
scalar_refusal model some NoMemory refused = tt

pub scalar_memory : (model : Model) (fault : TensorFault) → fault ≡ TensorFault.NoMemory → IsScalarRefusal model fault
scalar_memory model fault is = subst (IsScalarRefusal model) (sym is) tt

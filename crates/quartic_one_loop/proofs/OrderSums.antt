-- Sums over the orders of four legs.
use Rattle.std.specs.Prelude.{◌≡◌, ℕ, zero, suc, ◌+◌, pos, List, [], ◌∷◌, map, length, slice_get, Option, Some, None}
use Rattle.std.proofs.Common.{refl, sym, ap, ap₂, ◌∙◌, arith}
use mathlib.Core.Path.{fun_ext}
use Rattle.exact_algebra.specs.Orders.{Rearranged, length-rearranged, orders, orders-rearranged, picks, factorial, sum_orders, sum_orders-map, sum_orders-picks, sum_orders-symmetric}
use Rattle.exact_algebra.specs.Orders.Rearranged.{same, keep, swap, then}
use Rattle.exact_algebra.specs.Maps.{const-IsSemiringMap}
use Rattle.exact_algebra.specs.Sums.{sum, sum-cons, sum-nil, sum-add, sum-mul, sum-zero, sum-same_on, number, below-zero, below-suc}
use Rattle.frac128.specs.Rational.{ℚ, one_ℚ, whole, neg_ℚ, reciprocal, ◌*ℚ◌}
use Rattle.frac128.specs.RationalLaws.{ring_ℚ, one-*ℚ, *ℚ_assoc, *ℚ_comm, neg_ℚ-*ℚ}
use Rattle.frac128.specs.Whole.{whole-add, whole-mul, times_inverse}
use Rattle.beta_poly.specs.Monomial.{monomials}
use Rattle.beta_poly.specs.Polynomial.{Polynomial, poly_ring, zero_test, zero_poly, add_poly, mul_poly, scale_poly, constant}
use Rattle.sparse_tensor.specs.Operations.{put_back, symmetrised_at}
use Rattle.sparse_tensor.proofs.Exchanged.{orders_long}
use Rattle.su_reps.specs.Operators.{fraction}
use Rattle.model_core.specs.declared.model.Model.{Model}
use Rattle.model_core.specs.Directions.{scalar_tensor}
use Rattle.model_core.specs.GaugeTwoLoop.{negative}
use Rattle.model_core.specs.Scalar.{Coordinate, scalar_coordinates}
use Rattle.model_core.specs.TermTensor.{with_coordinate, value_or}
use Rattle.beta_formulas.specs.ScalarBeta.{FourLegs, at_four, over_orders, over_legs, quartic, leg_line, charge_line, loop_line, box_line, gauge_line, loop_part, box_part, leg_part, charge_part, gauge_part, beta_function}
use Rattle.quartic_one_loop.specs.FourLegs.{four_at}
use Rattle.quartic_one_loop.specs.OrderShares.{loop_share, box_share, leg_share, charge_share, gauge_share, order_share}
use Rattle.term_expand.proofs.Legs.{of_four}
use Rattle.quartic_one_loop.proofs.QuarticSymmetry.{scalar_tensor-moved}

-- ---- orders of coordinates that may be missing

-- all coordinates, where each is there
abbrev all_of : List (Option Coordinate) → Option (List Coordinate)
all_of [] = Some []
all_of (o ∷ os) = with_coordinate o (all_of os)

tail_none : (c : Coordinate) (o : Option (List Coordinate)) → with_coordinate (Some c) o ≡ None → o ≡ None
tail_none c None h = refl
tail_none c (Some cs) h = absurd cc

keep_none : (o : Option Coordinate) (p q : Option (List Coordinate)) → (p ≡ None → q ≡ None) → with_coordinate o p ≡ None → with_coordinate o q ≡ None
keep_none None p q f h = refl
keep_none (Some c) p q f h = ap (with_coordinate (Some c)) (f (tail_none c p h))

swap_none : (o p : Option Coordinate) (q : Option (List Coordinate)) → with_coordinate o (with_coordinate p q) ≡ None → with_coordinate p (with_coordinate o q) ≡ None
swap_none None None q h = refl
swap_none None (Some c) q h = refl
swap_none (Some c) None q h = refl
swap_none (Some c) (Some d) None h = refl
swap_none (Some c) (Some d) (Some cs) h = absurd cc

none_moved : {os ps : List (Option Coordinate)} → Rearranged os ps → all_of os ≡ None → all_of ps ≡ None
none_moved same h = h
none_moved (keep {x = o} {xs = os} {ys = ps} r) h = keep_none o (all_of os) (all_of ps) (none_moved r) h
none_moved (swap {x = o} {y = p} {xs = os}) h = swap_none o p (all_of os) h
none_moved (then r s) h = none_moved s (none_moved r h)

all_there : (cs : List Coordinate) → all_of (map Some cs) ≡ Some cs
all_there [] = refl
all_there (c ∷ cs) = ap (with_coordinate (Some c)) (all_there cs)

module _ (f : FourLegs) where
  -- the function at coordinates that may be missing
  abbrev at_all : List (Option Coordinate) → Polynomial
  at_all os = value_or zero_poly (at_four f) (all_of os)

  orders_missing : (os : List (Option Coordinate)) → all_of os ≡ None → sum_orders poly_ring.semiring os at_all ≡ zero_poly
  orders_missing os none =
      sum-same_on poly_ring.semiring (Rearranged os) (orders os) at_all (λ ps. zero_poly) (orders-rearranged os) (λ ps r. ap (value_or zero_poly (at_four f)) (none_moved r none))
      ∙ sum-zero poly_ring.semiring (orders os)

  orders_there : (cs : List Coordinate) → sum_orders poly_ring.semiring (map Some cs) at_all ≡ sum_orders poly_ring.semiring cs (at_four f)
  orders_there cs =
      sum_orders-map poly_ring.semiring Some cs at_all
      ∙ ap (sum poly_ring.semiring (orders cs)) (fun_ext (λ ds. ap (value_or zero_poly (at_four f)) (all_there ds)))

  orders_of_all : (o p q r : Option Coordinate) → sum_orders poly_ring.semiring (o ∷ p ∷ q ∷ r ∷ []) at_all ≡ value_or zero_poly (at_four (over_orders f)) (all_of (o ∷ p ∷ q ∷ r ∷ []))
  orders_of_all None p q r = orders_missing (None ∷ p ∷ q ∷ r ∷ []) refl
  orders_of_all (Some a) None q r = orders_missing (Some a ∷ None ∷ q ∷ r ∷ []) refl
  orders_of_all (Some a) (Some b) None r = orders_missing (Some a ∷ Some b ∷ None ∷ r ∷ []) refl
  orders_of_all (Some a) (Some b) (Some c) None = orders_missing (Some a ∷ Some b ∷ Some c ∷ None ∷ []) refl
  orders_of_all (Some a) (Some b) (Some c) (Some d) = orders_there (a ∷ b ∷ c ∷ d ∷ [])

  -- a function symmetrised over all places of a key is the sum over the orders of the legs
  pub four_at-symmetrised : (model : Model) (key : List ℕ) → length key ≡ 4 → symmetrised_at (0 ∷ 1 ∷ 2 ∷ 3 ∷ []) (four_at model f) key ≡ four_at model (over_orders f) key
  unfolding symmetrised_at put_back
  four_at-symmetrised model =
      of_four (λ key. symmetrised_at (0 ∷ 1 ∷ 2 ∷ 3 ∷ []) (four_at model f) key ≡ four_at model (over_orders f) key) four
    where
      one_order : (a b c d : ℕ) (ps : List ℕ) → length ps ≡ 4 → four_at model f (put_back (a ∷ b ∷ c ∷ d ∷ []) (0 ∷ 1 ∷ 2 ∷ 3 ∷ []) ps) ≡ at_all (map (slice_get (scalar_coordinates model)) ps)
      one_order a b c d =
          of_four (λ ps. four_at model f (put_back (a ∷ b ∷ c ∷ d ∷ []) (0 ∷ 1 ∷ 2 ∷ 3 ∷ []) ps) ≡ at_all (map (slice_get (scalar_coordinates model)) ps)) (λ p q r s. refl)

      four : (a b c d : ℕ) → symmetrised_at (0 ∷ 1 ∷ 2 ∷ 3 ∷ []) (four_at model f) (a ∷ b ∷ c ∷ d ∷ []) ≡ four_at model (over_orders f) (a ∷ b ∷ c ∷ d ∷ [])
      four a b c d =
          let leg = scalar_coordinates model in
          sum-same_on poly_ring.semiring (λ ps. length ps ≡ 4) (orders (a ∷ b ∷ c ∷ d ∷ [])) (λ ps. four_at model f (put_back (a ∷ b ∷ c ∷ d ∷ []) (0 ∷ 1 ∷ 2 ∷ 3 ∷ []) ps)) (λ ps. at_all (map (slice_get leg) ps)) (orders_long (a ∷ b ∷ c ∷ d ∷ [])) (one_order a b c d)
          ∙ sym (sum_orders-map poly_ring.semiring (slice_get leg) (a ∷ b ∷ c ∷ d ∷ []) at_all)
          ∙ orders_of_all (slice_get leg a) (slice_get leg b) (slice_get leg c) (slice_get leg d)

-- ---- sums over orders are linear

legs_combined : (h : Polynomial → Polynomial → Polynomial) (f g : FourLegs) → h zero_poly zero_poly ≡ zero_poly → (cs : List Coordinate) → at_four (λ a b c d. h (f a b c d) (g a b c d)) cs ≡ h (at_four f cs) (at_four g cs)
legs_combined h f g z [] = sym z
legs_combined h f g z (a ∷ []) = sym z
legs_combined h f g z (a ∷ b ∷ []) = sym z
legs_combined h f g z (a ∷ b ∷ c ∷ []) = sym z
legs_combined h f g z (a ∷ b ∷ c ∷ d ∷ []) = refl
legs_combined h f g z (a ∷ b ∷ c ∷ d ∷ e ∷ cs) = sym z

pub over_orders-add : (f g : FourLegs) (a b c d : Coordinate) → over_orders (λ a b c d. add_poly (f a b c d) (g a b c d)) a b c d ≡ add_poly (over_orders f a b c d) (over_orders g a b c d)
over_orders-add f g a b c d =
    ap (sum poly_ring.semiring (orders (a ∷ b ∷ c ∷ d ∷ []))) (fun_ext (legs_combined add_poly f g (poly_ring.semiring.add_zero zero_poly)))
    ∙ sum-add poly_ring.semiring (orders (a ∷ b ∷ c ∷ d ∷ [])) (at_four f) (at_four g)

pub over_orders-scale : (n : ℚ) (f : FourLegs) (a b c d : Coordinate) → over_orders (λ a b c d. scale_poly n (f a b c d)) a b c d ≡ scale_poly n (over_orders f a b c d)
over_orders-scale n f a b c d =
    ap (sum poly_ring.semiring (orders (a ∷ b ∷ c ∷ d ∷ []))) (fun_ext (legs_combined (λ p q. scale_poly n p) f f (poly_ring.semiring.mul_zero (constant n))))
    ∙ sum-mul poly_ring.semiring (constant n) (orders (a ∷ b ∷ c ∷ d ∷ [])) (at_four f)

-- ---- lines at each leg

number_constant : (n : ℕ) → number poly_ring.semiring n ≡ constant (whole (pos n))
number_constant zero =
    below-zero poly_ring.semiring (λ _. poly_ring.semiring.one) ∙ sym ((const-IsSemiringMap monomials ring_ℚ.semiring zero_test).at_zero)
number_constant (suc n) =
    let map_of = const-IsSemiringMap monomials ring_ℚ.semiring zero_test in
    below-suc poly_ring.semiring n (λ _. poly_ring.semiring.one)
    ∙ ap₂ add_poly (number_constant n) (sym map_of.at_one)
    ∙ sym (map_of.at_add (whole (pos n)) one_ℚ)
    ∙ ap constant (sym (whole-add n 1) ∙ ap (λ k. whole (pos k)) (let next : n + 1 ≡ suc n = omega arith in next))

-- a number times a multiple
scale_number : (q : ℚ) (n : ℕ) (p : Polynomial) → scale_poly q (mul_poly (number poly_ring.semiring n) p) ≡ scale_poly (q *ℚ whole (pos n)) p
scale_number q n p =
    let map_of = const-IsSemiringMap monomials ring_ℚ.semiring zero_test in
    sym (poly_ring.semiring.mul_assoc (constant q) (number poly_ring.semiring n) p)
    ∙ ap (λ k. mul_poly k p) (ap (mul_poly (constant q)) (number_constant n) ∙ sym (map_of.at_mul q (whole (pos n))))

module _ (model : Model) (line : Coordinate → (Coordinate → Polynomial) → Polynomial) where
  -- the line of the first leg
  abbrev first_line : FourLegs
  first_line a b c d = line a (λ e. quartic model e b c d)

  line_with : Coordinate → List Coordinate → Polynomial
  line_with a ws = line a (λ e. scalar_tensor model (e ∷ ws))

  line-moved : (a : Coordinate) (ws vs : List Coordinate) → Rearranged ws vs → length ws ≡ 3 → line_with a ws ≡ line_with a vs
  unfolding line_with
  line-moved a ws vs r l =
      ap (line a) (fun_ext (λ e. scalar_tensor-moved model (e ∷ ws) (e ∷ vs) (keep r) (ap suc l)))

  line_at : (a : Coordinate) (ws : List Coordinate) → length ws ≡ 3 → at_four first_line (a ∷ ws) ≡ line_with a ws
  unfolding line_with
  line_at a [] l = absurd (omega arith)
  line_at a (b ∷ []) l = absurd (omega arith)
  line_at a (b ∷ c ∷ []) l = absurd (omega arith)
  line_at a (b ∷ c ∷ d ∷ []) l = refl
  line_at a (b ∷ c ∷ d ∷ e ∷ ws) l = absurd (omega arith)

  six : (a : Coordinate) (ws : List Coordinate) → length ws ≡ 3 → sum_orders poly_ring.semiring ws (λ vs. at_four first_line (a ∷ vs)) ≡ mul_poly (number poly_ring.semiring 6) (line_with a ws)
  unfolding factorial
  six a ws l =
      sum_orders-symmetric poly_ring.semiring ws (λ vs. at_four first_line (a ∷ vs)) (λ vs r. line_at a vs (length-rearranged r ∙ l) ∙ sym (line-moved a ws vs r l) ∙ sym (line_at a ws l))
      ∙ ap₂ (λ n p. mul_poly (number poly_ring.semiring n) p) (ap factorial l) (line_at a ws l)

  four_legs : (a b c d : Coordinate) → sum poly_ring.semiring (picks (a ∷ b ∷ c ∷ d ∷ [])) (λ p. line_with p.0 p.1) ≡ over_legs model line a b c d
  unfolding picks line_with
  four_legs a b c d =
      let R = poly_ring.semiring in
      let L = scalar_tensor-moved model in
      let f = λ (p : Coordinate × List Coordinate). line_with p.0 p.1 in
      sum-cons R (a, b ∷ c ∷ d ∷ []) ((b, a ∷ c ∷ d ∷ []) ∷ (c, a ∷ b ∷ d ∷ []) ∷ (d, a ∷ b ∷ c ∷ []) ∷ []) f
      ∙ ap (add_poly (f (a, b ∷ c ∷ d ∷ []))) (sum-cons R (b, a ∷ c ∷ d ∷ []) ((c, a ∷ b ∷ d ∷ []) ∷ (d, a ∷ b ∷ c ∷ []) ∷ []) f
      ∙ ap (add_poly (f (b, a ∷ c ∷ d ∷ []))) (sum-cons R (c, a ∷ b ∷ d ∷ []) ((d, a ∷ b ∷ c ∷ []) ∷ []) f
      ∙ ap (add_poly (f (c, a ∷ b ∷ d ∷ []))) (sum-cons R (d, a ∷ b ∷ c ∷ []) [] f ∙ ap (add_poly (f (d, a ∷ b ∷ c ∷ []))) (sum-nil R f) ∙ R.add_zero (f (d, a ∷ b ∷ c ∷ [])))))
      ∙ sym (R.add_assoc (f (a, b ∷ c ∷ d ∷ [])) (f (b, a ∷ c ∷ d ∷ [])) (add_poly (f (c, a ∷ b ∷ d ∷ [])) (f (d, a ∷ b ∷ c ∷ []))))
      ∙ ap₂ (λ x y. add_poly (add_poly (f (a, b ∷ c ∷ d ∷ [])) x) y)
      (ap (line b) (fun_ext (λ e. L (e ∷ a ∷ c ∷ d ∷ []) (a ∷ e ∷ c ∷ d ∷ []) swap refl)))
      (ap₂ add_poly
      (ap (line c) (fun_ext (λ e. L (e ∷ a ∷ b ∷ d ∷ []) (a ∷ b ∷ e ∷ d ∷ []) (then swap (keep swap)) refl)))
      (ap (line d) (fun_ext (λ e. L (e ∷ a ∷ b ∷ c ∷ []) (a ∷ b ∷ c ∷ e ∷ []) (then swap (then (keep swap) (keep (keep swap)))) refl))))

  -- Each leg is the first in six orders.
  pub over_orders-line : (a b c d : Coordinate) → over_orders first_line a b c d ≡ mul_poly (number poly_ring.semiring 6) (over_legs model line a b c d)
  unfolding picks
  over_orders-line a b c d =
      let R = poly_ring.semiring in
      sum_orders-picks R a (b ∷ c ∷ d ∷ []) (at_four first_line)
      ∙ sum-same_on R (λ p. length p.1 ≡ 3) (picks (a ∷ b ∷ c ∷ d ∷ [])) (λ p. sum_orders R p.1 (λ w. at_four first_line (p.0 ∷ w))) (λ p. mul_poly (number R 6) (line_with p.0 p.1)) (refl, (refl, (refl, (refl, tt)))) (λ p l. six p.0 p.1 l)
      ∙ sum-mul R (number R 6) (picks (a ∷ b ∷ c ∷ d ∷ [])) (λ p. line_with p.0 p.1)
      ∙ ap (mul_poly (number R 6)) (four_legs a b c d)

-- ---- the beta function

one_sixth : fraction 1 6 *ℚ whole (pos 6) ≡ one_ℚ
one_sixth =
    ap (λ x. x *ℚ whole (pos 6)) (one-*ℚ (reciprocal (whole (pos 6)))) ∙ *ℚ_comm (reciprocal (whole (pos 6))) (whole (pos 6)) ∙ times_inverse 6 (omega arith)

minus_three : neg_ℚ (fraction 1 2) *ℚ whole (pos 6) ≡ neg_ℚ one_ℚ *ℚ whole (pos 3)
minus_three =
    let half = reciprocal (whole (pos 2)) in
    let two = whole (pos 2) in
    neg_ℚ-*ℚ (fraction 1 2) (whole (pos 6))
    ∙ ap neg_ℚ (ap₂ ◌*ℚ◌ (one-*ℚ half) (whole-mul 2 3)
    ∙ sym (*ℚ_assoc half two (whole (pos 3)))
    ∙ ap (λ x. x *ℚ whole (pos 3)) (*ℚ_comm half two ∙ times_inverse 2 (omega arith)))
    ∙ sym (neg_ℚ-*ℚ one_ℚ (whole (pos 3)))

module _ (model : Model) (a b c d : Coordinate) where
  loop_sum : over_orders (loop_share model) a b c d ≡ loop_part model a b c d
  unfolding loop_part
  loop_sum = over_orders-scale (fraction 1 8) (loop_line model) a b c d

  box_sum : over_orders (box_share model) a b c d ≡ negative (box_part model a b c d)
  unfolding box_part
  box_sum = over_orders-scale (neg_ℚ one_ℚ) (box_line model) a b c d

  leg_sum : over_orders (leg_share model) a b c d ≡ leg_part model a b c d
  unfolding leg_part
  leg_sum =
      let legs = over_legs model (leg_line model) a b c d in
      over_orders-scale (fraction 1 6) (first_line model (leg_line model)) a b c d
      ∙ ap (scale_poly (fraction 1 6)) (over_orders-line model (leg_line model) a b c d)
      ∙ scale_number (fraction 1 6) 6 legs
      ∙ ap (λ q. scale_poly q legs) one_sixth
      ∙ ap (λ k. mul_poly k legs) ((const-IsSemiringMap monomials ring_ℚ.semiring zero_test).at_one)
      ∙ poly_ring.semiring.mul_comm poly_ring.semiring.one legs ∙ poly_ring.semiring.mul_one legs

  charge_sum : over_orders (charge_share model) a b c d ≡ negative (charge_part model a b c d)
  unfolding charge_part
  charge_sum =
      let legs = over_legs model (charge_line model) a b c d in
      let map_of = const-IsSemiringMap monomials ring_ℚ.semiring zero_test in
      over_orders-scale (neg_ℚ (fraction 1 2)) (first_line model (charge_line model)) a b c d
      ∙ ap (scale_poly (neg_ℚ (fraction 1 2))) (over_orders-line model (charge_line model) a b c d)
      ∙ scale_number (neg_ℚ (fraction 1 2)) 6 legs
      ∙ ap (λ q. scale_poly q legs) minus_three
      ∙ ap (λ k. mul_poly k legs) (map_of.at_mul (neg_ℚ one_ℚ) (whole (pos 3)))
      ∙ poly_ring.semiring.mul_assoc (constant (neg_ℚ one_ℚ)) (constant (whole (pos 3))) legs

  gauge_sum : over_orders (gauge_share model) a b c d ≡ gauge_part model a b c d
  unfolding gauge_part
  gauge_sum = over_orders-scale (fraction 3 8) (gauge_line model) a b c d

  -- the beta function is the sum over the orders of what each gives
  pub over_orders-shares : over_orders (order_share model) a b c d ≡ beta_function model a b c d
  over_orders-shares =
      let two : FourLegs = λ a b c d. add_poly (loop_share model a b c d) (box_share model a b c d) in
      let three : FourLegs = λ a b c d. add_poly (two a b c d) (leg_share model a b c d) in
      let four : FourLegs = λ a b c d. add_poly (three a b c d) (charge_share model a b c d) in
      over_orders-add four (gauge_share model) a b c d
      ∙ ap₂ add_poly
      (over_orders-add three (charge_share model) a b c d
      ∙ ap₂ add_poly
      (over_orders-add two (leg_share model) a b c d
      ∙ ap₂ add_poly (over_orders-add (loop_share model) (box_share model) a b c d ∙ ap₂ add_poly loop_sum box_sum) leg_sum)
      charge_sum)
      gauge_sum

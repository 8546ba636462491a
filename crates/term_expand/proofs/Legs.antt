-- Functions of the coordinates on legs, at places of the legs: their projections, and all ways to give the legs.
use Rattle.std.specs.Prelude.{◌≡◌, ◌⊎◌, ℕ, List, [], ◌∷◌, length, map, get_or, slice_get, Option, Some, None}
use Rattle.std.proofs.Common.{refl, sym, ap, ◌∙◌, arith, inl, inr}
use Rattle.std.proofs.lemmas.Option.{slice_get-get_or}
use mathlib.Core.Path.{fun_ext}
use Rattle.exact_algebra.specs.Ring.{zero_mul, add_add_comm}
use Rattle.exact_algebra.specs.Sums.{sum, sum-add, sum-by_place, sum-same_on, sum-zero, below, below-none, below-same}
use Rattle.exact_algebra.specs.Orders.{Rearranged, same, keep, swap, then, orders, orders-rearranged, sum_orders, sum_orders-map, sum_orders-two}
use Rattle.frac128.specs.Rational.{ℚ, zero_ℚ, ◌+ℚ◌, ◌*ℚ◌}
use Rattle.frac128.specs.RationalLaws.{ring_ℚ}
use Rattle.sparse_tensor.specs.Operations.{put_back}
use Rattle.sparse_tensor.proofs.Exchanged.{orders_long}
use Rattle.model_core.specs.declared.group.Group.{Group}
use Rattle.model_core.specs.declared.model.Model.{Model}
use Rattle.model_core.specs.declared.term.Term.{Term}
use Rattle.model_core.specs.declared.term.TermKind.{TermKind}
use Rattle.model_core.specs.declared.term.TermKind.TheVariants.{Fermion, Scalar}
use Rattle.model_core.specs.MonomialValue.{text_at}
use Rattle.model_core.specs.Scalar.{Coordinate}
use Rattle.model_core.specs.TermTensor.{Numbers, projected, coordinate_projector, all_ways, with_coordinate, coordinates_at, value_or, at_places}
use Rattle.term_expand.specs.Projectors.{projector_or_zero, place_projector}
use Rattle.term_expand.specs.Texts.{one_way}
use Rattle.term_expand.proofs.Projections.{symmetrised_numbers}

-- ---- projections

-- numbers at places, projected leg by leg
unfoldable pub projected_places : List Group → List (List Coordinate) → (List ℕ → ℚ) → List ℕ → ℚ
projected_places groups [] g [] = g []
projected_places groups (leg ∷ legs) g (k ∷ ks) =
    below ring_ℚ.semiring (length leg) (λ x. place_projector groups leg x k *ℚ projected_places groups legs (λ ys. g (x ∷ ys)) ks)
projected_places groups _ g _ = zero_ℚ

no_projector : (groups : List Group) (o : Option Coordinate) → projector_or_zero groups o None ≡ zero_ℚ
no_projector groups None = refl
no_projector groups (Some c) = refl

first_coordinate : (f : Numbers) (c : Coordinate) (o : Option (List Coordinate)) → value_or zero_ℚ f (with_coordinate (Some c) o) ≡ value_or zero_ℚ (λ cs. f (c ∷ cs)) o
first_coordinate f c None = refl
first_coordinate f c (Some cs) = refl

module _ (groups : List Group) (leg : List Coordinate) (legs : List (List Coordinate)) (f : Numbers) (ks : List ℕ) (others : (g : Numbers) → projected_places groups legs (at_places zero_ℚ legs g) ks ≡ at_places zero_ℚ legs (projected groups legs g) ks) where
  -- what the legs behind the first give at a coordinate there
  abbrev rest : Option Coordinate → ℚ
  rest o = projected_places groups legs (λ ys. value_or zero_ℚ f (with_coordinate o (coordinates_at legs ys))) ks

  rest_at : (c : Coordinate) → rest (Some c) ≡ value_or zero_ℚ (projected groups legs (λ ds. f (c ∷ ds))) (coordinates_at legs ks)
  rest_at c =
      ap (λ g. projected_places groups legs g ks) (fun_ext (λ ys. first_coordinate f c (coordinates_at legs ys)))
      ∙ others (λ ds. f (c ∷ ds))

  over_leg : (c : Coordinate) (o : Option (List Coordinate)) → sum ring_ℚ.semiring leg (λ d. coordinate_projector groups d c *ℚ value_or zero_ℚ (projected groups legs (λ ds. f (d ∷ ds))) o) ≡ value_or zero_ℚ (projected groups (leg ∷ legs) f) (with_coordinate (Some c) o)
  unfolding projected
  over_leg c None =
      ap (sum ring_ℚ.semiring leg) (fun_ext (λ d. ring_ℚ.semiring.mul_zero (coordinate_projector groups d c))) ∙ sum-zero ring_ℚ.semiring leg
  over_leg c (Some cs) = refl

  first_leg : (o : Option Coordinate) → below ring_ℚ.semiring (length leg) (λ x. projector_or_zero groups (slice_get leg x) o *ℚ rest (slice_get leg x)) ≡ value_or zero_ℚ (projected groups (leg ∷ legs) f) (with_coordinate o (coordinates_at legs ks))
  first_leg None =
      below-none ring_ℚ.semiring (length leg) (λ x. projector_or_zero groups (slice_get leg x) None *ℚ rest (slice_get leg x)) (λ x l. ap (λ v. v *ℚ rest (slice_get leg x)) (no_projector groups (slice_get leg x)) ∙ zero_mul ring_ℚ.semiring (rest (slice_get leg x)))
  first_leg (Some c) =
      let summand : Coordinate → ℚ = λ d. coordinate_projector groups d c *ℚ value_or zero_ℚ (projected groups legs (λ ds. f (d ∷ ds))) (coordinates_at legs ks) in
      below-same ring_ℚ.semiring (length leg) (λ x. projector_or_zero groups (slice_get leg x) (Some c) *ℚ rest (slice_get leg x)) (λ x. summand (get_or leg x c)) (λ x l. ap (λ o. projector_or_zero groups o (Some c) *ℚ rest o) (slice_get-get_or leg x c l) ∙ ap (λ v. coordinate_projector groups (get_or leg x c) c *ℚ v) (rest_at (get_or leg x c)))
      ∙ sym (sum-by_place ring_ℚ.semiring c leg summand)
      ∙ over_leg c (coordinates_at legs ks)

-- a function of coordinates is projected at places as it is at coordinates
pub projected_at_places : (groups : List Group) (legs : List (List Coordinate)) (f : Numbers) (key : List ℕ) → length key ≡ length legs → projected_places groups legs (at_places zero_ℚ legs f) key ≡ at_places zero_ℚ legs (projected groups legs f) key
unfolding projected_places projected
projected_at_places groups [] f [] h = refl
projected_at_places groups [] f (k ∷ ks) h = absurd (omega arith)
projected_at_places groups (leg ∷ legs) f [] h = absurd (omega arith)
projected_at_places groups (leg ∷ legs) f (k ∷ ks) h =
    first_leg groups leg legs f ks (λ g. projected_at_places groups legs g ks (omega arith)) (slice_get leg k)

-- a projection of a sum
pub projected-add : (groups : List Group) (legs : List (List Coordinate)) (f g : Numbers) (cs : List Coordinate) → projected groups legs (λ ds. f ds +ℚ g ds) cs ≡ projected groups legs f cs +ℚ projected groups legs g cs
unfolding projected
projected-add groups [] f g [] = refl
projected-add groups [] f g (c ∷ cs) = sym (ring_ℚ.semiring.add_zero zero_ℚ)
projected-add groups (leg ∷ legs) f g [] = sym (ring_ℚ.semiring.add_zero zero_ℚ)
projected-add groups (leg ∷ legs) f g (c ∷ cs) =
    ap (sum ring_ℚ.semiring leg) (fun_ext (λ d. ap (λ v. coordinate_projector groups d c *ℚ v) (projected-add groups legs (λ ds. f (d ∷ ds)) (λ ds. g (d ∷ ds)) cs) ∙ ring_ℚ.semiring.mul_add (coordinate_projector groups d c) (projected groups legs (λ ds. f (d ∷ ds)) cs) (projected groups legs (λ ds. g (d ∷ ds)) cs)))
    ∙ sum-add ring_ℚ.semiring leg (λ d. coordinate_projector groups d c *ℚ projected groups legs (λ ds. f (d ∷ ds)) cs) (λ d. coordinate_projector groups d c *ℚ projected groups legs (λ ds. g (d ∷ ds)) cs)

-- ---- all ways

-- the sum over all ways to give the legs
abbrev pub ways : TermKind → Numbers → Numbers
ways Fermion f (j ∷ k ∷ a ∷ []) = f (j ∷ k ∷ a ∷ []) +ℚ f (k ∷ j ∷ a ∷ [])
ways Fermion f _ = zero_ℚ
ways Scalar f cs = sum_orders ring_ℚ.semiring cs f

-- all ways of a text are those of one way
pub ways-one_way : (model : Model) (term : Term) (row column : ℕ) (kind : TermKind) (cs : List Coordinate) → ways kind (one_way model term row column kind) cs ≡ all_ways model term row column kind cs
ways-one_way model term row column Scalar cs = refl
ways-one_way model term row column Fermion [] = refl
ways-one_way model term row column Fermion (j ∷ []) = refl
ways-one_way model term row column Fermion (j ∷ k ∷ []) = refl
ways-one_way model term row column Fermion (j ∷ k ∷ a ∷ []) =
    sym (sum_orders-two ring_ℚ.semiring j k (λ fermions. text_at model term row column fermions (a ∷ [])))
ways-one_way model term row column Fermion (j ∷ k ∷ a ∷ b ∷ cs) = refl

-- all ways of a sum
pub ways-add : (kind : TermKind) (f g : Numbers) (cs : List Coordinate) → ways kind (λ ds. f ds +ℚ g ds) cs ≡ ways kind f cs +ℚ ways kind g cs
ways-add Scalar f g cs = sum-add ring_ℚ.semiring (orders cs) f g
ways-add Fermion f g [] = sym (ring_ℚ.semiring.add_zero zero_ℚ)
ways-add Fermion f g (j ∷ []) = sym (ring_ℚ.semiring.add_zero zero_ℚ)
ways-add Fermion f g (j ∷ k ∷ []) = sym (ring_ℚ.semiring.add_zero zero_ℚ)
ways-add Fermion f g (j ∷ k ∷ a ∷ []) =
    add_add_comm ring_ℚ.semiring (f (j ∷ k ∷ a ∷ [])) (g (j ∷ k ∷ a ∷ [])) (f (k ∷ j ∷ a ∷ [])) (g (k ∷ j ∷ a ∷ []))
ways-add Fermion f g (j ∷ k ∷ a ∷ b ∷ cs) = sym (ring_ℚ.semiring.add_zero zero_ℚ)

-- ---- two legs exchanged

-- what holds of three places holds of a key of three
pub of_three : (P : List ℕ → Type 0) → ((a b c : ℕ) → P (a ∷ b ∷ c ∷ [])) → (key : List ℕ) → length key ≡ 3 → P key
of_three P h [] l = absurd (omega arith)
of_three P h (a ∷ []) l = absurd (omega arith)
of_three P h (a ∷ b ∷ []) l = absurd (omega arith)
of_three P h (a ∷ b ∷ c ∷ []) l = h a b c
of_three P h (a ∷ b ∷ c ∷ d ∷ key) l = absurd (omega arith)

-- and of four
pub of_four : (P : List ℕ → Type 0) → ((a b c d : ℕ) → P (a ∷ b ∷ c ∷ d ∷ [])) → (key : List ℕ) → length key ≡ 4 → P key
of_four P h [] l = absurd (omega arith)
of_four P h (a ∷ []) l = absurd (omega arith)
of_four P h (a ∷ b ∷ []) l = absurd (omega arith)
of_four P h (a ∷ b ∷ c ∷ []) l = absurd (omega arith)
of_four P h (a ∷ b ∷ c ∷ d ∷ []) l = h a b c d
of_four P h (a ∷ b ∷ c ∷ d ∷ e ∷ key) l = absurd (omega arith)

-- all coordinates, where each is there
abbrev all_of : List (Option Coordinate) → Option (List Coordinate)
all_of [] = Some []
all_of (o ∷ os) = with_coordinate o (all_of os)

two_ways : (f : Numbers) (o p q : Option Coordinate) → value_or zero_ℚ f (all_of (o ∷ p ∷ q ∷ [])) +ℚ value_or zero_ℚ f (all_of (p ∷ o ∷ q ∷ [])) ≡ value_or zero_ℚ (ways Fermion f) (all_of (o ∷ p ∷ q ∷ []))
two_ways f (Some j) (Some k) (Some a) = refl
two_ways f (Some j) (Some k) None = ring_ℚ.semiring.add_zero zero_ℚ
two_ways f (Some j) None (Some a) = ring_ℚ.semiring.add_zero zero_ℚ
two_ways f (Some j) None None = ring_ℚ.semiring.add_zero zero_ℚ
two_ways f None (Some k) (Some a) = ring_ℚ.semiring.add_zero zero_ℚ
two_ways f None (Some k) None = ring_ℚ.semiring.add_zero zero_ℚ
two_ways f None None q = ring_ℚ.semiring.add_zero zero_ℚ

-- the sum over the orders of the first two places is that over all ways
pub fermions_symmetrised : (leg last : List Coordinate) (f : Numbers) (key : List ℕ) → length key ≡ 3 → symmetrised_numbers (0 ∷ 1 ∷ []) (at_places zero_ℚ (leg ∷ leg ∷ last ∷ []) f) key ≡ at_places zero_ℚ (leg ∷ leg ∷ last ∷ []) (ways Fermion f) key
unfolding put_back
fermions_symmetrised leg last f =
    of_three (λ key. symmetrised_numbers (0 ∷ 1 ∷ []) (at_places zero_ℚ (leg ∷ leg ∷ last ∷ []) f) key ≡ at_places zero_ℚ (leg ∷ leg ∷ last ∷ []) (ways Fermion f) key) three
  where
    three : (j k a : ℕ) → symmetrised_numbers (0 ∷ 1 ∷ []) (at_places zero_ℚ (leg ∷ leg ∷ last ∷ []) f) (j ∷ k ∷ a ∷ []) ≡ at_places zero_ℚ (leg ∷ leg ∷ last ∷ []) (ways Fermion f) (j ∷ k ∷ a ∷ [])
    three j k a =
        sum_orders-two ring_ℚ.semiring j k (λ ps. at_places zero_ℚ (leg ∷ leg ∷ last ∷ []) f (put_back (j ∷ k ∷ a ∷ []) (0 ∷ 1 ∷ []) ps))
        ∙ two_ways f (slice_get leg j) (slice_get leg k) (slice_get last a)

-- ---- all legs exchanged

tail_none : (c : Coordinate) (o : Option (List Coordinate)) → with_coordinate (Some c) o ≡ None → o ≡ None
tail_none c None h = refl
tail_none c (Some cs) h = absurd cc

keep_none : (o : Option Coordinate) (p q : Option (List Coordinate)) → (p ≡ None → q ≡ None) → with_coordinate o p ≡ None → with_coordinate o q ≡ None
keep_none None p q f h = refl
keep_none (Some c) p q f h = ap (with_coordinate (Some c)) (f (tail_none c p h))

swap_none : (o p : Option Coordinate) (q : Option (List Coordinate)) → with_coordinate o (with_coordinate p q) ≡ None → with_coordinate p (with_coordinate o q) ≡ None
swap_none None None q h = refl
swap_none None (Some c) q h = refl
swap_none (Some c) None q h = refl
swap_none (Some c) (Some d) None h = refl
swap_none (Some c) (Some d) (Some cs) h = absurd cc

none_moved : {os ps : List (Option Coordinate)} → Rearranged os ps → all_of os ≡ None → all_of ps ≡ None
none_moved same h = h
none_moved (keep {x = o} {xs = os} {ys = ps} r) h = keep_none o (all_of os) (all_of ps) (none_moved r) h
none_moved (swap {x = o} {y = p} {xs = os}) h = swap_none o p (all_of os) h
none_moved (then r s) h = none_moved s (none_moved r h)

all_there : (cs : List Coordinate) → all_of (map Some cs) ≡ Some cs
all_there [] = refl
all_there (c ∷ cs) = ap (with_coordinate (Some c)) (all_there cs)

all_or_none : (os : List (Option Coordinate)) → ((cs : List Coordinate) × (os ≡ map Some cs)) ⊎ (all_of os ≡ None)
all_or_none [] = inl ([], refl)
all_or_none (None ∷ os) = inr refl
all_or_none (Some c ∷ os) = more (all_or_none os)
  where
    more : ((cs : List Coordinate) × (os ≡ map Some cs)) ⊎ (all_of os ≡ None) → ((cs : List Coordinate) × (Some c ∷ os ≡ map Some cs)) ⊎ (all_of (Some c ∷ os) ≡ None)
    more (inl (cs, e)) = inl (c ∷ cs, ap (λ ps. Some c ∷ ps) e)
    more (inr e) = inr (ap (with_coordinate (Some c)) e)

-- a sum over the orders of coordinates that may be missing
orders_of_all : (f : Numbers) (os : List (Option Coordinate)) → sum_orders ring_ℚ.semiring os (λ ps. value_or zero_ℚ f (all_of ps)) ≡ value_or zero_ℚ (λ cs. sum_orders ring_ℚ.semiring cs f) (all_of os)
orders_of_all f os = by_cases (all_or_none os)
  where
    by_cases : ((cs : List Coordinate) × (os ≡ map Some cs)) ⊎ (all_of os ≡ None) → sum_orders ring_ℚ.semiring os (λ ps. value_or zero_ℚ f (all_of ps)) ≡ value_or zero_ℚ (λ cs. sum_orders ring_ℚ.semiring cs f) (all_of os)
    by_cases (inl (cs, e)) =
        ap (λ ps. sum_orders ring_ℚ.semiring ps (λ qs. value_or zero_ℚ f (all_of qs))) e
        ∙ sum_orders-map ring_ℚ.semiring Some cs (λ ps. value_or zero_ℚ f (all_of ps))
        ∙ ap (sum ring_ℚ.semiring (orders cs)) (fun_ext (λ ds. ap (value_or zero_ℚ f) (all_there ds)))
        ∙ sym (ap (value_or zero_ℚ (λ ds. sum_orders ring_ℚ.semiring ds f)) (ap all_of e ∙ all_there cs))
    by_cases (inr e) =
        sum-same_on ring_ℚ.semiring (Rearranged os) (orders os) (λ ps. value_or zero_ℚ f (all_of ps)) (λ ps. zero_ℚ) (orders-rearranged os) (λ ps r. ap (value_or zero_ℚ f) (none_moved r e))
        ∙ sum-zero ring_ℚ.semiring (orders os)
        ∙ sym (ap (value_or zero_ℚ (λ ds. sum_orders ring_ℚ.semiring ds f)) e)

-- the sum over the orders of four places is that over all ways
pub scalars_symmetrised : (leg : List Coordinate) (f : Numbers) (key : List ℕ) → length key ≡ 4 → symmetrised_numbers (0 ∷ 1 ∷ 2 ∷ 3 ∷ []) (at_places zero_ℚ (leg ∷ leg ∷ leg ∷ leg ∷ []) f) key ≡ at_places zero_ℚ (leg ∷ leg ∷ leg ∷ leg ∷ []) (ways Scalar f) key
unfolding put_back
scalars_symmetrised leg f =
    of_four (λ key. symmetrised_numbers (0 ∷ 1 ∷ 2 ∷ 3 ∷ []) (at_places zero_ℚ (leg ∷ leg ∷ leg ∷ leg ∷ []) f) key ≡ at_places zero_ℚ (leg ∷ leg ∷ leg ∷ leg ∷ []) (ways Scalar f) key) four
  where
    one_order : (a b c d : ℕ) (ps : List ℕ) → length ps ≡ 4 → at_places zero_ℚ (leg ∷ leg ∷ leg ∷ leg ∷ []) f (put_back (a ∷ b ∷ c ∷ d ∷ []) (0 ∷ 1 ∷ 2 ∷ 3 ∷ []) ps) ≡ value_or zero_ℚ f (all_of (map (slice_get leg) ps))
    one_order a b c d =
        of_four (λ ps. at_places zero_ℚ (leg ∷ leg ∷ leg ∷ leg ∷ []) f (put_back (a ∷ b ∷ c ∷ d ∷ []) (0 ∷ 1 ∷ 2 ∷ 3 ∷ []) ps) ≡ value_or zero_ℚ f (all_of (map (slice_get leg) ps))) (λ p q r s. refl)

    four : (a b c d : ℕ) → symmetrised_numbers (0 ∷ 1 ∷ 2 ∷ 3 ∷ []) (at_places zero_ℚ (leg ∷ leg ∷ leg ∷ leg ∷ []) f) (a ∷ b ∷ c ∷ d ∷ []) ≡ at_places zero_ℚ (leg ∷ leg ∷ leg ∷ leg ∷ []) (ways Scalar f) (a ∷ b ∷ c ∷ d ∷ [])
    four a b c d =
        sum-same_on ring_ℚ.semiring (λ ps. length ps ≡ 4) (orders (a ∷ b ∷ c ∷ d ∷ [])) (λ ps. at_places zero_ℚ (leg ∷ leg ∷ leg ∷ leg ∷ []) f (put_back (a ∷ b ∷ c ∷ d ∷ []) (0 ∷ 1 ∷ 2 ∷ 3 ∷ []) ps)) (λ ps. value_or zero_ℚ f (all_of (map (slice_get leg) ps))) (orders_long (a ∷ b ∷ c ∷ d ∷ [])) (one_order a b c d)
        ∙ sym (sum_orders-map ring_ℚ.semiring (slice_get leg) (a ∷ b ∷ c ∷ d ∷ []) (λ os. value_or zero_ℚ f (all_of os)))
        ∙ orders_of_all f (map (slice_get leg) (a ∷ b ∷ c ∷ d ∷ []))

-- The entries of a matrix times a group's factor and Casimirs, and their sum over the groups.
use Rattle.std.specs.Prelude.{◌≡◌, ◌<◌, ◌≤◌, ◌+◌, ℕ, zero, suc, pos, List, [], ◌∷◌, ◌++◌, map, take, length, get_or, slice_get, Option, Some, None, option_map}
use Rattle.std.specs.List.{All, enumerate_from}
use Rattle.std.proofs.Common.{Ordering, Less, Equal, Greater, refl, sym, subst, ap, ap₂, ◌∙◌, arith, true≢false}
use Rattle.std.proofs.lemmas.List.{length-map, map-append, take_all}
use Rattle.std.proofs.lemmas.List.FromFn.{length-enumerate_from, get_or-enumerate_from}
use Rattle.std.proofs.lemmas.Option.{slice_get-map, slice_get_within, slice_get-get_or, get_or_from_slice_get, same_Some}
use mathlib.Core.Path.{fun_ext}
use Rattle.exact_algebra.specs.Formal.{coefficient-cons, coefficient-nil}
use Rattle.exact_algebra.specs.Maps.{const-mul}
use Rattle.exact_algebra.specs.Solver.{identity}
use Rattle.exact_algebra.specs.Solver.Term.{var, single, ◌⊗◌, opposite}
use Rattle.exact_algebra.specs.Sums.{sum, sum-nil, sum-cons, sum-one, sum-append, sum-mul, sum-mul_right, where_equal}
use Rattle.exact_algebra.specs.TensorContraction.{places_keys, places_cmp}
use Rattle.frac128.specs.Rational.{ℚ, zero_ℚ, one_ℚ, whole, neg_ℚ, ◌+ℚ◌}
use Rattle.frac128.specs.RationalLaws.{ring_ℚ}
use Rattle.beta_poly.specs.Exponents.{AllWithin}
use Rattle.beta_poly.specs.Monomial.{monomials, power}
use Rattle.beta_poly.specs.Polynomial.{Polynomial, poly_ring, zero_test, zero_poly, add_poly, mul_poly, scale_poly, constant}
use Rattle.beta_poly.proofs.ExponentLaws.{AllWithin-term, IsWithin-power}
use Rattle.beta_poly.proofs.Steps.{at_number, coefficient_at, nonzero_at}
use Rattle.sparse_tensor.specs.declared.values.Value.{Value}
use Rattle.sparse_tensor.specs.Tensor.{Tensor, Entries, HasRank, poly_zero_test, rank_of, entries_of, value, value_in}
use Rattle.sparse_tensor.specs.Operations.{entry, gathered_at}
use Rattle.model_core.specs.declared.group.Group.{Group}
use Rattle.model_core.specs.declared.model.Model.{Model}
use Rattle.model_core.specs.Component.{Component, fermion_components}
use Rattle.model_core.specs.GaugeBeta.{casimir_at}
use Rattle.model_core.specs.GaugeTwoLoop.{gauge_symbol, gauge_power, over_groups, negative}
use Rattle.model_core.specs.Scalar.{Coordinate}
use Rattle.model_core.specs.Scalar.Coordinate.{Of}
use Rattle.model_core.specs.TermTensor.{fermion_coordinates, with_coordinate, value_or}
use Rattle.gauge_two_loop.proofs.PieceLaws.{taken}
use Rattle.gauge_two_loop.proofs.Terms.{scaled_term}
use Rattle.beta_formulas.specs.YukawaBeta.{Matrix, yukawa, gauge_part}
use Rattle.yukawa_one_loop.specs.declared.gauges.GaugeLine.{GaugeLine}
use Rattle.yukawa_one_loop.specs.Matrices.{entry_at, matrix_at, IsMatrix, AddsMatrix}
use Rattle.yukawa_one_loop.specs.Parts.{IsInside, gauge_factor, gauge_line, weight_at, weighted, weighted_values, group_part, first_groups}
use Rattle.yukawa_one_loop.proofs.Adding.{adds_none, adds_same, adds_both, adds_behind}

-- ---- entries

-- a value whose key isn't asked for counts for nothing
weight_where : (line : GaugeLine) (key other : List ℕ) (p : Polynomial) (o : Ordering) → places_cmp key other ≡ o → where_equal poly_ring.semiring o (mul_poly (weight_at line other) p) ≡ mul_poly (weight_at line key) (where_equal poly_ring.semiring o p)
weight_where line key other p Less is = sym (poly_ring.semiring.mul_zero (weight_at line key))
weight_where line key other p Equal is = ap (λ k. mul_poly (weight_at line k) p) (sym (places_keys.equal key other is))
weight_where line key other p Greater is = sym (poly_ring.semiring.mul_zero (weight_at line key))

weighted_at : (line : GaugeLine) (es : Entries) (key : List ℕ) → gathered_at (map entry (map (weighted line) es)) key ≡ mul_poly (weight_at line key) (value_in es key)
unfolding gathered_at
weighted_at line [] key =
    sum-nil poly_ring.semiring (λ e. where_equal poly_ring.semiring (places_cmp key e.0) e.1)
    ∙ sym (ap (mul_poly (weight_at line key)) (coefficient-nil places_keys poly_ring.semiring poly_zero_test key) ∙ poly_ring.semiring.mul_zero (weight_at line key))
weighted_at line (e ∷ es) key =
    sum-cons poly_ring.semiring (e.0, mul_poly (weight_at line e.0) e.1) (map entry (map (weighted line) es)) (λ e. where_equal poly_ring.semiring (places_cmp key e.0) e.1)
    ∙ ap₂ add_poly (weight_where line key e.0 e.1 (places_cmp key e.0) refl) (weighted_at line es key)
    ∙ sym (ap (mul_poly (weight_at line key)) (coefficient-cons places_keys poly_ring.semiring poly_zero_test e es key)
    ∙ poly_ring.semiring.mul_add (weight_at line key) (where_equal poly_ring.semiring (places_cmp key e.0) e.1) (value_in es key))

weighted_keys : (rank : ℕ) (line : GaugeLine) (es : Entries) → HasRank rank es → All (λ v. length v.key ≡ rank) (map (weighted line) es)
weighted_keys rank line [] keys i d within = absurd (omega (arith, within))
weighted_keys rank line (e ∷ es) keys zero d within = keys.0
weighted_keys rank line (e ∷ es) keys (suc i) d within = weighted_keys rank line es keys.1 i d (omega arith)

of_two : (P : List ℕ → Type 0) → ((a b : ℕ) → P (a ∷ b ∷ [])) → (key : List ℕ) → length key ≡ 2 → P key
of_two P h [] l = absurd (omega arith)
of_two P h (a ∷ []) l = absurd (omega arith)
of_two P h (a ∷ b ∷ []) l = h a b
of_two P h (a ∷ b ∷ c ∷ key) l = absurd (omega arith)

-- ---- a group

module _ (model : Model) (g : ℕ × Group) where
  abbrev casimirs : List ℚ
  casimirs = map (casimir_at g.1 g.0) (fermion_components model)

  -- the Casimir at a place that has a component
  casimir_there : (i : ℕ) (x : Component) → slice_get (fermion_components model) i ≡ Some x → get_or casimirs i zero_ℚ ≡ casimir_at g.1 g.0 x
  casimir_there i x there =
      get_or_from_slice_get casimirs i (casimir_at g.1 g.0 x) zero_ℚ
      (slice_get-map (casimir_at g.1 g.0) (fermion_components model) i ∙ ap (option_map (casimir_at g.1 g.0)) there)

  -- a matrix times the group's factor and Casimirs
  abbrev times_group : Matrix → Matrix
  times_group matrix j k =
      mul_poly (scale_poly (casimir_at g.1 g.0 j +ℚ casimir_at g.1 g.0 k) (gauge_factor g.0)) (matrix j k)

  by_components : (matrix : Matrix) (a b : ℚ) (o p : Option Component) → ((x : Component) → o ≡ Some x → a ≡ casimir_at g.1 g.0 x) → ((y : Component) → p ≡ Some y → b ≡ casimir_at g.1 g.0 y)
      → mul_poly (scale_poly (a +ℚ b) (gauge_factor g.0)) (value_or zero_poly (entry_at matrix) (with_coordinate (option_map Of o) (with_coordinate (option_map Of p) (Some []))))
      ≡ value_or zero_poly (entry_at (times_group matrix)) (with_coordinate (option_map Of o) (with_coordinate (option_map Of p) (Some [])))
  by_components matrix a b None p first second = poly_ring.semiring.mul_zero (scale_poly (a +ℚ b) (gauge_factor g.0))
  by_components matrix a b (Some x) None first second = poly_ring.semiring.mul_zero (scale_poly (a +ℚ b) (gauge_factor g.0))
  by_components matrix a b (Some x) (Some y) first second =
      ap₂ (λ a b. mul_poly (scale_poly (a +ℚ b) (gauge_factor g.0)) (matrix x y)) (first x refl) (second y refl)

  weighted_matrix : (matrix : Matrix) (i j : ℕ) → mul_poly (weight_at (gauge_line model g) (i ∷ j ∷ [])) (matrix_at model matrix (i ∷ j ∷ [])) ≡ matrix_at model (times_group matrix) (i ∷ j ∷ [])
  weighted_matrix matrix i j =
      let F = fermion_components model in
      let weight = scale_poly (get_or casimirs i zero_ℚ +ℚ get_or casimirs j zero_ℚ) (gauge_factor g.0) in
      let first = slice_get-map Of F i in
      let second = slice_get-map Of F j in
      ap₂ (λ o p. mul_poly weight (value_or zero_poly (entry_at matrix) (with_coordinate o (with_coordinate p (Some []))))) first second
      ∙ by_components matrix (get_or casimirs i zero_ℚ) (get_or casimirs j zero_ℚ) (slice_get F i) (slice_get F j) (casimir_there i) (casimir_there j)
      ∙ ap₂ (λ o p. value_or zero_poly (entry_at (times_group matrix)) (with_coordinate o (with_coordinate p (Some [])))) (sym first) (sym second)

  -- what the entries of a matrix add
  pub adds_weighted : (matrix : Matrix) (t : Tensor) (old new : List Value) → IsMatrix model matrix t → new ≡ old ++ weighted_values (gauge_line model g) t → AddsMatrix model (times_group matrix) old new
  adds_weighted matrix t old new has is =
      let line = gauge_line model g in
      adds_behind model (times_group matrix) old new (weighted_values line t) is
      (subst (λ n. All (λ v. length v.key ≡ n) (weighted_values line t)) has.rank_is (weighted_keys (rank_of t) line (entries_of t) t.1.keys))
      (λ key l.
      weighted_at line (entries_of t) key
      ∙ ap (mul_poly (weight_at line key)) (has.value_is key l)
      ∙ of_two (λ ks. mul_poly (weight_at line ks) (matrix_at model matrix ks) ≡ matrix_at model (times_group matrix) ks) (weighted_matrix matrix) key l)

-- each exponent of the factor is at most 2
pub factor_within : (place : ℕ) → AllWithin 2 (gauge_factor place)
factor_within place =
    AllWithin-term 2 (power (gauge_symbol place) 2) (neg_ℚ (whole (pos 3))) (IsWithin-power (gauge_symbol place) 2)

-- ---- the groups

module _ (model : Model) (a : Coordinate) where
  pub groups_none : (values : List Value) → AddsMatrix model (first_groups 0 model a) values values
  groups_none values = adds_none model (first_groups 0 model a) values (λ j k. sum-nil poly_ring.semiring (λ g. group_part model a g j k))

  -- one group more
  pub groups_more : (place : ℕ) (group : Group) (t : Tensor) (old now new : List Value) → slice_get model.groups place ≡ Some group → IsMatrix model (yukawa model a) t → AddsMatrix model (first_groups place model a) old now
      → new ≡ now ++ weighted_values (gauge_line model (place, group)) t → AddsMatrix model (first_groups (place + 1) model a) old new
  groups_more place group t old now new there has so_far is =
      let R = poly_ring.semiring in
      let before = take place (enumerate_from 0 model.groups) in
      let part = λ (j k : Component) (g : ℕ × Group). group_part model a g j k in
      adds_same model (λ j k. add_poly (first_groups place model a j k) (group_part model a (place, group) j k)) (first_groups (place + 1) model a) old new
      (λ j k. sym (ap (λ gs. sum R gs (part j k)) (taken model.groups place group there)
      ∙ sum-append R before ((place, group) ∷ []) (part j k)
      ∙ ap (add_poly (sum R before (part j k))) (sum-one R (place, group) (part j k))))
      (adds_both model (first_groups place model a) (group_part model a (place, group)) old now new so_far (adds_weighted model (place, group) (yukawa model a) t now new has is))

  minus_three : constant (neg_ℚ (whole (pos 3))) ≡ mul_poly (constant (neg_ℚ one_ℚ)) (constant (whole (pos 3)))
  minus_three =
      ap constant (identity ring_ℚ (whole (pos 3) ∷ []) (opposite (var 0)) (opposite single ⊗ var 0) refl) ∙ const-mul monomials ring_ℚ.semiring zero_test (neg_ℚ one_ℚ) (whole (pos 3))

  all_groups : (j k : Component) → sum poly_ring.semiring (enumerate_from 0 model.groups) (λ g. group_part model a g j k) ≡ negative (gauge_part model a j k)
  unfolding gauge_part
  all_groups j k =
      let R = poly_ring.semiring in
      let gs = enumerate_from 0 model.groups in
      let minus = constant (neg_ℚ one_ℚ) in
      let three = constant (whole (pos 3)) in
      let y = yukawa model a j k in
      let number = λ (g : ℕ × Group). casimir_at g.1 g.0 j +ℚ casimir_at g.1 g.0 k in
      let one = λ (g : ℕ × Group). scale_poly (number g) (gauge_power g.0 2) in
      let each : (g : ℕ × Group) → group_part model a g j k ≡ mul_poly (mul_poly minus three) (mul_poly (one g) y) =
      λ g. ap (λ p. mul_poly (scale_poly (number g) p) y) (scaled_term (neg_ℚ (whole (pos 3))) (power (gauge_symbol g.0) 2) ∙ ap (λ c. mul_poly c (gauge_power g.0 2)) minus_three)
      ∙ identity poly_ring (minus ∷ three ∷ constant (number g) ∷ gauge_power g.0 2 ∷ y ∷ []) ((var 2 ⊗ ((var 0 ⊗ var 1) ⊗ var 3)) ⊗ var 4) ((var 0 ⊗ var 1) ⊗ ((var 2 ⊗ var 3) ⊗ var 4)) refl in
      ap (sum R gs) (fun_ext each)
      ∙ sum-mul R (mul_poly minus three) gs (λ g. mul_poly (one g) y)
      ∙ ap (mul_poly (mul_poly minus three)) (sum-mul_right R y gs one)
      ∙ R.mul_assoc minus three (mul_poly (over_groups model number) y)

  pub groups_all : (place : ℕ) (old new : List Value) → length model.groups ≤ place → AddsMatrix model (first_groups place model a) old new → AddsMatrix model (λ j k. negative (gauge_part model a j k)) old new
  groups_all place old new past =
      adds_same model (first_groups place model a) (λ j k. negative (gauge_part model a j k)) old new
      (λ j k. ap (λ gs. sum poly_ring.semiring gs (λ g. group_part model a g j k)) (take_all place (enumerate_from 0 model.groups) (omega (arith, length-enumerate_from 0 model.groups, past))) ∙ all_groups j k)

-- ---- the lines of groups

no_group : Group
no_group = record { name = []; n = 0; coupling = []; latex = [] }

-- a line that stands for the group at its place
pub record IsGroupLine (model : Model) (place : ℕ) (line : GaugeLine) : Type 0 where
  pub group : Group
  pub there : slice_get model.groups place ≡ Some group
  pub is : line ≡ gauge_line model (place, group)

pub line_group : (model : Model) (place : ℕ) (lines : List GaugeLine) (line : GaugeLine) → lines ≡ map (gauge_line model) (enumerate_from 0 model.groups) → slice_get lines place ≡ Some line → IsGroupLine model place line
line_group model place lines line are there =
    let all = enumerate_from 0 model.groups in
    let found : slice_get (map (gauge_line model) all) place ≡ Some line = ap (λ ls. slice_get ls place) (sym are) ∙ there in
    let within : place < length all = omega (arith, slice_get_within (map (gauge_line model) all) place line found, length-map all (gauge_line model)) in
    let inside : place < length model.groups = omega (arith, within, length-enumerate_from 0 model.groups) in
    let group = get_or model.groups place no_group in
    let here : slice_get model.groups place ≡ Some group = slice_get-get_or model.groups place no_group inside in
    let count : 0 + place ≡ place = omega arith in
    let at : get_or all place (place, group) ≡ (place, group) =
    get_or-enumerate_from 0 model.groups place (place, group) inside ∙ ap₂ (λ n g. (n, g)) count (get_or_from_slice_get model.groups place group group here) in
    let own : slice_get (map (gauge_line model) all) place ≡ Some (gauge_line model (place, group)) =
    slice_get-map (gauge_line model) all place ∙ ap (option_map (gauge_line model)) (slice_get-get_or all place (place, group) within ∙ ap Some at) in
    record { group = group; there = here; is = same_Some line (gauge_line model (place, group)) (sym found ∙ own) }

-- the line of one group more
pub lines_more : (model : Model) (place : ℕ) (group : Group) (found new : List GaugeLine) (line : GaugeLine) → slice_get model.groups place ≡ Some group
    → found ≡ map (gauge_line model) (take place (enumerate_from 0 model.groups)) → line ≡ gauge_line model (place, group) → new ≡ found ++ line ∷ []
    → new ≡ map (gauge_line model) (take (place + 1) (enumerate_from 0 model.groups))
lines_more model place group found new line there so_far is further =
    let before = take place (enumerate_from 0 model.groups) in
    further
    ∙ ap₂ (λ ls l. ls ++ l ∷ []) so_far is
    ∙ sym (map-append (gauge_line model) before ((place, group) ∷ []))
    ∙ ap (map (gauge_line model)) (sym (taken model.groups place group there))

-- ---- entries of a matrix

-- what holds of all entries holds of one
pub entry_meets : {A : Type 0} (P : A → Type 0) (xs : List A) (i : ℕ) (x : A) → All P xs → slice_get xs i ≡ Some x → P x
entry_meets P xs i x all there =
    subst P (get_or_from_slice_get xs i x x there) (all i x (slice_get_within xs i x there))

key_long : (es : Entries) (rank i : ℕ) (d : List ℕ × Polynomial) → HasRank rank es → i < length es → length (get_or es i d).0 ≡ rank
key_long [] rank i d keys h = absurd (omega arith)
key_long (e ∷ es) rank zero d keys h = keys.0
key_long (e ∷ es) rank (suc i) d keys h = key_long es rank i d keys.1 (omega arith)

-- how many places the key of an entry has
pub entry_long : (t : Tensor) (rank i : ℕ) (e : List ℕ × Polynomial) → rank_of t ≡ rank → slice_get (entries_of t) i ≡ Some e → length e.0 ≡ rank
entry_long t rank i e is there =
    subst (λ x. length x.0 ≡ rank) (get_or_from_slice_get (entries_of t) i e e there)
    (key_long (entries_of t) (rank_of t) i e t.1.keys (slice_get_within (entries_of t) i e there) ∙ is)

-- a value that isn't 0 has a coordinate at each place
two_places : (matrix : Matrix) (o p : Option Coordinate) → (value_or zero_poly (entry_at matrix) (with_coordinate o (with_coordinate p (Some []))) ≡ zero_poly → ⊥) → ((c : Coordinate) × (o ≡ Some c)) × ((c : Coordinate) × (p ≡ Some c))
two_places matrix None p nonzero = absurd (nonzero refl)
two_places matrix (Some c) None nonzero = absurd (nonzero refl)
two_places matrix (Some c) (Some d) nonzero = ((c, refl), (d, refl))

places_inside : (model : Model) (matrix : Matrix) (i j : ℕ) → (matrix_at model matrix (i ∷ j ∷ []) ≡ zero_poly → ⊥) → (i < length (fermion_components model)) × (j < length (fermion_components model))
places_inside model matrix i j nonzero =
    let leg = fermion_coordinates model in
    let found = two_places matrix (slice_get leg i) (slice_get leg j) nonzero in
    let count : length leg ≡ length (fermion_components model) = length-map (fermion_components model) Of in
    (omega (arith, count, slice_get_within leg i found.0.0 found.0.1), omega (arith, count, slice_get_within leg j found.1.0 found.1.1))

-- the places of all entries are those of components
pub matrix_inside : (model : Model) (matrix : Matrix) (t : Tensor) → IsMatrix model matrix t → All (IsInside (length (fermion_components model))) (entries_of t)
matrix_inside model matrix t has i d h =
    let es = entries_of t in
    let n = length (fermion_components model) in
    let e = get_or es i d in
    let there = at_number es i d h in
    let long : length e.0 ≡ 2 = key_long es (rank_of t) i d t.1.keys h ∙ has.rank_is in
    let own : value t e.0 ≡ e.1 = coefficient_at places_keys poly_ring.semiring poly_zero_test es i e there t.1.is_map in
    let nonzero : e.1 ≡ zero_poly → ⊥ =
    λ z. true≢false (sym poly_zero_test.at_zero ∙ ap poly_zero_test.is_zero (sym z) ∙ nonzero_at places_keys poly_ring.semiring poly_zero_test es i e there t.1.is_map) in
    of_two (λ key. (matrix_at model matrix key ≡ zero_poly → ⊥) → (get_or key 0 0 < n) × (get_or key 1 0 < n)) (places_inside model matrix) e.0 long
    (λ z. nonzero (sym own ∙ has.value_is e.0 long ∙ z))

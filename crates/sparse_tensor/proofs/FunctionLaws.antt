-- The laws of tensors, contractions, projections and symmetrisations.
use Rattle.std.specs.Prelude.{◌≡◌, ◌≢◌, ◌==◌, ◌<◌, ◌≤◌, ℕ, zero, suc, Bool, true, false, List, [], ◌∷◌, length, get_or, set, IsPermutation}
use Rattle.std.specs.List.{All, AllPairs, insert}
use Rattle.std.specs.Ordering.{nat_cmp}
use Rattle.std.proofs.Common.{refl, sym, ap, ap₂, ◌∙◌, arith}
use Rattle.std.proofs.lemmas.List.{length-map}
use Rattle.std.proofs.lemmas.List.Sorted.{length_permutation}
use mathlib.Core.Path.{fun_ext}
use Rattle.exact_algebra.specs.Ring.{add_mul, mul_left_comm}
use Rattle.exact_algebra.specs.Sums.{sum, sum-add, sum-mul, sum-mul_right, sum-swap, sum-same_on, sum-zero, where_equal, where_equal-apart}
use Rattle.exact_algebra.specs.Formal.{coefficient}
use Rattle.exact_algebra.specs.Kronecker.{where_add, where_mul, mul_where, sum-where}
use Rattle.exact_algebra.specs.Orders.{orders}
use Rattle.exact_algebra.specs.Permuted.{sum_orders-permuted}
use Rattle.exact_algebra.specs.TensorContraction.{places_cmp, places_equal}
use Rattle.beta_poly.specs.Polynomial.{Polynomial, poly_ring, add_poly, mul_poly, scale_poly, zero_poly, constant}
use Rattle.sparse_tensor.specs.declared.links.Link.{Link}
use Rattle.sparse_tensor.specs.Tensor.{Tensor, Entries, HasRank, HasValues, rank_of, entries_of, value, value_in, same_tensors}
use Rattle.sparse_tensor.specs.Operations.{Values, joined, projected_at, symmetrised_at, places_at, put_back}
use Rattle.sparse_tensor.specs.Laws.{added, scaled, beside, TensorLaws, ContractionLaws, ProjectionLaws, SymmetryLaws}
use Rattle.sparse_tensor.proofs.Deltas.{equal_number, other_number}
use Rattle.sparse_tensor.proofs.DenseLaws.{joined-dense}
use Rattle.sparse_tensor.proofs.Projected.{each_rank}
use Rattle.sparse_tensor.proofs.PutBack.{are_legs, places_put_back, overwritten}
use Rattle.sparse_tensor.proofs.Exchanged.{orders_long}

-- ---- tensors

value_elsewhere : (rank : ℕ) (es : Entries) (key : List ℕ) → HasRank rank es → length key ≢ rank → value_in es key ≡ zero_poly
unfolding coefficient
value_elsewhere rank es key keys n =
    sum-same_on poly_ring.semiring (λ e. length e.0 ≡ rank) es (λ e. where_equal poly_ring.semiring (places_cmp key e.0) e.1) (λ e. poly_ring.semiring.zero) (each_rank rank es keys)
    (λ e h. where_equal-apart poly_ring.semiring (places_cmp key e.0) e.1 (λ g. n (ap length (places_equal key e.0 g) ∙ h)))
    ∙ sum-zero poly_ring.semiring es

elsewhere : (t : Tensor) (key : List ℕ) → length key ≢ rank_of t → value t key ≡ zero_poly
elsewhere t key n = value_elsewhere (rank_of t) (entries_of t) key t.1.keys n

same_at : (b : Bool) (s t : Tensor) → rank_of s ≡ rank_of t → ((key : List ℕ) → length key ≡ rank_of t → value s key ≡ value t key) → (key : List ℕ) → (length key == rank_of t) ≡ b → value s key ≡ value t key
same_at true s t r h key b = h key (equal_number (length key) (rank_of t) b)
same_at false s t r h key b =
    let n = other_number (length key) (rank_of t) b in
    elsewhere s key (λ e. n (e ∙ r)) ∙ sym (elsewhere t key n)

same : (s t : Tensor) → rank_of s ≡ rank_of t → ((key : List ℕ) → length key ≡ rank_of t → value s key ≡ value t key) → s ≡ t
same s t r h = same_tensors s t r (λ key. same_at (length key == rank_of t) s t r h key refl)

only_one : (rank : ℕ) (F : Values) (s t : Tensor) → HasValues rank F s → HasValues rank F t → s ≡ t
only_one rank F s t a b =
    same s t (a.rank_is ∙ sym b.rank_is) (λ key l. a.value_is key (l ∙ b.rank_is) ∙ sym (b.value_is key (l ∙ b.rank_is)))

pub tensor_laws : TensorLaws
tensor_laws = record { same = same; only_one = only_one; elsewhere = elsewhere }

-- ---- projections

projected-add : (leg : ℕ) (links : List Link) (f g : Values) (key : List ℕ) → projected_at leg links (added f g) key ≡ add_poly (projected_at leg links f key) (projected_at leg links g key)
unfolding projected_at
projected-add leg links f g key =
    ap (sum poly_ring.semiring links) (fun_ext (λ l. ap (where_equal poly_ring.semiring (nat_cmp l.to (get_or key leg 0))) (poly_ring.semiring.mul_add (constant l.value) (f (set key leg l.from)) (g (set key leg l.from))) ∙ where_add poly_ring.semiring (nat_cmp l.to (get_or key leg 0)) (scale_poly l.value (f (set key leg l.from))) (scale_poly l.value (g (set key leg l.from)))))
    ∙ sum-add poly_ring.semiring links (λ l. where_equal poly_ring.semiring (nat_cmp l.to (get_or key leg 0)) (scale_poly l.value (f (set key leg l.from)))) (λ l. where_equal poly_ring.semiring (nat_cmp l.to (get_or key leg 0)) (scale_poly l.value (g (set key leg l.from))))

projected-scale : (leg : ℕ) (links : List Link) (c : Polynomial) (f : Values) (key : List ℕ) → projected_at leg links (scaled c f) key ≡ mul_poly c (projected_at leg links f key)
unfolding projected_at
projected-scale leg links c f key =
    ap (sum poly_ring.semiring links) (fun_ext (λ l. ap (where_equal poly_ring.semiring (nat_cmp l.to (get_or key leg 0))) (mul_left_comm poly_ring.semiring (constant l.value) c (f (set key leg l.from))) ∙ sym (mul_where poly_ring.semiring (nat_cmp l.to (get_or key leg 0)) c (scale_poly l.value (f (set key leg l.from))))))
    ∙ sum-mul poly_ring.semiring c links (λ l. where_equal poly_ring.semiring (nat_cmp l.to (get_or key leg 0)) (scale_poly l.value (f (set key leg l.from))))

pub projection_laws : ProjectionLaws
projection_laws = record { add = projected-add; scale = projected-scale }

-- ---- contractions

joined-add_first : (p q : ℕ) (links : List Link) (f g h : Values) (ks ls : List ℕ) → joined p q links (added f g) h ks ls ≡ add_poly (joined p q links f h ks ls) (joined p q links g h ks ls)
unfolding joined
joined-add_first p q links f g h ks ls =
    ap (sum poly_ring.semiring links) (fun_ext (λ l. ap (scale_poly l.value) (add_mul poly_ring.semiring (f (insert ks p l.from)) (g (insert ks p l.from)) (h (insert ls q l.to))) ∙ poly_ring.semiring.mul_add (constant l.value) (mul_poly (f (insert ks p l.from)) (h (insert ls q l.to))) (mul_poly (g (insert ks p l.from)) (h (insert ls q l.to)))))
    ∙ sum-add poly_ring.semiring links (λ l. scale_poly l.value (mul_poly (f (insert ks p l.from)) (h (insert ls q l.to)))) (λ l. scale_poly l.value (mul_poly (g (insert ks p l.from)) (h (insert ls q l.to))))

joined-add_second : (p q : ℕ) (links : List Link) (f g h : Values) (ks ls : List ℕ) → joined p q links f (added g h) ks ls ≡ add_poly (joined p q links f g ks ls) (joined p q links f h ks ls)
unfolding joined
joined-add_second p q links f g h ks ls =
    ap (sum poly_ring.semiring links) (fun_ext (λ l. ap (scale_poly l.value) (poly_ring.semiring.mul_add (f (insert ks p l.from)) (g (insert ls q l.to)) (h (insert ls q l.to))) ∙ poly_ring.semiring.mul_add (constant l.value) (mul_poly (f (insert ks p l.from)) (g (insert ls q l.to))) (mul_poly (f (insert ks p l.from)) (h (insert ls q l.to)))))
    ∙ sum-add poly_ring.semiring links (λ l. scale_poly l.value (mul_poly (f (insert ks p l.from)) (g (insert ls q l.to)))) (λ l. scale_poly l.value (mul_poly (f (insert ks p l.from)) (h (insert ls q l.to))))

joined-scale_first : (p q : ℕ) (links : List Link) (c : Polynomial) (f g : Values) (ks ls : List ℕ) → joined p q links (scaled c f) g ks ls ≡ mul_poly c (joined p q links f g ks ls)
unfolding joined
joined-scale_first p q links c f g ks ls =
    ap (sum poly_ring.semiring links) (fun_ext (λ l. ap (scale_poly l.value) (poly_ring.semiring.mul_assoc c (f (insert ks p l.from)) (g (insert ls q l.to))) ∙ mul_left_comm poly_ring.semiring (constant l.value) c (mul_poly (f (insert ks p l.from)) (g (insert ls q l.to)))))
    ∙ sum-mul poly_ring.semiring c links (λ l. scale_poly l.value (mul_poly (f (insert ks p l.from)) (g (insert ls q l.to))))

joined-scale_second : (p q : ℕ) (links : List Link) (c : Polynomial) (f g : Values) (ks ls : List ℕ) → joined p q links f (scaled c g) ks ls ≡ mul_poly c (joined p q links f g ks ls)
unfolding joined
joined-scale_second p q links c f g ks ls =
    ap (sum poly_ring.semiring links) (fun_ext (λ l. ap (scale_poly l.value) (mul_left_comm poly_ring.semiring (f (insert ks p l.from)) c (g (insert ls q l.to))) ∙ mul_left_comm poly_ring.semiring (constant l.value) c (mul_poly (f (insert ks p l.from)) (g (insert ls q l.to)))))
    ∙ sum-mul poly_ring.semiring c links (λ l. scale_poly l.value (mul_poly (f (insert ks p l.from)) (g (insert ls q l.to))))

-- a place at another leg, before and after one leg is left out
get_beside : (ks : List ℕ) (p r x : ℕ) → p ≤ length ks → r < length ks → get_or (insert ks p x) (beside p r) 0 ≡ get_or ks r 0
unfolding beside
get_beside ks zero r x h l = refl
get_beside [] (suc p) r x h l = absurd (omega arith)
get_beside (k ∷ ks) (suc p) zero x h l = refl
get_beside (k ∷ ks) (suc p) (suc r) x h l = get_beside ks p r x (omega arith) (omega arith)

set_beside : (ks : List ℕ) (p r x y : ℕ) → p ≤ length ks → r < length ks → set (insert ks p x) (beside p r) y ≡ insert (set ks r y) p x
unfolding beside
set_beside ks zero r x y h l = refl
set_beside [] (suc p) r x y h l = absurd (omega arith)
set_beside (k ∷ ks) (suc p) zero x y h l = refl
set_beside (k ∷ ks) (suc p) (suc r) x y h l = ap (λ js. k ∷ js) (set_beside ks p r x y (omega arith) (omega arith))

module _ (p q r : ℕ) (links along : List Link) (f g : Values) (ks ls : List ℕ) (hp : p ≤ length ks) (hr : r < length ks) where
  -- what a link of each gives
  abbrev both : Link → Link → Polynomial
  both l m =
      where_equal poly_ring.semiring (nat_cmp m.to (get_or ks r 0)) (scale_poly m.value (scale_poly l.value (mul_poly (f (insert (set ks r m.from) p l.from)) (g (insert ls q l.to)))))

  one_link : (l m : Link) → scale_poly l.value (mul_poly (where_equal poly_ring.semiring (nat_cmp m.to (get_or (insert ks p l.from) (beside p r) 0)) (scale_poly m.value (f (set (insert ks p l.from) (beside p r) m.from)))) (g (insert ls q l.to))) ≡ both l m
  one_link l m =
      ap₂ (λ x k. scale_poly l.value (mul_poly (where_equal poly_ring.semiring (nat_cmp m.to x) (scale_poly m.value (f k))) (g (insert ls q l.to)))) (get_beside ks p r l.from hp hr) (set_beside ks p r l.from m.from hp hr)
      ∙ ap (scale_poly l.value) (where_mul poly_ring.semiring (nat_cmp m.to (get_or ks r 0)) (scale_poly m.value (f (insert (set ks r m.from) p l.from))) (g (insert ls q l.to)))
      ∙ mul_where poly_ring.semiring (nat_cmp m.to (get_or ks r 0)) (constant l.value) (mul_poly (scale_poly m.value (f (insert (set ks r m.from) p l.from))) (g (insert ls q l.to)))
      ∙ ap (where_equal poly_ring.semiring (nat_cmp m.to (get_or ks r 0)))
      (ap (scale_poly l.value) (poly_ring.semiring.mul_assoc (constant m.value) (f (insert (set ks r m.from) p l.from)) (g (insert ls q l.to)))
      ∙ mul_left_comm poly_ring.semiring (constant l.value) (constant m.value) (mul_poly (f (insert (set ks r m.from) p l.from)) (g (insert ls q l.to))))

  before : (l : Link) → scale_poly l.value (mul_poly (projected_at (beside p r) along f (insert ks p l.from)) (g (insert ls q l.to))) ≡ sum poly_ring.semiring along (both l)
  unfolding projected_at
  before l =
      let term : Link → Polynomial = λ m. where_equal poly_ring.semiring (nat_cmp m.to (get_or (insert ks p l.from) (beside p r) 0)) (scale_poly m.value (f (set (insert ks p l.from) (beside p r) m.from))) in
      ap (scale_poly l.value) (sym (sum-mul_right poly_ring.semiring (g (insert ls q l.to)) along term))
      ∙ sym (sum-mul poly_ring.semiring (constant l.value) along (λ m. mul_poly (term m) (g (insert ls q l.to))))
      ∙ ap (sum poly_ring.semiring along) (fun_ext (λ m. one_link l m))

  after : (m : Link) → where_equal poly_ring.semiring (nat_cmp m.to (get_or ks r 0)) (scale_poly m.value (joined p q links f g (set ks r m.from) ls)) ≡ sum poly_ring.semiring links (λ l. both l m)
  unfolding joined
  after m =
      ap (where_equal poly_ring.semiring (nat_cmp m.to (get_or ks r 0))) (sym (sum-mul poly_ring.semiring (constant m.value) links (λ l. scale_poly l.value (mul_poly (f (insert (set ks r m.from) p l.from)) (g (insert ls q l.to))))))
      ∙ sym (sum-where poly_ring.semiring (nat_cmp m.to (get_or ks r 0)) links (λ l. scale_poly m.value (scale_poly l.value (mul_poly (f (insert (set ks r m.from) p l.from)) (g (insert ls q l.to))))))

  joined-project : joined p q links (projected_at (beside p r) along f) g ks ls ≡ projected_at r along (λ js. joined p q links f g js ls) ks
  unfolding joined projected_at
  joined-project =
      ap (sum poly_ring.semiring links) (fun_ext before) ∙ sum-swap poly_ring.semiring links along both
      ∙ sym (ap (sum poly_ring.semiring along) (fun_ext after))

module _ (p q r : ℕ) (links along : List Link) (f g : Values) (ks ls : List ℕ) (hq : q ≤ length ls) (hr : r < length ls) where
  -- what a link of each gives, where the second is projected
  abbrev both_second : Link → Link → Polynomial
  both_second l m =
      where_equal poly_ring.semiring (nat_cmp m.to (get_or ls r 0)) (scale_poly m.value (scale_poly l.value (mul_poly (f (insert ks p l.from)) (g (insert (set ls r m.from) q l.to)))))

  one_link_second : (l m : Link) → scale_poly l.value (mul_poly (f (insert ks p l.from)) (where_equal poly_ring.semiring (nat_cmp m.to (get_or (insert ls q l.to) (beside q r) 0)) (scale_poly m.value (g (set (insert ls q l.to) (beside q r) m.from))))) ≡ both_second l m
  one_link_second l m =
      ap₂ (λ x k. scale_poly l.value (mul_poly (f (insert ks p l.from)) (where_equal poly_ring.semiring (nat_cmp m.to x) (scale_poly m.value (g k))))) (get_beside ls q r l.to hq hr) (set_beside ls q r l.to m.from hq hr)
      ∙ ap (scale_poly l.value) (mul_where poly_ring.semiring (nat_cmp m.to (get_or ls r 0)) (f (insert ks p l.from)) (scale_poly m.value (g (insert (set ls r m.from) q l.to))))
      ∙ mul_where poly_ring.semiring (nat_cmp m.to (get_or ls r 0)) (constant l.value) (mul_poly (f (insert ks p l.from)) (scale_poly m.value (g (insert (set ls r m.from) q l.to))))
      ∙ ap (where_equal poly_ring.semiring (nat_cmp m.to (get_or ls r 0)))
      (ap (scale_poly l.value) (mul_left_comm poly_ring.semiring (f (insert ks p l.from)) (constant m.value) (g (insert (set ls r m.from) q l.to)))
      ∙ mul_left_comm poly_ring.semiring (constant l.value) (constant m.value) (mul_poly (f (insert ks p l.from)) (g (insert (set ls r m.from) q l.to))))

  before_second : (l : Link) → scale_poly l.value (mul_poly (f (insert ks p l.from)) (projected_at (beside q r) along g (insert ls q l.to))) ≡ sum poly_ring.semiring along (both_second l)
  unfolding projected_at
  before_second l =
      let term : Link → Polynomial = λ m. where_equal poly_ring.semiring (nat_cmp m.to (get_or (insert ls q l.to) (beside q r) 0)) (scale_poly m.value (g (set (insert ls q l.to) (beside q r) m.from))) in
      ap (scale_poly l.value) (sym (sum-mul poly_ring.semiring (f (insert ks p l.from)) along term))
      ∙ sym (sum-mul poly_ring.semiring (constant l.value) along (λ m. mul_poly (f (insert ks p l.from)) (term m)))
      ∙ ap (sum poly_ring.semiring along) (fun_ext (λ m. one_link_second l m))

  after_second : (m : Link) → where_equal poly_ring.semiring (nat_cmp m.to (get_or ls r 0)) (scale_poly m.value (joined p q links f g ks (set ls r m.from))) ≡ sum poly_ring.semiring links (λ l. both_second l m)
  unfolding joined
  after_second m =
      ap (where_equal poly_ring.semiring (nat_cmp m.to (get_or ls r 0))) (sym (sum-mul poly_ring.semiring (constant m.value) links (λ l. scale_poly l.value (mul_poly (f (insert ks p l.from)) (g (insert (set ls r m.from) q l.to))))))
      ∙ sym (sum-where poly_ring.semiring (nat_cmp m.to (get_or ls r 0)) links (λ l. scale_poly m.value (scale_poly l.value (mul_poly (f (insert ks p l.from)) (g (insert (set ls r m.from) q l.to))))))

  joined-project_second : joined p q links f (projected_at (beside q r) along g) ks ls ≡ projected_at r along (λ js. joined p q links f g ks js) ls
  unfolding joined projected_at
  joined-project_second =
      ap (sum poly_ring.semiring links) (fun_ext before_second) ∙ sum-swap poly_ring.semiring links along both_second
      ∙ sym (ap (sum poly_ring.semiring along) (fun_ext after_second))

pub contraction_laws : ContractionLaws
contraction_laws =
    record {
      add_first = joined-add_first;
      add_second = joined-add_second;
      scale_first = joined-scale_first;
      scale_second = joined-scale_second;
      project_first = joined-project;
      project_second = joined-project_second;
      dense = joined-dense;
    }

-- ---- symmetrisations

symmetrised-permuted : (legs : List ℕ) (f : Values) (key ps : List ℕ) → All (λ leg. leg < length key) legs → AllPairs (λ i j. i ≢ j) legs → IsPermutation (places_at legs key) ps → symmetrised_at legs f (put_back key legs ps) ≡ symmetrised_at legs f key
unfolding symmetrised_at
symmetrised-permuted legs f key ps inside distinct moved =
    let h = are_legs (length key) legs inside distinct in
    let l : length ps ≡ length legs = length_permutation (places_at legs key) ps moved ∙ length-map legs (λ leg. get_or key leg 0) in
    ap (λ qs. sum poly_ring.semiring (orders qs) (λ w. f (put_back (put_back key legs ps) legs w))) (places_put_back (length key) key legs ps h refl l)
    ∙ sum-same_on poly_ring.semiring (λ w. length w ≡ length ps) (orders ps) (λ w. f (put_back (put_back key legs ps) legs w)) (λ w. f (put_back key legs w)) (orders_long ps) (λ w k. ap f (overwritten (length key) key legs ps w h l (k ∙ l)))
    ∙ sum_orders-permuted poly_ring.semiring (places_at legs key) ps moved (λ w. f (put_back key legs w))

symmetrised-add : (legs : List ℕ) (f g : Values) (key : List ℕ) → symmetrised_at legs (added f g) key ≡ add_poly (symmetrised_at legs f key) (symmetrised_at legs g key)
unfolding symmetrised_at
symmetrised-add legs f g key =
    sum-add poly_ring.semiring (orders (places_at legs key)) (λ ps. f (put_back key legs ps)) (λ ps. g (put_back key legs ps))

symmetrised-scale : (legs : List ℕ) (c : Polynomial) (f : Values) (key : List ℕ) → symmetrised_at legs (scaled c f) key ≡ mul_poly c (symmetrised_at legs f key)
unfolding symmetrised_at
symmetrised-scale legs c f key = sum-mul poly_ring.semiring c (orders (places_at legs key)) (λ ps. f (put_back key legs ps))

pub symmetry_laws : SymmetryLaws
symmetry_laws = record { permuted = symmetrised-permuted; add = symmetrised-add; scale = symmetrised-scale }

-- What a contraction collects has the values of the contraction.
use Rattle.std.specs.Prelude.{◌≡◌, ◌==◌, ◌<◌, ◌≤◌, ◌+◌, ◌-◌, ℕ, zero, suc, List, [], ◌∷◌, ◌++◌, length, map, get_or, take, drop}
use Rattle.std.specs.List.{filter, insert, remove}
use Rattle.std.specs.List.Sorted.{IsPermutation}
use Rattle.std.specs.Ordering.{nat_cmp}
use Rattle.std.proofs.Common.{refl, sym, ap, ◌∙◌, arith, cond, true, false, Bool, subst, length-append, length-drop}
use Rattle.std.proofs.lemmas.List.{length-take-le, take-append-drop}
use mathlib.Core.Path.{fun_ext}
use Rattle.exact_algebra.specs.Sums.{sum, sum-flat_map, sum-map, sum-filter, sum-swap, where_equal, where_true, nat_equal}
use Rattle.exact_algebra.specs.Kronecker.{sum-where, where_same}
use Rattle.exact_algebra.specs.Permuted.{sum-permuted}
use Rattle.exact_algebra.specs.TensorContraction.{places_cmp, joined_at, link_at, contraction, Links}
use Rattle.beta_poly.specs.Polynomial.{Polynomial, poly_ring, constant}
use Rattle.sparse_tensor.specs.declared.links.Link.{Link}
use Rattle.sparse_tensor.specs.Tensor.{Entries, HasRank, value_in}
use Rattle.sparse_tensor.specs.Operations.{gathered_at, joined, contracted_at}
use Rattle.sparse_tensor.specs.Collected.{links_from, met, with_place, met_along, all_met}
use Rattle.sparse_tensor.proofs.Deltas.{place_same, true_equal}
use Rattle.sparse_tensor.proofs.Parts.{ranks_sorted}
use Rattle.sparse_tensor.proofs.Projected.{each_rank, ranks_append}

-- ---- ranks

pub length_remove : (k : List ℕ) (p : ℕ) → p < length k → length (remove k p) + 1 ≡ length k
length_remove [] p l = absurd (omega arith)
length_remove (y ∷ ys) zero l = omega arith
length_remove (y ∷ ys) (suc p) l = let rest = length_remove ys p (omega arith) in omega (arith, rest)

length_met : (m n p q : ℕ) (a : List ℕ × Polynomial) (l : Link) (b : List ℕ × Polynomial) → p < m → q < n → length a.0 ≡ m → length b.0 ≡ n → length (met p q a l b).0 ≡ m + n - 2
length_met m n p q a l b hp hq ha hb =
    length-append (remove a.0 p) (remove b.0 q)
    ∙ (let first = length_remove a.0 p (omega (arith, ha)) in let second = length_remove b.0 q (omega (arith, hb)) in omega (arith, first, second, ha, hb))

module _ (m n p q : ℕ) (hp : p < m) (hq : q < n) (links : List Link) (bs : Entries) (kb : HasRank n bs) where
  ranks_run : (a : List ℕ × Polynomial) (l : Link) (t : List ℕ × Polynomial → Bool) (es : Entries) → length a.0 ≡ m → HasRank n es → HasRank (m + n - 2) (map (met p q a l) (filter t es))
  ranks_run a l t [] ha h = tt
  ranks_run a l t (e ∷ es) ha h = ranks_one (t e) (ranks_run a l t es ha h.1)
    where
      ranks_one : (b : Bool) → HasRank (m + n - 2) (map (met p q a l) (filter t es)) → HasRank (m + n - 2) (map (met p q a l) (cond b (e ∷ filter t es) (filter t es)))
      ranks_one true r = (length_met m n p q a l e hp hq ha h.0, r)
      ranks_one false r = r

  ranks_along : (a : List ℕ × Polynomial) (ls : List Link) → length a.0 ≡ m → HasRank (m + n - 2) (met_along p q ls bs a)
  ranks_along a [] ha = tt
  ranks_along a (l ∷ ls) ha =
      ranks_append (m + n - 2) (map (met p q a l) (with_place q l.to bs)) (met_along p q ls bs a)
      (ranks_run a l (λ e. get_or e.0 q 0 == l.to) bs ha kb) (ranks_along a ls ha)

  pub ranks_met : (es : Entries) → HasRank m es → HasRank (m + n - 2) (all_met p q links bs es)
  ranks_met [] h = tt
  ranks_met (a ∷ es) h =
      ranks_append (m + n - 2) (met_along p q (links_from (get_or a.0 p 0) links) bs a) (all_met p q links bs es)
      (ranks_along a (links_from (get_or a.0 p 0) links) h.0) (ranks_met es h.1)

-- ---- values

abbrev at_key : List ℕ → List ℕ × Polynomial → Polynomial
at_key key e = where_equal poly_ring.semiring (places_cmp key e.0) e.1

-- links as the algebra has them
abbrev weighted : List Link → Links poly_ring.semiring
weighted links = map (λ l. (l.from, l.to, constant l.value)) links

other_way : (x y : ℕ) (c : Polynomial) → where_equal poly_ring.semiring (nat_cmp x y) c ≡ where_equal poly_ring.semiring (nat_cmp y x) c
other_way x y c =
    where_same poly_ring.semiring (nat_cmp x y) (nat_cmp y x) c (λ h. place_same y x (sym (nat_equal x y h))) (λ h. place_same x y (sym (nat_equal y x h)))

module _ (p q : ℕ) (links : List Link) (bs : Entries) (key : List ℕ) where
  abbrev met_at : List ℕ × Polynomial → List ℕ × Polynomial → Link → Polynomial
  met_at a b l = link_at poly_ring.semiring p q a b (l.from, l.to, constant l.value) key

  -- what an entry and the entries that a link goes to give the key
  run_value : (a : List ℕ × Polynomial) (l : Link) → where_true poly_ring.semiring (l.from == get_or a.0 p 0) (sum poly_ring.semiring (map (met p q a l) (with_place q l.to bs)) (at_key key)) ≡ sum poly_ring.semiring bs (λ b. met_at a b l)
  run_value a l =
      true_equal poly_ring.semiring l.from (get_or a.0 p 0) (sum poly_ring.semiring (map (met p q a l) (with_place q l.to bs)) (at_key key))
      ∙ ap (where_equal poly_ring.semiring (nat_cmp l.from (get_or a.0 p 0)))
      (sum-map poly_ring.semiring (met p q a l) (with_place q l.to bs) (at_key key)
      ∙ sum-filter poly_ring.semiring (λ b. get_or b.0 q 0 == l.to) bs (λ b. at_key key (met p q a l b))
      ∙ ap (sum poly_ring.semiring bs) (fun_ext (λ b. true_equal poly_ring.semiring (get_or b.0 q 0) l.to (at_key key (met p q a l b)) ∙ other_way (get_or b.0 q 0) l.to (at_key key (met p q a l b)))))
      ∙ sym (sum-where poly_ring.semiring (nat_cmp l.from (get_or a.0 p 0)) bs (λ b. where_equal poly_ring.semiring (nat_cmp l.to (get_or b.0 q 0)) (at_key key (met p q a l b))))

  along_value : (a : List ℕ × Polynomial) → sum poly_ring.semiring (met_along p q (links_from (get_or a.0 p 0) links) bs a) (at_key key) ≡ sum poly_ring.semiring bs (λ b. sum poly_ring.semiring links (λ l. met_at a b l))
  along_value a =
      sum-flat_map poly_ring.semiring (λ l. map (met p q a l) (with_place q l.to bs)) (links_from (get_or a.0 p 0) links) (at_key key)
      ∙ sum-filter poly_ring.semiring (λ l. l.from == get_or a.0 p 0) links (λ l. sum poly_ring.semiring (map (met p q a l) (with_place q l.to bs)) (at_key key))
      ∙ ap (sum poly_ring.semiring links) (fun_ext (λ l. run_value a l))
      ∙ sum-swap poly_ring.semiring links bs (λ l b. met_at a b l)

  all_value : (es : Entries) → gathered_at (all_met p q links bs es) key ≡ sum poly_ring.semiring es (λ a. sum poly_ring.semiring bs (λ b. sum poly_ring.semiring (weighted links) (λ l. link_at poly_ring.semiring p q a b l key)))
  unfolding gathered_at
  all_value es =
      sum-flat_map poly_ring.semiring (λ a. met_along p q (links_from (get_or a.0 p 0) links) bs a) es (at_key key)
      ∙ ap (sum poly_ring.semiring es) (fun_ext (λ a. along_value a ∙ ap (sum poly_ring.semiring bs) (fun_ext (λ b. sym (sum-map poly_ring.semiring (λ (l : Link). (l.from, l.to, constant l.value)) links (λ l. link_at poly_ring.semiring p q a b l key))))))

joined_value : (p q : ℕ) (links : List Link) (es bs : Entries) (ks ls : List ℕ) → joined_at poly_ring.semiring p q (weighted links) es bs ks ls ≡ joined p q links (value_in es) (value_in bs) ks ls
unfolding joined
joined_value p q links es bs ks ls =
    sum-map poly_ring.semiring (λ (l : Link). (l.from, l.to, constant l.value)) links (λ l. poly_ring.semiring.mul l.2 (poly_ring.semiring.mul (value_in es (insert ks p l.0)) (value_in bs (insert ls q l.1))))

joined-met : (p q : ℕ) (links : List Link) (es bs : Entries) (ks ls : List ℕ) → HasRank (suc (length ks)) es → HasRank (suc (length ls)) bs → p ≤ length ks → q ≤ length ls → gathered_at (all_met p q links bs es) (ks ++ ls) ≡ joined p q links (value_in es) (value_in bs) ks ls
joined-met p q links es bs ks ls ka kb hp hq =
    all_value p q links bs (ks ++ ls) es
    ∙ sym (contraction poly_ring.semiring p q (length ks) (length ls) (weighted links) es bs ks ls refl refl hp hq (each_rank (suc (length ks)) es ka) (each_rank (suc (length ls)) bs kb))
    ∙ joined_value p q links es bs ks ls

-- the joined entries have the values of the contraction
pub contracted-met : (m n p q : ℕ) (links : List Link) (es bs : Entries) (key : List ℕ) → p < m → q < n → HasRank m es → HasRank n bs → length key ≡ m + n - 2 → gathered_at (all_met p q links bs es) key ≡ contracted_at (m - 1) p q links (value_in es) (value_in bs) key
contracted-met m n p q links es bs key hp hq ka kb h =
    let first : length (take (m - 1) key) ≡ m - 1 = length-take-le (m - 1) key (omega (arith, h)) in
    let second : length (drop (m - 1) key) ≡ n - 1 = length-drop (m - 1) key ∙ omega (arith, h) in
    ap (gathered_at (all_met p q links bs es)) (sym (take-append-drop (m - 1) key))
    ∙ joined-met p q links es bs (take (m - 1) key) (drop (m - 1) key)
    (subst (λ r. HasRank r es) (omega (arith, first)) ka) (subst (λ r. HasRank r bs) (omega (arith, second)) kb) (omega (arith, first)) (omega (arith, second))

-- ---- entries in another order

sum_met-permuted : (p q : ℕ) (links : List Link) (es bs cs : Entries) (key : List ℕ) → IsPermutation bs cs → gathered_at (all_met p q links cs es) key ≡ gathered_at (all_met p q links bs es) key
sum_met-permuted p q links es bs cs key h =
    all_value p q links cs key es
    ∙ ap (sum poly_ring.semiring es) (fun_ext (λ a. sum-permuted poly_ring.semiring bs cs h (λ b. sum poly_ring.semiring (weighted links) (λ l. link_at poly_ring.semiring p q a b l key))))
    ∙ sym (all_value p q links bs key es)

pub contracted-permuted : (m n p q : ℕ) (links : List Link) (es bs cs : Entries) (key : List ℕ) → IsPermutation bs cs → p < m → q < n → HasRank m es → HasRank n bs → length key ≡ m + n - 2 → gathered_at (all_met p q links cs es) key ≡ contracted_at (m - 1) p q links (value_in es) (value_in bs) key
contracted-permuted m n p q links es bs cs key h hp hq ka kb l =
    sum_met-permuted p q links es bs cs key h ∙ contracted-met m n p q links es bs key hp hq ka kb l

pub ranks_order : (m n p q : ℕ) (links : List Link) (es bs cs : Entries) → p < m → q < n → IsPermutation bs cs → HasRank m es → HasRank n bs → HasRank (m + n - 2) (all_met p q links cs es)
ranks_order m n p q links es bs cs hp hq perm ka kb = ranks_met m n p q hp hq links cs (ranks_sorted n bs cs perm kb) es ka

-- What a projection collects has the values of the projection.
use Rattle.std.specs.Prelude.{◌≡◌, ◌==◌, ◌<◌, ℕ, zero, suc, List, [], ◌∷◌, ◌++◌, length, map, get_or, set}
use Rattle.std.specs.List.{All}
use Rattle.std.specs.Ordering.{nat_cmp}
use Rattle.std.proofs.Common.{sym, ap, ap₂, ◌∙◌, arith, Equal}
use mathlib.Core.Path.{fun_ext}
use Rattle.exact_algebra.specs.Sums.{sum, sum-flat_map, sum-map, sum-filter, sum-same_on, sum-swap, sum-mul, where_equal, where_true, Each, nat_equal}
use Rattle.exact_algebra.specs.Formal.{coefficient}
use Rattle.exact_algebra.specs.Kronecker.{mul_where, sum-where}
use Rattle.exact_algebra.specs.TensorContraction.{places_cmp, places_equal}
use Rattle.beta_poly.specs.Polynomial.{Polynomial, poly_ring, scale_poly, constant}
use Rattle.sparse_tensor.specs.declared.links.Link.{Link}
use Rattle.sparse_tensor.specs.Tensor.{Entries, HasRank, value_in}
use Rattle.sparse_tensor.specs.Operations.{gathered_at, projected_at}
use Rattle.sparse_tensor.specs.Collected.{links_from, moved, all_moved}
use Rattle.sparse_tensor.proofs.Deltas.{key_same, place_same, true_equal, deltas_same}
use Rattle.sparse_tensor.proofs.KeyLaws.{length_set, get_set, set_back}

-- ---- ranks

pub each_rank : (rank : ℕ) (es : Entries) → HasRank rank es → Each poly_ring.semiring (λ e. length e.0 ≡ rank) es
each_rank rank [] h = tt
each_rank rank (e ∷ es) h = (h.0, each_rank rank es h.1)

pub ranks_append : (rank : ℕ) (es fs : Entries) → HasRank rank es → HasRank rank fs → HasRank rank (es ++ fs)
ranks_append rank [] fs h k = k
ranks_append rank (e ∷ es) fs h k = (h.0, ranks_append rank es fs h.1 k)

pub ranks_map : {A : Type 0} (rank : ℕ) (g : A → List ℕ × Polynomial) (xs : List A) → ((x : A) → length (g x).0 ≡ rank) → HasRank rank (map g xs)
ranks_map rank g [] h = tt
ranks_map rank g (x ∷ xs) h = (h x, ranks_map rank g xs h)

pub ranks_moved : (rank leg : ℕ) (links : List Link) (es : Entries) → HasRank rank es → HasRank rank (all_moved leg links es)
ranks_moved rank leg links [] h = tt
ranks_moved rank leg links (e ∷ es) h =
    ranks_append rank (map (moved leg e) (links_from (get_or e.0 leg 0) links)) (all_moved leg links es)
    (ranks_map rank (moved leg e) (links_from (get_or e.0 leg 0) links) (λ l. length_set e.0 leg l.to ∙ h.0)) (ranks_moved rank leg links es h.1)

pub legs_inside : (rank leg : ℕ) (es : Entries) → leg < rank → HasRank rank es → All (λ e. leg < length e.0) es
legs_inside rank leg [] l h i d k = absurd (omega arith)
legs_inside rank leg (e ∷ es) l h zero d k = let same = h.0 in omega (arith, same)
legs_inside rank leg (e ∷ es) l h (suc i) d k = legs_inside rank leg es l h.1 i d (omega arith)

-- ---- values

one_moved : (leg : ℕ) (key k : List ℕ) (l : Link) (c : Polynomial) → leg < length key → length k ≡ length key → where_true poly_ring.semiring (l.from == get_or k leg 0) (where_equal poly_ring.semiring (places_cmp key (set k leg l.to)) c) ≡ where_equal poly_ring.semiring (nat_cmp l.to (get_or key leg 0)) (where_equal poly_ring.semiring (places_cmp (set key leg l.from) k) c)
one_moved leg key k l c inside same =
    true_equal poly_ring.semiring l.from (get_or k leg 0) (where_equal poly_ring.semiring (places_cmp key (set k leg l.to)) c)
    ∙ deltas_same poly_ring.semiring (nat_cmp l.from (get_or k leg 0)) (places_cmp key (set k leg l.to)) (nat_cmp l.to (get_or key leg 0)) (places_cmp (set key leg l.from) k) c there back
  where
    there : nat_cmp l.from (get_or k leg 0) ≡ Equal → places_cmp key (set k leg l.to) ≡ Equal → (nat_cmp l.to (get_or key leg 0) ≡ Equal) × (places_cmp (set key leg l.from) k ≡ Equal)
    there h g =
        let from = nat_equal l.from (get_or k leg 0) h in
        let whole = places_equal key (set k leg l.to) g in
        let within : leg < length k = omega (arith, same) in (
          place_same l.to (get_or key leg 0) (sym (ap (λ y. get_or y leg 0) whole ∙ get_set k leg l.to within)),
          key_same (set key leg l.from) k (ap₂ (λ y x. set y leg x) whole from ∙ set_back k leg l.to within),
        )

    back : nat_cmp l.to (get_or key leg 0) ≡ Equal → places_cmp (set key leg l.from) k ≡ Equal → (nat_cmp l.from (get_or k leg 0) ≡ Equal) × (places_cmp key (set k leg l.to) ≡ Equal)
    back h g =
        let to = nat_equal l.to (get_or key leg 0) h in
        let whole = places_equal (set key leg l.from) k g in (
          place_same l.from (get_or k leg 0) (sym (ap (λ y. get_or y leg 0) (sym whole) ∙ get_set key leg l.from inside)),
          key_same key (set k leg l.to) (sym (ap₂ (λ y x. set y leg x) (sym whole) to ∙ set_back key leg l.from inside)),
        )

-- what an entry and a link give a key
abbrev given : ℕ → List ℕ → List ℕ × Polynomial → Link → Polynomial
given leg key e l =
    where_equal poly_ring.semiring (nat_cmp l.to (get_or key leg 0)) (where_equal poly_ring.semiring (places_cmp (set key leg l.from) e.0) (scale_poly l.value e.1))

abbrev at_key : List ℕ → List ℕ × Polynomial → Polynomial
at_key key e = where_equal poly_ring.semiring (places_cmp key e.0) e.1

row : (leg : ℕ) (links : List Link) (key : List ℕ) (e : List ℕ × Polynomial) → leg < length key → length e.0 ≡ length key → sum poly_ring.semiring (map (moved leg e) (links_from (get_or e.0 leg 0) links)) (at_key key) ≡ sum poly_ring.semiring links (given leg key e)
row leg links key e inside same =
    sum-map poly_ring.semiring (moved leg e) (links_from (get_or e.0 leg 0) links) (at_key key)
    ∙ sum-filter poly_ring.semiring (λ l. l.from == get_or e.0 leg 0) links (λ l. at_key key (moved leg e l))
    ∙ ap (sum poly_ring.semiring links) (fun_ext (λ l. one_moved leg key e.0 l (scale_poly l.value e.1) inside same))

column : (leg : ℕ) (es : Entries) (key : List ℕ) (l : Link) → where_equal poly_ring.semiring (nat_cmp l.to (get_or key leg 0)) (scale_poly l.value (value_in es (set key leg l.from))) ≡ sum poly_ring.semiring es (λ e. given leg key e l)
unfolding coefficient
column leg es key l =
    ap (where_equal poly_ring.semiring (nat_cmp l.to (get_or key leg 0)))
    (sym (sum-mul poly_ring.semiring (constant l.value) es (at_key (set key leg l.from))) ∙ ap (sum poly_ring.semiring es) (fun_ext (λ e. mul_where poly_ring.semiring (places_cmp (set key leg l.from) e.0) (constant l.value) e.1)))
    ∙ sym (sum-where poly_ring.semiring (nat_cmp l.to (get_or key leg 0)) es (λ e. where_equal poly_ring.semiring (places_cmp (set key leg l.from) e.0) (scale_poly l.value e.1)))

-- the moved entries have the values of the projection
pub projected-moved : (rank leg : ℕ) (links : List Link) (es : Entries) (key : List ℕ) → leg < rank → HasRank rank es → length key ≡ rank → gathered_at (all_moved leg links es) key ≡ projected_at leg links (value_in es) key
unfolding gathered_at projected_at
projected-moved rank leg links es key inside keys same =
    sum-flat_map poly_ring.semiring (λ e. map (moved leg e) (links_from (get_or e.0 leg 0) links)) es (at_key key)
    ∙ sum-same_on poly_ring.semiring (λ e. length e.0 ≡ rank) es (λ e. sum poly_ring.semiring (map (moved leg e) (links_from (get_or e.0 leg 0) links)) (at_key key)) (λ e. sum poly_ring.semiring links (given leg key e)) (each_rank rank es keys)
    (λ e h. row leg links key e (omega (arith, same, inside)) (h ∙ sym same))
    ∙ sum-swap poly_ring.semiring es links (given leg key)
    ∙ ap (sum poly_ring.semiring links) (fun_ext (λ l. sym (column leg es key l)))

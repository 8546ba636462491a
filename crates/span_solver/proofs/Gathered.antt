-- The keys of directions as one list: they ascend, they have the directions' rank, and at every other key all directions are 0.
use Rattle.std.specs.Prelude.{◌≡◌, ◌⊎◌, ℕ, zero, suc, ◌<◌, ◌+◌, List, [], ◌∷◌, ◌++◌, length, map, take, drop, get_or, slice_get, Some}
use Rattle.std.specs.List.{All}
use Rattle.std.specs.Option.{option_map}
use Rattle.std.proofs.lemmas.Option.{slice_get_read, slice_get-map}
use Rattle.std.proofs.Common.{refl, sym, ap, ap₂, ◌∙◌, subst, arith, inl, inr, add-one, Less}
use Rattle.std.proofs.lemmas.List.{length-map}
use Rattle.exact_algebra.specs.Formal.{AllKeys, Ascending}
use Rattle.exact_algebra.specs.TensorContraction.{places_cmp, places_keys}
use Rattle.frac128.specs.Rational.{ℚ, zero_ℚ}
use Rattle.beta_poly.specs.Monomial.{one_monomial}
use Rattle.beta_poly.specs.Polynomial.{Polynomial, zero_poly, coefficient_of}
use Rattle.sparse_tensor.specs.Tensor.{Entries, HasRank, entries_of, rank_of, value}
use Rattle.term_expand.specs.declared.directions.Direction.{Direction}
use Rattle.span_solver.specs.Block.{IsIn, Ascend, numbers_at, block_rows, IsBlock}
use Rattle.span_solver.specs.BlockDirections.{HasForm, numbers_of}
use Rattle.span_solver.specs.ChosenDirections.{gathered_keys, keys_of}
use Rattle.span_solver.specs.Combine.{Each, AreZero, Each-implies}
use Rattle.span_solver.specs.MergedKeys.{merge_keys}
use Rattle.span_solver.specs.Scanned.{AreKnown}
use Rattle.span_solver.proofs.Merges.{each-merge, in-left, in-right, ascend-merge}
use Rattle.span_solver.proofs.Opens.{known-all, IsKnown}
use Rattle.span_solver.proofs.Values.{no_coefficient}

-- ---- the keys of one direction
each-above : (key : List ℕ) (es : Entries) → AllKeys places_keys Polynomial (λ j. places_cmp key j ≡ Less) es → Each (λ j. places_cmp key j ≡ Less) (map (λ e. e.0) es)
each-above key [] h = tt
each-above key (e ∷ es) h = (h.0, each-above key es h.1)

ascend-entries : (es : Entries) → Ascending places_keys Polynomial es → Ascend (map (λ e. e.0) es)
ascend-entries [] h = tt
ascend-entries (e ∷ es) h = (each-above e.0 es h.0, ascend-entries es h.1)

rank-entries : (rank : ℕ) (es : Entries) → HasRank rank es → Each (λ key. length key ≡ rank) (map (λ e. e.0) es)
rank-entries rank [] h = tt
rank-entries rank (e ∷ es) h = (h.0, rank-entries rank es h.1)

known-self : (es : Entries) → AreKnown (map (λ e. e.0) es) es
known-self [] = tt
known-self (e ∷ es) = (
  inl refl,
  Each-implies (λ f. IsIn f.0 (map (λ g. g.0) es)) (λ f. IsIn f.0 (e.0 ∷ map (λ g. g.0) es)) es (λ f i. inr i) (known-self es),
)

pub zero_number : (d : Direction) (key : List ℕ) → value d.tensor key ≡ zero_poly → numbers_of d key ≡ zero_ℚ
zero_number d key h = ap (λ p. coefficient_of p one_monomial) h ∙ no_coefficient one_monomial

-- ---- the keys of all
pub in-gathered : (key : List ℕ) (keys : List (List ℕ)) (ds : List Direction) → IsIn key keys → IsIn key (gathered_keys keys ds)
in-gathered key keys [] i = i
in-gathered key keys (d ∷ ds) i = in-gathered key (merge_keys keys (keys_of d)) ds (in-left key keys (keys_of d) i)

pub ascend-gathered : (keys : List (List ℕ)) (ds : List Direction) → Ascend keys → Ascend (gathered_keys keys ds)
ascend-gathered keys [] h = h
ascend-gathered keys (d ∷ ds) h =
    ascend-gathered (merge_keys keys (keys_of d)) ds (ascend-merge keys (keys_of d) h (ascend-entries (entries_of d.tensor) d.tensor.1.is_map.ascending))

pub covers-gathered : (key : List ℕ) (keys : List (List ℕ)) (ds : List Direction) → IsIn key (gathered_keys keys ds) ⊎ AreZero (numbers_at (map numbers_of ds) key)
covers-gathered key keys [] = inr tt
covers-gathered key keys (d ∷ ds) = both (known-all (entries_of d.tensor) (keys_of d) (known-self (entries_of d.tensor)) key) (covers-gathered key (merge_keys keys (keys_of d)) ds)
  where
    both : IsKnown (value d.tensor) (keys_of d) key → IsIn key (gathered_keys (merge_keys keys (keys_of d)) ds) ⊎ AreZero (numbers_at (map numbers_of ds) key) → IsIn key (gathered_keys (merge_keys keys (keys_of d)) ds) ⊎ AreZero (numbers_at (map numbers_of (d ∷ ds)) key)
    both (inl i) r = inl (in-gathered key (merge_keys keys (keys_of d)) ds (in-right key keys (keys_of d) i))
    both (inr z) (inl i) = inl i
    both (inr z) (inr y) = inr (zero_number d key z, y)

pub all-each : {X : Type 0} (P : X → Type 0) (xs : List X) → All P xs → Each P xs
all-each P [] h = tt
all-each P (x ∷ xs) h = (h zero x (omega arith), all-each P xs (λ k d l. h (suc k) d (omega arith)))

pub rank-gathered : (rank : ℕ) (keys : List (List ℕ)) (ds : List Direction) → Each (λ key. length key ≡ rank) keys → Each (HasForm rank) ds → Each (λ key. length key ≡ rank) (gathered_keys keys ds)
rank-gathered rank keys [] h f = h
rank-gathered rank keys (d ∷ ds) h f =
    rank-gathered rank (merge_keys keys (keys_of d)) ds
    (each-merge (λ key. length key ≡ rank) keys (keys_of d) h (subst (λ r. Each (λ key. length key ≡ r) (keys_of d)) f.0.rank_is (rank-entries (rank_of d.tensor) (entries_of d.tensor) d.tensor.1.keys))) f.1

one_rank : (rank : ℕ) (key : List ℕ) (ds : List Direction) → length key ≡ rank → Each (HasForm rank) ds → Each (λ d. rank_of d.tensor ≡ length key) ds
one_rank rank key [] l f = tt
one_rank rank key (d ∷ ds) l f = (f.0.rank_is ∙ sym l, one_rank rank key ds l f.1)

-- each key has the rank of each direction
pub ranks_meet : (rank : ℕ) (keys : List (List ℕ)) (ds : List Direction) → Each (λ key. length key ≡ rank) keys → Each (HasForm rank) ds → Each (λ key. Each (λ d. rank_of d.tensor ≡ length key) ds) keys
ranks_meet rank [] ds h f = tt
ranks_meet rank (k ∷ keys) ds h f = (one_rank rank k ds h.0 f, ranks_meet rank keys ds h.1 f)

-- ---- the rows
numbers-fused : (ds : List Direction) (key : List ℕ) → map (λ d. numbers_of d key) ds ≡ numbers_at (map numbers_of ds) key
numbers-fused [] key = refl
numbers-fused (d ∷ ds) key = ap (λ r. numbers_of d key ∷ r) (numbers-fused ds key)

rows-fused : (ds : List Direction) (keys : List (List ℕ)) → map (λ key. map (λ d. numbers_of d key) ds) keys ≡ map (numbers_at (map numbers_of ds)) keys
rows-fused ds [] = refl
rows-fused ds (k ∷ keys) = ap₂ ◌∷◌ (numbers-fused ds k) (rows-fused ds keys)

-- what the program builds is the block of the directions
pub block-of : (ds found : List Direction) (count : ℕ) (keys : List (List ℕ)) (rows : List (List ℚ)) → found ≡ ds → count ≡ length found → keys ≡ gathered_keys [] found → rows ≡ map (λ key. map (λ d. numbers_of d key) found) keys → IsBlock (map numbers_of ds) (block_rows count keys rows)
block-of ds found count keys rows f c k r = record {
  many = c ∙ ap length f ∙ sym (length-map ds numbers_of);
  rows_are = r ∙ ap (λ fs. map (λ key. map (λ d. numbers_of d key) fs) keys) f ∙ rows-fused ds keys;
  covers = subst (λ ks. (key : List ℕ) → IsIn key ks ⊎ AreZero (numbers_at (map numbers_of ds) key)) (sym (k ∙ ap (gathered_keys []) f)) (λ key. covers-gathered key [] ds);
  ascend = subst Ascend (sym k) (ascend-gathered [] found tt);
}

pub rank-of : (rank : ℕ) (ds found : List Direction) (keys : List (List ℕ)) → found ≡ ds → keys ≡ gathered_keys [] found → All (HasForm rank) ds → Each (λ key. length key ≡ rank) keys
rank-of rank ds found keys f k h =
    subst (λ ks. Each (λ key. length key ≡ rank) ks) (sym (k ∙ ap (gathered_keys []) f)) (rank-gathered rank [] ds tt (all-each (HasForm rank) ds h))

pub meet-of : (rank : ℕ) (ds found : List Direction) (keys : List (List ℕ)) → found ≡ ds → keys ≡ gathered_keys [] found → All (HasForm rank) ds → Each (λ key. Each (λ d. rank_of d.tensor ≡ length key) found) keys
meet-of rank ds found keys f k h =
    ranks_meet rank keys found (rank-of rank ds found keys f k h) (subst (Each (HasForm rank)) (sym f) (all-each (HasForm rank) ds h))

-- ---- loops over references
pub each-image : {X Y : Type 0} (xs : List X) (f : X → Y) (Q : Y → Type 0) (i : ℕ) (x : X) → Each Q (map f xs) → i < length xs → x ≡ get_or xs i x → Q (f x)
each-image [] f Q i x h l e = absurd (omega arith)
each-image (y ∷ xs) f Q zero x h l e = subst (λ z. Q (f z)) (sym e) h.0
each-image (y ∷ xs) f Q (suc i) x h l e = each-image xs f Q i x h.1 (omega arith) e

pub image_at : {X Y : Type 0} (xs : List X) (f : X → Y) (i : ℕ) (x : X) → i < length xs → x ≡ get_or xs i x → slice_get (map f xs) i ≡ Some (f x)
image_at xs f i x l e = slice_get-map f xs i ∙ ap (option_map f) (slice_get_read xs (length xs) i x refl l e)

pub image_of_image : {X Y Z : Type 0} (xs : List X) (f : X → Y) (g : Y → Z) (i : ℕ) (x : X) → i < length xs → x ≡ get_or xs i x → slice_get (map g (map f xs)) i ≡ Some (g (f x))
image_of_image xs f g i x l e = slice_get-map g (map f xs) i ∙ ap (option_map g) (image_at xs f i x l e)

one_more : {X : Type 0} (ys : List X) (i : ℕ) (y : X) → slice_get ys i ≡ Some y → take i ys ++ y ∷ [] ≡ take (suc i) ys
one_more [] i y e = absurd (cc e)
one_more (z ∷ ys) zero y e = let same : z ≡ y = cc e in ap (λ w. w ∷ []) (sym same)
one_more (z ∷ ys) (suc i) y e = ap (λ r. z ∷ r) (one_more ys i y e)

pub take-next : {X : Type 0} (ys : List X) (i : ℕ) (y : X) (out new : List X) → slice_get ys i ≡ Some y → out ≡ take i ys → new ≡ out ++ y ∷ [] → new ≡ take (i + 1) ys
take-next ys i y out new e h n = n ∙ ap (λ r. r ++ y ∷ []) h ∙ one_more ys i y e ∙ ap (λ k. take k ys) (sym (add-one i))

drop-next : {X : Type 0} (ys : List X) (i : ℕ) (y : X) → slice_get ys i ≡ Some y → drop i ys ≡ y ∷ drop (suc i) ys
drop-next [] i y e = absurd (cc e)
drop-next (z ∷ ys) zero y e = let same : z ≡ y = cc e in ap (λ w. w ∷ ys) same
drop-next (z ∷ ys) (suc i) y e = drop-next ys i y e

pub gathered-more : (ys : List Direction) (i : ℕ) (d : Direction) (keys next whole : List (List ℕ)) → slice_get ys i ≡ Some d → gathered_keys keys (drop i ys) ≡ whole → next ≡ merge_keys keys (keys_of d) → gathered_keys next (drop (i + 1) ys) ≡ whole
gathered-more ys i d keys next whole e h n =
    ap₂ (λ ks k. gathered_keys ks (drop k ys)) n (add-one i) ∙ ap (gathered_keys keys) (sym (drop-next ys i d e)) ∙ h

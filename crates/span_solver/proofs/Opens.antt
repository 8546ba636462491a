-- Rows that fail and entries that the block doesn't have give the first key up to which nothing solves the equations.
use Rattle.std.specs.Prelude.{◌≡◌, ◌≢◌, ◌⊎◌, ℕ, zero, suc, ◌<◌, ◌≤◌, ◌+◌, List, [], ◌∷◌, ◌++◌, length, map, take, get_or, Some, slice_get}
use Rattle.std.proofs.Common.{refl, sym, ap, ◌∙◌, subst, arith, inl, inr, add-one, Ordering, Less, Equal, Greater}
use Rattle.std.proofs.lemmas.Cmp.{tied_itself}
use Rattle.std.specs.Ordering.{ordering_index}
use Rattle.std.specs.List.Sorted.{IsNonDecreasingBy}
use Rattle.std.proofs.lemmas.List.{length-map}
use Rattle.exact_algebra.specs.TensorContraction.{places_cmp, places_keys, places_equal}
use Rattle.exact_algebra.specs.Formal.{Above, Ascending, Above-after, coefficient-cons, coefficient-nil}
use Rattle.exact_algebra.specs.Ring.{zero_add}
use Rattle.exact_algebra.specs.Sums.{where_equal}
use Rattle.frac128.specs.Rational.{ℚ}
use Rattle.beta_poly.specs.Polynomial.{Polynomial, poly_ring, zero_poly, add_poly, scale_poly}
use Rattle.sparse_tensor.specs.Tensor.{Entries, value_in, poly_zero_test}
use Rattle.span_solver.specs.Algebra.{polynomials}
use Rattle.span_solver.specs.Block.{IsIn, Ascend, numbers_at}
use Rattle.span_solver.specs.Combine.{Each, AreZero, combine, combine-zeros}
use Rattle.span_solver.specs.Coordinate.{moved, AreCoordinates, IsOpenAt}
use Rattle.span_solver.specs.Dependence.{Numbers}
use Rattle.span_solver.specs.Elimination.{HaveLength, pivots, pivots-are, select, ArePivots}
use Rattle.span_solver.specs.Scan.{FailsFirst, not_spanned}
use Rattle.span_solver.specs.Scanned.{valued, AreKnown, IsFirstStray}
use Rattle.span_solver.specs.Systems.{entries, Solves}

-- ---- sums of directions at a key are sums of a row
pub moved-combine : (xs : List Polynomial) (ds : List Numbers) (key : List ℕ) → moved xs ds key ≡ combine polynomials (numbers_at ds key) xs
moved-combine [] [] key = refl
moved-combine [] (d ∷ ds) key = refl
moved-combine (x ∷ xs) [] key = refl
moved-combine (x ∷ xs) (d ∷ ds) key = ap (λ y. add_poly (scale_poly (d key) x) y) (moved-combine xs ds key)

nothing_moved : (xs : List Polynomial) (ds : List Numbers) (key : List ℕ) → AreZero (numbers_at ds key) → moved xs ds key ≡ zero_poly
nothing_moved xs ds key z = moved-combine xs ds key ∙ combine-zeros polynomials (numbers_at ds key) xs z

-- the rows of directions, with values
abbrev pub rows_of : (List ℕ → Polynomial) → List Numbers → List (List ℕ) → List (List ℚ × Polynomial)
rows_of at ds keys = valued at keys (map (numbers_at ds) keys)

pub entries-valued : (at : List ℕ → Polynomial) (keys : List (List ℕ)) (rows : List (List ℚ)) → length keys ≡ length rows → entries polynomials (valued at keys rows) ≡ rows
entries-valued at [] [] l = refl
entries-valued at [] (e ∷ rows) l = absurd (omega arith)
entries-valued at (k ∷ keys) [] l = absurd (omega arith)
entries-valued at (k ∷ keys) (e ∷ rows) l = ap (λ es. e ∷ es) (entries-valued at keys rows (omega arith))

pub lengths-of : (ds : List Numbers) (keys : List (List ℕ)) → HaveLength (length ds) (map (numbers_at ds) keys)
lengths-of ds [] = tt
lengths-of ds (k ∷ keys) = (length-map ds (λ d. d k), lengths-of ds keys)

-- ---- the order of keys
never_before : (key : List ℕ) → places_cmp key key ≡ Less → ⊥
never_before key l = let e : places_cmp key key ≡ Equal = tied_itself places_keys.total key in let none : ⊥ = cc (l, e) in none

each-in : (P : List ℕ → Type 0) (key : List ℕ) (keys : List (List ℕ)) → Each P keys → IsIn key keys → P key
each-in P key [] h i = absurd i
each-in P key (k ∷ keys) h (inl e) = subst P (sym e) h.0
each-in P key (k ∷ keys) h (inr i) = each-in P key keys h.1 i

pub each-at : {X : Type 0} (P : X → Type 0) (xs : List X) (i : ℕ) (x : X) → Each P xs → slice_get xs i ≡ Some x → P x
each-at P [] i x h e = absurd (cc e)
each-at P (y ∷ xs) zero x h e = let same : y ≡ x = cc e in subst P same h.0
each-at P (y ∷ xs) (suc i) x h e = each-at P xs i x h.1 e

-- ---- solved rows are solved keys
pub solved-in : (at : List ℕ → Polynomial) (ds : List Numbers) (xs : List Polynomial) (keys : List (List ℕ)) → Solves polynomials xs (rows_of at ds keys) → (key : List ℕ) → IsIn key keys → moved xs ds key ≡ at key
solved-in at ds xs [] s key i = absurd i
solved-in at ds xs (k ∷ keys) s key (inl e) = subst (λ j. moved xs ds j ≡ at j) (sym e) (moved-combine xs ds k ∙ s.0)
solved-in at ds xs (k ∷ keys) s key (inr i) = solved-in at ds xs keys s.1 key i

pub solved-before : (at : List ℕ → Polynomial) (ds : List Numbers) (xs : List Polynomial) (keys : List (List ℕ)) (m : ℕ) (end : List ℕ) → Ascend keys → FailsFirst polynomials xs m (rows_of at ds keys) → slice_get keys m ≡ Some end → (key : List ℕ) → IsIn key keys → places_cmp key end ≡ Less → moved xs ds key ≡ at key
solved-before at ds xs [] m end a f e key i l = absurd i
solved-before at ds xs (k ∷ keys) zero end a f e key (inl h) l =
    let same : k ≡ end = cc e in absurd (never_before end (subst (λ j. places_cmp j end ≡ Less) (h ∙ same) l))
solved-before at ds xs (k ∷ keys) zero end a f e key (inr i) l =
    let same : k ≡ end = cc e in
    let after : places_cmp k key ≡ Less = each-in (λ j. places_cmp k j ≡ Less) key keys a.0 i in
    absurd (never_before end (places_keys.total.trans end key end (subst (λ j. places_cmp j key ≡ Less) same after) l))
solved-before at ds xs (k ∷ keys) (suc m) end a f e key (inl h) l = subst (λ j. moved xs ds j ≡ at j) (sym h) (moved-combine xs ds k ∙ f.0)
solved-before at ds xs (k ∷ keys) (suc m) end a f e key (inr i) l = solved-before at ds xs keys m end a.1 f.1 e key i l

-- what solves the keys up to one solves the rows up to it
solves-up_to : (at : List ℕ → Polynomial) (ds : List Numbers) (ys : List Polynomial) (keys : List (List ℕ)) (m : ℕ) (end : List ℕ) → Ascend keys → slice_get keys m ≡ Some end → ((key : List ℕ) → places_cmp key end ≡ Less → moved ys ds key ≡ at key) → moved ys ds end ≡ at end → Solves polynomials ys (take (suc m) (rows_of at ds keys))
solves-up_to at ds ys [] m end a e b h = absurd (cc e)
solves-up_to at ds ys (k ∷ keys) zero end a e b h =
    let same : k ≡ end = cc e in (sym (moved-combine ys ds k) ∙ subst (λ j. moved ys ds j ≡ at j) (sym same) h, tt)
solves-up_to at ds ys (k ∷ keys) (suc m) end a e b h =
    (sym (moved-combine ys ds k) ∙ b k (each-at (λ j. places_cmp k j ≡ Less) keys m end a.0 e), solves-up_to at ds ys keys m end a.1 e b h)

-- ---- keys that the block has, and keys at which the tensor is 0
-- a key of the list, or one at which the value is 0
abbrev pub IsKnown : (List ℕ → Polynomial) → List (List ℕ) → List ℕ → Type 0
IsKnown at keys key = IsIn key keys ⊎ (at key ≡ zero_poly)

solved_at : (at : List ℕ → Polynomial) (ds : List Numbers) (xs : List Polynomial) (keys : List (List ℕ)) (key : List ℕ) → IsIn key keys ⊎ AreZero (numbers_at ds key) → IsKnown at keys key → (IsIn key keys → moved xs ds key ≡ at key) → moved xs ds key ≡ at key
solved_at at ds xs keys key (inl i) k s = s i
solved_at at ds xs keys key (inr z) (inl i) s = s i
solved_at at ds xs keys key (inr z) (inr n) s = nothing_moved xs ds key z ∙ sym n

other_key : (o : Ordering) (e : List ℕ × Polynomial) (es : Entries) (key : List ℕ) → places_cmp key e.0 ≡ o → o ≢ Equal → value_in (e ∷ es) key ≡ value_in es key
other_key Less e es key h n =
    coefficient-cons places_keys poly_ring.semiring poly_zero_test e es key ∙ ap (λ o. add_poly (where_equal poly_ring.semiring o e.1) (value_in es key)) h ∙ zero_add poly_ring.semiring (value_in es key)
other_key Equal e es key h n = absurd (n refl)
other_key Greater e es key h n =
    coefficient-cons places_keys poly_ring.semiring poly_zero_test e es key ∙ ap (λ o. add_poly (where_equal poly_ring.semiring o e.1) (value_in es key)) h ∙ zero_add poly_ring.semiring (value_in es key)

less_other : Less ≢ Equal
less_other e = absurd (cc e)

greater_other : Greater ≢ Equal
greater_other e = absurd (cc e)

known-more : (e : List ℕ × Polynomial) (es : Entries) (keys : List (List ℕ)) (key : List ℕ) (o : Ordering) → places_cmp key e.0 ≡ o → IsIn e.0 keys → IsKnown (value_in es) keys key → IsKnown (value_in (e ∷ es)) keys key
known-more e es keys key Equal h i k = inl (subst (λ j. IsIn j keys) (sym (places_equal key e.0 h)) i)
known-more e es keys key Less h i (inl j) = inl j
known-more e es keys key Less h i (inr z) = inr (other_key Less e es key h less_other ∙ z)
known-more e es keys key Greater h i (inl j) = inl j
known-more e es keys key Greater h i (inr z) = inr (other_key Greater e es key h greater_other ∙ z)

pub known-all : (es : Entries) (keys : List (List ℕ)) → AreKnown keys es → (key : List ℕ) → IsKnown (value_in es) keys key
known-all [] keys h key = inr (coefficient-nil places_keys poly_ring.semiring poly_zero_test key)
known-all (e ∷ es) keys h key = known-more e es keys key (places_cmp key e.0) refl h.0 (known-all es keys h.1 key)

none_below : (es : Entries) (key : List ℕ) → Above places_keys Polynomial key es → value_in es key ≡ zero_poly
none_below [] key a = coefficient-nil places_keys poly_ring.semiring poly_zero_test key
none_below (e ∷ es) key a = other_key Less e es key a.0 less_other ∙ none_below es key a.1

pub known-before : (es : Entries) (keys : List (List ℕ)) (m : ℕ) (end : List ℕ) (p : Polynomial) → Ascending places_keys Polynomial es → IsFirstStray keys es m → slice_get es m ≡ Some (end, p) → (key : List ℕ) → places_cmp key end ≡ Less → IsKnown (value_in es) keys key
known-before [] keys m end p a s e key l = absurd s
known-before (f ∷ es) keys zero end p a s e key l =
    let same : f ≡ (end, p) = cc e in
    let first : places_cmp key f.0 ≡ Less = ap (λ g. places_cmp key g.0) same ∙ l in
    inr (none_below (f ∷ es) key (first, Above-after places_keys Polynomial key f.0 es first a.0))
known-before (f ∷ es) keys (suc m) end p a s e key l =
    known-more f es keys key (places_cmp key f.0) refl s.0 (known-before es keys m end p a.1 s.1 e key l)

pub stray-out : (es : Entries) (keys : List (List ℕ)) (m : ℕ) (end : List ℕ) (p : Polynomial) → IsFirstStray keys es m → slice_get es m ≡ Some (end, p) → ¬ IsIn end keys
stray-out [] keys m end p s e i = s
stray-out (f ∷ es) keys zero end p s e i = let same : f ≡ (end, p) = cc e in s (subst (λ j. IsIn j keys) (sym (ap (λ g. g.0) same)) i)
stray-out (f ∷ es) keys (suc m) end p s e i = stray-out es keys m end p s.1 e i

-- ---- the three answers
pub all_solved : (ds : List Numbers) (at : List ℕ → Polynomial) (keys : List (List ℕ)) (xs : List Polynomial) → ((key : List ℕ) → IsIn key keys ⊎ AreZero (numbers_at ds key)) → length xs ≡ length ds → ((key : List ℕ) → IsKnown at keys key) → Solves polynomials xs (rows_of at ds keys) → AreCoordinates ds at xs
all_solved ds at keys xs c l k s = record {
  many = l;
  adds = λ key. solved_at at ds xs keys key (c key) (k key) (solved-in at ds xs keys s key);
}

pub open_at_row : (ds : List Numbers) (at : List ℕ → Polynomial) (keys : List (List ℕ)) (gs : List ℕ) (xs : List Polynomial) (m : ℕ) (end : List ℕ) → ((key : List ℕ) → IsIn key keys ⊎ AreZero (numbers_at ds key)) → Ascend keys → pivots (length ds) (map (numbers_at ds) keys) ≡ Some gs → length xs ≡ length ds → Solves polynomials xs (select gs (rows_of at ds keys)) → FailsFirst polynomials xs m (rows_of at ds keys) → slice_get keys m ≡ Some end
    → ((key : List ℕ) → places_cmp key end ≡ Less → IsKnown at keys key) → IsOpenAt ds at end
open_at_row ds at keys gs xs m end c a p l s f e k =
    let same = entries-valued at keys (map (numbers_at ds) keys) (sym (length-map keys (numbers_at ds))) in
    let spanned = not_spanned polynomials (length ds) gs (rows_of at ds keys) xs m
    (subst (λ es. ArePivots (length ds) es gs) (sym same) (pivots-are (length ds) (map (numbers_at ds) keys) gs p))
    (subst (HaveLength (length ds)) (sym same) (lengths-of ds keys)) l s f in
    record {
      coordinates = xs;
      before = record { many = l; adds = λ key b. solved_at at ds xs keys key (c key) (k key b) (λ i. solved-before at ds xs keys m end a f e key i b) };
      none = λ ys b h. spanned.none ys b.many (solves-up_to at ds ys keys m end a e b.adds h);
    }

pub open_at_stray : (ds : List Numbers) (at : List ℕ → Polynomial) (keys : List (List ℕ)) (xs : List Polynomial) (end : List ℕ) → ((key : List ℕ) → IsIn key keys ⊎ AreZero (numbers_at ds key)) → length xs ≡ length ds → ¬ IsIn end keys → at end ≢ zero_poly → ((key : List ℕ) → places_cmp key end ≡ Less → IsIn key keys → moved xs ds key ≡ at key) → ((key : List ℕ) → places_cmp key end ≡ Less → IsKnown at keys key) → IsOpenAt ds at end
open_at_stray ds at keys xs end c l n z s k = record {
  coordinates = xs;
  before = record { many = l; adds = λ key b. solved_at at ds xs keys key (c key) (k key b) (s key b) };
  none = λ ys b h. by_cover ys (c end) h;
}
  where
    by_cover : (ys : List Polynomial) → IsIn end keys ⊎ AreZero (numbers_at ds end) → moved ys ds end ≡ at end → ⊥
    by_cover ys (inl i) h = n i
    by_cover ys (inr y) h = z (sym h ∙ nothing_moved ys ds end y)

-- ---- the first stray, one entry after another
pub known-next : (keys : List (List ℕ)) (es : Entries) (i : ℕ) (key : List ℕ) (p : Polynomial) → AreKnown keys (take i es) → slice_get es i ≡ Some (key, p) → IsIn key keys → AreKnown keys (take (suc i) es)
known-next keys [] i key p h e n = absurd (cc e)
known-next keys (f ∷ es) zero key p h e n = let same : f ≡ (key, p) = cc e in (subst (λ j. IsIn j keys) (sym (ap (λ g. g.0) same)) n, tt)
known-next keys (f ∷ es) (suc i) key p h e n = (h.0, known-next keys es i key p h.1 e n)

pub stray-here : (keys : List (List ℕ)) (es : Entries) (i : ℕ) (key : List ℕ) (p : Polynomial) → AreKnown keys (take i es) → slice_get es i ≡ Some (key, p) → ¬ IsIn key keys → IsFirstStray keys es i
stray-here keys [] i key p h e n = absurd (cc e)
stray-here keys (f ∷ es) zero key p h e n = let same : f ≡ (key, p) = cc e in λ j. n (subst (λ k. IsIn k keys) (ap (λ g. g.0) same) j)
stray-here keys (f ∷ es) (suc i) key p h e n = (h.0, stray-here keys es i key p h.1 e n)

-- ---- looking a key up
at_most_two : (o : Ordering) → ordering_index o ≤ 2
at_most_two Less = omega arith
at_most_two Equal = omega arith
at_most_two Greater = omega arith

rises_at : (key : List ℕ) (o : Ordering) (a b : List ℕ) → places_cmp b key ≡ o → places_cmp a b ≡ Less → ordering_index (places_cmp a key) ≤ ordering_index o
rises_at key Less a b h l = subst (λ q. ordering_index q ≤ 0) (sym (places_keys.total.trans a b key l h)) (omega arith)
rises_at key Equal a b h l = subst (λ q. ordering_index q ≤ 1) (sym (subst (λ x. places_cmp a x ≡ Less) (places_equal b key h) l)) (omega arith)
rises_at key Greater a b h l = at_most_two (places_cmp a key)

rises_after : (key k : List ℕ) (keys : List (List ℕ)) (j : ℕ) (d : List ℕ) → Each (λ i. places_cmp k i ≡ Less) keys → j < length keys → ordering_index (places_cmp k key) ≤ ordering_index (places_cmp (get_or keys j d) key)
rises_after key k [] j d a h = absurd (omega arith)
rises_after key k (f ∷ fs) zero d a h = rises_at key (places_cmp f key) k f refl a.0
rises_after key k (f ∷ fs) (suc j) d a h = rises_after key k fs j d a.1 (omega arith)

pub outcomes_rise : (key : List ℕ) (keys : List (List ℕ)) → Ascend keys → IsNonDecreasingBy (λ k. ordering_index (places_cmp k key)) keys
outcomes_rise key [] h i j d l w = absurd (omega arith)
outcomes_rise key (e ∷ es) h zero zero d l w = omega arith
outcomes_rise key (e ∷ es) h zero (suc j) d l w = rises_after key e es j d h.0 (omega arith)
outcomes_rise key (e ∷ es) h (suc i) zero d l w = absurd (omega arith)
outcomes_rise key (e ∷ es) h (suc i) (suc j) d l w = outcomes_rise key es h.1 i j d (omega arith) (omega arith)

pub found-in : (key : List ℕ) (keys : List (List ℕ)) (i : ℕ) (d : List ℕ) → i < length keys → get_or keys i d ≡ key → IsIn key keys
found-in key [] i d l e = absurd (omega arith)
found-in key (k ∷ keys) zero d l e = inl (sym e)
found-in key (k ∷ keys) (suc i) d l e = inr (found-in key keys i d (omega arith) e)

pub not_found-in : (key : List ℕ) (keys : List (List ℕ)) (d : List ℕ) → ((i : ℕ) → i < length keys → places_cmp (get_or keys i d) key ≡ Equal → ⊥) → ¬ IsIn key keys
not_found-in key [] d n i = i
not_found-in key (k ∷ keys) d n (inl e) = n zero (omega arith) (subst (λ j. places_cmp k j ≡ Equal) (sym e) (tied_itself places_keys.total k))
not_found-in key (k ∷ keys) d n (inr i) = not_found-in key keys d (λ j l. n (suc j) (omega arith)) i

-- ---- the keys of entries, one after another
pub keys-more : (es : Entries) (i : ℕ) (key : List ℕ) (p : Polynomial) (out new : List (List ℕ)) → slice_get es i ≡ Some (key, p) → out ≡ take i (map (λ e. e.0) es) → new ≡ out ++ key ∷ [] → new ≡ take (i + 1) (map (λ e. e.0) es)
keys-more es i key p out new e h n = n ∙ ap (λ r. r ++ key ∷ []) h ∙ one_more es i e ∙ ap (λ k. take k (map (λ e. e.0) es)) (sym (add-one i))
  where
    one_more : (fs : Entries) (k : ℕ) → slice_get fs k ≡ Some (key, p) → take k (map (λ e. e.0) fs) ++ key ∷ [] ≡ take (suc k) (map (λ e. e.0) fs)
    one_more [] k e = absurd (cc e)
    one_more (f ∷ fs) zero e = let same : f ≡ (key, p) = cc e in ap (λ g. g.0 ∷ []) (sym same)
    one_more (f ∷ fs) (suc k) e = ap (λ r. f.0 ∷ r) (one_more fs k e)

pub known-step : (keys : List (List ℕ)) (es : Entries) (i : ℕ) (key : List ℕ) (p : Polynomial) → AreKnown keys (take i es) → slice_get es i ≡ Some (key, p) → IsIn key keys → AreKnown keys (take (i + 1) es)
known-step keys es i key p h e n = subst (λ k. AreKnown keys (take k es)) (sym (add-one i)) (known-next keys es i key p h e n)

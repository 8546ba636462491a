-- Tables in memory as finite maps: what a search finds, and what a write makes.
use Rattle.std.proofs.Common.{◌≡◌, ℕ, zero, suc, ◌<◌, ◌≤◌, List, [], ◌∷◌, ◌++◌, length, get_or, set, Bool, true, false, T, Some, None, Result, Ok, Err, OnOk, OnErr, length-append, refl, sym, ap, subst, ◌∙◌, arith, Ordering}
use Rattle.std.specs.Cmp.{IsTotalOrder}
use Rattle.std.specs.List.{insert as inserted}
use Rattle.std.specs.List.Sorted.{IsSearchInRange, IsBinarySearchResult}
use Rattle.std.specs.FinMap.{empty, get, insert, entries, from_sorted, find, put, is_sorted, same_entries_map, entries-from_sorted, entries-insert, get-from_sorted, empty_of_len, len-entries}
use Rattle.std.specs.FinMap.Entries.{is_sorted-put}
use Rattle.std.proofs.lemmas.Cmp.{nat_list_cmp_total, nat_cmp_total, on_total, then_total}
use Rattle.register_core.specs.Register.{key_cmp, most_versions, format_place}
use Rattle.register_core.specs.Table.{IsPlace, AllShort}
use Rattle.register_core.proofs.Entries.{outcomes_rise, find_at, put_at, find_gap, put_gap}

pub keys_total : IsTotalOrder key_cmp
keys_total = then_total (on_total (λ k. k.name) nat_list_cmp_total) (then_total (on_total (λ k. k.version) nat_cmp_total) (then_total (on_total (λ k. k.loops) nat_cmp_total) (on_total (λ k. format_place k.format) nat_cmp_total)))

truth : {b : Bool} → b ≡ true → T b
truth e = subst T (sym e) tt

equation : (b : Bool) → T b → b ≡ true
equation true t = refl
equation false t = absurd t

module _ {K X : Type 0} (R : K → K → Ordering) where
  pub from_nothing : from_sorted {K = K} {X = X} {R = R} [] ≡ empty
  from_nothing = empty_of_len (from_sorted {R = R} []) (len-entries (from_sorted {R = R} []) ∙ ap length (entries-from_sorted R [] tt))

  pub keys_are : (es : List (K × X)) → is_sorted R es ≡ true → entries (from_sorted {R = R} es) ≡ es
  keys_are es h = entries-from_sorted R es (truth h)

  pub get_is : (es : List (K × X)) (k : K) → is_sorted R es ≡ true → get (from_sorted {R = R} es) k ≡ find R k es
  get_is es k h = get-from_sorted R es k (truth h)

module _ {K X : Type 0} {R : K → K → Ordering} (o : IsTotalOrder R) (es : List (K × X)) (k : K) (h : is_sorted R es ≡ true) where
  -- what a binary search answers is the key's place
  pub place_found : (r : Result ℕ ℕ) → IsSearchInRange r (length es) → IsBinarySearchResult (λ e. R e.0 k) es r → IsPlace R es k r
  place_found (Ok i) bound found = (bound, found)
  place_found (Err i) bound found = (bound, found (outcomes_rise o k es h))

  pub sorted_put : (v : X) → is_sorted R (put R k v es) ≡ true
  sorted_put v = equation _ (is_sorted-put R o k v es (truth h))

  put_is : (v : X) → insert (from_sorted {R = R} es) k v ≡ from_sorted (put R k v es)
  put_is v = same_entries_map _ _ (entries-insert o (from_sorted es) k v ∙ ap (put R k v) (keys_are R es h) ∙ sym (keys_are R (put R k v es) (sorted_put v)))

  -- where the key stands at a place
  module _ (i : ℕ) (at : IsPlace R es k (Ok i)) (e : K × X) (is : e ≡ get_or es i e) where
    pub get_there : get (from_sorted {R = R} es) k ≡ Some e.1
    get_there = get_is R es k h ∙ find_at o k es i e h at.0 (at.1 e) ∙ ap (λ x. Some x.1) (sym is)

    set_put : (v : X) → set es i (e.0, v) ≡ put R k v es
    set_put v = ap (λ x. set es i (x.0, v)) is ∙ sym (put_at o k v es i e h at.0 (at.1 e))

    pub set_there : (v : X) → from_sorted {R = R} (set es i (e.0, v)) ≡ insert (from_sorted es) k v
    set_there v = ap from_sorted (set_put v) ∙ sym (put_is v)

    pub sorted_set : (v : X) → is_sorted R (set es i (e.0, v)) ≡ true
    sorted_set v = ap (is_sorted R) (set_put v) ∙ sorted_put v

  -- where it stands at none, and belongs at one
  module _ (i : ℕ) (at : IsPlace R es k (Err i)) where
    pub get_nowhere : get (from_sorted {R = R} es) k ≡ None
    get_nowhere = get_is R es k h ∙ find_gap o k es i at.1

    pub inserted_there : (v : X) → from_sorted {R = R} (inserted es i (k, v)) ≡ insert (from_sorted es) k v
    inserted_there v = ap from_sorted (sym (put_gap o k v es i at.1)) ∙ sym (put_is v)

    pub sorted_inserted : (v : X) → is_sorted R (inserted es i (k, v)) ≡ true
    sorted_inserted v = ap (is_sorted R) (sym (put_gap o k v es i at.1)) ∙ sorted_put v

-- tables that stay short
pub short_at : (es : List (List ℕ × List (List ℕ))) (i : ℕ) (d : List ℕ × List (List ℕ)) → AllShort es → i < length es → length (get_or es i d).1 ≤ most_versions
short_at [] i d all l = absurd (omega arith)
short_at (e ∷ es) zero d all l = all.0
short_at (e ∷ es) (suc i) d all l = short_at es i d all.1 (omega arith)

pub short_set : (es : List (List ℕ × List (List ℕ))) (i : ℕ) (e : List ℕ × List (List ℕ)) → AllShort es → length e.1 ≤ most_versions → AllShort (set es i e)
short_set [] i e all few = tt
short_set (x ∷ es) zero e all few = (few, all.1)
short_set (x ∷ es) (suc i) e all few = (all.0, short_set es i e all.1 few)

pub short_inserted : (es : List (List ℕ × List (List ℕ))) (i : ℕ) (e : List ℕ × List (List ℕ)) → AllShort es → length e.1 ≤ most_versions → AllShort (inserted es i e)
short_inserted [] zero e all few = (few, tt)
short_inserted [] (suc i) e all few = (few, tt)
short_inserted (x ∷ es) zero e all few = (few, all)
short_inserted (x ∷ es) (suc i) e all few = (all.0, short_inserted es i e all.1 few)

-- one version more is at most the most
pub pushed_few : {E : Type 0} (r : Result (Unit {0}) E) (xs ys : List (List ℕ)) (x : List ℕ) → OnOk r (ys ≡ xs ++ x ∷ []) → OnErr r (ys ≡ xs) → length xs < most_versions → length ys ≤ most_versions
pushed_few (Ok done) xs ys x ok err few = omega (arith, ap length ok, length-append xs (x ∷ []), few)
pushed_few (Err e) xs ys x ok err few = omega (arith, ap length err, few)

-- The directions with a name, and the place of each in the list.
use Rattle.std.specs.Prelude.{◌≡◌, ◌≢◌, ◌⊎◌, ℕ, zero, suc, ◌<◌, ◌≤◌, ◌+◌, Bool, true, false, List, [], ◌∷◌, ◌++◌, length, map, take, get_or, slice_get, Some}
use Rattle.std.specs.List.{filter}
use Rattle.std.specs.Option.{option_map}
use Rattle.std.proofs.Common.{refl, sym, ap, ap₂, ◌∙◌, subst, arith, cond, add-one}
use Rattle.std.proofs.lemmas.Option.{slice_get_read, slice_get-map}
use Rattle.std.proofs.lemmas.List.{take_all, length-map}
use Rattle.sparse_tensor.specs.Refusals.{IsTensorRefusal}
use Rattle.sparse_tensor.specs.declared.fault.TensorFault.{TensorFault}
use Rattle.sparse_tensor.specs.declared.fault.TensorFault.TheVariants.{Overflow as TensorOverflow, NoMemory as TensorNoMemory}
use Rattle.frac128.specs.Rational.{ℚ}
use Rattle.term_expand.specs.declared.directions.Direction.{Direction}
use Rattle.term_expand.specs.declared.token.Token.{Token}
use Rattle.span_solver.specs.Block.{IsIn, numbers_at, block_rows, IsBlock}
use Rattle.span_solver.specs.BlockDirections.{is_named, block_directions, block_numbers, numbers_of, IsDependentPlace, IsSpanFault}
use Rattle.span_solver.specs.ChosenDirections.{IsNamedPlace, span_fault}
use Rattle.span_solver.specs.Combine.{AreZero}
use Rattle.span_solver.specs.Dependence.{Numbers, AreIndependent, IsDependent}
use Rattle.span_solver.specs.Elimination.{HaveLength}
use Rattle.span_solver.specs.RowDependence.{IsFirstDependent, AreIndependent as AreRowsIndependent}
use Rattle.span_solver.proofs.Dependences.{dependent_up, independent_up, all_independent, take-map}
use Rattle.span_solver.proofs.Opens.{lengths-of}

-- ---- a filter, one element after another
module _ {X : Type 0} (t : X → Bool) where
  filter-at : (b : Bool) (x : X) (xs : List X) → t x ≡ b → filter t (x ∷ xs) ≡ cond b (x ∷ filter t xs) (filter t xs)
  filter-at b x xs e = ap (λ c. cond c (x ∷ filter t xs) (filter t xs)) e

  pub filter-yes : (xs : List X) (i : ℕ) (x : X) → i < length xs → x ≡ get_or xs i x → t x ≡ true → filter t (take (suc i) xs) ≡ filter t (take i xs) ++ x ∷ []
  filter-yes [] i x l e y = absurd (omega arith)
  filter-yes (z ∷ xs) zero x l e y = filter-at true z [] (ap t (sym e) ∙ y) ∙ ap (λ w. w ∷ []) (sym e)
  filter-yes (z ∷ xs) (suc i) x l e y = by_test (filter-yes xs i x (omega arith) e y) (t z) refl
    where
      by_test : filter t (take (suc i) xs) ≡ filter t (take i xs) ++ x ∷ [] → (b : Bool) → t z ≡ b → filter t (z ∷ take (suc i) xs) ≡ filter t (z ∷ take i xs) ++ x ∷ []
      by_test rest true h = filter-at true z (take (suc i) xs) h ∙ ap (λ r. z ∷ r) rest ∙ ap (λ r. r ++ x ∷ []) (sym (filter-at true z (take i xs) h))
      by_test rest false h = filter-at false z (take (suc i) xs) h ∙ rest ∙ ap (λ r. r ++ x ∷ []) (sym (filter-at false z (take i xs) h))

  pub filter-no : (xs : List X) (i : ℕ) (x : X) → i < length xs → x ≡ get_or xs i x → t x ≡ false → filter t (take (suc i) xs) ≡ filter t (take i xs)
  filter-no [] i x l e y = absurd (omega arith)
  filter-no (z ∷ xs) zero x l e y = filter-at false z [] (ap t (sym e) ∙ y)
  filter-no (z ∷ xs) (suc i) x l e y = by_test (filter-no xs i x (omega arith) e y) (t z) refl
    where
      by_test : filter t (take (suc i) xs) ≡ filter t (take i xs) → (b : Bool) → t z ≡ b → filter t (z ∷ take (suc i) xs) ≡ filter t (z ∷ take i xs)
      by_test rest true h = filter-at true z (take (suc i) xs) h ∙ ap (λ r. z ∷ r) rest ∙ sym (filter-at true z (take i xs) h)
      by_test rest false h = filter-at false z (take (suc i) xs) h ∙ rest ∙ sym (filter-at false z (take i xs) h)

  -- the element that passes at a place is the one of that number among those that pass
  pub filter-place : (xs : List X) (i : ℕ) (x : X) → i < length xs → x ≡ get_or xs i x → t x ≡ true → (n : ℕ) → n ≡ length (filter t (take i xs)) → (slice_get (filter t xs) n ≡ Some x) × (filter t (take i xs) ≡ take n (filter t xs))
  filter-place [] i x l e y n m = absurd (omega arith)
  filter-place (z ∷ xs) zero x l e y n m =
      let all = filter-at true z xs (ap t (sym e) ∙ y) in (
        ap₂ slice_get all m ∙ ap Some (sym e),
        sym (ap₂ take m all),
      )
  filter-place (z ∷ xs) (suc i) x l e y n m = by_test (filter-place xs i x (omega arith) e y) (t z) refl
    where
      by_test : ((k : ℕ) → k ≡ length (filter t (take i xs)) → (slice_get (filter t xs) k ≡ Some x) × (filter t (take i xs) ≡ take k (filter t xs))) → (b : Bool) → t z ≡ b → (slice_get (filter t (z ∷ xs)) n ≡ Some x) × (filter t (z ∷ take i xs) ≡ take n (filter t (z ∷ xs)))
      by_test ih true h =
          let all = filter-at true z xs h in
          let front = filter-at true z (take i xs) h in
          let many = m ∙ ap length front in
          let rest = ih (length (filter t (take i xs))) refl in (
            ap₂ slice_get all many ∙ rest.0,
            front ∙ ap (λ r. z ∷ r) rest.1 ∙ sym (ap₂ take many all),
          )
      by_test ih false h =
          let all = filter-at false z xs h in
          let front = filter-at false z (take i xs) h in
          let rest = ih n (m ∙ ap length front) in (
            ap (λ r. slice_get r n) all ∙ rest.0,
            front ∙ rest.1 ∙ ap (take n) (sym all),
          )

-- ---- the loop that counts
pub named-here : (directions : List Direction) (name : List Token) (number place i : ℕ) (d : Direction) → i < length directions → d ≡ get_or directions i d → is_named name d ≡ true → place ≡ i → number ≡ length (block_directions (take i directions) name) → IsNamedPlace directions name number place
named-here directions name number place i d l e y p n =
    let placed = filter-place (is_named name) directions i d l e y number n in
    record {
      direction = d;
      stands = ap (slice_get directions) p ∙ slice_get_read directions (length directions) i d refl l e;
      named = y;
      before = ap (λ k. block_directions (take k directions) name) p ∙ placed.1;
      own = placed.0;
    }

length-more : {X : Type 0} (xs : List X) (x : X) → length (xs ++ x ∷ []) ≡ suc (length xs)
length-more [] x = refl
length-more (y ∷ xs) x = ap suc (length-more xs x)

pub seen-more : (directions : List Direction) (name : List Token) (seen i : ℕ) (d : Direction) → i < length directions → d ≡ get_or directions i d → is_named name d ≡ true → seen ≡ length (block_directions (take i directions) name) → seen + 1 ≡ length (block_directions (take (i + 1) directions) name)
seen-more directions name seen i d l e y s =
    add-one seen ∙ ap suc s ∙ sym (length-more (block_directions (take i directions) name) d) ∙ ap length (sym (filter-yes (is_named name) directions i d l e y))
    ∙ ap (λ k. length (block_directions (take k directions) name)) (sym (add-one i))

pub seen-same : (directions : List Direction) (name : List Token) (seen i : ℕ) (d : Direction) → i < length directions → d ≡ get_or directions i d → is_named name d ≡ false → seen ≡ length (block_directions (take i directions) name) → seen ≡ length (block_directions (take (i + 1) directions) name)
seen-same directions name seen i d l e y s =
    s ∙ ap length (sym (filter-no (is_named name) directions i d l e y)) ∙ ap (λ k. length (block_directions (take k directions) name)) (sym (add-one i))

pub seen-all : (directions : List Direction) (name : List Token) (seen i : ℕ) → length directions ≤ i → seen ≡ length (block_directions (take i directions) name) → seen ≡ length (block_directions directions name)
seen-all directions name seen i l s = s ∙ ap (λ ds. length (block_directions ds name)) (take_all i directions l)

-- ---- the fault
dependent_at : (directions : List Direction) (name : List Token) (number place : ℕ) (keys : List (List ℕ)) → ((key : List ℕ) → IsIn key keys ⊎ AreZero (numbers_at (block_numbers directions name) key)) → number ≤ length (block_numbers directions name) → IsFirstDependent (map (numbers_at (block_numbers directions name)) keys) number → IsNamedPlace directions name number place → IsDependentPlace directions name place
dependent_at directions name number place keys c l f p =
    let nums = block_numbers directions name in
    let own : slice_get nums number ≡ Some (numbers_of p.direction) = slice_get-map numbers_of (block_directions directions name) number ∙ ap (option_map numbers_of) p.own in
    let front : block_numbers (take place directions) name ≡ take number nums = ap (map numbers_of) p.before ∙ take-map numbers_of number (block_directions directions name) in
    record {
      direction = p.direction;
      stands = p.stands;
      named = p.named;
      dependent = subst (λ ns. IsDependent ns (numbers_of p.direction)) (sym front) (dependent_up nums keys c number (numbers_of p.direction) own f.0);
      first = subst AreIndependent (sym front) (independent_up nums keys c number f.1);
    }

pub dependent_place : (directions : List Direction) (name : List Token) (number place count : ℕ) (keys : List (List ℕ)) (rows : List (List ℚ)) → IsBlock (block_numbers directions name) (block_rows count keys rows) → number < count → IsFirstDependent rows number → IsNamedPlace directions name number place → IsDependentPlace directions name place
dependent_place directions name number place count keys rows b l f p =
    let many = b.many in
    dependent_at directions name number place keys b.covers (omega (arith, l, many)) (subst (λ es. IsFirstDependent es number) b.rows_are f) p

pub independent_of : (directions : List Direction) (name : List Token) (count : ℕ) (keys : List (List ℕ)) (rows : List (List ℚ)) → IsBlock (block_numbers directions name) (block_rows count keys rows) → AreRowsIndependent count rows → AreIndependent (block_numbers directions name)
independent_of directions name count keys rows b h =
    all_independent (block_numbers directions name) keys b.covers
    (subst (λ es. AreRowsIndependent (length (block_numbers directions name)) es) b.rows_are (subst (λ n. AreRowsIndependent n rows) b.many h))

pub lengths-block : (ds : List Numbers) (count : ℕ) (keys : List (List ℕ)) (rows : List (List ℚ)) → IsBlock ds (block_rows count keys rows) → HaveLength count rows
lengths-block ds count keys rows b = subst (λ n. HaveLength n rows) (sym b.many) (subst (HaveLength (length ds)) (sym b.rows_are) (lengths-of ds keys))

pub as_many : (ds : List Numbers) (count : ℕ) (keys : List (List ℕ)) (rows : List (List ℚ)) → IsBlock ds (block_rows count keys rows) → length keys ≡ length rows
as_many ds count keys rows b = sym (length-map keys (numbers_at ds)) ∙ ap length (sym b.rows_are)

pub count-of : (directions : List Direction) (name : List Token) (count : ℕ) (keys : List (List ℕ)) (rows : List (List ℚ)) → IsBlock (block_numbers directions name) (block_rows count keys rows) → count ≡ length (block_directions directions name)
count-of directions name count keys rows b = b.many ∙ length-map (block_directions directions name) numbers_of

pub span_refused : (directions : List Direction) (name : List Token) (f : TensorFault) → block_directions directions name ≢ [] → IsTensorRefusal f → IsSpanFault directions name (span_fault f)
span_refused directions name (TensorOverflow pair) n h = (n, h)
span_refused directions name TensorNoMemory n h = tt

pub none_dependent : AreIndependent []
none_dependent place d = let none : ⊥ = cc d.stands in none

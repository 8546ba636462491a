-- Dependent directions of a block, of a front of the directions, and of all.
use Rattle.std.specs.Prelude.{◌≡◌, ◌≤◌, ◌<◌, ◌+◌, ℕ, zero, suc, true, cond, List, [], ◌∷◌, ◌++◌, map, length, take, slice_get, Some}
use Rattle.std.proofs.Common.{drop, refl, sym, ap, subst, ◌∙◌, arith}
use Rattle.std.proofs.lemmas.List.{map-append, take-append-drop, take-append-le, take-take, take_at}
use Rattle.std.proofs.lemmas.List.Elements.{filter-append}
use Rattle.std.proofs.lemmas.Option.{slice_get_within}
use Rattle.model_core.specs.Directions.{Direction}
use Rattle.term_expand.specs.declared.token.Token.{Token}
use Rattle.span_solver.specs.Dependence.{Numbers, IsDependent, AreIndependent}
use Rattle.derive_core.specs.Blocks.{name_of, is_of, directions_of, tensor_of, numbers_of, IsDependentAt}
use Rattle.derive_core.proofs.BlockNames.{name_same}
use Rattle.derive_core.proofs.Elements.{at_front, at_rest}

-- ---- fronts

at_first : {A : Type 0} (xs ys : List A) (i : ℕ) (x : A) → slice_get xs i ≡ Some x → slice_get (xs ++ ys) i ≡ Some x
at_first [] ys i x found = let never : ⊥ = cc in absurd never
at_first (y ∷ xs) ys zero x found = found
at_first (y ∷ xs) ys (suc i) x found = at_first xs ys i x found

independent_front : (xs ys : List Numbers) → AreIndependent (xs ++ ys) → AreIndependent xs
independent_front xs ys all place at =
    let inside : place < length xs = slice_get_within xs place at.direction at.stands in
    all place (record {
      direction = at.direction;
      stands = at_first xs ys place at.direction at.stands;
      dependent = subst (λ ds. IsDependent ds at.direction) (sym (take-append-le place xs ys (omega (arith, inside)))) at.dependent;
    })

numbers_split : (name : List Token) (xs ys : List Direction) → numbers_of name (xs ++ ys) ≡ numbers_of name xs ++ numbers_of name ys
numbers_split name xs ys = ap (map tensor_of) (filter-append (is_of name) xs ys) ∙ map-append tensor_of (directions_of name xs) (directions_of name ys)

-- fewer directions of a block stay independent
pub free_earlier : (name : List Token) (ds : List Direction) (m k : ℕ) → m ≤ k → AreIndependent (numbers_of name (take k ds)) → AreIndependent (numbers_of name (take m ds))
free_earlier name ds m k under all =
    let first = take m (take k ds) in
    let rest = drop m (take k ds) in
    let split : numbers_of name (take k ds) ≡ numbers_of name first ++ numbers_of name rest =
    ap (numbers_of name) (sym (take-append-drop m (take k ds))) ∙ numbers_split name first rest in
    subst (λ xs. AreIndependent (numbers_of name xs)) (take-take m k ds under)
    (independent_front (numbers_of name first) (numbers_of name rest) (subst AreIndependent split all))

-- ---- a dependent direction

split_at : (ds : List Direction) (i : ℕ) (d : Direction) → slice_get ds i ≡ Some d → ds ≡ take i ds ++ d ∷ drop (suc i) ds
split_at [] i d found = let never : ⊥ = cc in absurd never
split_at (x ∷ ds) zero d found = let same : x ≡ d = cc in ap (λ y. y ∷ ds) same
split_at (x ∷ ds) (suc i) d found = ap (λ rest. x ∷ rest) (split_at ds i d found)

numbers_at : (name : List Token) (ds : List Direction) (i : ℕ) (d : Direction) → slice_get ds i ≡ Some d → is_of name d ≡ true
    → numbers_of name ds ≡ numbers_of name (take i ds) ++ d.numbers ∷ numbers_of name (drop (suc i) ds)
numbers_at name ds i d found named =
    let rest = drop (suc i) ds in
    ap (numbers_of name) (split_at ds i d found)
    ∙ numbers_split name (take i ds) (d ∷ rest)
    ∙ ap (λ b. numbers_of name (take i ds) ++ map tensor_of (cond b (d ∷ directions_of name rest) (directions_of name rest))) named

-- it is in the block, behind the earlier ones
pub dependent_within : (name : List Token) (ds : List Direction) (place : ℕ) (at : IsDependentAt ds place) → is_of name at.direction ≡ true → AreIndependent (numbers_of name ds) → ⊥
dependent_within name ds place at named all =
    let before = numbers_of name (take place ds) in
    let more = numbers_of name (drop (suc place) ds) in
    let own : List Numbers = at.direction.numbers ∷ more in
    let behind : length before ≡ length before + 0 = omega arith in
    let stands : slice_get (before ++ own) (length before) ≡ Some at.direction.numbers = ap (slice_get (before ++ own)) behind ∙ at_rest before own 0 in
    let dependent : IsDependent before at.direction.numbers =
    subst (λ other. IsDependent (numbers_of other (take place ds)) at.direction.numbers) (name_same (name_of at.direction) name named) at.dependent in
    let front : take (length before) (before ++ own) ≡ before = take_at before own (length before) refl in
    subst AreIndependent (numbers_at name ds place at.direction at.stands named) all (length before) (record {
      direction = at.direction.numbers;
      stands = stands;
      dependent = subst (λ ds. IsDependent ds at.direction.numbers) (sym front) dependent;
    })

-- none is among the first of a block that are independent
pub dependent_before : (name : List Token) (ds : List Direction) (place k : ℕ) (at : IsDependentAt ds place) → is_of name at.direction ≡ true → place < k
    → AreIndependent (numbers_of name (take k ds)) → ⊥
dependent_before name ds place k at named before all =
    dependent_within name (take k ds) place
    (record {
      direction = at.direction;
      stands = at_front ds place k before ∙ at.stands;
      dependent = subst (λ xs. IsDependent (numbers_of (name_of at.direction) xs) at.direction.numbers) (sym (take-take place k ds (omega (arith, before)))) at.dependent;
    })
    named all

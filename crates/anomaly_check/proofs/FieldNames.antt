-- The fermions of a valid model have different names, so a sum over those with the name of one of them is one summand.
use Rattle.std.proofs.Common.{◌≡◌, ℕ, Bool, true, false, cond, List, [], ◌∷◌, ◌++◌, map, refl, sym, ap, ap₂, ◌∙◌, arith, inl, inr}
use Rattle.std.specs.Prelude.{◌&&◌, ◌||◌, ◌⊎◌, not}
use Rattle.std.specs.List.{flat_map, list_any}
use Rattle.std.specs.Str.{bytes_eq}
use Rattle.std.proofs.lemmas.List.Folds.{list_any-append}
use Rattle.std.proofs.lemmas.Slice.Eq.{bytes_eq-Decides}
use Rattle.exact_algebra.specs.Sums.{sum, Each, sum-nil, sum-cons}
use Rattle.frac128.specs.Rational.{ℚ, zero_ℚ, ◌+ℚ◌}
use Rattle.frac128.specs.RationalLaws.{ring_ℚ, zero-+ℚ, +ℚ-zero}
use Rattle.model_core.specs.declared.field.Field.{Field}
use Rattle.model_core.specs.declared.model.Model.{Model}
use Rattle.model_core.specs.Valid.{IsValid, are_distinct, field_name, group_names, has_few_components, has_valid_parts, names_of, table_name, term_name}
use Rattle.model_core.proofs.ValidLaws.{both, valid_names}

-- ---- distinct names

-- in each part of a list without repeats no text stands twice
distinct_right : (xs ys : List (List ℕ)) → are_distinct (xs ++ ys) ≡ true → are_distinct ys ≡ true
distinct_right [] ys h = h
distinct_right (x ∷ xs) ys h = distinct_right xs ys (both (not (list_any (bytes_eq x) (xs ++ ys))) (are_distinct (xs ++ ys)) h).1

none_left : (a b : Bool) → not (a || b) ≡ true → not a ≡ true
none_left true b h = h
none_left false b h = refl

distinct_left : (xs ys : List (List ℕ)) → are_distinct (xs ++ ys) ≡ true → are_distinct xs ≡ true
distinct_left [] ys h = refl
distinct_left (x ∷ xs) ys h =
    let parts = both (not (list_any (bytes_eq x) (xs ++ ys))) (are_distinct (xs ++ ys)) h in
    ap₂ ◌&&◌ (none_left (list_any (bytes_eq x) xs) (list_any (bytes_eq x) ys) (ap not (sym (list_any-append (bytes_eq x) xs ys)) ∙ parts.0)) (distinct_left xs ys parts.1)

-- the fermions of a valid model have different names
pub fermion_names : (model : Model) → IsValid model → are_distinct (map field_name model.fermions) ≡ true
fermion_names model valid =
    let groups = flat_map group_names model.groups in
    let fermions = map field_name model.fermions in
    let scalars = map field_name model.scalars in
    let tables = map table_name model.tables in
    let all : are_distinct (names_of model) ≡ true = (both (has_valid_parts model && has_few_components model) (are_distinct (names_of model)) (valid_names model valid)).1 in
    distinct_right groups fermions (distinct_left (groups ++ fermions) scalars (distinct_left (groups ++ fermions ++ scalars) tables
    (distinct_left (groups ++ fermions ++ scalars ++ tables) (map term_name model.terms) all)))

-- ---- sums over fields with one name

-- the field is one of a list
abbrev pub IsAmong : Field → List Field → Type 0
IsAmong field [] = ⊥
IsAmong field (first ∷ fields) = (field ≡ first) ⊎ IsAmong field fields

-- c where a test holds, else 0
abbrev pub where_holds : Bool → ℚ → ℚ
where_holds b c = cond b c zero_ℚ

-- each field of a list is one of it
pub each_among : (fields : List Field) → Each ring_ℚ.semiring (λ field. IsAmong field fields) fields
each_among [] = tt
each_among (first ∷ fields) = (inl refl, further fields (each_among fields))
  where
    further : (rest : List Field) → Each ring_ℚ.semiring (λ field. IsAmong field fields) rest → Each ring_ℚ.semiring (λ field. IsAmong field (first ∷ fields)) rest
    further [] h = tt
    further (x ∷ rest) h = (inr h.0, further rest h.1)

-- a test of two names, in the other order
turned : (a b : List ℕ) (x : Bool) → bytes_eq a b ≡ x → bytes_eq b a ≡ x
turned a b true same = grind (arith, bytes_eq-Decides)
turned a b false other = grind (arith, bytes_eq-Decides)

own_name : (name : List ℕ) → bytes_eq name name ≡ true
own_name name = grind (arith, bytes_eq-Decides)

-- none of two tests holds
neither : (a b : Bool) → not (a || b) ≡ true → (a ≡ false) × (not b ≡ true)
neither true b h = let never : ⊥ = cc in absurd never
neither false b h = (refl, h)

-- a name that no field of a list has
other_name : (name : List ℕ) (fields : List Field) (field : Field) → not (list_any (bytes_eq name) (map field_name fields)) ≡ true → IsAmong field fields → bytes_eq name field.name ≡ false
other_name name [] field none among = absurd among
other_name name (first ∷ fields) field none (inl same) =
    ap (λ f. bytes_eq name f.name) same ∙ (neither (bytes_eq name first.name) (list_any (bytes_eq name) (map field_name fields)) none).0
other_name name (first ∷ fields) field none (inr among) =
    other_name name fields field (neither (bytes_eq name first.name) (list_any (bytes_eq name) (map field_name fields)) none).1 among

-- no summand is left where no field has the name
sum-no_name : (name : List ℕ) (fields : List Field) (f : Field → ℚ) → not (list_any (bytes_eq name) (map field_name fields)) ≡ true
    → sum ring_ℚ.semiring fields (λ x. where_holds (bytes_eq name x.name) (f x)) ≡ zero_ℚ
sum-no_name name [] f none = sum-nil ring_ℚ.semiring (λ x. where_holds (bytes_eq name x.name) (f x))
sum-no_name name (first ∷ fields) f none =
    let parts = neither (bytes_eq name first.name) (list_any (bytes_eq name) (map field_name fields)) none in
    sum-cons ring_ℚ.semiring first fields (λ x. where_holds (bytes_eq name x.name) (f x))
    ∙ ap₂ ◌+ℚ◌ (ap (λ b. where_holds b (f first)) parts.0) (sum-no_name name fields f parts.1) ∙ zero-+ℚ zero_ℚ

-- the sum over the fields with the name of one of them
pub sum-name : (fields : List Field) (field : Field) (f : Field → ℚ) → are_distinct (map field_name fields) ≡ true → IsAmong field fields
    → sum ring_ℚ.semiring fields (λ x. where_holds (bytes_eq field.name x.name) (f x)) ≡ f field
sum-name [] field f distinct among = absurd among
sum-name (first ∷ fields) field f distinct (inl same) =
    let parts = both (not (list_any (bytes_eq first.name) (map field_name fields))) (are_distinct (map field_name fields)) distinct in
    sum-cons ring_ℚ.semiring first fields (λ x. where_holds (bytes_eq field.name x.name) (f x))
    ∙ ap (λ y. where_holds (bytes_eq y.name first.name) (f first) +ℚ sum ring_ℚ.semiring fields (λ x. where_holds (bytes_eq y.name x.name) (f x))) same
    ∙ ap₂ ◌+ℚ◌ (ap (λ b. where_holds b (f first)) (own_name first.name)) (sum-no_name first.name fields f parts.0)
    ∙ +ℚ-zero (f first) ∙ ap f (sym same)
sum-name (first ∷ fields) field f distinct (inr among) =
    let parts = both (not (list_any (bytes_eq first.name) (map field_name fields))) (are_distinct (map field_name fields)) distinct in
    let apart : bytes_eq field.name first.name ≡ false = turned first.name field.name false (other_name first.name fields field parts.0 among) in
    sum-cons ring_ℚ.semiring first fields (λ x. where_holds (bytes_eq field.name x.name) (f x))
    ∙ ap₂ ◌+ℚ◌ (ap (λ b. where_holds b (f first)) apart) (sum-name fields field f parts.1 among)
    ∙ zero-+ℚ (f field)

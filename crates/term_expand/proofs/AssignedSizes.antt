-- How many places assignments have.
use Rattle.std.specs.Prelude.{◌≡◌, ◌≤◌, ◌+◌, ◌-◌, ◌&&◌, ◌==◌, nat_le, ℕ, suc, Bool, true, false, cond, List, [], ◌∷◌, map, length, replicate}
use Rattle.std.specs.List.{flat_map, filter, list_all, count_by, All, AllByRecursion}
use Rattle.std.proofs.Common.{refl, arith, length-append}
use Rattle.std.proofs.lemmas.Bool.Decides.{nat_tests}
use Rattle.std.proofs.lemmas.List.{length-replicate}
use Rattle.std.proofs.lemmas.List.Elements.{All-from_recursion}
use Rattle.std.proofs.lemmas.List.Sums.{sum_by-cons}
use Rattle.sparse_tensor.specs.declared.values.Value.{Value}
use Rattle.model_core.specs.declared.model.Model.{Model}
use Rattle.model_core.specs.declared.content.FieldUse.{FieldUse}
use Rattle.model_core.specs.declared.term.Factor.{Factor}
use Rattle.model_core.specs.declared.term.Factor.TheVariants.{Fermion, Scalar, Eps, Table}
use Rattle.model_core.specs.declared.term.Monomial.{Monomial}
use Rattle.model_core.specs.declared.term.Term.{Term}
use Rattle.model_core.specs.declared.term.TermKind.{TermKind}
use Rattle.model_core.specs.declared.term.TermKind.TheVariants as kind
use Rattle.model_core.specs.ComponentLists.{scalar_list}
use Rattle.model_core.specs.Content.{is_fermion, may_couple, first_uses, same_uses, has_content}
use Rattle.model_core.specs.Factors.{uses}
use Rattle.model_core.specs.TermRules.{has_one_content, has_monomials, has_shape, has_good_monomials, has_good_coupling, is_term}
use Rattle.model_core.proofs.ValidLaws.{both, between}
use Rattle.term_expand.specs.declared.candidates.Candidate.{Candidate}
use Rattle.term_expand.specs.declared.assignments.Assignment.{Assignment}
use Rattle.term_expand.specs.Assignments.{none_given, with_candidate, fits, extended, extended_all, assigned, assignments}
use Rattle.term_expand.specs.Texts.{leg_count, given_places, key_of, value_of_assignment, monomial_values, text_values}
use Rattle.term_expand.proofs.EqualSlots.{each_weaker}
use Rattle.term_expand.proofs.ComponentTwins.{each_append, each_map}
use Rattle.term_expand.proofs.Enumerated.{fermion_candidates, scalar_candidates, fermion_count, scalar_count}

-- ---- the fields of a monomial

count-cons : (used : FieldUse) (others : List FieldUse) → count_by is_fermion (used ∷ others) ≡ cond (is_fermion used) 1 0 + count_by is_fermion others
count-cons used others = sum_by-cons (λ u. cond (is_fermion u) 1 0) used others

-- how many fermions and fields a monomial has
pub fermion_uses : (factors : List Factor) → count_by is_fermion (uses factors) ≡ fermion_count factors
unfolding fermion_count
fermion_uses [] = refl
fermion_uses (Fermion field generation labels ∷ factors) =
    let used : FieldUse = record { kind = kind.Fermion; field = field; conj = false; generation = generation } in
    omega (arith, count-cons used (uses factors), fermion_uses factors)
fermion_uses (Scalar field conj generation labels ∷ factors) =
    let used : FieldUse = record { kind = kind.Scalar; field = field; conj = conj; generation = generation } in
    omega (arith, count-cons used (uses factors), fermion_uses factors)
fermion_uses (Eps labels ∷ factors) = fermion_uses factors
fermion_uses (Table table labels ∷ factors) = fermion_uses factors

pub length-uses : (factors : List Factor) → length (uses factors) ≡ fermion_count factors + scalar_count factors
unfolding fermion_count scalar_count
length-uses [] = omega arith
length-uses (Fermion field generation labels ∷ factors) = omega (arith, length-uses factors)
length-uses (Scalar field conj generation labels ∷ factors) = omega (arith, length-uses factors)
length-uses (Eps labels ∷ factors) = length-uses factors
length-uses (Table table labels ∷ factors) = length-uses factors

-- as many fields as a term of this kind may have
abbrev pub HasFields : TermKind → List Factor → Type 0
HasFields kind.Fermion factors = (fermion_count factors ≡ 2) × (fermion_count factors + scalar_count factors ≤ 3)
HasFields kind.Scalar factors = (fermion_count factors ≡ 0) × (fermion_count factors + scalar_count factors ≤ 4)

-- a monomial that may stand in a term of this kind has
pub has_fields : (of : TermKind) (factors : List Factor) → may_couple of (uses factors) ≡ true → HasFields of factors
has_fields kind.Fermion factors h =
    let parts = both (count_by is_fermion (uses factors) == 2) (nat_le (length (uses factors)) 3) h in
    let count : count_by is_fermion (uses factors) ≡ 2 = let e = parts.0 in grind arith in
    let most : length (uses factors) ≤ 3 = let e = parts.1 in grind (arith, nat_tests) in
    (omega (arith, count, fermion_uses factors), omega (arith, most, length-uses factors))
has_fields kind.Scalar factors h =
    let parts = both (count_by is_fermion (uses factors) == 0) _ h in
    let count : count_by is_fermion (uses factors) ≡ 0 = let e = parts.0 in grind arith in
    let most : length (uses factors) ≤ 4 = (between 2 4 (length (uses factors)) parts.1).1 in
    (omega (arith, count, fermion_uses factors), omega (arith, most, length-uses factors))

all_fields : (of : TermKind) (first : List FieldUse) (monomials : List Monomial) → list_all (has_content of first) monomials ≡ true → AllByRecursion (λ m. HasFields of m.factors) monomials
all_fields of first [] h = tt
all_fields of first (monomial ∷ monomials) h =
    let parts = both (has_content of first monomial) (list_all (has_content of first) monomials) h in
    (has_fields of monomial.factors (both (may_couple of (uses monomial.factors)) (same_uses first (uses monomial.factors)) parts.0).0, all_fields of first monomials parts.1)

-- each monomial of a term has
pub term_fields : (model : Model) (term : Term) → is_term model term ≡ true → AllByRecursion (λ m. HasFields term.kind m.factors) term.monomials
term_fields model term is =
    let good = (both (has_good_monomials model term) (has_good_coupling model term) is).0 in
    all_fields term.kind (first_uses term.monomials) term.monomials (both (has_monomials model term && has_shape model term) (has_one_content term) good).1

-- ---- the places of an assignment

each_flat : {A B : Type 0} (P : A → Type 0) (Q : B → Type 0) (g : A → List B) → ((x : A) → P x → AllByRecursion Q (g x)) → (xs : List A) → AllByRecursion P xs → AllByRecursion Q (flat_map g xs)
each_flat P Q g h [] each = tt
each_flat P Q g h (x ∷ xs) each = each_append Q (g x) (flat_map g xs) (h x each.0) (each_flat P Q g h xs each.1)

each_filter : {A : Type 0} (P : A → Type 0) (test : A → Bool) (xs : List A) → AllByRecursion P xs → AllByRecursion P (filter test xs)
each_filter P test [] each = tt
each_filter P test (x ∷ xs) each = kept (test x) (each_filter P test xs each.1)
  where
    kept : (b : Bool) → AllByRecursion P (filter test xs) → AllByRecursion P (cond b (x ∷ filter test xs) (filter test xs))
    kept true rest = (each.0, rest)
    kept false rest = rest

-- an assignment of so many fermions and scalars
abbrev pub HasPlaces : ℕ → ℕ → Assignment → Type 0
HasPlaces x y given = (length given.fermions ≡ x) × (length given.scalars ≡ y)

after_kind : TermKind → ℕ → ℕ → Assignment → Type 0
after_kind kind.Fermion x y given = HasPlaces (suc x) y given
after_kind kind.Scalar x y given = HasPlaces x (suc y) given

places-with : (of : TermKind) (labels : List ℕ) (x y : ℕ) (given : Assignment) (c : Candidate) → HasPlaces x y given → after_kind of x y (with_candidate of labels given c)
unfolding after_kind
places-with kind.Fermion labels x y given c h = (omega (arith, h.0, length-append given.fermions (c.place ∷ [])), h.1)
places-with kind.Scalar labels x y given c h = (h.0, omega (arith, h.1, length-append given.scalars (c.place ∷ [])))

places-extended : (of : TermKind) (labels : List ℕ) (x y : ℕ) (candidates : List Candidate) (all : List Assignment) → AllByRecursion (HasPlaces x y) all → AllByRecursion (after_kind of x y) (extended_all of labels candidates all)
places-extended of labels x y candidates all each =
    each_flat (HasPlaces x y) (after_kind of x y) (extended of labels candidates)
    (λ given h. each_filter (after_kind of x y) fits (map (with_candidate of labels given) candidates) (each_map (after_kind of x y) (with_candidate of labels given) (λ c. places-with of labels x y given c h) candidates))
    all each

module _ (model : Model) (row column : ℕ) where
  -- each field of the factors adds one
  pub places-assigned : (factors : List Factor) (x y : ℕ) (all : List Assignment) → AllByRecursion (HasPlaces x y) all
      → AllByRecursion (HasPlaces (x + fermion_count factors) (y + scalar_count factors)) (assigned model row column factors all)
  unfolding fermion_count scalar_count after_kind
  places-assigned [] x y all each =
      each_weaker (HasPlaces x y) (HasPlaces (x + 0) (y + 0)) (λ given h. (omega (arith, h.0), omega (arith, h.1))) all each
  places-assigned (Fermion field generation labels ∷ factors) x y all each =
      let candidates = fermion_candidates model row column field generation in
      let next = extended_all kind.Fermion labels candidates all in
      each_weaker (HasPlaces (suc x + fermion_count factors) (y + scalar_count factors)) (HasPlaces (x + suc (fermion_count factors)) (y + scalar_count factors)) (λ given h. (omega (arith, h.0), h.1)) (assigned model row column factors next)
      (places-assigned factors (suc x) y next (places-extended kind.Fermion labels x y candidates all each))
  places-assigned (Scalar field conj generation labels ∷ factors) x y all each =
      let candidates = scalar_candidates model row column field conj generation in
      let next = extended_all kind.Scalar labels candidates all in
      each_weaker (HasPlaces (x + fermion_count factors) (suc y + scalar_count factors)) (HasPlaces (x + fermion_count factors) (y + suc (scalar_count factors))) (λ given h. (h.0, omega (arith, h.1))) (assigned model row column factors next)
      (places-assigned factors x (suc y) next (places-extended kind.Scalar labels x y candidates all each))
  places-assigned (Eps labels ∷ factors) x y all each = places-assigned factors x y all each
  places-assigned (Table table labels ∷ factors) x y all each = places-assigned factors x y all each

-- ---- keys

length-key : (legs dummy : ℕ) (given : Assignment) → length (given_places given) ≤ legs → length (key_of legs dummy given) ≡ legs
length-key legs dummy given h =
    omega (arith, h, length-append (given_places given) (replicate (legs - length (given_places given)) dummy), length-replicate (legs - length (given_places given)) dummy)

few_fields : (of : TermKind) (factors : List Factor) → HasFields of factors → fermion_count factors + scalar_count factors ≤ leg_count of
few_fields kind.Fermion factors h = h.1
few_fields kind.Scalar factors h = h.1

module _ (model : Model) (term : Term) (row column : ℕ) where
  HasRank : Value → Type 0
  HasRank v = length v.key ≡ leg_count term.kind

  rank_monomial : (monomial : Monomial) → HasFields term.kind monomial.factors → AllByRecursion HasRank (monomial_values model term row column monomial)
  unfolding HasRank
  rank_monomial monomial h = each_values (assignments model row column monomial.factors) (places-assigned model row column monomial.factors 0 0 (none_given ∷ []) ((refl, refl), tt))
    where
      each_values : (all : List Assignment) → AllByRecursion (HasPlaces (0 + fermion_count monomial.factors) (0 + scalar_count monomial.factors)) all → AllByRecursion HasRank (map (value_of_assignment model term monomial) all)
      each_values [] each = tt
      each_values (given ∷ all) each =
          (length-key (leg_count term.kind) (length (scalar_list model)) given (omega (arith, each.0.0, each.0.1, length-append given.fermions given.scalars, few_fields term.kind monomial.factors h)), each_values all each.1)

  -- the keys of a term's values have a place for each leg
  pub text_values_rank : is_term model term ≡ true → All (λ v. length v.key ≡ leg_count term.kind) (text_values model term row column)
  unfolding HasRank
  text_values_rank is =
      All-from_recursion (λ v. length v.key ≡ leg_count term.kind) (text_values model term row column)
      (each_flat (λ m. HasFields term.kind m.factors) HasRank (monomial_values model term row column) rank_monomial term.monomials (term_fields model term is))

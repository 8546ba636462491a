-- The terms and the cells of entries, and what the rules on terms say of them.
use Rattle.std.proofs.Common.{◌≡◌, ℕ, suc, ◌≤◌, Bool, true, false, List, [], ◌∷◌, ◌++◌, map, length, refl, sym, subst, ap, ap₂, ◌∙◌, arith, inl, inr, ◌+◌, cond}
use Rattle.std.specs.Prelude.{◌==◌, ◌&&◌, ◌||◌, not, if◌then◌else◌}
use Rattle.std.specs.List.{AllByRecursion, count_by, flat_map, list_all, list_any}
use Rattle.std.specs.Str.{bytes_eq}
use Rattle.std.proofs.lemmas.List.Folds.{list_any-append}
use Rattle.std.proofs.lemmas.List.Sums.{sum_by-cons}
use Rattle.exact_algebra.specs.Orders.{Rearranged}
use Rattle.model_core.specs.declared.content.FieldUse.{FieldUse}
use Rattle.model_core.specs.declared.model.Model.{Model}
use Rattle.model_core.specs.declared.term.Factor.{Factor}
use Rattle.model_core.specs.declared.term.Factor.TheVariants.{Fermion as FermionFactor, Scalar as ScalarFactor, Eps, Table as TableFactor}
use Rattle.model_core.specs.declared.term.Monomial.{Monomial}
use Rattle.model_core.specs.declared.term.Term.{Term}
use Rattle.model_core.specs.declared.term.TermKind.{TermKind}
use Rattle.model_core.specs.declared.term.TermKind.TheVariants.{Fermion, Scalar}
use Rattle.model_core.specs.Content.{block_at, block_of, columns_at, first_uses, has_content, has_mirrored_blocks, is_fermion, is_fermionic, is_mirrored, may_couple, row_is_mirrored, rows_of, same_uses, symbol_count, token_at}
use Rattle.model_core.specs.Directions.{CouplingEntry, cell_content, cells, cells_in, entries_from, numbered, text_cells}
use Rattle.model_core.specs.Factors.{uses}
use Rattle.model_core.specs.Flavour.{is_symmetric}
use Rattle.model_core.specs.Groups.{is_between}
use Rattle.model_core.specs.TermRules.{has_allowed_conjugate, has_good_coupling, has_good_monomials, has_monomials, has_one_content, has_shape, is_monomial, is_term}
use Rattle.model_core.specs.TermTensor.{has_two_texts}
use Rattle.model_core.specs.Valid.{IsValid, are_distinct, field_name, group_names, has_few_components, has_valid_parts, names_of, table_name, term_name}
use Rattle.model_core.proofs.ValidLaws.{both, between, valid_names}
use Rattle.neighbour_laws.proofs.Members.{IsIn, in-append, in-flat_map, in-map}
use Rattle.direction_laws.proofs.Blocks.{same_content}
use Rattle.direction_laws.proofs.FermionSides.{AreFermionic, IsPlain, IsScalar}
use Rattle.direction_laws.proofs.SameUses.{each_passes, numbers_alike, same_fields}
use Rattle.direction_laws.proofs.Sorting.{all_weaker}

-- ---- names

distinct_right : (xs ys : List (List ℕ)) → are_distinct (xs ++ ys) ≡ true → are_distinct ys ≡ true
distinct_right [] ys h = h
distinct_right (x ∷ xs) ys h = distinct_right xs ys (both (not (list_any (bytes_eq x) (xs ++ ys))) (are_distinct (xs ++ ys)) h).1

none_left : (a b : Bool) → not (a || b) ≡ true → not a ≡ true
none_left true b h = h
none_left false b h = refl

distinct_left : (xs ys : List (List ℕ)) → are_distinct (xs ++ ys) ≡ true → are_distinct xs ≡ true
distinct_left [] ys h = refl
distinct_left (x ∷ xs) ys h =
    let parts = both (not (list_any (bytes_eq x) (xs ++ ys))) (are_distinct (xs ++ ys)) h in
    ap₂ ◌&&◌ (none_left (list_any (bytes_eq x) xs) (list_any (bytes_eq x) ys) (ap not (sym (list_any-append (bytes_eq x) xs ys)) ∙ parts.0)) (distinct_left xs ys parts.1)

field_names : (model : Model) → IsValid model → are_distinct (flat_map group_names model.groups ++ map field_name model.fermions ++ map field_name model.scalars) ≡ true
field_names model valid =
    let fields = flat_map group_names model.groups ++ map field_name model.fermions ++ map field_name model.scalars in
    distinct_left fields (map table_name model.tables) (distinct_left (fields ++ map table_name model.tables) (map term_name model.terms)
    (both (has_valid_parts model && has_few_components model) (are_distinct (names_of model)) (valid_names model valid)).1)

-- the fermions of a valid model have different names, and so have its scalars
pub fermion_names : (model : Model) → IsValid model → are_distinct (map field_name model.fermions) ≡ true
fermion_names model valid =
    let groups = flat_map group_names model.groups in
    distinct_right groups (map field_name model.fermions) (distinct_left (groups ++ map field_name model.fermions) (map field_name model.scalars) (field_names model valid))

pub scalar_names : (model : Model) → IsValid model → are_distinct (map field_name model.scalars) ≡ true
scalar_names model valid =
    distinct_right (flat_map group_names model.groups ++ map field_name model.fermions) (map field_name model.scalars) (field_names model valid)

-- ---- entries

in_numbered : (place id : ℕ) (term : Term) (cs : List (ℕ × ℕ)) (e : CouplingEntry) → IsIn e (numbered place id term cs) → (e.term ≡ term) × IsIn (e.row, e.column) cs
in_numbered place id term [] e h = absurd h
in_numbered place id term (c ∷ cs) e (inl is) = (ap (λ x. x.term) is, inl (λ i. ((is i).row, (is i).column)))
in_numbered place id term (c ∷ cs) e (inr h) = let later = in_numbered place (suc id) term cs e h in (later.0, inr later.1)

pub in_entries : (place id : ℕ) (terms : List Term) (e : CouplingEntry) → IsIn e (entries_from place id terms) → IsIn e.term terms × IsIn (e.row, e.column) (cells e.term)
in_entries place id [] e h = absurd h
in_entries place id (term ∷ terms) e h = elim (in-append e (numbered place id term (cells term)) (entries_from (suc place) (id + symbol_count term) terms) h) [
  | inl here ↦ let found = in_numbered place id term (cells term) e here in (inl found.0, subst (λ t. IsIn (e.row, e.column) (cells t)) (sym found.0) found.1)
  | inr later ↦ let found = in_entries (suc place) (id + symbol_count term) terms e later in (inr found.0, found.1)
]

pub all_in : {A : Type 0} (test : A → Bool) (xs : List A) (x : A) → list_all test xs ≡ true → IsIn x xs → test x ≡ true
all_in test [] x h there = absurd there
all_in test (y ∷ xs) x h (inl e) = ap test e ∙ (both (test y) (list_all test xs) h).0
all_in test (y ∷ xs) x h (inr there) = all_in test xs x (both (test y) (list_all test xs) h).1 there

-- ---- blocks of both texts

either_true : (a b : Bool) → (not a || b) ≡ true → a ≡ true → b ≡ true
either_true true b h k = h
either_true false b h k = let never : ⊥ = cc in absurd never

module _ (model : Model) (term : Term) (is : is_term model term ≡ true) where
  abbrev first : List FieldUse
  first = first_uses term.monomials

  good : (has_good_monomials model term ≡ true) × (has_good_coupling model term ≡ true)
  good = both (has_good_monomials model term) (has_good_coupling model term) is

  mirrored : (row column : ℕ) → has_two_texts term row column ≡ true → IsIn (row, column) (cells term) → block_of model (cell_content term (column, row)) ≡ block_of model (cell_content term (row, column))
  mirrored row column two there =
      let symmetric : is_symmetric term.shape ≡ true = (both (is_symmetric term.shape) (not (row == column)) two).0 in
      let rows = either_true (is_symmetric term.shape) (list_all (row_is_mirrored model first term) (rows_of term)) (both (has_allowed_conjugate term) (has_mirrored_blocks model term) good.1).1 symmetric in
      let found = in-flat_map (cells_in term) (row, column) (rows_of term) there in
      let inner = in-map (λ c. (found.0, c)) (row, column) (columns_at term found.0) found.2 in
      let columns : row_is_mirrored model first term found.0 ≡ true = all_in (row_is_mirrored model first term) (rows_of term) found.0 rows found.1 in
      let test : is_mirrored model first found.0 inner.0 ≡ true = all_in (is_mirrored model first found.0) (columns_at term found.0) inner.0 columns inner.1 in
      let alike : block_at model first found.0 inner.0 ≡ block_at model first inner.0 found.0 = same_content (block_at model first found.0 inner.0) (block_at model first inner.0 found.0) test in
      let is_cell : (row, column) ≡ (found.0, inner.0) = inner.2 in
      ap (λ (c : ℕ × ℕ). block_at model first c.1 c.0) is_cell ∙ sym alike ∙ sym (ap (λ (c : ℕ × ℕ). block_at model first c.0 c.1) is_cell)

  -- the contents of all texts of an entry are in one block
  pub one_block : (row column : ℕ) → IsIn (row, column) (cells term) → AllByRecursion (λ cell. block_of model (cell_content term cell) ≡ block_of model (cell_content term (row, column))) (text_cells term row column)
  one_block row column there = by_test (has_two_texts term row column) refl
    where
      by_test : (b : Bool) → has_two_texts term row column ≡ b
          → AllByRecursion (λ cell. block_of model (cell_content term cell) ≡ block_of model (cell_content term (row, column))) (if b then (row, column) ∷ (column, row) ∷ [] else (row, column) ∷ [])
      by_test true two = (refl, (mirrored row column two there, tt))
      by_test false two = (refl, tt)

  -- ---- monomials

  contents : list_all (has_content term.kind first) term.monomials ≡ true
  contents = (both (has_monomials model term && has_shape model term) (has_one_content term) good.0).1

  -- all have the fields of the first one
  pub same_monomials : AllByRecursion (λ m. Rearranged first (uses m.factors)) term.monomials
  same_monomials =
      all_weaker (λ m. has_content term.kind first m ≡ true) (λ m. Rearranged first (uses m.factors)) term.monomials
      (λ m h. same_fields first (uses m.factors) (both (may_couple term.kind (uses m.factors)) (same_uses first (uses m.factors)) h).1)
      (each_passes (has_content term.kind first) term.monomials contents)

  some_monomial : 1 ≤ length term.monomials
  some_monomial =
      let counted = (both (has_monomials model term) (has_shape model term) (both (has_monomials model term && has_shape model term) (has_one_content term) good.0).0).0 in
      (between 1 16 (length term.monomials) (both (is_between 1 16 (length term.monomials)) (list_all (is_monomial model) term.monomials) counted).0).0

  couples : may_couple term.kind first ≡ true
  couples = by_list term.monomials some_monomial contents
    where
      by_list : (ms : List Monomial) → 1 ≤ length ms → list_all (has_content term.kind (first_uses ms)) ms ≡ true → may_couple term.kind (first_uses ms) ≡ true
      by_list [] some h = let never : ⊥ = omega (arith, some) in absurd never
      by_list (m ∷ ms) some h =
          (both (may_couple term.kind (uses m.factors)) (same_uses (uses m.factors) (uses m.factors)) (both (has_content term.kind (uses m.factors) m) (list_all (has_content term.kind (uses m.factors)) ms) h).0).0

-- ---- fermions

uses_plain : (row column : ℕ) (factors : List Factor) → AllByRecursion IsPlain (map (token_at row column) (uses factors))
uses_plain row column [] = tt
uses_plain row column (FermionFactor field generation labels ∷ factors) = (λ h. refl, uses_plain row column factors)
uses_plain row column (ScalarFactor field conj generation labels ∷ factors) = (λ h. apart h, uses_plain row column factors)
  where
    apart : Scalar ≡ Fermion → conj ≡ false
    apart h = let never : ⊥ = cc in absurd never
uses_plain row column (Eps labels ∷ factors) = uses_plain row column factors
uses_plain row column (TableFactor table labels ∷ factors) = uses_plain row column factors

first_plain : (row column : ℕ) (ms : List Monomial) → AllByRecursion IsPlain (map (token_at row column) (first_uses ms))
first_plain row column [] = tt
first_plain row column (m ∷ ms) = uses_plain row column m.factors

no_fermions : (row column : ℕ) (us : List FieldUse) → AllByRecursion IsScalar (map (token_at row column) us) → count_by is_fermion us ≡ 0
no_fermions row column [] h = refl
no_fermions row column (u ∷ us) h =
    let count_one : Bool → ℕ = λ b. cond b 1 0 in
    let here : count_one (is_fermion u) ≡ 0 = ap (λ (k : TermKind). count_one (is_fermionic k)) h.0 in
    let counted : count_by is_fermion (u ∷ us) ≡ count_one (is_fermion u) + count_by is_fermion us = sum_by-cons (λ (y : FieldUse). cond (is_fermion y) 1 0) u us in
    let others = no_fermions row column us h.1 in
    omega (arith, here, counted, others)

-- the content of a fermion term has a fermion
pub fermionic : (model : Model) (term : Term) → is_term model term ≡ true → term.kind ≡ Fermion → (row column : ℕ) → AreFermionic (map (token_at row column) (first_uses term.monomials))
fermionic model term is kind row column =
    let us = first_uses term.monomials in
    let couple : may_couple Fermion us ≡ true = ap (λ k. may_couple k us) (sym kind) ∙ couples model term is in
    let two = numbers_alike (count_by is_fermion us) 2 (both (count_by is_fermion us == 2) _ couple).0 in
    record {
      plain = first_plain row column term.monomials;
      some = λ all. let none = no_fermions row column us all in omega (arith, two, none);
    }

-- What a valid model's parts meet.
use Rattle.std.proofs.Common.{◌≡◌, ℕ, suc, ◌≤◌, Bool, true, false, List, [], ◌∷◌, length, refl, arith, ap, ap₂, inl, inr}
use Rattle.std.specs.Prelude.{◌&&◌, ◌⊎◌, not, nat_le}
use Rattle.exact_algebra.specs.Sums.{Each}
use Rattle.frac128.specs.RationalLaws.{ring_ℚ}
use Rattle.su_reps.specs.declared.rep.Rep.{Rep}
use Rattle.su_reps.specs.declared.rep.Rep.TheVariants.{Singlet, Fund, Conj, Adjoint, Sym2, Sym2Conj, Anti2, Anti2Conj}
use Rattle.std.specs.List.{list_all}
use Rattle.std.proofs.lemmas.Bool.Decides.{nat_tests}
use Rattle.model_core.specs.declared.group.Group.{Group}
use Rattle.model_core.specs.declared.field.Field.{Field}
use Rattle.model_core.specs.declared.model.Model.{Model}
use Rattle.model_core.specs.Component.{fermion_components}
use Rattle.model_core.specs.Scalar.{scalar_components}
use Rattle.model_core.proofs.Traces.{AreSpecial}
use Rattle.model_core.specs.Groups.{is_between, is_abelian}
use Rattle.model_core.specs.TermRules.{are_terms}
use Rattle.model_core.specs.Valid.{has_one_abelian, is_group, is_rep, are_reps, has_charge_of, is_field, are_groups, has_valid_fields, has_valid_parts, are_distinct, names_of, IsValid, has_few_components, has_valid_names, has_file_values, are_scalars, are_fields, is_scalar, are_tables}

-- both tests hold
pub both : (a b : Bool) → (a && b) ≡ true → (a ≡ true) × (b ≡ true)
both true b e = (refl, e)
both false b e = let never : ⊥ = cc in absurd never

pub between : (low high n : ℕ) → is_between low high n ≡ true → (low ≤ n) × (n ≤ high)
between low high n e =
    let parts = both (nat_le low n) (nat_le n high) e in
    let first : nat_le low n ≡ true = parts.0 in
    let second : nat_le n high ≡ true = parts.1 in
    (grind (arith, nat_tests), grind (arith, nat_tests))

-- each passes the test
pub first_passes : {A : Type 0} (test : A → Bool) (x : A) (xs : List A) → list_all test (x ∷ xs) ≡ true → (test x ≡ true) × (list_all test xs ≡ true)
first_passes test x xs e = both (test x) (list_all test xs) e

pub field_generations : (groups : List Group) (field : Field) → is_field groups field ≡ true → (1 ≤ field.generations) × (field.generations ≤ 6)
field_generations groups field e = between 1 6 field.generations (both (is_between 1 6 field.generations) _ (both _ (has_charge_of groups field) e).0).0

pub field_reps : (groups : List Group) (field : Field) → is_field groups field ≡ true → are_reps groups field.reps ≡ true
field_reps groups field e = (both (is_between 1 6 field.generations) (are_reps groups field.reps) (both _ (has_charge_of groups field) e).0).1

-- as many representations as groups
pub length-reps : (groups : List Group) (reps : List Rep) → are_reps groups reps ≡ true → length reps ≡ length groups
length-reps [] [] e = refl
length-reps [] (rep ∷ reps) e = let never : ⊥ = cc in absurd never
length-reps (group ∷ groups) [] e = let never : ⊥ = cc in absurd never
length-reps (group ∷ groups) (rep ∷ reps) e = ap suc (length-reps groups reps (both (is_rep group rep) (are_reps groups reps) e).1)

-- ---- the parts of a valid model

pub valid_names : (model : Model) → IsValid model → has_valid_names model ≡ true
valid_names model valid = (both (has_valid_names model) (are_terms model model.terms && has_file_values model) valid).0

pub terms_meet : (model : Model) → IsValid model → are_terms model model.terms ≡ true
terms_meet model valid = (both (are_terms model model.terms) (has_file_values model) (both (has_valid_names model) (are_terms model model.terms && has_file_values model) valid).1).0

pub valid_values : (model : Model) → IsValid model → has_file_values model ≡ true
valid_values model valid = (both (are_terms model model.terms) (has_file_values model) (both (has_valid_names model) (are_terms model model.terms && has_file_values model) valid).1).1

pub valid_parts : (model : Model) → IsValid model → has_valid_parts model ≡ true
valid_parts model valid = (both (has_valid_parts model) (has_few_components model) (both _ (are_distinct (names_of model)) (valid_names model valid)).0).0

few_components : (model : Model) → IsValid model → has_few_components model ≡ true
few_components model valid = (both (has_valid_parts model) (has_few_components model) (both _ (are_distinct (names_of model)) (valid_names model valid)).0).1

pub valid_count : (model : Model) → IsValid model → length (fermion_components model) ≤ 512
valid_count model valid =
    let test = (both (nat_le (length (fermion_components model)) 512) _ (few_components model valid)).0 in
    grind (arith, nat_tests)

pub valid_scalar_count : (model : Model) → IsValid model → length (scalar_components model) ≤ 256
valid_scalar_count model valid =
    let test = (both (nat_le (length (fermion_components model)) 512) _ (few_components model valid)).1 in
    grind (arith, nat_tests)

parts_are_fields : (model : Model) → has_valid_parts model ≡ true → has_valid_fields model ≡ true
parts_are_fields model valid = (both (has_valid_fields model) (are_tables model.groups model.tables) valid).0

pub parts_groups : (model : Model) → has_valid_parts model ≡ true → are_groups model.groups ≡ true
parts_groups model valid = (both (are_groups model.groups) _ (both _ (are_scalars model.groups model.scalars) (parts_are_fields model valid)).0).0

pub parts_fermions : (model : Model) → has_valid_parts model ≡ true → are_fields model.groups model.fermions ≡ true
parts_fermions model valid = (both (are_groups model.groups) _ (both _ (are_scalars model.groups model.scalars) (parts_are_fields model valid)).0).1

pub parts_fields : (model : Model) → has_valid_parts model ≡ true → list_all (is_field model.groups) model.fermions ≡ true
parts_fields model valid = (both _ (list_all (is_field model.groups) model.fermions) (parts_fermions model valid)).1

pub parts_scalars : (model : Model) → has_valid_parts model ≡ true → are_scalars model.groups model.scalars ≡ true
parts_scalars model valid = (both _ (are_scalars model.groups model.scalars) (parts_are_fields model valid)).1

-- a scalar is as a field must be
scalar_fields : (groups : List Group) (fields : List Field) → list_all (is_scalar groups) fields ≡ true → list_all (is_field groups) fields ≡ true
scalar_fields groups [] valid = refl
scalar_fields groups (field ∷ fields) valid =
    let parts = first_passes (is_scalar groups) field fields valid in
    ap₂ ◌&&◌ (both (is_field groups field) _ parts.0).0 (scalar_fields groups fields parts.1)

pub parts_scalar_fields : (model : Model) → has_valid_parts model ≡ true → list_all (is_field model.groups) model.scalars ≡ true
parts_scalar_fields model valid =
    scalar_fields model.groups model.scalars (both _ (list_all (is_scalar model.groups) model.scalars) (parts_scalars model valid)).1

pub group_limit : (groups : List Group) → are_groups groups ≡ true → length groups ≤ 4
group_limit groups valid =
    let test = (both (nat_le (length groups) 4) (list_all is_group groups) (both _ (has_one_abelian groups) valid).0).0 in
    grind (arith, nat_tests)

pub groups_pass : (groups : List Group) → are_groups groups ≡ true → list_all is_group groups ≡ true
groups_pass groups valid = (both (nat_le (length groups) 4) (list_all is_group groups) (both _ (has_one_abelian groups) valid).0).1

-- ---- SU(n) and the U(1)

pub special_size : (group : Group) → is_group group ≡ true → is_abelian group ≡ false → 2 ≤ group.n
special_size group passes e =
    let range = between 1 6 group.n passes in
    grind (arith, nat_tests)

not_abelian : (group : Group) → is_group group ≡ true → not (is_abelian group) ≡ true → 2 ≤ group.n
not_abelian group passes e =
    let range = between 1 6 group.n passes in
    grind (arith, nat_tests)

special_or_singlet : (group : Group) (rep : Rep) → is_group group ≡ true → is_rep group rep ≡ true → (2 ≤ group.n) ⊎ (rep ≡ Singlet)
special_or_singlet group Singlet passes e = inr refl
special_or_singlet group Fund passes e = inl (not_abelian group passes e)
special_or_singlet group Conj passes e = inl (not_abelian group passes e)
special_or_singlet group Adjoint passes e = inl (not_abelian group passes e)
special_or_singlet group Sym2 passes e = inl (not_abelian group passes e)
special_or_singlet group Sym2Conj passes e = inl (not_abelian group passes e)
special_or_singlet group Anti2 passes e = inl (not_abelian group passes e)
special_or_singlet group Anti2Conj passes e = inl (not_abelian group passes e)

-- each group is SU(n), or the representation is the singlet
pub are_special : (groups : List Group) (reps : List Rep) → list_all is_group groups ≡ true → are_reps groups reps ≡ true → AreSpecial groups reps
are_special [] reps passes valid = tt
are_special (group ∷ groups) [] passes valid = tt
are_special (group ∷ groups) (rep ∷ reps) passes valid =
    let parts = first_passes is_group group groups passes in
    let each = both (is_rep group rep) (are_reps groups reps) valid in
    (special_or_singlet group rep parts.0 each.0, are_special groups reps parts.1 each.1)

-- for each of valid fields
pub all_special : (groups : List Group) (fields : List Field) → list_all is_group groups ≡ true → list_all (is_field groups) fields ≡ true
    → Each ring_ℚ.semiring (λ field. AreSpecial groups field.reps) fields
all_special groups [] passes valid = tt
all_special groups (field ∷ fields) passes valid =
    let parts = first_passes (is_field groups) field fields valid in
    (are_special groups field.reps passes (field_reps groups field parts.0), all_special groups fields passes parts.1)

pub between-test : (low high n : ℕ) → low ≤ n → n ≤ high → is_between low high n ≡ true
between-test low high n first second = grind (arith, nat_tests)

-- The value of a monomial at components given to its factors: 1 or 0 for each label by whether the slots that it joins have
-- one value, the sign for each `eps`, the entry for each table, and the coefficient.
use Rattle.std.specs.Prelude.{ℕ, zero, suc, ◌+◌, ◌==◌, nat_lt, Bool, true, false, ◌&&◌, if◌then◌else◌, List, [], ◌∷◌, ◌++◌, map, slice_get, Option, Some, None, option_map, unwrap_or}
use Rattle.std.specs.List.{find, list_all, list_any, count_by}
use Rattle.std.specs.Str.{bytes_eq}
use Rattle.exact_algebra.specs.Sums.{sum}
use Rattle.exact_algebra.specs.Products.{product}
use Rattle.frac128.specs.Rational.{ℚ, zero_ℚ, one_ℚ, neg_ℚ, ◌*ℚ◌}
use Rattle.frac128.specs.RationalLaws.{ring_ℚ}
use Rattle.model_core.specs.declared.field.Field.{Field}
use Rattle.model_core.specs.declared.table.Entry.{Entry}
use Rattle.model_core.specs.declared.table.Table.{Table}
use Rattle.model_core.specs.declared.model.Model.{Model}
use Rattle.model_core.specs.declared.term.Factor.{Factor}
use Rattle.model_core.specs.declared.term.Factor.TheVariants.{Fermion, Scalar, Eps, Table as TableFactor}
use Rattle.model_core.specs.declared.term.Monomial.{Monomial}
use Rattle.model_core.specs.declared.term.Term.{Term}
use Rattle.model_core.specs.declared.content.LabelValue.{LabelValue}
use Rattle.model_core.specs.Component.{Component, same_side}
use Rattle.model_core.specs.Scalar.{Coordinate}
use Rattle.model_core.specs.Scalar.Coordinate.{Of, Dummy}
use Rattle.model_core.specs.Content.{generation_at}

-- ---- labels and their values

-- the labels of a field's slots with the values that a component has there
abbrev pub label_values : List ℕ → List ℕ → List LabelValue
label_values (label ∷ labels) (value ∷ values) = record { label = label; value = value } ∷ label_values labels values
label_values _ _ = []

-- the value of a label: that of the first slot which has it
abbrev pub is_labelled : ℕ → LabelValue → Bool
is_labelled label slot = label == slot.label

abbrev pub value_of_slot : LabelValue → ℕ
value_of_slot slot = slot.value

abbrev pub value_of : List LabelValue → ℕ → ℕ
value_of slots label = unwrap_or (option_map value_of_slot (find (is_labelled label) slots)) 0

-- all slots of a label have one value
abbrev pub agrees : List LabelValue → LabelValue → Bool
agrees slots slot = slot.value == value_of slots slot.label

abbrev pub are_equal : List LabelValue → Bool
are_equal slots = list_all (agrees slots) slots

-- ---- `eps` and tables

-- how many values behind a value are less than it
abbrev pub is_less : ℕ → ℕ → Bool
is_less value other = nat_lt other value

-- how many pairs of values are in the wrong order
abbrev pub inversions : List ℕ → ℕ
inversions [] = 0
inversions (value ∷ values) = count_by (is_less value) values + inversions values

-- a value stands twice
abbrev pub has_repeat : List ℕ → Bool
has_repeat [] = false
has_repeat (value ∷ values) = if list_any (λ other. value == other) values then true else has_repeat values

-- 1 for an even number, and -1 for an odd one
abbrev pub sign : ℕ → ℚ
sign zero = one_ℚ
sign (suc n) = neg_ℚ (sign n)

-- the totally antisymmetric tensor of SU(n) at n values: the sign of the permutation, and 0 where a value is repeated
abbrev pub levi_civita : List ℕ → ℚ
levi_civita values = if has_repeat values then zero_ℚ else sign (inversions values)

-- the same values
abbrev pub same_values : List ℕ → List ℕ → Bool
same_values [] [] = true
same_values (a ∷ p) (b ∷ q) = a == b && same_values p q
same_values _ _ = false

abbrev pub stands_at : List ℕ → Entry → Bool
stands_at values entry = same_values values entry.at

abbrev pub value_of_entry : Entry → ℚ
value_of_entry entry = entry.value

-- the entry of a table at values of its slots, which is 0 where none is written
abbrev pub entry_at : Option Table → List ℕ → ℚ
entry_at None values = zero_ℚ
entry_at (Some table) values = unwrap_or (option_map value_of_entry (find (stands_at values) table.entries)) zero_ℚ

-- the number that a factor is where its labels have values: a field is none
abbrev pub factor_at : Model → List LabelValue → Factor → ℚ
factor_at model slots (Eps labels) = levi_civita (map (value_of slots) labels)
factor_at model slots (TableFactor table labels) = entry_at (slice_get model.tables table) (map (value_of slots) labels)
factor_at model slots _ = one_ℚ

-- the product of these
abbrev pub factors_at : Model → List Factor → List LabelValue → ℚ
factors_at model factors slots = product ring_ℚ.semiring factors (factor_at model slots)

-- ---- components given to fields

-- the component is one of this field, or of its conjugate, in this generation
abbrev pub is_named : Option Field → Component → Bool
is_named None c = false
is_named (Some field) c = bytes_eq field.name c.field.name

abbrev pub stands_for : Option Field → Bool → ℕ → Component → Bool
stands_for field conj generation c = (is_named field c && same_side conj c.conj) && generation == c.generation

abbrev pub is_dummy : Coordinate → Bool
is_dummy (Of c) = false
is_dummy Dummy = true

-- the slots of a field, filled with the values of a component that stands for it, and then the slots of other fields
abbrev pub filled : Bool → List ℕ → Component → Option (List LabelValue) → Option (List LabelValue)
filled false labels c others = None
filled true labels c others = option_map (λ slots. label_values labels c.values ++ slots) others

-- The slots of a monomial's fields at an entry of its coupling, with the values of components given to the fields in order:
-- the fermions to the fermions and the scalars to the scalars. Each component is one of its field, and dummies are left
-- over; to anything else there is no value.
abbrev pub given : Model → ℕ → ℕ → List Factor → List Coordinate → List Coordinate → Option (List LabelValue)
given model row column [] [] scalars = if list_all is_dummy scalars then Some [] else None
given model row column (Fermion field generation labels ∷ factors) (Of c ∷ fermions) scalars =
    filled (stands_for (slice_get model.fermions field) false (generation_at row column generation) c) labels c (given model row column factors fermions scalars)
given model row column (Scalar field conj generation labels ∷ factors) fermions (Of c ∷ scalars) =
    filled (stands_for (slice_get model.scalars field) conj (generation_at row column generation) c) labels c (given model row column factors fermions scalars)
given model row column (Eps labels ∷ factors) fermions scalars = given model row column factors fermions scalars
given model row column (TableFactor table labels ∷ factors) fermions scalars = given model row column factors fermions scalars
given model row column _ _ _ = None

-- ---- values

-- the value of a monomial where the slots of its fields have values
abbrev pub value_at_slots : Model → Monomial → Option (List LabelValue) → ℚ
value_at_slots model monomial None = zero_ℚ
value_at_slots model monomial (Some slots) =
    if are_equal slots then monomial.coefficient *ℚ factors_at model monomial.factors slots else zero_ℚ

-- the value of a monomial at components given to its fields in order
abbrev pub monomial_at : Model → ℕ → ℕ → List Coordinate → List Coordinate → Monomial → ℚ
monomial_at model row column fermions scalars monomial =
    value_at_slots model monomial (given model row column monomial.factors fermions scalars)

-- the value of a term's text: the sum over its monomials
abbrev pub text_at : Model → Term → ℕ → ℕ → List Coordinate → List Coordinate → ℚ
text_at model term row column fermions scalars =
    sum ring_ℚ.semiring term.monomials (monomial_at model row column fermions scalars)

-- The elements of an array, and its tables.
use Rattle.std.proofs.Common.{◌≡◌, suc, true, List, [], ◌∷◌, map, length, refl, ap, ◌∙◌}
use Rattle.std.proofs.lemmas.List.{length-map}
use Rattle.toml.specs.Data.{Data, string, integer, float, boolean, datetime, array, table}
use Rattle.toml.specs.View.{view, items_of, items_view}
use Rattle.toml.specs.declared.value.Value.{Value}
use Rattle.model_core.specs.Document.{elements, tables_among}
use Rattle.model_core.specs.Walk.{are_tables}

pub elements_back : (values : List Data) → elements (items_of values) ≡ values
elements_back [] = refl
elements_back (value ∷ values) = ap (λ rest. value ∷ rest) (elements_back values)

-- an array of tables alone has as many tables as elements
count_tables : (values : List Data) → are_tables (items_of values) ≡ true → length (tables_among (items_of values)) ≡ length values
count_tables [] all = refl
count_tables (table pairs ∷ values) all = ap suc (count_tables values all)
count_tables (string text ∷ values) all = let never : ⊥ = cc in absurd never
count_tables (integer n ∷ values) all = let never : ⊥ = cc in absurd never
count_tables (float x ∷ values) all = let never : ⊥ = cc in absurd never
count_tables (boolean b ∷ values) all = let never : ⊥ = cc in absurd never
count_tables (datetime when ∷ values) all = let never : ⊥ = cc in absurd never
count_tables (array items ∷ values) all = let never : ⊥ = cc in absurd never

pub tables_count : (values : List Value) → are_tables (items_view values) ≡ true → length (tables_among (items_view values)) ≡ length values
tables_count values all = count_tables (map view values) all ∙ length-map values view

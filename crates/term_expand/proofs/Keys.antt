-- Keys filled with the dummy, whose place is the number of scalars.
use Rattle.std.specs.Prelude.{◌≡◌, ◌<◌, ◌≤◌, ◌+◌, ◌-◌, ℕ, suc, List, [], ◌∷◌, ◌++◌, length, map, replicate}
use Rattle.std.specs.List.{flat_map}
use Rattle.std.proofs.Common.{refl, sym, ap, ap₂, ◌∙◌, arith, length-append, subst}
use Rattle.std.proofs.lemmas.List.{append_assoc, length-map}
use Rattle.model_core.specs.declared.field.Field.{Field}
use Rattle.model_core.specs.declared.group.Group.{Group}
use Rattle.model_core.specs.declared.model.Model.{Model}
use Rattle.model_core.specs.ComponentLists.{placed, scalar_list, scalars_from}
use Rattle.model_core.specs.Scalar.{coordinates_of}
use Rattle.model_core.specs.Valid.{IsValid}
use Rattle.model_core.proofs.ValidLaws.{valid_scalar_count}

one_longer : (key new : List ℕ) (dummy : ℕ) → new ≡ key ++ dummy ∷ [] → length new ≡ length key + 1
one_longer key new dummy e = ap length e ∙ length-append key (dummy ∷ [])

-- one leg less is left
pub fill_smaller : (key new : List ℕ) (legs dummy : ℕ) → new ≡ key ++ dummy ∷ [] → length key < legs → legs - length new < legs - length key
fill_smaller key new legs dummy e l = let longer = one_longer key new dummy e in omega arith

-- one more place
pub fill_step : (key new whole : List ℕ) (legs dummy : ℕ) → new ≡ key ++ dummy ∷ [] → length key < legs → key ++ replicate (legs - length key) dummy ≡ whole → new ++ replicate (legs - length new) dummy ≡ whole
fill_step key new whole legs dummy e l h =
    let left : legs - length key ≡ suc (legs - length new) = let longer = one_longer key new dummy e in omega arith in
    ap (λ k. k ++ replicate (legs - length new) dummy) e ∙ append_assoc key (dummy ∷ []) (replicate (legs - length new) dummy)
    ∙ ap (λ n. key ++ replicate n dummy) (sym left) ∙ h

scalars_counted : (groups : List Group) (place : ℕ) (fields : List Field) → length (scalars_from groups place fields) ≡ length (flat_map (coordinates_of groups) fields)
scalars_counted groups place [] = refl
scalars_counted groups place (field ∷ fields) =
    length-append (map (placed place) (coordinates_of groups field)) (scalars_from groups (suc place) fields)
    ∙ ap₂ ◌+◌ (length-map (coordinates_of groups field) (placed place)) (scalars_counted groups (suc place) fields)
    ∙ sym (length-append (coordinates_of groups field) (flat_map (coordinates_of groups) fields))

-- a valid model has at most 256 scalars
pub few_scalars : (model : Model) → IsValid model → length (scalar_list model) ≤ 256
few_scalars model valid =
    subst (λ n. n ≤ 256) (sym (scalars_counted model.groups 0 model.scalars)) (valid_scalar_count model valid)

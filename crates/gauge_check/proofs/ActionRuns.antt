-- The steps of the code that lists the generators of a model.
use Rattle.std.specs.Prelude.{◌≡◌, ◌≤◌, ◌+◌, ℕ, zero, suc, true, false, List, [], ◌∷◌, ◌++◌, map, length, take, slice_get, Some, option_map}
use Rattle.std.specs.List.{flat_map, range_with_len, enumerate_from}
use Rattle.std.proofs.Common.{refl, sym, ap, ◌∙◌, arith, subst, append_assoc, append-nil, add-one}
use Rattle.std.proofs.Math.Seq.{take-suc}
use Rattle.std.proofs.lemmas.List.{take_all}
use Rattle.std.proofs.lemmas.List.FromFn.{map-range_with_len_more, length-enumerate_from}
use Rattle.std.proofs.lemmas.Option.{slice_get_within, get_or_from_slice_get}
use Rattle.std.proofs.lemmas.Grind.{flat_map-append}
use Rattle.model_core.specs.declared.group.Group.{Group}
use Rattle.model_core.specs.declared.model.Model.{Model}
use Rattle.model_core.specs.declared.generator.Generator.{Generator}
use Rattle.model_core.specs.Groups.{is_abelian}
use Rattle.model_core.specs.Generators.{generators_of, generators}
use Rattle.model_core.specs.Valid.{is_group, IsValid}
use Rattle.model_core.proofs.CountLaws.{passes_at}
use Rattle.model_core.proofs.ValidLaws.{between, valid_parts, parts_groups, groups_pass, special_size}
use Rattle.gauge_check.specs.declared.action.Action.{Action}
use Rattle.gauge_check.specs.Actions.{special_row, IsAction, AreActions, Extends}

-- one more generator
one_more : (model : Model) (xs : List Generator) (x : Generator) (actions : List Action) (action : Action) → AreActions model xs actions → IsAction model x action → AreActions model (xs ++ x ∷ []) (actions ++ action ∷ [])
one_more model [] x [] action are is = (is, tt)
one_more model [] x (other ∷ actions) action are is = absurd are
one_more model (y ∷ xs) x [] action are is = absurd are
one_more model (y ∷ xs) x (other ∷ actions) action are is = (are.0, one_more model xs x actions action are.1 is)

-- one generator
pub extends_one : (model : Model) (x : Generator) (old : List Action) (action : Action) → IsAction model x action → Extends model (x ∷ []) old (old ++ action ∷ [])
extends_one model x old action is before are = one_more model before x old action are is

-- some and then others
pub extends_append : (model : Model) (xs ys : List Generator) (old between new : List Action) → Extends model xs old between → Extends model ys between new → Extends model (xs ++ ys) old new
extends_append model xs ys old between new first second before are =
    subst (λ zs. AreActions model zs new) (append_assoc before xs ys) (second (before ++ xs) (first before are))

-- one that is put at the end
pub extends_pushed : (model : Model) (x : Generator) (old new : List Action) (action : Action) → IsAction model x action → new ≡ old ++ action ∷ [] → Extends model (x ∷ []) old new
extends_pushed model x old new action is pushed = subst (Extends model (x ∷ []) old) (sym pushed) (extends_one model x old action is)

-- ---- the X_ij of an SU(n)

-- the numbers from 1 to n + 1
range_more : (n : ℕ) → range_with_len 1 (n + 1) ≡ range_with_len 1 n ++ (n + 1) ∷ []
range_more n = sym (map-same (range_with_len 1 (n + 1))) ∙ map-range_with_len_more (λ j. j) 1 n (n + 1) (omega arith) ∙ ap (λ xs. xs ++ (n + 1) ∷ []) (map-same (range_with_len 1 n))
  where
    map-same : (xs : List ℕ) → map (λ j. j) xs ≡ xs
    map-same [] = refl
    map-same (x ∷ xs) = ap (λ rest. x ∷ rest) (map-same xs)

-- one more of a row
pub row_more : (model : Model) (place i n : ℕ) (old between new : List Action) → Extends model (special_row place i n) old between → Extends model (record { place = place; i = i; j = n + 1 } ∷ []) between new → Extends model (special_row place i (n + 1)) old new
row_more model place i n old between new first second =
    subst (λ xs. Extends model xs old new) (sym (map-range_with_len_more (λ j. record { place = place; i = i; j = j }) 1 n (n + 1) (omega arith))) (extends_append model (special_row place i n) (record { place = place; i = i; j = n + 1 } ∷ []) old between new first second)

-- the first rows
abbrev pub special_rows : ℕ → ℕ → ℕ → List Generator
special_rows place n count = flat_map (λ i. special_row place i n) (range_with_len 1 count)

-- one more row
pub rows_more : (model : Model) (place n count : ℕ) (old between new : List Action) → Extends model (special_rows place n count) old between → Extends model (special_row place (count + 1) n) between new → Extends model (special_rows place n (count + 1)) old new
rows_more model place n count old between new first second =
    subst (λ xs. Extends model xs old new) (sym later) (extends_append model (special_rows place n count) (special_row place (count + 1) n) old between new first second)
  where
    later : special_rows place n (count + 1) ≡ special_rows place n count ++ special_row place (count + 1) n
    later =
        ap (flat_map (λ i. special_row place i n)) (range_more count)
        ∙ flat_map-append (λ i. special_row place i n) (range_with_len 1 count) ((count + 1) ∷ [])
        ∙ ap (λ xs. special_rows place n count ++ xs) (append-nil (special_row place (count + 1) n))

-- ---- groups

-- a group of a valid model
pub valid_group : (model : Model) (place : ℕ) (group : Group) → IsValid model → slice_get model.groups place ≡ Some group → is_group group ≡ true
valid_group model place group valid at =
    subst (λ g. is_group g ≡ true) (get_or_from_slice_get model.groups place group group at) (passes_at is_group model.groups place group (groups_pass model.groups (parts_groups model (valid_parts model valid))) (slice_get_within model.groups place group at))

-- its n is at most 6
pub group_small : (model : Model) (place : ℕ) (group : Group) → IsValid model → slice_get model.groups place ≡ Some group → group.n ≤ 6
group_small model place group valid at = (between 1 6 group.n (valid_group model place group valid at)).1

-- and 2 at least, but for the U(1)
pub group_special : (model : Model) (place : ℕ) (group : Group) → IsValid model → slice_get model.groups place ≡ Some group → is_abelian group ≡ false → 2 ≤ group.n
group_special model place group valid at other = special_size group (valid_group model place group valid at) other

-- a group with its place, where places count from a number
enumerated : (groups : List Group) (n k m : ℕ) (group : Group) → n + k ≡ m → slice_get groups k ≡ Some group → slice_get (enumerate_from n groups) k ≡ Some (m, group)
enumerated [] n k m group e at = let never : ⊥ = cc in absurd never
enumerated (first ∷ groups) n zero m group e at =
    let same : n ≡ m = omega (arith, e) in
    ap (λ i. Some (i, first)) same ∙ ap (option_map (λ g. (m, g))) at
enumerated (first ∷ groups) n (suc k) m group e at = enumerated groups (n + 1) k m group (omega (arith, e)) at

-- the generators of the first groups
abbrev pub first_generators : Model → ℕ → List Generator
first_generators model count = flat_map generators_of (take count (enumerate_from 0 model.groups))

-- those of one more group
pub groups_more : (model : Model) (place : ℕ) (group : Group) (old new : List Action) → slice_get model.groups place ≡ Some group → AreActions model (first_generators model place) old → Extends model (generators_of (place, group)) old new
    → AreActions model (first_generators model (place + 1)) new
groups_more model place group old new at are extends =
    subst (λ xs. AreActions model xs new) (sym later) (extends (first_generators model place) are)
  where
    there : slice_get (enumerate_from 0 model.groups) place ≡ Some (place, group)
    there = enumerated model.groups 0 place place group (omega arith) at

    taken : take (place + 1) (enumerate_from 0 model.groups) ≡ take place (enumerate_from 0 model.groups) ++ (place, group) ∷ []
    taken =
        ap (λ n. take n (enumerate_from 0 model.groups)) (add-one place)
        ∙ take-suc (enumerate_from 0 model.groups) place (place, group) (slice_get_within (enumerate_from 0 model.groups) place (place, group) there)
        ∙ ap (λ y. take place (enumerate_from 0 model.groups) ++ y ∷ []) (get_or_from_slice_get (enumerate_from 0 model.groups) place (place, group) (place, group) there)

    later : first_generators model (place + 1) ≡ first_generators model place ++ generators_of (place, group)
    later =
        ap (flat_map generators_of) taken
        ∙ flat_map-append generators_of (take place (enumerate_from 0 model.groups)) ((place, group) ∷ [])
        ∙ ap (λ xs. first_generators model place ++ xs) (append-nil (generators_of (place, group)))

-- after the last group
pub groups_end : (model : Model) (count : ℕ) (actions : List Action) → count ≡ length model.groups → AreActions model (first_generators model count) actions → AreActions model (generators model) actions
groups_end model count actions end are =
    subst (λ xs. AreActions model (flat_map generators_of xs) actions) (take_all count (enumerate_from 0 model.groups) (omega (arith, end, length-enumerate_from 0 model.groups))) are

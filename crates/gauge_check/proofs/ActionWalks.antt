-- The generators of a model and their actions, one by one.
use Rattle.std.specs.Prelude.{◌≡◌, ◌<◌, ◌≤◌, ◌+◌, if◌then◌else◌, ℕ, zero, suc, Bool, true, false, List, [], ◌∷◌, ◌++◌, map, length, get_or}
use Rattle.std.specs.List.{flat_map, enumerate_from, range_with_len, AllByRecursion}
use Rattle.std.proofs.Common.{drop, refl, sym, ap, subst, ◌∙◌, arith}
use Rattle.model_core.specs.declared.generator.Generator.{Generator}
use Rattle.model_core.specs.declared.group.Group.{Group}
use Rattle.model_core.specs.declared.model.Model.{Model}
use Rattle.model_core.specs.Generators.{charge_generator, special_generators, generators_of, generators}
use Rattle.model_core.specs.Groups.{is_abelian}
use Rattle.gauge_check.specs.declared.action.Action.{Action}
use Rattle.gauge_check.specs.Actions.{IsAction, AreActions}

-- ---- the groups of generators

each_append : {A : Type 0} (P : A → Type 0) (xs ys : List A) → AllByRecursion P xs → AllByRecursion P ys → AllByRecursion P (xs ++ ys)
each_append P [] ys first second = second
each_append P (x ∷ xs) ys first second = (first.0, each_append P xs ys first.1 second)

each_dropped : {A : Type 0} (P : A → Type 0) (xs rest : List A) (i : ℕ) (x : A) → AllByRecursion P xs → drop i xs ≡ x ∷ rest → P x
each_dropped P [] rest zero x all here = let never : ⊥ = cc in absurd never
each_dropped P [] rest (suc i) x all here = let never : ⊥ = cc in absurd never
each_dropped P (y ∷ xs) rest zero x all here = let same : y ≡ x = cc in subst P same all.0
each_dropped P (y ∷ xs) rest (suc i) x all here = each_dropped P xs rest i x all.1 here

module _ (count place : ℕ) (within : place < count) where
  abbrev IsWithin : Generator → Type 0
  IsWithin x = x.place < count

  row_within : (i : ℕ) (js : List ℕ) → AllByRecursion IsWithin (map (λ j. record { place = place; i = i; j = j }) js)
  row_within i [] = tt
  row_within i (j ∷ js) = (within, row_within i js)

  rows_within : (is js : List ℕ) → AllByRecursion IsWithin (flat_map (λ i. map (λ j. record { place = place; i = i; j = j }) js) is)
  rows_within [] js = tt
  rows_within (i ∷ is) js =
      each_append IsWithin (map (λ j. record { place = place; i = i; j = j }) js) (flat_map (λ k. map (λ j. record { place = place; i = k; j = j }) js) is) (row_within i js) (rows_within is js)

  group_within : (b : Bool) (n : ℕ) → AllByRecursion IsWithin (if b then charge_generator place ∷ [] else special_generators place n)
  group_within true n = (within, tt)
  group_within false n = rows_within (range_with_len 1 n) (range_with_len 1 n)

groups_within : (count place : ℕ) (groups : List Group) → place + length groups ≤ count → AllByRecursion (λ x. x.place < count) (flat_map generators_of (enumerate_from place groups))
groups_within count place [] high = tt
groups_within count place (group ∷ groups) high =
    each_append (λ x. x.place < count) (generators_of (place, group)) (flat_map generators_of (enumerate_from (place + 1) groups))
    (group_within count place (omega (arith, high)) (is_abelian group) group.n) (groups_within count (place + 1) groups (omega (arith, high)))

-- each generator is one of a group of the model
pub generators_within : (model : Model) → AllByRecursion (λ x. x.place < length model.groups) (generators model)
generators_within model = groups_within (length model.groups) 0 model.groups (omega arith)

-- ---- actions

-- the generator at a place, and its action
pub record ActionAt (model : Model) (xs : List Generator) (i : ℕ) (action : Action) : Type 0 where
  pub here : drop i xs ≡ action.generator ∷ drop (i + 1) xs
  pub is : IsAction model action.generator action

action_now : (model : Model) (x : Generator) (xs : List Generator) (action : Action) → IsAction model x action → ActionAt model (x ∷ xs) 0 action
action_now model x xs action is = record {
  here = ap (λ y. y ∷ xs) (sym is.generator_is);
  is = subst (λ y. IsAction model y action) (sym is.generator_is) is;
}

action_later : (model : Model) (x : Generator) (xs : List Generator) (i : ℕ) (action : Action) → ActionAt model xs i action → ActionAt model (x ∷ xs) (suc i) action
action_later model x xs i action later =
    let more : suc i + 1 ≡ suc (i + 1) = omega arith in
    record {
      here = later.here ∙ ap (λ n. action.generator ∷ drop n (x ∷ xs)) (sym more);
      is = later.is;
    }

pub action_at : (model : Model) (xs : List Generator) (actions : List Action) (i : ℕ) (action : Action) → AreActions model xs actions → i < length actions → action ≡ get_or actions i action → ActionAt model xs i action
action_at model [] [] i action all within is = absurd (omega (arith, within))
action_at model [] (a ∷ actions) i action all within is = absurd all
action_at model (x ∷ xs) [] i action all within is = absurd all
action_at model (x ∷ xs) (a ∷ actions) zero action all within is = action_now model x xs action (subst (IsAction model x) (sym is) all.0)
action_at model (x ∷ xs) (a ∷ actions) (suc i) action all within is = action_later model x xs i action (action_at model xs actions i action all.1 (omega (arith, within)) is)

pub actions_length : (model : Model) (xs : List Generator) (actions : List Action) → AreActions model xs actions → length xs ≡ length actions
actions_length model [] [] all = refl
actions_length model [] (a ∷ actions) all = absurd all
actions_length model (x ∷ xs) [] all = absurd all
actions_length model (x ∷ xs) (a ∷ actions) all = ap suc (actions_length model xs actions all.1)

-- its group is one of the model's
pub action_group : (model : Model) (i : ℕ) (action : Action) → ActionAt model (generators model) i action → action.generator.place < length model.groups
action_group model i action at = each_dropped (λ x. x.place < length model.groups) (generators model) (drop (i + 1) (generators model)) i action.generator (generators_within model) at.here

-- The steps of the code that lists the generators of a model as factors.
use Rattle.std.specs.Prelude.{◌≡◌, ◌≤◌, ◌+◌, ◌∷◌, ◌++◌, ℕ, zero, suc, List, [], map, take, length, slice_get, Some}
use Rattle.std.specs.List.{All}
use Rattle.std.proofs.Common.{sym, ap, ap₂, subst, ◌∙◌, arith}
use Rattle.std.proofs.lemmas.List.{map-append, take_all, take_more}
use Rattle.std.proofs.lemmas.List.Elements.{All-append, All-from_recursion, All-nil}
use Rattle.std.proofs.lemmas.Option.{slice_get_within, get_or_from_slice_get}
use Rattle.model_core.specs.declared.generator.Generator.{Generator}
use Rattle.model_core.specs.declared.model.Model.{Model}
use Rattle.model_core.specs.Generators.{generators}
use Rattle.gauge_check.specs.declared.action.Action.{Action}
use Rattle.gauge_check.specs.Actions.{AreActions}
use Rattle.gauge_check.proofs.ActionWalks.{actions_length}
use Rattle.quartic_one_loop.specs.declared.gauges.GaugeFactor.{GaugeFactor}
use Rattle.quartic_one_loop.specs.GaugePairs.{AreGaugeFactors, IsGaugeFactor}

-- ---- generators

-- the generator of an action
pub action_there : (model : Model) (xs : List Generator) (actions : List Action) (i : ℕ) (action : Action) → AreActions model xs actions → slice_get actions i ≡ Some action → slice_get xs i ≡ Some action.generator
action_there model [] [] i action are there = let never : ⊥ = cc in absurd never
action_there model [] (other ∷ actions) i action are there = absurd are
action_there model (x ∷ xs) [] i action are there = absurd are
action_there model (x ∷ xs) (other ∷ actions) zero action are there =
    let same : other ≡ action = cc in
    ap Some (sym are.0.generator_is ∙ ap (λ a. a.generator) same)
action_there model (x ∷ xs) (other ∷ actions) (suc i) action are there = action_there model xs actions i action are.1 there

-- ---- factors

pub factors_none : (model : Model) (xs : List Generator) (factors : List GaugeFactor) → factors ≡ [] → AreGaugeFactors model (take 0 xs) factors
factors_none model xs factors is = record {
  generators_are = ap (map (λ f. f.generator)) is;
  each = subst (All (IsGaugeFactor model)) (sym is) (All-nil (IsGaugeFactor model));
}

-- one more
pub factors_more : (model : Model) (xs : List Generator) (i : ℕ) (x : Generator) (old new : List GaugeFactor) (factor : GaugeFactor) → slice_get xs i ≡ Some x → AreGaugeFactors model (take i xs) old → IsGaugeFactor model factor → factor.generator ≡ x → new ≡ old ++ factor ∷ [] → AreGaugeFactors model (take (i + 1) xs) new
factors_more model xs i x old new factor there so_far is same pushed =
    let more : take (i + 1) xs ≡ take i xs ++ x ∷ [] = take_more xs i x (slice_get_within xs i x there) ∙ ap (λ d. take i xs ++ d ∷ []) (get_or_from_slice_get xs i x x there) in
    record {
      generators_are =
          ap (map (λ f. f.generator)) pushed
          ∙ map-append (λ f. f.generator) old (factor ∷ [])
          ∙ ap₂ (λ ys y. ys ++ y ∷ []) so_far.generators_are same
          ∙ sym more;
      each = subst (All (IsGaugeFactor model)) (sym pushed) (All-append (IsGaugeFactor model) old (factor ∷ []) so_far.each (All-from_recursion (IsGaugeFactor model) (factor ∷ []) (is, tt)));
    }

-- all
pub factors_all : (model : Model) (actions : List Action) (i : ℕ) (factors : List GaugeFactor) → AreActions model (generators model) actions → length actions ≤ i → AreGaugeFactors model (take i (generators model)) factors → AreGaugeFactors model (generators model) factors
factors_all model actions i factors are past =
    let long = actions_length model (generators model) actions are in
    subst (λ xs. AreGaugeFactors model xs factors) (take_all i (generators model) (omega (arith, long, past)))

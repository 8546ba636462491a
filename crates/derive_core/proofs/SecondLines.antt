-- The two-loop lines of gauge couplings.
use Rattle.std.proofs.Common.{◌≡◌, ℕ, ◌+◌, ◌≤◌, List, [], ◌∷◌, ◌++◌, length, map, refl, sym, ap, ap₂, ◌∙◌, inl, inr, arith}
use Rattle.std.specs.Prelude.{◌⊎◌}
use Rattle.std.specs.List.{enumerate_from}
use Rattle.std.proofs.lemmas.List.{length-map}
use Rattle.std.proofs.lemmas.List.FromFn.{length-enumerate_from}
use Rattle.beta_poly.specs.Polynomial.{Polynomial}
use Rattle.model_core.specs.declared.group.Group.{Group}
use Rattle.model_core.specs.declared.model.Model.{Model}
use Rattle.model_core.specs.GaugeTwoLoop.{gauge_two_loop}
use Rattle.model_core.specs.Valid.{IsValid}
use Rattle.model_core.proofs.ValidLaws.{valid_parts, parts_groups, group_limit}
use Rattle.derive_core.specs.declared.betas.Line.{Line}
use Rattle.derive_core.specs.Lines.{gauge_line, second_of, gauge_lines}

-- a model with numbers that are too large for the gauge couplings
pub large_gauge : {A B C : Type 0} → A ⊎ B → B ⊎ (C ⊎ A)
large_gauge (inl x) = inr (inr x)
large_gauge (inr x) = inl x

-- one beta function for each group, and few groups
pub few_values : (model : Model) (values : List Polynomial) → IsValid model → values ≡ map (gauge_two_loop model) (enumerate_from 0 model.groups) → length values ≤ 4
few_values model values valid is =
    omega (arith, ap length is, length-map (enumerate_from 0 model.groups) (gauge_two_loop model), length-enumerate_from 0 model.groups, group_limit model.groups (parts_groups model (valid_parts model valid)))

-- lines of numbered values
second_are : (f : ℕ × Group → Polynomial) (place : ℕ) (groups : List Group)
    → map second_of (enumerate_from place (map f (enumerate_from place groups))) ≡ map (λ at. second_of (at.0, f at)) (enumerate_from place groups)
second_are f place [] = refl
second_are f place (group ∷ groups) = ap (λ ls. second_of (place, f (place, group)) ∷ ls) (second_are f (place + 1) groups)

-- the lines to two loops
pub two_loops : (model : Model) (loops : ℕ) (first : List Line) (values : List Polynomial) (all : List Line) → loops ≡ 2
    → first ≡ map (gauge_line model) (enumerate_from 0 model.groups) → values ≡ map (gauge_two_loop model) (enumerate_from 0 model.groups)
    → all ≡ first ++ map second_of (enumerate_from 0 values) → all ≡ gauge_lines loops model
two_loops model loops first values all two first_is values_are all_is =
    all_is
    ∙ ap₂ ◌++◌ first_is (ap (λ v. map second_of (enumerate_from 0 v)) values_are ∙ second_are (gauge_two_loop model) 0 model.groups)
    ∙ sym (ap (λ l. gauge_lines l model) two)

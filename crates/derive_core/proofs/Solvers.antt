-- The block of a name among those of the directions, and what it has.
use Rattle.std.proofs.Common.{◌≡◌, ℕ, suc, ◌+◌, ◌<◌, false, List, [], ◌∷◌, ◌++◌, length, take, get_or, Some, Result, Ok, Err, sym, ap, subst, ◌∙◌, inl, inr, true≢false}
use Rattle.std.specs.Prelude.{◌⊎◌, slice_get, IfOk}
use Rattle.std.specs.List.{All}
use Rattle.std.proofs.lemmas.List.{take_more}
use Rattle.std.proofs.lemmas.Option.{slice_get_within, get_or_from_slice_get}
use Rattle.sparse_tensor.specs.Tensor.{Tensor, HasValues, rank_of}
use Rattle.sparse_tensor.specs.declared.fault.TensorFault.{TensorFault}
use Rattle.model_core.specs.declared.model.Model.{Model}
use Rattle.model_core.specs.Directions.{directions}
use Rattle.span_solver.specs.Block.{IsBlock, IsOfRank}
use Rattle.span_solver.specs.BlockDirections.{same_name}
use Rattle.span_solver.specs.Dependence.{Numbers}
use Rattle.term_expand.specs.declared.token.Token.{Token}
use Rattle.derive_core.specs.Acceptance.{HaveSolvers}
use Rattle.derive_core.specs.Blocks.{numbers_of}
use Rattle.derive_core.specs.Outcomes.{IsOutcome}
use Rattle.derive_core.specs.Surveys.{IsSolver, HasSolver}
use Rattle.derive_core.specs.Works.{IsSolverAmong, IsOutcomeOf}
use Rattle.derive_core.specs.BlockBetas.{block_beta}
use Rattle.derive_core.specs.declared.outcomes.Outcome.{Outcome}
use Rattle.derive_core.specs.declared.survey.Solver.{Solver}
use Rattle.derive_core.proofs.NameOrder.{name_itself}
use Rattle.derive_core.proofs.Spanning.{outcome_is}

solver_at : (model : Model) (solvers : List Solver) (place : ℕ) (found : Solver) → All (IsSolver model) solvers → slice_get solvers place ≡ Some found → IsSolver model found
solver_at model solvers place found all there =
    subst (IsSolver model) (get_or_from_slice_get solvers place found found there) (all place found (slice_get_within solvers place found there))

pub solver_is : (model : Model) (solvers : List Solver) (name : List Token) (found : Solver) → HaveSolvers model solvers → IsSolverAmong solvers name found → IsSolver model found
solver_is model solvers name found have among = solver_at model solvers among.place found have.each among.there

pub named_block : (model : Model) (solvers : List Solver) (name : List Token) (found : Solver) → HaveSolvers model solvers → IsSolverAmong solvers name found → IsBlock (numbers_of name (directions model)) found.block
named_block model solvers name found have among =
    subst (λ n. IsBlock (numbers_of n (directions model)) found.block) among.named (solver_is model solvers name found have among).block

pub named_rank : (model : Model) (solvers : List Solver) (name : List Token) (found : Solver) (t : Tensor) → HaveSolvers model solvers → IsSolverAmong solvers name found → rank_of t ≡ suc (length name) → IsOfRank (rank_of t) found.block
named_rank model solvers name found t have among rank =
    subst (λ n. IsOfRank n found.block) (ap (λ n. suc (length n)) among.named ∙ sym rank) (solver_is model solvers name found have among).rank

pub outcome_found : (model : Model) (name : List Token) (t : Tensor) (r : Result Outcome TensorFault) (ds : List Numbers) → HasValues (suc (length name)) (block_beta model name) t → ds ≡ numbers_of name (directions model)
    → IfOk r (IsOutcomeOf ds t) → IfOk r (IsOutcome model name)
outcome_found model name t (Ok outcome) ds has are found = outcome_is model name t outcome ds has are found
outcome_found model name t (Err bad) ds has are found = tt

-- ---- the search

has_append : (name : List Token) (xs : List Solver) (x : Solver) → HasSolver name (xs ++ x ∷ []) → HasSolver name xs ⊎ (x.name ≡ name)
has_append name [] x (inl same) = inr same
has_append name [] x (inr never) = absurd never
has_append name (y ∷ ys) x (inl same) = inl (inl same)
has_append name (y ∷ ys) x (inr has) = elim (has_append name ys x has) [ inl before ↦ inl (inr before) | inr same ↦ inr same ]

pub not_yet : (name : List Token) (xs : List Solver) (i : ℕ) (x : Solver) → i < length xs → x ≡ get_or xs i x → ¬ HasSolver name (take i xs) → same_name x.name name ≡ false → ¬ HasSolver name (take (i + 1) xs)
not_yet name xs i x within is none other has =
    let more : take (i + 1) xs ≡ take i xs ++ x ∷ [] = take_more xs i x within ∙ ap (λ y. take i xs ++ y ∷ []) (sym is) in
    elim (has_append name (take i xs) x (subst (HasSolver name) more has)) [
      | inl before ↦ none before
      | inr same ↦ true≢false (sym (name_itself name) ∙ ap (λ n. same_name n name) (sym same) ∙ other)
    ]

-- All ways to give components to the fields of a monomial with equal values at the slots that a label joins, field by field.
use Rattle.std.specs.Prelude.{ℕ, Bool, false, List, [], ◌∷◌, ◌++◌, map}
use Rattle.std.specs.List.{flat_map, filter}
use Rattle.model_core.specs.declared.model.Model.{Model}
use Rattle.model_core.specs.declared.term.Factor.{Factor}
use Rattle.model_core.specs.declared.term.Factor.TheVariants.{Fermion, Scalar}
use Rattle.model_core.specs.declared.term.TermKind.{TermKind}
use Rattle.model_core.specs.declared.term.TermKind.TheVariants as kind
use Rattle.model_core.specs.ComponentLists.{fermion_list, scalar_list}
use Rattle.model_core.specs.Content.{generation_at}
use Rattle.model_core.specs.MonomialValue.{label_values, are_equal}
use Rattle.term_expand.specs.declared.candidates.Candidate.{Candidate}
use Rattle.term_expand.specs.declared.assignments.Assignment.{Assignment}
use Rattle.term_expand.specs.Candidates.{is_candidate, candidates_from}

-- nothing is given yet
abbrev pub none_given : Assignment
none_given = record { fermions = []; scalars = []; slots = [] }

-- a component is given to one more field
abbrev pub with_candidate : TermKind → List ℕ → Assignment → Candidate → Assignment
with_candidate kind.Fermion labels given candidate =
    record { fermions = given.fermions ++ candidate.place ∷ []; scalars = given.scalars; slots = given.slots ++ label_values labels candidate.slots }
with_candidate kind.Scalar labels given candidate =
    record { fermions = given.fermions; scalars = given.scalars ++ candidate.place ∷ []; slots = given.slots ++ label_values labels candidate.slots }

-- the slots that a label joins have one value
abbrev pub fits : Assignment → Bool
fits given = are_equal given.slots

abbrev pub extended : TermKind → List ℕ → List Candidate → Assignment → List Assignment
extended of labels candidates given = filter fits (map (with_candidate of labels given) candidates)

abbrev pub extended_all : TermKind → List ℕ → List Candidate → List Assignment → List Assignment
extended_all of labels candidates all = flat_map (extended of labels candidates) all

-- by the field of a factor, where it has one
abbrev pub after_factor : Model → ℕ → ℕ → Factor → List Assignment → List Assignment
after_factor model row column (Fermion field generation labels) all =
    extended_all kind.Fermion labels (candidates_from (is_candidate model.fermions field false (generation_at row column generation)) 0 (fermion_list model)) all
after_factor model row column (Scalar field conj generation labels) all =
    extended_all kind.Scalar labels (candidates_from (is_candidate model.scalars field conj (generation_at row column generation)) 0 (scalar_list model)) all
after_factor model row column _ all = all

abbrev pub assigned : Model → ℕ → ℕ → List Factor → List Assignment → List Assignment
assigned model row column [] all = all
assigned model row column (factor ∷ factors) all = assigned model row column factors (after_factor model row column factor all)

abbrev pub assignments : Model → ℕ → ℕ → List Factor → List Assignment
assignments model row column factors = assigned model row column factors (none_given ∷ [])

-- The steps of the survey of a model's directions.
use Rattle.std.specs.Prelude.{◌≡◌, ◌≤◌, ◌<◌, ◌^◌, ◌+◌, ◌⊎◌, ◌||◌, ℕ, suc, min, true, List, [], ◌∷◌, ◌++◌, length, take, slice_get, Option, Some, None}
use Rattle.std.specs.List.{All, list_all, list_any}
use Rattle.std.proofs.Common.{refl, sym, ap, subst, ◌∙◌, arith, true≢false, inl, inr}
use Rattle.std.proofs.lemmas.Bool.{cases_Bool}
use Rattle.std.proofs.lemmas.List.Elements.{All-push, All-same}
use Rattle.std.proofs.lemmas.Option.{slice_get_within}
use Rattle.model_core.specs.declared.model.Model.{Model}
use Rattle.model_core.specs.declared.term.Term.{Term}
use Rattle.model_core.specs.Content.{symbol_count}
use Rattle.model_core.specs.Directions.{CouplingEntry, Direction, cells, numbered, entries_from, entries, directions}
use Rattle.model_core.specs.TermRules.{is_term}
use Rattle.model_core.specs.Valid.{IsValid}
use Rattle.model_core.proofs.ValidLaws.{first_passes}
use Rattle.model_core.proofs.ValidTerms.{all_terms}
use Rattle.term_expand.specs.declared.directions.Direction.{Direction as Found}
use Rattle.term_expand.specs.declared.token.Token.{Token}
use Rattle.term_expand.specs.Expansion.{AreDirections}
use Rattle.term_expand.specs.Texts.{leg_count}
use Rattle.span_solver.specs.Block.{IsBlock, IsOfRank}
use Rattle.span_solver.specs.BlockDirections.{same_name, numbers_of as numbers_found, block_directions, block_numbers, HasForm, HaveForm, IsDependentPlace}
use Rattle.span_solver.specs.Dependence.{AreIndependent, IsDependent}
use Rattle.derive_core.specs.Blocks.{name_of, directions_of, numbers_of, IsDependentAt}
use Rattle.derive_core.specs.Surveys.{HasSolver, TellsDependence, IsSurvey}
use Rattle.derive_core.specs.SurveySteps.{IsFreeSolver, MayDepend, IsSound, earliest, IsFreeBefore, IsCovered, HasName, Covers, IsSurveyed}
use Rattle.derive_core.specs.declared.survey.Solver.{Solver}
use Rattle.derive_core.specs.declared.survey.Survey.{Survey}
use Rattle.derive_core.proofs.BlockNames.{name_same, name_tied}
use Rattle.derive_core.proofs.BlockNumbers.{counted, meant_at, numbers_in, numbers_before, numbers_of_one, length-block, all_forms, have_form}
use Rattle.derive_core.proofs.BlockSizes.{length-name_of}
use Rattle.derive_core.proofs.Dependents.{free_earlier, dependent_within, dependent_before}
use Rattle.derive_core.proofs.Elements.{IsIn, in-append, in_at}
use Rattle.derive_core.proofs.FewDirections.{few_named}
use Rattle.derive_core.proofs.OwnDirections.{has_entry}
use Rattle.derive_core.proofs.SymbolIds.{few_directions}

-- ---- names of a valid model's directions

numbered_term : (place id : ℕ) (term : Term) (cs : List (ℕ × ℕ)) (e : CouplingEntry) → IsIn e (numbered place id term cs) → e.term ≡ term
numbered_term place id term [] e there = absurd there
numbered_term place id term (c ∷ cs) e (inl same) = ap (λ y. y.term) same
numbered_term place id term (c ∷ cs) e (inr there) = numbered_term place (suc id) term cs e there

entry_term : (model : Model) (place id : ℕ) (terms : List Term) (e : CouplingEntry) → list_all (is_term model) terms ≡ true → IsIn e (entries_from place id terms) → is_term model e.term ≡ true
entry_term model place id [] e all there = absurd there
entry_term model place id (term ∷ terms) e all there =
    let parts = first_passes (is_term model) term terms all in
    elim (in-append e (numbered place id term (cells term)) (entries_from (suc place) (id + symbol_count term) terms) there) [
      | inl here ↦ ap (is_term model) (numbered_term place id term (cells term) e here) ∙ parts.0
      | inr later ↦ entry_term model (suc place) (id + symbol_count term) terms e parts.1 later
    ]

pub named_legs : (model : Model) (d : Direction) → IsValid model → IsIn d (directions model) → length (name_of d) ≡ leg_count d.kind
named_legs model d valid there =
    let from = has_entry model (entries model) d there in
    length-name_of model from.entry d (entry_term model 1 (length model.groups) model.terms from.entry (all_terms model valid) from.there) from.own

-- ---- what a block asks for

module _ (model : Model) (founds : List Found) (valid : IsValid model) (all : AreDirections (directions model) founds) where
  pub few_found : length founds < 2 ^ 32
  few_found = omega (arith, counted (directions model) founds all, few_directions model valid)

  pub four_found : (name : List Token) → HasName model name → length (block_directions founds name) ≤ 4
  four_found name has =
      let few = few_named model has.direction valid (in_at (directions model) has.place has.direction has.stands) in
      let same : length (directions_of name (directions model)) ≡ length (directions_of (name_of has.direction) (directions model)) = ap (λ n. length (directions_of n (directions model))) has.named in
      omega (arith, length-block model founds all name, same, few)

  pub form_found : (name : List Token) → HaveForm founds name
  form_found name = have_form name (directions model) founds (λ d there. named_legs model d valid there) all

  -- ---- a block

  -- the solver of a block without a dependent direction
  pub free_solver : (solver : Solver) → IsBlock (block_numbers founds solver.name) solver.block → AreIndependent (block_numbers founds solver.name)
      → ((rank : ℕ) → All (HasForm rank) (block_directions founds solver.name) → IsOfRank rank solver.block) → IsFreeSolver model solver
  free_solver solver is independent rank = record {
    is = record {
      block = subst (λ numbers. IsBlock numbers solver.block) (numbers_in model founds all solver.name) is;
      rank =
          let more : 1 + length solver.name ≡ suc (length solver.name) = omega arith in
          subst (λ n. IsOfRank n solver.block) more (rank (1 + length solver.name) (all_forms solver.name (directions model) founds (λ d there. named_legs model d valid there) all));
    };
    independent = subst AreIndependent (numbers_in model founds all solver.name) independent;
  }

  -- the first dependent direction of a block
  pub dependent_found : (name : List Token) (place : ℕ) → IsDependentPlace founds name place → IsDependentAt (directions model) place
  dependent_found name place at =
      let found = meant_at (directions model) founds place at.direction all at.stands in
      let named : name ≡ name_of found.meant = sym (name_same at.direction.block name at.named) ∙ found.is.block in
      let numbers = numbers_of_one model founds all found.meant at.direction (in_at (directions model) place found.meant found.stands) found.is in
      record {
        direction = found.meant;
        stands = found.stands;
        dependent =
            subst (λ n. IsDependent (numbers_of n (take place (directions model))) found.meant.numbers) named
            (subst (IsDependent (numbers_of name (take place (directions model)))) numbers
            (subst (λ earlier. IsDependent earlier (numbers_found at.direction)) (numbers_before model founds all name place) at.dependent));
      }

  pub free_before_found : (name : List Token) (place : ℕ) → IsDependentPlace founds name place → AreIndependent (numbers_of name (take place (directions model)))
  free_before_found name place at = subst AreIndependent (numbers_before model founds all name place) at.first

-- ---- solvers

pub solver_there : (name : List Token) (solvers : List Solver) → list_any (λ solver. same_name solver.name name) solvers ≡ true → HasSolver name solvers
solver_there name [] some = absurd (true≢false (sym some))
solver_there name (first ∷ others) some = elim (cases_Bool (same_name first.name name)) [
  | inl same ↦ inl (name_same first.name name same)
  | inr other ↦ inr (solver_there name others (sym (ap (λ b. b || list_any (λ solver. same_name solver.name name) others) other) ∙ some))
]

solver_kept : (name : List Token) (solvers more : List Solver) → HasSolver name solvers → HasSolver name (solvers ++ more)
solver_kept name [] more has = absurd has
solver_kept name (first ∷ others) more (inl same) = inl same
solver_kept name (first ∷ others) more (inr has) = inr (solver_kept name others more has)

solver_last : (solvers : List Solver) (solver : Solver) → HasSolver solver.name (solvers ++ solver ∷ [])
solver_last [] solver = inl refl
solver_last (first ∷ others) solver = inr (solver_last others solver)

-- a name in a list of solvers has a block without a dependent direction
free_named : (model : Model) (name : List Token) (solvers : List Solver) → All (IsFreeSolver model) solvers → HasSolver name solvers → AreIndependent (numbers_of name (directions model))
free_named model name [] each has = absurd has
free_named model name (first ∷ others) each (inl same) =
    let own : IsFreeSolver model first = each 0 first (omega arith) in
    subst (λ n. AreIndependent (numbers_of n (directions model))) same own.independent
free_named model name (first ∷ others) each (inr has) =
    free_named model name others (λ k d inside. each (suc k) d (omega (arith, inside))) has

-- ---- the first of two places

min_by : (P : ℕ → Type 0) (m n : ℕ) → P m → P n → P (min m n)
min_by P m n first second = elim (smaller m n) [
  | inl same ↦ subst P (sym same) first
  | inr same ↦ subst P (sym same) second
]
  where
    smaller : (m n : ℕ) → (min m n ≡ m) ⊎ (min m n ≡ n)
    smaller m n = grind arith

under_first : (m n : ℕ) → min m n ≤ m
under_first m n = omega arith

under_second : (m n : ℕ) → min m n ≤ n
under_second m n = omega arith

may_depend : (model : Model) (known : Option ℕ) (place : ℕ) → MayDepend model known → IsDependentAt (directions model) place → IsDependentAt (directions model) (earliest known place)
may_depend model None place before at = at
may_depend model (Some known) place before at = min_by (IsDependentAt (directions model)) known place before at

free_before : (model : Model) (name : List Token) (known : Option ℕ) (place : ℕ) → IsFreeBefore model name known → IsFreeBefore model name (Some (earliest known place))
free_before model name None place free = absurd free
free_before model name (Some known) place free = free_earlier name (directions model) (min known place) known (under_first known place) free

free_here : (model : Model) (name : List Token) (known : Option ℕ) (place : ℕ) → AreIndependent (numbers_of name (take place (directions model))) → IsFreeBefore model name (Some (earliest known place))
free_here model name None place free = free
free_here model name (Some known) place free = free_earlier name (directions model) (min known place) place (under_second known place) free

-- ---- a block more

-- one that is there already
pub covers_there : (model : Model) (name : List Token) (old new : Survey) → HasSolver name old.solvers → new ≡ old → Covers model name old new
covers_there model name old new has same =
    subst (Covers model name old) (sym same) (record { sound = λ sound. sound; covered = inl has; kept = λ other covered. covered })

-- one with a solver
pub covers_solver : (model : Model) (old new : Survey) (solver : Solver) → IsFreeSolver model solver → new.solvers ≡ old.solvers ++ solver ∷ [] → new.dependent ≡ old.dependent → Covers model solver.name old new
covers_solver model old new solver free solvers dependent = record {
  sound = λ sound. record {
    dependent = subst (MayDepend model) (sym dependent) sound.dependent;
    each = All-same (IsFreeSolver model) new.solvers (old.solvers ++ solver ∷ []) solvers (All-push (IsFreeSolver model) old.solvers solver sound.each free);
  };
  covered = inl (subst (HasSolver solver.name) (sym solvers) (solver_last old.solvers solver));
  kept = λ other covered. elim covered [
    | inl has ↦ inl (subst (HasSolver other) (sym solvers) (solver_kept other old.solvers (solver ∷ []) has))
    | inr free ↦ inr (subst (IsFreeBefore model other) (sym dependent) free)
  ];
}

-- one with a dependent direction
pub covers_dependent : (model : Model) (name : List Token) (old new : Survey) (place : ℕ) → IsDependentAt (directions model) place → AreIndependent (numbers_of name (take place (directions model)))
    → new.solvers ≡ old.solvers → new.dependent ≡ Some (earliest old.dependent place) → Covers model name old new
covers_dependent model name old new place at free solvers dependent = record {
  sound = λ sound. record {
    dependent = subst (MayDepend model) (sym dependent) (may_depend model old.dependent place sound.dependent at);
    each = All-same (IsFreeSolver model) new.solvers old.solvers solvers sound.each;
  };
  covered = inr (subst (IsFreeBefore model name) (sym dependent) (free_here model name old.dependent place free));
  kept = λ other covered. elim covered [
    | inl has ↦ inl (subst (HasSolver other) (sym solvers) has)
    | inr before ↦ inr (subst (IsFreeBefore model other) (sym dependent) (free_before model other old.dependent place before))
  ];
}

-- ---- all directions

-- the name of a direction that is found
pub found_name : (model : Model) (founds : List Found) (place : ℕ) (found : Found) → AreDirections (directions model) founds → slice_get founds place ≡ Some found → HasName model found.block
found_name model founds place found all stands =
    let meant = meant_at (directions model) founds place found all stands in
    record { place = place; direction = meant.meant; stands = meant.stands; named = meant.is.block }

pub surveyed_more : (model : Model) (founds : List Found) (count : ℕ) (found : Found) (old new : Survey) → AreDirections (directions model) founds → slice_get founds count ≡ Some found
    → Covers model found.block old new → IsSurveyed model count old → IsSurveyed model (count + 1) new
surveyed_more model founds count found old new all stands more before =
    let meant = meant_at (directions model) founds count found all stands in
    record {
      sound = more.sound before.sound;
      covered = λ place direction inside at. elim (place_cases place count inside) [
        | inl earlier ↦ more.kept (name_of direction) (before.covered place direction earlier at)
        | inr here ↦
            let same : Some meant.meant ≡ Some direction = sym meant.stands ∙ ap (slice_get (directions model)) (sym here) ∙ at in
            let own : meant.meant ≡ direction = cc in
            subst (λ n. IsCovered model n new) (meant.is.block ∙ ap name_of own) more.covered
      ];
    }
  where
    place_cases : (place count : ℕ) → place < count + 1 → (place < count) ⊎ (place ≡ count)
    place_cases place count inside = grind arith

-- no direction of a block with a solver is dependent
solver_free : (model : Model) (survey : Survey) (place : ℕ) (at : IsDependentAt (directions model) place) → IsSound model survey → HasSolver (name_of at.direction) survey.solvers → ⊥
solver_free model survey place at sound has =
    dependent_within (name_of at.direction) (directions model) place at (name_tied (name_of at.direction)) (free_named model (name_of at.direction) survey.solvers sound.each has)

module _ (model : Model) (survey : Survey) (done : IsSurveyed model (length (directions model)) survey) where
  covered_at : (place : ℕ) (direction : Direction) → slice_get (directions model) place ≡ Some direction → IsCovered model (name_of direction) survey
  covered_at place direction stands = done.covered place direction (slice_get_within (directions model) place direction stands) stands

  tells_by : (known : Option ℕ) → survey.dependent ≡ known → TellsDependence model known
  tells_by None none =
      λ place at. elim (covered_at place at.direction at.stands) [
        | inl has ↦ solver_free model survey place at done.sound has
        | inr free ↦ subst (IsFreeBefore model (name_of at.direction)) none free
      ]
  tells_by (Some known) some = record {
    dependent = subst (MayDepend model) some done.sound.dependent;
    first = λ earlier before at. elim (covered_at earlier at.direction at.stands) [
      | inl has ↦ solver_free model survey earlier at done.sound has
      | inr free ↦
          dependent_before (name_of at.direction) (directions model) earlier known at (name_tied (name_of at.direction)) before (subst (IsFreeBefore model (name_of at.direction)) some free)
    ];
  }

  solver_by : (direction : Direction) → survey.dependent ≡ None → IsCovered model (name_of direction) survey → HasSolver (name_of direction) survey.solvers
  solver_by direction none (inl has) = has
  solver_by direction none (inr free) = absurd (subst (IsFreeBefore model (name_of direction)) none free)

  is_survey : IsSurvey model survey
  is_survey = record {
    dependence = tells_by survey.dependent refl;
    each = λ k d inside. (done.sound.each k d inside).is;
    every = λ none place direction stands. solver_by direction none (covered_at place direction stands);
  }

-- the loop ends behind the last direction
pub survey_end : (model : Model) (founds : List Found) (count : ℕ) (survey : Survey) → AreDirections (directions model) founds → length founds ≤ count → IsSurveyed model count survey → IsSurvey model survey
survey_end model founds count survey all over done =
    let same = counted (directions model) founds all in
    is_survey model survey (record {
      sound = done.sound;
      covered = λ place direction inside stands. done.covered place direction (omega (arith, inside, same, over)) stands;
    })

-- The ids of symbols count the entries of couplings, behind the gauge couplings.
use Rattle.std.specs.Prelude.{◌≡◌, ◌≤◌, ◌+◌, ◌*◌, if◌then◌else◌, ⊤, ℕ, suc, Bool, true, false, List, [], ◌∷◌, ◌++◌, map, length, sum_by, slice_get, Some}
use Rattle.std.specs.List.{flat_map}
use Rattle.std.proofs.Common.{refl, sym, ap, subst, ◌∙◌, arith, length-append, inl, inr}
use Rattle.std.proofs.lemmas.List.{length-map}
use Rattle.std.proofs.lemmas.List.Sums.{sum_by-cons}
use Rattle.model_core.specs.declared.model.Model.{Model}
use Rattle.model_core.specs.declared.term.Term.{Term}
use Rattle.model_core.specs.Content.{symbol_count}
use Rattle.model_core.specs.Directions.{CouplingEntry, Direction, cells, numbered, entries_from, entries, entry_directions, directions}
use Rattle.model_core.specs.Valid.{IsValid}
use Rattle.model_core.proofs.ValidTerms.{few_symbols}
use Rattle.term_expand.proofs.NumberedTerms.{length-cells}
use Rattle.derive_core.specs.Targets.{gauge_target, entry_target, targets}
use Rattle.derive_core.specs.declared.betas.Target.{Target}
use Rattle.derive_core.proofs.Elements.{IsIn, at_rest}
use Rattle.derive_core.proofs.FewDirections.{length-entry_directions}
use Rattle.derive_core.proofs.OwnDirections.{has_entry}

-- ---- ids

-- the ids count from a number on
abbrev pub CountFrom : ℕ → List CouplingEntry → Type 0
CountFrom id [] = ⊤
CountFrom id (e ∷ es) = (e.id ≡ id) × CountFrom (suc id) es

count-append : (id : ℕ) (xs ys : List CouplingEntry) → CountFrom id xs → CountFrom (id + length xs) ys → CountFrom id (xs ++ ys)
count-append id [] ys first second = let same : id + 0 ≡ id = omega arith in subst (λ n. CountFrom n ys) same second
count-append id (x ∷ xs) ys first second =
    let next : id + length (x ∷ xs) ≡ suc id + length xs = omega arith in
    (first.0, count-append (suc id) xs ys first.1 (subst (λ n. CountFrom n ys) next second))

numbered_count : (place id : ℕ) (term : Term) (cs : List (ℕ × ℕ)) → CountFrom id (numbered place id term cs)
numbered_count place id term [] = tt
numbered_count place id term (c ∷ cs) = (refl, numbered_count place (suc id) term cs)

length-numbered : (place id : ℕ) (term : Term) (cs : List (ℕ × ℕ)) → length (numbered place id term cs) ≡ length cs
length-numbered place id term [] = refl
length-numbered place id term (c ∷ cs) = ap suc (length-numbered place (suc id) term cs)

length-own : (place id : ℕ) (term : Term) → length (numbered place id term (cells term)) ≡ symbol_count term
length-own place id term = length-numbered place id term (cells term) ∙ length-cells term

entries_count : (place id : ℕ) (terms : List Term) → CountFrom id (entries_from place id terms)
entries_count place id [] = tt
entries_count place id (term ∷ terms) =
    count-append id (numbered place id term (cells term)) (entries_from (suc place) (id + symbol_count term) terms) (numbered_count place id term (cells term))
    (subst (λ n. CountFrom (id + n) (entries_from (suc place) (id + symbol_count term) terms)) (sym (length-own place id term)) (entries_count (suc place) (id + symbol_count term) terms))

-- ---- how many

length-entries_from : (place id : ℕ) (terms : List Term) → length (entries_from place id terms) ≡ sum_by symbol_count terms
length-entries_from place id [] = refl
length-entries_from place id (term ∷ terms) =
    omega (
      arith,
      length-append (numbered place id term (cells term)) (entries_from (suc place) (id + symbol_count term) terms),
      length-own place id term,
      length-entries_from (suc place) (id + symbol_count term) terms,
      sum_by-cons symbol_count term terms,
    )

at_most_two : (real : Bool) → (if real then 1 else 2) ≤ 2
at_most_two true = omega arith
at_most_two false = omega arith

two_each : (model : Model) (e : CouplingEntry) → length (entry_directions model e) ≤ 2
two_each model e = let own = length-entry_directions model e in let count = at_most_two e.term.real in omega (arith, own, count)

two_times : (model : Model) (es : List CouplingEntry) → length (flat_map (entry_directions model) es) ≤ 2 * length es
two_times model [] = omega arith
two_times model (e ∷ es) = omega (arith, length-append (entry_directions model e) (flat_map (entry_directions model) es), two_each model e, two_times model es)

pub few_directions : (model : Model) → IsValid model → length (directions model) ≤ 800
few_directions model valid =
    omega (arith, two_times model (entries model), length-entries_from 1 (length model.groups) model.terms, few_symbols model valid)

-- ---- the target of an id

target_from : (es : List CouplingEntry) (id : ℕ) (e : CouplingEntry) → CountFrom id es → IsIn e es → (i : ℕ) × (e.id ≡ id + i) × (slice_get (map entry_target es) i ≡ Some (entry_target e))
target_from [] id e count there = absurd there
target_from (x ∷ es) id e count (inl same) =
    let own : e.id ≡ id + 0 = ap (λ y. y.id) same ∙ count.0 ∙ omega arith in
    let found : Some (entry_target x) ≡ Some (entry_target e) = ap (λ y. Some (entry_target y)) (sym same) in
    (0, own, found)
target_from (x ∷ es) id e count (inr there) =
    let later = target_from es (suc id) e count.1 there in
    let own : e.id ≡ id + suc later.0 = later.1 ∙ omega arith in
    (suc later.0, own, later.2)

-- the symbol of a direction has a target
pub record HasTarget (model : Model) (d : Direction) : Type 0 where
  pub target : Target
  pub named : slice_get (targets model) d.symbol.id ≡ Some target

pub has_target : (model : Model) (d : Direction) → IsIn d (directions model) → HasTarget model d
has_target model d there =
    let from = has_entry model (entries model) d there in
    let found = target_from (entries model) (length model.groups) from.entry (entries_count 1 (length model.groups) model.terms) from.there in
    let place : d.symbol.id ≡ length (map gauge_target model.groups) + found.0 =
    from.own.id_is ∙ found.1 ∙ ap (λ n. n + found.0) (sym (length-map model.groups gauge_target)) in
    record {
      target = entry_target from.entry;
      named = ap (slice_get (targets model)) place ∙ at_rest (map gauge_target model.groups) (map entry_target (entries model)) found.0 ∙ found.2;
    }

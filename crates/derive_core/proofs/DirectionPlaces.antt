-- Directions stand in the order of their terms.
use Rattle.std.specs.Prelude.{◌≡◌, ◌≤◌, ◌+◌, ⊤, ℕ, zero, suc, List, [], ◌∷◌, ◌++◌, slice_get, Some}
use Rattle.std.specs.List.{flat_map}
use Rattle.std.proofs.Common.{refl, sym, ap, subst, ◌∙◌, arith, inl, inr, length}
use Rattle.std.proofs.lemmas.Grind.{flat_map-append}
use Rattle.model_core.specs.declared.model.Model.{Model}
use Rattle.model_core.specs.declared.term.Term.{Term}
use Rattle.model_core.specs.Content.{symbol_count}
use Rattle.model_core.specs.Directions.{CouplingEntry, Direction, cells, numbered, entries_from, entry_directions, directions}
use Rattle.derive_core.proofs.Elements.{IsIn}
use Rattle.derive_core.proofs.OwnDirections.{has_entry}

-- the places of terms ascend, from a number on
abbrev pub Ascend : ℕ → List Direction → Type 0
Ascend low [] = ⊤
Ascend low (d ∷ ds) = (low ≤ d.place) × Ascend d.place ds

ascend_lower : (low high : ℕ) (ds : List Direction) → low ≤ high → Ascend high ds → Ascend low ds
ascend_lower low high [] under all = tt
ascend_lower low high (d ∷ ds) under all = let first = all.0 in (omega (arith, under, first), all.1)

-- directions of one term, and then later ones
ascend-append : (low place : ℕ) (xs ys : List Direction) → low ≤ place → ((d : Direction) → IsIn d xs → d.place ≡ place) → Ascend place ys → Ascend low (xs ++ ys)
ascend-append low place [] ys under here later = ascend_lower low place ys under later
ascend-append low place (x ∷ xs) ys under here later =
    let own : x.place ≡ place = here x (inl refl) in
    (omega (arith, own, under), ascend-append x.place place xs ys (omega (arith, own)) (λ d there. here d (inr there)) later)

numbered_place : (place id : ℕ) (term : Term) (cs : List (ℕ × ℕ)) (e : CouplingEntry) → IsIn e (numbered place id term cs) → e.place ≡ place
numbered_place place id term [] e there = absurd there
numbered_place place id term (c ∷ cs) e (inl same) = ap (λ y. y.place) same
numbered_place place id term (c ∷ cs) e (inr there) = numbered_place place (suc id) term cs e there

all_ascend : (model : Model) (place id : ℕ) (terms : List Term) → Ascend place (flat_map (entry_directions model) (entries_from place id terms))
all_ascend model place id [] = tt
all_ascend model place id (term ∷ terms) =
    let own = numbered place id term (cells term) in
    let rest = entries_from (suc place) (id + symbol_count term) terms in
    let later = ascend_lower place (suc place) (flat_map (entry_directions model) rest) (omega arith) (all_ascend model (suc place) (id + symbol_count term) terms) in
    subst (Ascend place) (sym (flat_map-append (entry_directions model) own rest))
    (ascend-append place place (flat_map (entry_directions model) own) (flat_map (entry_directions model) rest) (omega arith) (λ d there.
    let from = has_entry model own d there in
    from.own.place_is ∙ numbered_place place id term (cells term) from.entry from.there) later)

pub directions_ascend : (model : Model) → Ascend 1 (directions model)
directions_ascend model = all_ascend model 1 (length model.groups) model.terms

low_at : (low : ℕ) (ds : List Direction) (j : ℕ) (b : Direction) → Ascend low ds → slice_get ds j ≡ Some b → low ≤ b.place
low_at low [] j b all found = let never : ⊥ = cc in absurd never
low_at low (d ∷ ds) zero b all found = let same : d ≡ b = cc in let own = ap (λ y. y.place) same in let first = all.0 in omega (arith, own, first)
low_at low (d ∷ ds) (suc j) b all found = let first = all.0 in omega (arith, first, low_at d.place ds j b all.1 found)

-- a later direction has no earlier term
pub in_order : (low : ℕ) (ds : List Direction) (i j : ℕ) (a b : Direction) → Ascend low ds → i ≤ j → slice_get ds i ≡ Some a → slice_get ds j ≡ Some b → a.place ≤ b.place
in_order low [] i j a b all before first second = let never : ⊥ = cc in absurd never
in_order low (d ∷ ds) zero zero a b all before first second = let same : a ≡ b = cc in let places = ap (λ y. y.place) same in omega (arith, places)
in_order low (d ∷ ds) zero (suc j) a b all before first second =
    let same : d ≡ a = cc in
    let places = ap (λ y. y.place) same in
    omega (arith, places, low_at d.place ds j b all.1 second)
in_order low (d ∷ ds) (suc i) zero a b all before first second = absurd (omega (arith, before))
in_order low (d ∷ ds) (suc i) (suc j) a b all before first second = in_order d.place ds i j a b all.1 (omega (arith, before)) first second

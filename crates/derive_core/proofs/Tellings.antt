-- The loops over directions and entries that tell of their blocks.
use Rattle.std.proofs.Common.{◌≡◌, ℕ, zero, suc, ◌+◌, ◌≤◌, ◌<◌, List, [], ◌∷◌, length, Some, Result, Ok, Err, refl, sym, ap, subst, ◌∙◌, inl, inr, arith}
use Rattle.std.specs.Prelude.{◌⊎◌, slice_get, IfOk}
use Rattle.beta_poly.specs.Polynomial.{Polynomial}
use Rattle.sparse_tensor.specs.Tensor.{Tensor, rank_of, entries_of}
use Rattle.sparse_tensor.specs.declared.fault.TensorFault.{TensorFault}
use Rattle.model_core.specs.declared.model.Model.{Model}
use Rattle.model_core.specs.declared.term.TermKind.{TermKind}
use Rattle.model_core.specs.declared.term.TermKind.TheVariants.{Fermion, Scalar}
use Rattle.model_core.specs.Directions.{Direction, directions}
use Rattle.model_core.specs.Valid.{IsValid}
use Rattle.term_expand.specs.declared.directions.Direction.{Direction as Found}
use Rattle.term_expand.specs.Expansion.{AreDirections}
use Rattle.term_expand.specs.Texts.{leg_count}
use Rattle.derive_core.specs.Blocks.{name_of}
use Rattle.derive_core.specs.Outcomes.{IsAmong}
use Rattle.derive_core.specs.Works.{AreSome, TellsOf, MayBeTold, AreDirectionsTold, AreEntriesTold, AreSideValues, AreSidesTold, IsEntryKey}
use Rattle.derive_core.specs.BlockBetas.{IsLegCount, name_at}
use Rattle.derive_core.specs.declared.outcomes.Told.{Told}
use Rattle.derive_core.proofs.BlockNumbers.{meant_at, IsMeantAt}
use Rattle.derive_core.proofs.Elements.{in_at}
use Rattle.derive_core.proofs.NameSizes.{length-name_at}
use Rattle.derive_core.proofs.Surveyed.{named_legs}
use Rattle.derive_core.proofs.TellingSteps.{none_told, coupling_told, beta_told}
use Rattle.derive_core.proofs.TensorEntries.{entry_long, value_nonzero}

-- ---- directions

le_split : (p n : ℕ) → p ≤ n → (p < n) ⊎ (p ≡ n)
le_split zero zero h = inr refl
le_split zero (suc n) h = inl (omega arith)
le_split (suc p) zero h = let never : ⊥ = omega arith in absurd never
le_split (suc p) (suc n) h = elim (le_split p n (omega arith)) [ inl less ↦ inl (omega arith) | inr same ↦ inr (ap suc same) ]

same_direction : (x y : Direction) → Some x ≡ Some y → x ≡ y
same_direction x y same = cc

legs_of_kind : (kind : TermKind) → IsLegCount (leg_count kind)
legs_of_kind Fermion = inl refl
legs_of_kind Scalar = inr refl

module _ (model : Model) (founds : List Found) (all : AreDirections (directions model) founds) (place : ℕ) (found : Found) (at : slice_get founds place ≡ Some found) where
  abbrev meant : IsMeantAt (directions model) place found
  meant = meant_at (directions model) founds place found all at

  -- its name may be told
  pub direction_told : IsValid model → MayBeTold model found.block
  direction_told valid =
      let named = named_legs model meant.meant valid (in_at (directions model) place meant.meant meant.stands) in
      subst (MayBeTold model) (sym meant.is.block) (coupling_told model place meant.meant meant.stands (subst IsLegCount (sym named) (legs_of_kind meant.meant.kind)))

  pub direction_more : (told new : List Told) → AreDirectionsTold model place told → TellsOf model found.block told new → AreDirectionsTold model (place + 1) new
  direction_more told new before more =
      record {
        some = more.some;
        tells = λ p direction within stands. elim (le_split p place (omega arith)) [
          | inl less ↦ more.kept (name_of direction) (before.tells p direction less stands)
          | inr same ↦
              let is : direction ≡ meant.meant = same_direction direction meant.meant (sym stands ∙ ap (slice_get (directions model)) same ∙ meant.stands) in
              subst (λ n. IsAmong n new) (meant.is.block ∙ ap name_of (sym is)) more.among
        ];
      }

pub directions_more : (model : Model) (founds : List Found) (place : ℕ) (found : Found) (told : List Told) (r : Result (List Told) TensorFault) → AreDirections (directions model) founds → slice_get founds place ≡ Some found
    → AreDirectionsTold model place told → IfOk r (TellsOf model found.block told) → IfOk r (AreDirectionsTold model (place + 1))
directions_more model founds place found told (Ok new) all at before more = direction_more model founds all place found at told new before more
directions_more model founds place found told (Err bad) all at before more = tt

pub no_directions_told : (model : Model) → AreDirectionsTold model 0 []
no_directions_told model = record { some = none_told model; tells = λ p direction within stands. let never : ⊥ = omega arith in absurd never }

-- ---- entries

pub entry_told : (model : Model) (side : ℕ) (key : List ℕ) → IsEntryKey model side key → MayBeTold model (name_at model (side ∷ key))
entry_told model side key is = beta_told model side key (subst IsLegCount (sym (length-name_at model side key is.long)) is.long) is.other

pub entry_key : (model : Model) (side : ℕ) (t : Tensor) (place : ℕ) (e : List ℕ × Polynomial) → AreSideValues model side t → slice_get (entries_of t) place ≡ Some e → IsEntryKey model side e.0
entry_key model side t place e are there =
    let long = entry_long (rank_of t) t place e refl there in
    record { long = subst IsLegCount (sym long) are.legs; other = λ none. value_nonzero t place e there (are.values.value_is e.0 long ∙ none) }

same_entry : (x y : List ℕ × Polynomial) → Some x ≡ Some y → x ≡ y
same_entry x y same = cc

pub entries_more : (model : Model) (side : ℕ) (t : Tensor) (place : ℕ) (e : List ℕ × Polynomial) (old told new : List Told) → slice_get (entries_of t) place ≡ Some e
    → AreEntriesTold model side t place old told → TellsOf model (name_at model (side ∷ e.0)) told new → AreEntriesTold model side t (place + 1) old new
entries_more model side t place e old told new there before more =
    record {
      some = more.some;
      kept = λ name among. more.kept name (before.kept name among);
      tells = λ p d within stands. elim (le_split p place (omega arith)) [
        | inl less ↦ more.kept (name_at model (side ∷ d.0)) (before.tells p d less stands)
        | inr same ↦
            let is : d ≡ e = same_entry d e (sym stands ∙ ap (slice_get (entries_of t)) same ∙ there) in
            subst (λ x. IsAmong (name_at model (side ∷ x.0)) new) (sym is) more.among
      ];
    }

pub no_entries_told : (model : Model) (side : ℕ) (t : Tensor) (told : List Told) → AreSome model told → AreEntriesTold model side t 0 told told
no_entries_told model side t told some =
    record { some = some; kept = λ name among. among; tells = λ p d within stands. let never : ⊥ = omega arith in absurd never }

-- both sides
pub sides_told : (model : Model) (plain conjugate : Tensor) (old told : List Told) (r : Result (List Told) TensorFault) → AreEntriesTold model 0 plain (length (entries_of plain)) old told
    → IfOk r (AreEntriesTold model 1 conjugate (length (entries_of conjugate)) told) → IfOk r (AreSidesTold model plain conjugate old)
sides_told model plain conjugate old told (Ok new) first second =
    record {
      some = second.some;
      kept = λ name among. second.kept name (first.kept name among);
      plain = λ place e within there. second.kept (name_at model (0 ∷ e.0)) (first.tells place e within there);
      conjugate = second.tells;
    }
sides_told model plain conjugate old told (Err bad) first second = tt

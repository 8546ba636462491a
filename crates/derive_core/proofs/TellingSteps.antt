-- What one more block does to those that are told.
use Rattle.std.proofs.Common.{◌≡◌, ◌≢◌, ℕ, Bool, true, false, List, [], ◌∷◌, length, Some, sym, ap, subst, ◌∙◌, inl, inr, true≢false}
use Rattle.std.specs.Prelude.{if◌then◌else◌, slice_get}
use Rattle.std.specs.List.{insert}
use Rattle.std.proofs.lemmas.List.Elements.{All-from_recursion, recursion_from_All}
use Rattle.std.proofs.lemmas.List.Sums.{prefix_len-le-length}
use Rattle.beta_poly.specs.Polynomial.{Polynomial, zero_poly}
use Rattle.model_core.specs.declared.model.Model.{Model}
use Rattle.model_core.specs.Content.{is_before}
use Rattle.model_core.specs.Directions.{Direction, directions}
use Rattle.term_expand.specs.declared.token.Token.{Token}
use Rattle.span_solver.specs.BlockDirections.{same_name}
use Rattle.derive_core.specs.Blocks.{name_of}
use Rattle.derive_core.specs.Outcomes.{IsTold, IsOutcome}
use Rattle.derive_core.specs.Works.{is_at, HasLegs, AreSome, TellsOf, MayBeTold}
use Rattle.derive_core.specs.BlockBetas.{IsLegCount, name_cmp, name_at, side_beta}
use Rattle.derive_core.specs.declared.outcomes.Outcome.{Outcome}
use Rattle.derive_core.specs.declared.outcomes.Told.{Told}
use Rattle.derive_core.proofs.NameOrder.{name_itself}
use Rattle.derive_core.proofs.ToldLists.{place_of, ascend_put, all_put, among_put, put_among, among_at}

-- ---- one block more

pub told_already : (model : Model) (name : List Token) (told : List Told) (place : ℕ) → AreSome model told → is_at told place name ≡ true → TellsOf model name told told
told_already model name told place some at = record { some = some; kept = λ other among. among; among = among_at name told place at }

abbrev pub block_told : List Token → Outcome → Told
block_told name outcome = record { block = name; outcome = outcome }

told_put : (model : Model) (name : List Token) (outcome : Outcome) (told : List Told) → AreSome model told → MayBeTold model name → IsOutcome model name outcome
    → is_at told (place_of name told) name ≡ false → TellsOf model name told (insert told (place_of name told) (block_told name outcome))
told_put model name outcome told some may is new =
    let x = block_told name outcome in
    let place = place_of name told in
    let put = insert told place x in
    record {
      some = record {
        order = ascend_put x told some.order new;
        each = All-from_recursion (IsTold model) put (all_put (IsTold model) told place x (recursion_from_All (IsTold model) told some.each) (record { something = may.something; outcome = is }));
        legs = All-from_recursion HasLegs put (all_put HasLegs told place x (recursion_from_All HasLegs told some.legs) (record { count = may.legs }));
      };
      kept = λ other among. among_put other told place x among;
      among = put_among told place x (prefix_len-le-length (λ (first : Told). is_before (name_cmp first.block name)) told);
    }

pub told_more : (model : Model) (name : List Token) (outcome : Outcome) (told new : List Told) (place : ℕ) → AreSome model told → MayBeTold model name → IsOutcome model name outcome
    → place ≡ place_of name told → is_at told place name ≡ false → new ≡ insert told place (block_told name outcome) → TellsOf model name told new
told_more model name outcome told new place some may is place_is at new_is =
    subst (TellsOf model name told) (ap (λ p. insert told p (block_told name outcome)) (sym place_is) ∙ sym new_is)
    (told_put model name outcome told some may is (ap (λ p. is_at told p name) (sym place_is) ∙ at))

pub none_told : (model : Model) → AreSome model []
none_told model = record { order = tt; each = All-from_recursion (IsTold model) [] tt; legs = All-from_recursion HasLegs [] tt }

-- ---- names that may be told

pub coupling_told : (model : Model) (place : ℕ) (direction : Direction) → slice_get (directions model) place ≡ Some direction → IsLegCount (length (name_of direction)) → MayBeTold model (name_of direction)
coupling_told model place direction stands legs =
    record {
      something = inl (record { place = place; direction = direction; stands = stands; in_block = name_itself (name_of direction) });
      legs = legs;
    }

-- the part of the beta tensor at a component that belongs to the block of its name
own_part : (model : Model) (side : ℕ) (places : List ℕ) (b : Bool) → b ≡ true → (p : Polynomial) → p ≢ zero_poly → (if b then p else zero_poly) ≢ zero_poly
own_part model side places true is p some = some
own_part model side places false is p some = absurd (true≢false (sym is))

pub beta_told : (model : Model) (side : ℕ) (places : List ℕ) → IsLegCount (length (name_at model (side ∷ places))) → side_beta model side places ≢ zero_poly → MayBeTold model (name_at model (side ∷ places))
beta_told model side places legs some =
    record {
      something = inr (record { key = side ∷ places; other = own_part model side places (same_name (name_at model (side ∷ places)) (name_at model (side ∷ places))) (name_itself (name_at model (side ∷ places))) (side_beta model side places) some });
      legs = legs;
    }

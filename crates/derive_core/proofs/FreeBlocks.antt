-- Where no direction is dependent, those of each block are independent.
use Rattle.std.specs.Prelude.{◌≡◌, ℕ, zero, suc, Bool, true, false, cond, List, [], ◌∷◌, map, take, slice_get, Some}
use Rattle.std.proofs.Common.{refl, sym, ap, subst, ◌∙◌}
use Rattle.model_core.specs.Directions.{Direction}
use Rattle.term_expand.specs.declared.token.Token.{Token}
use Rattle.span_solver.specs.Dependence.{Numbers, IsDependent, AreIndependent}
use Rattle.derive_core.specs.Blocks.{name_of, is_of, directions_of, tensor_of, numbers_of, NoneIsDependent}
use Rattle.derive_core.proofs.NameOrder.{name_same}

-- where a block's direction stands among all
record IsPlaceOf (name : List Token) (ds : List Direction) (own : List Numbers) (i : ℕ) (d : Numbers) : Type 0 where
  place : ℕ
  direction : Direction
  stands : slice_get ds place ≡ Some direction
  named : is_of name direction ≡ true
  is : direction.numbers ≡ d
  before : numbers_of name (take place ds) ≡ take i own

module _ (name : List Token) where
  abbrev own_by : Bool → Direction → List Direction → List Numbers
  own_by b x ds = map tensor_of (cond b (x ∷ directions_of name ds) (directions_of name ds))

  place_by : (x : Direction) (ds : List Direction) (b : Bool) → is_of name x ≡ b → (i : ℕ) (d : Numbers) → slice_get (own_by b x ds) i ≡ Some d
      → ((j : ℕ) → slice_get (numbers_of name ds) j ≡ Some d → IsPlaceOf name ds (numbers_of name ds) j d) → IsPlaceOf name (x ∷ ds) (own_by b x ds) i d
  place_by x ds true named zero d found later = record { place = 0; direction = x; stands = refl; named = named; is = cc; before = refl }
  place_by x ds true named (suc i) d found later =
      let rest = later i found in record {
        place = suc rest.place;
        direction = rest.direction;
        stands = rest.stands;
        named = rest.named;
        is = rest.is;
        before = ap (λ b. own_by b x (take rest.place ds)) named ∙ ap (λ r. x.numbers ∷ r) rest.before;
      }
  place_by x ds false named i d found later =
      let rest = later i found in record {
        place = suc rest.place;
        direction = rest.direction;
        stands = rest.stands;
        named = rest.named;
        is = rest.is;
        before = ap (λ b. own_by b x (take rest.place ds)) named ∙ rest.before;
      }

  place_of : (ds : List Direction) (i : ℕ) (d : Numbers) → slice_get (numbers_of name ds) i ≡ Some d → IsPlaceOf name ds (numbers_of name ds) i d
  place_of [] i d found = let never : ⊥ = cc in absurd never
  place_of (x ∷ ds) i d found = subst (λ b. slice_get (own_by b x ds) i ≡ Some d → IsPlaceOf name (x ∷ ds) (own_by b x ds) i d) refl (λ there. place_by x ds (is_of name x) refl i d there (λ j. place_of ds j d)) found

  pub free_block : (ds : List Direction) → NoneIsDependent ds → AreIndependent (numbers_of name ds)
  free_block ds none i at =
      let there = place_of ds i at.direction at.stands in
      let own : IsDependent (numbers_of name (take there.place ds)) there.direction.numbers =
      subst (λ d. IsDependent (numbers_of name (take there.place ds)) d) (sym there.is) (subst (λ ns. IsDependent ns at.direction) (sym there.before) at.dependent) in
      none there.place (record {
        direction = there.direction;
        stands = there.stands;
        dependent = subst (λ n. IsDependent (numbers_of n (take there.place ds)) there.direction.numbers) (sym (name_same (name_of there.direction) name there.named)) own;
      })

-- All blocks with something to tell are told, where those of the directions and of the entries of the beta tensors are.
use Rattle.std.proofs.Common.{◌≡◌, ◌≢◌, ℕ, zero, suc, ◌<◌, Bool, true, false, List, [], ◌∷◌, length, Some, Result, Ok, Err, Ordering, Less, Equal, Greater, refl, sym, ap, subst, ◌∙◌, inl, inr, arith}
use Rattle.std.specs.Prelude.{◌==◌, if◌then◌else◌, slice_get, IfOk}
use Rattle.std.specs.List.{flat_map}
use Rattle.std.proofs.lemmas.Bool.Decides.{nat_tests}
use Rattle.std.proofs.lemmas.Option.{slice_get_within}
use Rattle.exact_algebra.specs.Formal.{coefficient}
use Rattle.exact_algebra.specs.Ring.{zero_add}
use Rattle.exact_algebra.specs.Sums.{sum, sum-nil, sum-cons, where_equal}
use Rattle.exact_algebra.specs.TensorContraction.{places_cmp, places_keys}
use Rattle.beta_formulas.specs.ScalarBeta.{scalar_beta_at}
use Rattle.beta_formulas.specs.YukawaBeta.{yukawa_beta_at}
use Rattle.beta_poly.specs.Polynomial.{Polynomial, poly_ring, zero_poly, add_poly}
use Rattle.sparse_tensor.specs.Tensor.{Tensor, Entries, HasValues, rank_of, entries_of, value}
use Rattle.sparse_tensor.specs.declared.fault.TensorFault.{TensorFault}
use Rattle.model_core.specs.declared.model.Model.{Model}
use Rattle.model_core.specs.declared.term.TermKind.TheVariants.{Scalar}
use Rattle.model_core.specs.BlockSide.{component_content, component_block}
use Rattle.model_core.specs.Content.{same_block}
use Rattle.model_core.specs.Directions.{directions, entries_from, entry_directions}
use Rattle.term_expand.specs.declared.token.Token.{Token}
use Rattle.span_solver.specs.BlockDirections.{same_name}
use Rattle.derive_core.specs.Blocks.{name_of}
use Rattle.derive_core.specs.Outcomes.{HasSomething, IsAmong}
use Rattle.derive_core.specs.SideBetas.{AreSideBetas}
use Rattle.derive_core.specs.Works.{AreSides, AreSome, TellsDirections, AreDirectionsTold, TellsEntries, AreSideValues, AreSidesTold, IsWholeTold}
use Rattle.derive_core.specs.BlockBetas.{IsLegCount, name_at, scalar_side, scalar_side_beta, conjugate_beta_at, side_beta, block_beta}
use Rattle.derive_core.specs.declared.block_betas.SideBetas.{SideBetas}
use Rattle.derive_core.specs.declared.outcomes.Told.{Told}
use Rattle.derive_core.proofs.NameOrder.{name_same}
use Rattle.derive_core.proofs.TellingSteps.{none_told}

-- ---- an entry where a value isn't 0

record HasEntryAt (es : Entries) (key : List ℕ) : Type 0 where
  place : ℕ
  e : List ℕ × Polynomial
  there : slice_get es place ≡ Some e
  key_is : e.0 ≡ key

abbrev at_key : List ℕ → List ℕ × Polynomial → Polynomial
at_key key e = where_equal poly_ring.semiring (places_cmp key e.0) e.1

value_sum : (t : Tensor) (key : List ℕ) → sum poly_ring.semiring (entries_of t) (at_key key) ≡ value t key
unfolding coefficient
value_sum t key = refl

first_or_rest : (o : Ordering) (p q : Polynomial) → (o ≡ Equal → ⊥) → add_poly (where_equal poly_ring.semiring o p) q ≡ q
first_or_rest Less p q other = zero_add poly_ring.semiring q
first_or_rest Equal p q other = absurd (other refl)
first_or_rest Greater p q other = zero_add poly_ring.semiring q

later_entry : (first : List ℕ × Polynomial) (es : Entries) (key : List ℕ) → HasEntryAt es key → HasEntryAt (first ∷ es) key
later_entry first es key has = record { place = suc has.place; e = has.e; there = has.there; key_is = has.key_is }

entry_step : (e : List ℕ × Polynomial) (es : Entries) (key : List ℕ) (o : Ordering) → places_cmp key e.0 ≡ o → sum poly_ring.semiring (e ∷ es) (at_key key) ≢ zero_poly → (sum poly_ring.semiring es (at_key key) ≢ zero_poly → HasEntryAt es key) → HasEntryAt (e ∷ es) key
entry_step e es key Equal is some later = record { place = 0; e = e; there = refl; key_is = sym (places_keys.equal key e.0 is) }
entry_step e es key Less is some later =
    later_entry e es key (later (λ none. some (sum-cons poly_ring.semiring e es (at_key key) ∙ first_or_rest (places_cmp key e.0) e.1 (sum poly_ring.semiring es (at_key key)) (λ same. let never : ⊥ = cc in never) ∙ none)))
entry_step e es key Greater is some later =
    later_entry e es key (later (λ none. some (sum-cons poly_ring.semiring e es (at_key key) ∙ first_or_rest (places_cmp key e.0) e.1 (sum poly_ring.semiring es (at_key key)) (λ same. let never : ⊥ = cc in never) ∙ none)))

entry_in : (es : Entries) (key : List ℕ) → sum poly_ring.semiring es (at_key key) ≢ zero_poly → HasEntryAt es key
entry_in [] key some = absurd (some (sum-nil poly_ring.semiring (at_key key)))
entry_in (e ∷ es) key some = entry_step e es key (places_cmp key e.0) refl some (entry_in es key)

entry_with : (t : Tensor) (key : List ℕ) → value t key ≢ zero_poly → HasEntryAt (entries_of t) key
entry_with t key some = entry_in (entries_of t) key (λ none. some (sym (value_sum t key) ∙ none))

-- ---- the beta tensors on their sides

three_at : (f : List ℕ → Polynomial) (model : Model) (side : ℕ) → ((j k a : ℕ) → f (j ∷ k ∷ a ∷ []) ≡ side_beta model side (j ∷ k ∷ a ∷ [])) → (key : List ℕ) → length key ≡ 3 → f key ≡ side_beta model side key
three_at f model side same (j ∷ k ∷ a ∷ []) three = same j k a
three_at f model side same [] three = let never : ⊥ = omega (arith, three) in absurd never
three_at f model side same (j ∷ []) three = let never : ⊥ = omega (arith, three) in absurd never
three_at f model side same (j ∷ k ∷ []) three = let never : ⊥ = omega (arith, three) in absurd never
three_at f model side same (a ∷ b ∷ c ∷ d ∷ rest) three = let never : ⊥ = omega (arith, three) in absurd never

four_at : (f : List ℕ → Polynomial) (model : Model) (side : ℕ) → ((a b c d : ℕ) → f (a ∷ b ∷ c ∷ d ∷ []) ≡ side_beta model side (a ∷ b ∷ c ∷ d ∷ [])) → (key : List ℕ) → length key ≡ 4 → f key ≡ side_beta model side key
four_at f model side same (a ∷ b ∷ c ∷ d ∷ []) four = same a b c d
four_at f model side same [] four = let never : ⊥ = omega (arith, four) in absurd never
four_at f model side same (a ∷ []) four = let never : ⊥ = omega (arith, four) in absurd never
four_at f model side same (a ∷ b ∷ []) four = let never : ⊥ = omega (arith, four) in absurd never
four_at f model side same (a ∷ b ∷ c ∷ []) four = let never : ⊥ = omega (arith, four) in absurd never
four_at f model side same (a ∷ b ∷ c ∷ d ∷ e ∷ rest) four = let never : ⊥ = omega (arith, four) in absurd never

values_on : (n : ℕ) (f : List ℕ → Polynomial) (model : Model) (side : ℕ) (t : Tensor) → IsLegCount n → ((key : List ℕ) → length key ≡ n → f key ≡ side_beta model side key) → HasValues n f t → AreSideValues model side t
values_on n f model side t legs same has =
    record {
      legs = subst IsLegCount (sym has.rank_is) legs;
      values = record { rank_is = refl; value_is = λ key long. has.value_is key (long ∙ has.rank_is) ∙ same key (long ∙ has.rank_is) };
    }

module _ (model : Model) (sides : SideBetas) (are : AreSideBetas model sides) where
  pub yukawa_values : AreSideValues model 0 sides.yukawa
  yukawa_values = values_on 3 (yukawa_beta_at model) model 0 sides.yukawa (inl refl) (three_at (yukawa_beta_at model) model 0 (λ j k a. refl)) are.yukawa

  pub conjugate_yukawa_values : AreSideValues model 1 sides.conjugate_yukawa
  conjugate_yukawa_values = values_on 3 (conjugate_beta_at model) model 1 sides.conjugate_yukawa (inl refl) (three_at (conjugate_beta_at model) model 1 (λ j k a. refl)) are.conjugate_yukawa

  pub scalar_values : AreSideValues model 0 sides.scalar
  scalar_values = values_on 4 (scalar_side_beta model 0) model 0 sides.scalar (inr refl) (four_at (scalar_side_beta model 0) model 0 (λ a b c d. refl)) are.scalar

  pub conjugate_scalar_values : AreSideValues model 1 sides.conjugate_scalar
  conjugate_scalar_values = values_on 4 (scalar_side_beta model 1) model 1 sides.conjugate_scalar (inr refl) (four_at (scalar_side_beta model 1) model 1 (λ a b c d. refl)) are.conjugate_scalar

-- ---- blocks with a beta tensor other than 0

told_entry : (model : Model) (side : ℕ) (t : Tensor) (places : List ℕ) (told : List Told) → TellsEntries model side t (length (entries_of t)) told → HasEntryAt (entries_of t) places → IsAmong (name_at model (side ∷ places)) told
told_entry model side t places told tells has =
    subst (λ key. IsAmong (name_at model (side ∷ key)) told) has.key_is (tells has.place has.e (slice_get_within (entries_of t) has.place has.e has.there) has.there)

side_told : (model : Model) (side : ℕ) (t : Tensor) (places : List ℕ) (told : List Told) → AreSideValues model side t → length places ≡ rank_of t → TellsEntries model side t (length (entries_of t)) told → side_beta model side places ≢ zero_poly
    → IsAmong (name_at model (side ∷ places)) told
side_told model side t places told are long tells some =
    told_entry model side t places told tells (entry_with t places (λ none. some (sym (are.values.value_is places long) ∙ none)))

-- four scalars stand on side 0 or on side 1
side_small : (b : Bool) → (if b then 0 else 1) < 2
side_small true = omega arith
side_small false = omega arith

not_side : (n side : ℕ) → n < 2 → (n == suc (suc side)) ≡ false
not_side n side small = by_test (n == suc (suc side)) refl
  where
    by_test : (b : Bool) → (n == suc (suc side)) ≡ b → b ≡ false
    by_test true is =
        let same : n ≡ suc (suc side) = grind (arith, nat_tests) in
        let never : ⊥ = omega (arith, same, small) in absurd never
    by_test false is = refl

scalar_elsewhere : (model : Model) (side : ℕ) (places : List ℕ) → scalar_side_beta model (suc (suc side)) places ≡ zero_poly
scalar_elsewhere model side places =
    ap (λ (b : Bool). if b then scalar_beta_at model places else zero_poly)
    (not_side (scalar_side model places) side (side_small (same_block (component_content model Scalar (0 ∷ places)) (component_block model Scalar (0 ∷ places)))))

-- all entries on both sides are told
pub record TellsSides (model : Model) (sides : SideBetas) (told : List Told) : Type 0 where
  pub yukawa : TellsEntries model 0 sides.yukawa (length (entries_of sides.yukawa)) told
  pub conjugate_yukawa : TellsEntries model 1 sides.conjugate_yukawa (length (entries_of sides.conjugate_yukawa)) told
  pub scalar : TellsEntries model 0 sides.scalar (length (entries_of sides.scalar)) told
  pub conjugate_scalar : TellsEntries model 1 sides.conjugate_scalar (length (entries_of sides.conjugate_scalar)) told

module _ (model : Model) (sides : SideBetas) (told : List Told) (are : AreSideBetas model sides) (tells : TellsSides model sides told) where
  places_told : (side : ℕ) (places : List ℕ) → side_beta model side places ≢ zero_poly → IsAmong (name_at model (side ∷ places)) told
  places_told zero (j ∷ k ∷ a ∷ []) some = side_told model 0 sides.yukawa (j ∷ k ∷ a ∷ []) told (yukawa_values model sides are) (sym are.yukawa.rank_is) tells.yukawa some
  places_told (suc zero) (j ∷ k ∷ a ∷ []) some = side_told model 1 sides.conjugate_yukawa (j ∷ k ∷ a ∷ []) told (conjugate_yukawa_values model sides are) (sym are.conjugate_yukawa.rank_is) tells.conjugate_yukawa some
  places_told (suc (suc side)) (j ∷ k ∷ a ∷ []) some = absurd (some refl)
  places_told zero (a ∷ b ∷ c ∷ d ∷ []) some = side_told model 0 sides.scalar (a ∷ b ∷ c ∷ d ∷ []) told (scalar_values model sides are) (sym are.scalar.rank_is) tells.scalar some
  places_told (suc zero) (a ∷ b ∷ c ∷ d ∷ []) some = side_told model 1 sides.conjugate_scalar (a ∷ b ∷ c ∷ d ∷ []) told (conjugate_scalar_values model sides are) (sym are.conjugate_scalar.rank_is) tells.conjugate_scalar some
  places_told (suc (suc side)) (a ∷ b ∷ c ∷ d ∷ []) some = absurd (some (scalar_elsewhere model side (a ∷ b ∷ c ∷ d ∷ [])))
  places_told side [] some = absurd (some refl)
  places_told side (j ∷ []) some = absurd (some refl)
  places_told side (j ∷ k ∷ []) some = absurd (some refl)
  places_told side (a ∷ b ∷ c ∷ d ∷ e ∷ rest) some = absurd (some refl)

  part_told : (name : List Token) (side : ℕ) (places : List ℕ) (b : Bool) → same_name (name_at model (side ∷ places)) name ≡ b → (if b then side_beta model side places else zero_poly) ≢ zero_poly → IsAmong name told
  part_told name side places true is some =
      subst (λ n. IsAmong n told) (name_same (name_at model (side ∷ places)) name is) (places_told side places some)
  part_told name side places false is some = absurd (some refl)

  key_told : (name : List Token) (key : List ℕ) → block_beta model name key ≢ zero_poly → IsAmong name told
  key_told name [] some = absurd (some refl)
  key_told name (side ∷ places) some = part_told name side places (same_name (name_at model (side ∷ places)) name) refl some

  something_told : (count : ℕ) (name : List Token) → count ≡ length (directions model) → TellsDirections model count told → HasSomething model name → IsAmong name told
  something_told count name counted all (inl coupling) =
      let within = slice_get_within (directions model) coupling.place coupling.direction coupling.stands in
      subst (λ n. IsAmong n told) (name_same (name_of coupling.direction) name coupling.in_block)
      (all coupling.place coupling.direction (subst (λ n. coupling.place < n) (sym counted) within) coupling.stands)
  something_told count name counted all (inr beta) = key_told name beta.key beta.other

  pub whole_told : (count : ℕ) → AreSome model told → count ≡ length (directions model) → TellsDirections model count told → IsWholeTold model told
  whole_told count some counted all =
      record {
        are = record { order = some.order; each = some.each; every = λ name something. something_told count name counted all something };
        legs = some.legs;
      }

-- the last of the loops
pub whole_result : (model : Model) (sides : SideBetas) (first second : List Told) (count : ℕ) (r : Result (List Told) TensorFault) → AreSideBetas model sides → count ≡ length (directions model) → AreDirectionsTold model count first
    → AreSidesTold model sides.yukawa sides.conjugate_yukawa first second → IfOk r (AreSidesTold model sides.scalar sides.conjugate_scalar second) → IfOk r (IsWholeTold model)
whole_result model sides first second count (Ok told) are counted one two three =
    whole_told model sides told are
    (record {
      yukawa = λ place e within there. three.kept (name_at model (0 ∷ e.0)) (two.plain place e within there);
      conjugate_yukawa = λ place e within there. three.kept (name_at model (1 ∷ e.0)) (two.conjugate place e within there);
      scalar = three.plain;
      conjugate_scalar = three.conjugate;
    })
    count three.some counted
    (λ place direction within stands. three.kept (name_of direction) (two.kept (name_of direction) (one.tells place direction within stands)))
whole_result model sides first second count (Err bad) are counted one two three = tt

-- ---- nothing is told of a model without terms and scalar fields

no_directions : (model : Model) → model.terms ≡ [] → directions model ≡ []
no_directions model none = ap (λ terms. flat_map (entry_directions model) (entries_from 1 (length model.groups) terms)) none

no_place : {A : Type 0} (xs : List A) (count place : ℕ) → xs ≡ [] → count ≡ length xs → place < count → ⊥
no_place xs count place none counted within = omega (arith, ap length none, counted, within)

no_entry : (model : Model) (side : ℕ) (t : Tensor) (told : List Told) → entries_of t ≡ [] → TellsEntries model side t (length (entries_of t)) told
no_entry model side t told none place e within there = absurd (no_place (entries_of t) (length (entries_of t)) place none refl within)

pub nothing_told : (model : Model) (sides : SideBetas) → AreSides sides model → model.terms ≡ [] → model.scalars ≡ [] → IsWholeTold model []
nothing_told model sides are terms scalars =
    whole_told model sides [] are.are
    (record {
      yukawa = no_entry model 0 sides.yukawa [] (are.no_yukawa terms);
      conjugate_yukawa = no_entry model 1 sides.conjugate_yukawa [] (are.no_conjugate_yukawa terms);
      scalar = no_entry model 0 sides.scalar [] (are.no_scalar scalars);
      conjugate_scalar = no_entry model 1 sides.conjugate_scalar [] (are.no_conjugate_scalar scalars);
    })
    (length (directions model)) (none_told model) refl
    (λ place direction within stands. absurd (no_place (directions model) (length (directions model)) place (no_directions model terms) refl within))

pub empty_list : {A : Type 0} (xs : List A) → length xs ≡ 0 → xs ≡ []
empty_list [] none = refl
empty_list (x ∷ xs) none = let never : ⊥ = omega (arith, none) in absurd never

-- The component at a key, which has legs where each has a place, and the lines of blocks by their outcomes.
use Rattle.std.specs.Prelude.{◌≡◌, ◌≤◌, ◌<◌, ◌&&◌, if◌then◌else◌, ℕ, zero, suc, nat_lt, Bool, true, false, not, List, [], ◌∷◌, map, length, get_or, slice_get, Some, None}
use Rattle.std.specs.List.{list_any}
use Rattle.std.proofs.Common.{refl, sym, ap, ap₂, ◌∙◌, arith}
use Rattle.std.proofs.lemmas.Bool.Decides.{nat_tests}
use Rattle.std.proofs.lemmas.List.{length-map}
use Rattle.std.proofs.lemmas.Option.{slice_get_past, slice_get-get_or}
use Rattle.model_core.specs.declared.model.Model.{Model}
use Rattle.model_core.specs.declared.term.TermKind.TheVariants.{Fermion, Scalar}
use Rattle.model_core.specs.Component.{fermion_components}
use Rattle.model_core.specs.Scalar.{Coordinate, scalar_coordinates}
use Rattle.model_core.specs.Scalar.Coordinate.{Of, Dummy}
use Rattle.model_core.specs.TermTensor.{fermion_coordinates, with_coordinate, coordinates_at, value_or}
use Rattle.model_core.specs.Directions.{directions}
use Rattle.model_core.specs.Invariance.{of_conjugate, legs_at, component_legs}
use Rattle.model_core.proofs.ValidLaws.{both}
use Rattle.term_expand.specs.declared.directions.Direction.{Direction as Found}
use Rattle.term_expand.specs.declared.token.Token.{Token}
use Rattle.term_expand.specs.Expansion.{AreDirections}
use Rattle.term_expand.specs.Multiples.{HasCoordinates}
use Rattle.span_solver.specs.BlockDirections.{is_named}
use Rattle.derive_core.specs.LineSteps.{open_of, generated_of}
use Rattle.derive_core.specs.Lines.{block_legs, key_legs, is_bare, open_with, open_line, generated_with, generated_line}
use Rattle.derive_core.specs.Works.{are_places, are_scalar_places}
use Rattle.derive_core.specs.declared.betas.Line.TheVariants.{NotSpanned, Generated}
use Rattle.derive_core.specs.declared.outcomes.Outcome.{Outcome}
use Rattle.derive_core.specs.declared.outcomes.Outcome.TheVariants.{Spanned, Unspanned}
use Rattle.derive_core.specs.declared.outcomes.Told.{Told}
use Rattle.derive_core.proofs.FoundLines.{some_same}
use Rattle.derive_core.proofs.OwnDirections.{with_none}

-- ---- places that no leg has

less : (i n : ℕ) → nat_lt i n ≡ true → i < n
less i n test = grind (arith, nat_tests)

not_less : (i n : ℕ) → nat_lt i n ≡ false → n ≤ i
not_less i n test = grind (arith, nat_tests)

past : (xs : List Coordinate) (i n : ℕ) → length xs ≡ n → nat_lt i n ≡ false → slice_get xs i ≡ None
past xs i n counted over = let end = not_less i n over in slice_get_past xs i (omega (arith, counted, end))

there : (xs : List Coordinate) (i n : ℕ) → length xs ≡ n → nat_lt i n ≡ true → slice_get xs i ≡ Some (get_or xs i Dummy)
there xs i n counted within = let inside = less i n within in slice_get-get_or xs i Dummy (omega (arith, counted, inside))

module _ (leg : List Coordinate) (n place : ℕ) (counted : length leg ≡ n) (legs : List (List Coordinate)) (key : List ℕ) where
  -- a place that the leg doesn't have leaves no coordinates
  none_at : nat_lt place n ≡ false → coordinates_at (leg ∷ legs) (place ∷ key) ≡ None
  none_at over = ap (λ o. with_coordinate o (coordinates_at legs key)) (past leg place n counted over)

  -- and neither do places that the legs behind it don't have
  none_by : (b more : Bool) → nat_lt place n ≡ b → (b && more) ≡ false → (more ≡ false → coordinates_at legs key ≡ None) → coordinates_at (leg ∷ legs) (place ∷ key) ≡ None
  none_by false more here outside behind = none_at here
  none_by true more here outside behind = ap (with_coordinate (slice_get leg place)) (behind outside) ∙ with_none (slice_get leg place)

  some_at : (cs : List Coordinate) → nat_lt place n ≡ true → coordinates_at legs key ≡ Some cs → coordinates_at (leg ∷ legs) (place ∷ key) ≡ Some (get_or leg place Dummy ∷ cs)
  some_at cs within is = ap₂ with_coordinate (there leg place n counted within) is

three_outside : (first second third : List Coordinate) (n s j k a : ℕ) → length first ≡ n → length second ≡ n → length third ≡ s → (nat_lt j n && (nat_lt k n && nat_lt a s)) ≡ false
    → coordinates_at (first ∷ second ∷ third ∷ []) (j ∷ k ∷ a ∷ []) ≡ None
three_outside first second third n s j k a counted counted_second counted_third outside =
    none_by first n j counted (second ∷ third ∷ []) (k ∷ a ∷ []) (nat_lt j n) (nat_lt k n && nat_lt a s) refl outside (λ more.
    none_by second n k counted_second (third ∷ []) (a ∷ []) (nat_lt k n) (nat_lt a s) refl more (λ last. none_at third s a counted_third [] [] last))

four_outside : (leg : List Coordinate) (a b c d : ℕ) → (nat_lt a (length leg) && (nat_lt b (length leg) && (nat_lt c (length leg) && nat_lt d (length leg)))) ≡ false
    → coordinates_at (leg ∷ leg ∷ leg ∷ leg ∷ []) (a ∷ b ∷ c ∷ d ∷ []) ≡ None
four_outside leg a b c d outside =
    let n = length leg in
    none_by leg n a refl (leg ∷ leg ∷ leg ∷ []) (b ∷ c ∷ d ∷ []) (nat_lt a n) (nat_lt b n && (nat_lt c n && nat_lt d n)) refl outside (λ behind.
    none_by leg n b refl (leg ∷ leg ∷ []) (c ∷ d ∷ []) (nat_lt b n) (nat_lt c n && nat_lt d n) refl behind (λ more.
    none_by leg n c refl (leg ∷ []) (d ∷ []) (nat_lt c n) (nat_lt d n) refl more (λ last. none_at leg n d refl [] [] last)))

fermions_counted : (model : Model) → length (fermion_coordinates model) ≡ length (fermion_components model)
fermions_counted model = length-map (fermion_components model) Of

conjugates_counted : (model : Model) → length (map of_conjugate (fermion_coordinates model)) ≡ length (fermion_components model)
conjugates_counted model = length-map (fermion_coordinates model) of_conjugate ∙ fermions_counted model

pub legs_outside : (model : Model) (side j k a : ℕ) → are_places model j k a ≡ false → component_legs model Fermion (side ∷ j ∷ k ∷ a ∷ []) ≡ []
legs_outside model zero j k a outside =
    let counted = fermions_counted model in
    ap (value_or [] (legs_at Fermion)) (three_outside (fermion_coordinates model) (fermion_coordinates model) (scalar_coordinates model) _ _ j k a counted counted refl outside)
legs_outside model (suc side) j k a outside =
    let conjugates = map of_conjugate (fermion_coordinates model) in
    let counted = conjugates_counted model in
    ap (value_or [] (legs_at Fermion)) (three_outside conjugates conjugates (scalar_coordinates model) _ _ j k a counted counted refl outside)

pub scalar_legs_outside : (model : Model) (side a b c d : ℕ) → are_scalar_places model a b c d ≡ false → component_legs model Scalar (side ∷ a ∷ b ∷ c ∷ d ∷ []) ≡ []
scalar_legs_outside model side a b c d outside = ap (value_or [] (legs_at Scalar)) (four_outside (scalar_coordinates model) a b c d outside)

-- places of legs
pub have_coordinates : (model : Model) (j k a : ℕ) → are_places model j k a ≡ true → HasCoordinates model Fermion (j ∷ k ∷ a ∷ [])
have_coordinates model j k a inside =
    let fermions = fermion_coordinates model in
    let scalars = scalar_coordinates model in
    let n = length (fermion_components model) in
    let s = length scalars in
    let counted = fermions_counted model in
    let first = both (nat_lt j n) (nat_lt k n && nat_lt a s) inside in
    let second = both (nat_lt k n) (nat_lt a s) first.1 in
    let last = some_at scalars s a refl [] [] [] second.1 refl in
    let behind = some_at fermions n k counted (scalars ∷ []) (a ∷ []) (get_or scalars a Dummy ∷ []) second.0 last in
    record {
      coordinates = get_or fermions j Dummy ∷ get_or fermions k Dummy ∷ get_or scalars a Dummy ∷ [];
      at = some_at fermions n j counted (fermions ∷ scalars ∷ []) (k ∷ a ∷ []) (get_or fermions k Dummy ∷ get_or scalars a Dummy ∷ []) first.0 behind;
    }

pub have_scalar_coordinates : (model : Model) (a b c d : ℕ) → are_scalar_places model a b c d ≡ true → HasCoordinates model Scalar (a ∷ b ∷ c ∷ d ∷ [])
have_scalar_coordinates model a b c d inside =
    let leg = scalar_coordinates model in
    let n = length leg in
    let at = λ (place : ℕ). get_or leg place Dummy in
    let first = both (nat_lt a n) (nat_lt b n && (nat_lt c n && nat_lt d n)) inside in
    let second = both (nat_lt b n) (nat_lt c n && nat_lt d n) first.1 in
    let third = both (nat_lt c n) (nat_lt d n) second.1 in
    let last = some_at leg n d refl [] [] [] third.1 refl in
    let more = some_at leg n c refl (leg ∷ []) (d ∷ []) (at d ∷ []) third.0 last in
    let behind = some_at leg n b refl (leg ∷ leg ∷ []) (c ∷ d ∷ []) (at c ∷ at d ∷ []) second.0 more in
    record {
      coordinates = at a ∷ at b ∷ at c ∷ at d ∷ [];
      at = some_at leg n a refl (leg ∷ leg ∷ leg ∷ []) (b ∷ c ∷ d ∷ []) (at b ∷ at c ∷ at d ∷ []) first.0 behind;
    }

-- ---- lines

module _ (model : Model) (name : List Token) where
  open_by : (outcome : Outcome) → is_bare model name ≡ false → open_with model name outcome ≡ open_of model name outcome
  open_by (Spanned coordinates) bare = refl
  open_by (Unspanned key value) bare = ap (λ b. if b then [] else NotSpanned (block_legs model name) (key_legs model key) ∷ []) bare

  not_open : (outcome : Outcome) → is_bare model name ≡ true → open_with model name outcome ≡ []
  not_open (Spanned coordinates) bare = refl
  not_open (Unspanned key value) bare = ap (λ b. if b then [] else NotSpanned (block_legs model name) (key_legs model key) ∷ []) bare

  generated_by : (outcome : Outcome) → is_bare model name ≡ true → generated_with model name outcome ≡ generated_of model name outcome
  generated_by (Spanned coordinates) bare = refl
  generated_by (Unspanned key value) bare = ap (λ b. if b then Generated (block_legs model name) (key_legs model key) value ∷ [] else []) bare

  not_generated : (outcome : Outcome) → is_bare model name ≡ false → generated_with model name outcome ≡ []
  not_generated (Spanned coordinates) bare = refl
  not_generated (Unspanned key value) bare = ap (λ b. if b then Generated (block_legs model name) (key_legs model key) value ∷ [] else []) bare

module _ (model : Model) (founds : List Found) (told : Told) (all : AreDirections (directions model) founds) where
  bare_is : (b : Bool) → list_any (is_named told.block) founds ≡ b → is_bare model told.block ≡ not b
  bare_is b some = ap not (sym (some_same told.block (directions model) founds all) ∙ some)

  pub open_some : list_any (is_named told.block) founds ≡ true → open_line model told ≡ open_of model told.block told.outcome
  open_some some = open_by model told.block told.outcome (bare_is true some)

  pub open_none : list_any (is_named told.block) founds ≡ false → open_line model told ≡ []
  open_none none = not_open model told.block told.outcome (bare_is false none)

  pub generated_some : list_any (is_named told.block) founds ≡ true → generated_line model told ≡ []
  generated_some some = not_generated model told.block told.outcome (bare_is true some)

  pub generated_none : list_any (is_named told.block) founds ≡ false → generated_line model told ≡ generated_of model told.block told.outcome
  generated_none none = generated_by model told.block told.outcome (bare_is false none)

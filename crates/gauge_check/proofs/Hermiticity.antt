-- Scalar terms that aren't their own conjugates.
use Rattle.std.specs.Prelude.{◌≡◌, ◌+◌, ◌||◌, not, if◌then◌else◌, ℕ, suc, Bool, true, false, List, [], ◌∷◌, ◌++◌, map, Option, Some, None}
use Rattle.std.specs.List.{flat_map, list_any, AllByRecursion, AllZip}
use Rattle.std.proofs.Common.{refl, sym, ap, ap₂, subst, ◌∙◌, true≢false}
use Rattle.std.proofs.lemmas.List.Folds.{list_any-append}
use mathlib.Core.Path.{fun_ext}
use Rattle.exact_algebra.specs.Ring.{zero_add}
use Rattle.exact_algebra.specs.Sums.{sum, sum-add}
use Rattle.frac128.specs.Rational.{ℚ, zero_ℚ, ◌+ℚ◌, eq_ℚ}
use Rattle.frac128.specs.RationalLaws.{ring_ℚ}
use Rattle.frac128.specs.RationalOrder.{Decides-eq_ℚ}
use Rattle.beta_poly.specs.Polynomial.{add_poly, constant}
use Rattle.beta_poly.specs.Symbol.{conj_symbol}
use Rattle.sparse_tensor.specs.Tensor.{HasValues}
use Rattle.model_core.specs.declared.leg.Leg.{Leg}
use Rattle.model_core.specs.declared.model.Model.{Model}
use Rattle.model_core.specs.declared.term.Term.{Term}
use Rattle.model_core.specs.declared.term.TermKind.{TermKind}
use Rattle.model_core.specs.declared.term.TermKind.TheVariants.{Fermion, Scalar}
use Rattle.model_core.specs.Scalar.{Coordinate, partner}
use Rattle.model_core.specs.TermTensor.{Numbers, legs_of, coordinates_at, value_or, at_places}
use Rattle.model_core.specs.Content.{is_fermionic, conjugate_content, same_block}
use Rattle.model_core.specs.Directions.{CouplingEntry, Direction, symbol_of, text_cells, cell_content, cell_tensor, entry_tensor, conjugated, conjugate_tensor, on_side, at_key, entry_block, plain_cell, conjugate_cell, plain_part, conjugate_part, moves_both, real_part, direction_of, entry_directions}
use Rattle.model_core.specs.Invariance.{keys_of, component_legs, differs, any_differs, hermitian_failure_at, hermitian_failures}
use Rattle.model_core.specs.Invariance.Failure.{NotHermitian}
use Rattle.model_core.proofs.CoordinateLaws.{partner_twice}
use Rattle.term_expand.specs.declared.directions.Direction.{Direction as Found}
use Rattle.term_expand.specs.Expansion.{IsDirection, AreDirections}
use Rattle.term_expand.specs.Texts.{leg_count}
use Rattle.term_expand.proofs.Projections.{constants}
use Rattle.term_expand.proofs.TextSums.{cells_at, conjugate_cells_at}
use Rattle.gauge_check.specs.declared.fault.TermFault.TheVariants as fault
use Rattle.gauge_check.specs.Faults.{fault_of}
use Rattle.gauge_check.specs.Steps.{IsEntryOf, AreDirectionsOf, IsWhole, AreWhole, any_differs_at, IsFirstKey}
use Rattle.gauge_check.proofs.FirstKeys.{first_key_same}
use Rattle.gauge_check.proofs.KeyLists.{IsFirst, no_keys, first_key_of}

-- ---- both sides of a direction

-- the numbers of each direction of an entry, both sides together
abbrev pub entry_wholes : Model → CouplingEntry → List Numbers
entry_wholes model e = if e.term.real then entry_tensor model e ∷ [] else entry_tensor model e ∷ conjugate_tensor model e ∷ []

-- a direction of scalars whose sides together have these numbers
record IsWholeOf (model : Model) (f : Numbers) (meant : Direction) : Type 0 where
  kind_is : meant.kind ≡ Scalar
  numbers : (key : List ℕ) → meant.numbers (0 ∷ key) +ℚ meant.numbers (1 ∷ key) ≡ at_places zero_ℚ (legs_of model Scalar) f key

one_side : (b : Bool) (f : List ℕ → ℚ) (key : List ℕ) → on_side (if b then 0 else 1) f (0 ∷ key) +ℚ on_side (if b then 0 else 1) f (1 ∷ key) ≡ f key
one_side true f key = ring_ℚ.semiring.add_zero (f key)
one_side false f key = zero_add ring_ℚ.semiring (f key)

module _ (model : Model) (e : CouplingEntry) (scalar : e.term.kind ≡ Scalar) (alone : moves_both e.term ≡ false) where
  abbrev numbers_at : Numbers → TermKind → List ℕ → ℚ
  numbers_at f kind key = at_places zero_ℚ (legs_of model kind) f key

  abbrev cells : List (ℕ × ℕ)
  cells = text_cells e.term e.row e.column

  plain_whole : (key : List ℕ) → plain_part model e (0 ∷ key) +ℚ plain_part model e (1 ∷ key) ≡ numbers_at (entry_tensor model e) Scalar key
  plain_whole key =
      sym (sum-add ring_ℚ.semiring cells (plain_cell model e (0 ∷ key)) (plain_cell model e (1 ∷ key)))
      ∙ ap (sum ring_ℚ.semiring cells) (fun_ext (λ cell. one_side (same_block (cell_content e.term cell) (entry_block model e)) (at_key model e.term.kind (cell_tensor model e.term cell)) key))
      ∙ cells_at (cell_tensor model e.term) e.term e.row e.column (coordinates_at (legs_of model e.term.kind) key)
      ∙ ap (λ kind. numbers_at (entry_tensor model e) kind key) scalar

  conjugate_whole : (key : List ℕ) → conjugate_part model e (0 ∷ key) +ℚ conjugate_part model e (1 ∷ key) ≡ numbers_at (conjugate_tensor model e) Scalar key
  conjugate_whole key =
      sym (sum-add ring_ℚ.semiring cells (conjugate_cell model e (0 ∷ key)) (conjugate_cell model e (1 ∷ key)))
      ∙ ap (sum ring_ℚ.semiring cells) (fun_ext (λ cell. one_side (same_block (conjugate_content model (cell_content e.term cell)) (entry_block model e)) (at_key model e.term.kind (conjugated e.term.kind (cell_tensor model e.term cell))) key))
      ∙ conjugate_cells_at model e.term e.row e.column (coordinates_at (legs_of model e.term.kind) key)
      ∙ ap (λ kind. numbers_at (conjugate_tensor model e) kind key) scalar

  real_is : (key : List ℕ) → real_part model e key ≡ plain_part model e key
  real_is key = ap (λ b. if b then plain_part model e key +ℚ conjugate_part model e key else plain_part model e key) alone

  wholes_of : (b : Bool) → AllZip (IsWholeOf model) (if b then entry_tensor model e ∷ [] else entry_tensor model e ∷ conjugate_tensor model e ∷ [])
      (if b then direction_of model e (symbol_of e) (real_part model e) ∷ [] else direction_of model e (symbol_of e) (plain_part model e) ∷ direction_of model e (conj_symbol (symbol_of e)) (conjugate_part model e) ∷ [])
  wholes_of true = (record { kind_is = scalar; numbers = λ key. ap₂ ◌+ℚ◌ (real_is (0 ∷ key)) (real_is (1 ∷ key)) ∙ plain_whole key }, tt)
  wholes_of false = (record { kind_is = scalar; numbers = plain_whole }, (record { kind_is = scalar; numbers = conjugate_whole }, tt))

zip_append : {A B : Type 0} (R : A → B → Type 0) (xs zs : List A) (ys ws : List B) → AllZip R xs ys → AllZip R zs ws → AllZip R (xs ++ zs) (ys ++ ws)
zip_append R [] zs [] ws first second = second
zip_append R [] zs (y ∷ ys) ws first second = absurd first
zip_append R (x ∷ xs) zs [] ws first second = absurd first
zip_append R (x ∷ xs) zs (y ∷ ys) ws first second = (first.0, zip_append R xs zs ys ws first.1 second)

module _ (model : Model) (place : ℕ) (term : Term) (scalar : term.kind ≡ Scalar) (alone : moves_both term ≡ false) where
  all_wholes : (es : List CouplingEntry) → AllByRecursion (IsEntryOf place term) es → AllZip (IsWholeOf model) (flat_map (entry_wholes model) es) (flat_map (entry_directions model) es)
  all_wholes [] all = tt
  all_wholes (e ∷ es) all =
      zip_append (IsWholeOf model) (entry_wholes model e) (flat_map (entry_wholes model) es) (entry_directions model e) (flat_map (entry_directions model) es)
      (wholes_of model e (ap (λ t. t.kind) all.0.term_is ∙ scalar) (ap moves_both all.0.term_is ∙ alone) e.term.real) (all_wholes es all.1)

  whole_found : (f : Numbers) (meant : Direction) (found : Found) → IsWholeOf model f meant → IsDirection meant found → IsWhole model f found
  whole_found f meant found of is =
      let numbers = subst (λ kind. HasValues (1 + leg_count kind) (λ key. constant (meant.numbers key)) found.tensor) of.kind_is is.numbers in
      record {
        rank_is = numbers.rank_is;
        numbers = λ key l.
            ap₂ add_poly (numbers.value_is (0 ∷ key) (ap suc l)) (numbers.value_is (1 ∷ key) (ap suc l))
            ∙ sym (constants.at_add (meant.numbers (0 ∷ key)) (meant.numbers (1 ∷ key))) ∙ ap constant (of.numbers key);
      }

  wholes_found : (fs : List Numbers) (meants : List Direction) (ds : List Found) → AllZip (IsWholeOf model) fs meants → AreDirections meants ds → AreWhole model fs ds
  wholes_found [] [] [] of all = tt
  wholes_found [] [] (d ∷ ds) of all = absurd all
  wholes_found [] (m ∷ meants) ds of all = absurd of
  wholes_found (f ∷ fs) [] ds of all = absurd of
  wholes_found (f ∷ fs) (m ∷ meants) [] of all = absurd all
  wholes_found (f ∷ fs) (m ∷ meants) (d ∷ ds) of all = (whole_found f m d of.0 all.0, wholes_found fs meants ds of.1 all.1)

  -- the directions of a scalar term to which no conjugate is added
  pub are_whole : (es : List CouplingEntry) (ds : List Found) → AreDirectionsOf model place term es ds → AreWhole model (flat_map (entry_wholes model) es) ds
  are_whole es ds are = wholes_found (flat_map (entry_wholes model) es) (flat_map (entry_directions model) es) ds (all_wholes es are.entries) are.directions

-- ---- where entries differ

or_false : (b : Bool) → (b || false) ≡ b
or_false true = refl
or_false false = refl

or_same : (b : Bool) → (b || b) ≡ b
or_same true = refl
or_same false = refl

none_of : {A : Type 0} (xs : List A) → list_any (λ x. false) xs ≡ false
none_of [] = refl
none_of (x ∷ xs) = none_of xs

eq_back : (a b : ℚ) → eq_ℚ b a ≡ eq_ℚ a b
eq_back a b = by_test (eq_ℚ a b) refl
  where
    by_test : (t : Bool) → eq_ℚ a b ≡ t → eq_ℚ b a ≡ eq_ℚ a b
    by_test true e = (Decides-eq_ℚ b a).1 (sym ((Decides-eq_ℚ a b).0 e)) ∙ sym e
    by_test false e = other (eq_ℚ b a) refl ∙ sym e
      where
        other : (t : Bool) → eq_ℚ b a ≡ t → eq_ℚ b a ≡ false
        other true back = absurd (true≢false (sym ((Decides-eq_ℚ a b).1 (sym ((Decides-eq_ℚ b a).0 back))) ∙ e))
        other false back = back

partners_back : (cs : List Coordinate) → map partner (map partner cs) ≡ cs
partners_back [] = refl
partners_back (c ∷ cs) = ap₂ (λ x xs. x ∷ xs) (partner_twice c) (partners_back cs)

abbrev tells : Numbers → List Coordinate → Bool
tells f cs = not (eq_ℚ (f cs) (f (map partner cs)))

-- numbers and their conjugates differ at the same coordinates
conjugate_tells : (kind : TermKind) (f : Numbers) (cs : List Coordinate) → kind ≡ Scalar → tells (conjugated kind f) cs ≡ tells f cs
conjugate_tells kind f cs scalar =
    ap (λ k. tells (conjugated k f) cs) scalar
    ∙ ap (λ ds. not (eq_ℚ (f (map partner cs)) (f ds))) (partners_back cs)
    ∙ ap not (eq_back (f cs) (f (map partner cs)))

module _ (model : Model) (cs : List Coordinate) where
  entry_tells : (e : CouplingEntry) (b : Bool) → e.term.kind ≡ Scalar → list_any (λ f. tells f cs) (if b then entry_tensor model e ∷ [] else entry_tensor model e ∷ conjugate_tensor model e ∷ []) ≡ differs model cs e
  entry_tells e true scalar = or_false (differs model cs e)
  entry_tells e false scalar =
      ap (λ b. differs model cs e || b) (or_false (tells (conjugate_tensor model e) cs) ∙ conjugate_tells e.term.kind (entry_tensor model e) cs scalar) ∙ or_same (differs model cs e)

  entries_tell : (es : List CouplingEntry) → AllByRecursion (λ e. e.term.kind ≡ Scalar) es → list_any (λ f. tells f cs) (flat_map (entry_wholes model) es) ≡ list_any (differs model cs) es
  entries_tell [] all = refl
  entries_tell (e ∷ es) all =
      list_any-append (λ f. tells f cs) (entry_wholes model e) (flat_map (entry_wholes model) es)
      ∙ ap₂ (λ a b. a || b) (entry_tells e e.term.real all.0) (entries_tell es all.1)

any_at : (model : Model) (es : List CouplingEntry) (o : Option (List Coordinate)) → AllByRecursion (λ e. e.term.kind ≡ Scalar) es → list_any (λ f. value_or false (tells f) o) (flat_map (entry_wholes model) es) ≡ value_or false (λ cs. list_any (differs model cs) es) o
any_at model es None all = none_of (flat_map (entry_wholes model) es)
any_at model es (Some cs) all = entries_tell model cs es all

kinds_are : (place : ℕ) (term : Term) (es : List CouplingEntry) → term.kind ≡ Scalar → AllByRecursion (IsEntryOf place term) es → AllByRecursion (λ e. e.term.kind ≡ Scalar) es
kinds_are place term [] scalar all = tt
kinds_are place term (e ∷ es) scalar all = (ap (λ t. t.kind) all.0.term_is ∙ scalar, kinds_are place term es scalar all.1)

-- ---- failures

module _ (model : Model) (place : ℕ) (term : Term) (es : List CouplingEntry) (scalar : term.kind ≡ Scalar) (alone : moves_both term ≡ false) (all : AllByRecursion (IsEntryOf place term) es) where
  failures_are : hermitian_failures model place term es ≡ flat_map (hermitian_failure_at model place term es) (keys_of (legs_of model Scalar))
  failures_are = ap (λ b. if b then [] else flat_map (hermitian_failure_at model place term es) (keys_of (legs_of model Scalar))) alone

  entries_first : (o : Option (List ℕ)) → IsFirstKey model (any_differs_at model (flat_map (entry_wholes model) es)) o → IsFirstKey model (any_differs model es) o
  entries_first o first =
      first_key_same model (any_differs_at model (flat_map (entry_wholes model) es)) (any_differs model es) o
      (λ key. any_at model es (coordinates_at (legs_of model Scalar) key) (kinds_are place term es scalar all)) first

  passes : (key : List ℕ) → any_differs model es key ≡ false → hermitian_failure_at model place term es key ≡ []
  passes key e = ap (λ b. if b then NotHermitian place term key ∷ [] else []) e

  fails : (key : List ℕ) → any_differs model es key ≡ true → IsFirst (NotHermitian place term key) (hermitian_failure_at model place term es key)
  fails key e = subst (λ b. IsFirst (NotHermitian place term key) (if b then NotHermitian place term key ∷ [] else [])) (sym e) refl

  -- a term whose directions don't differ from their conjugates
  pub none_differs : IsFirstKey model (any_differs_at model (flat_map (entry_wholes model) es)) None → hermitian_failures model place term es ≡ []
  none_differs first =
      failures_are ∙ no_keys (legs_of model Scalar) (hermitian_failure_at model place term es) (λ key l. passes key (entries_first None first key l))

  -- one of which a direction does
  pub one_differs : (q : List ℕ) → IsFirstKey model (any_differs_at model (flat_map (entry_wholes model) es)) (Some q) → IsFirst (NotHermitian place term q) (hermitian_failures model place term es)
  one_differs q given =
      let first = entries_first (Some q) given in
      subst (IsFirst (NotHermitian place term q)) (sym failures_are)
      (first_key_of (legs_of model Scalar) q first.inside.coordinates (hermitian_failure_at model place term es) (NotHermitian place term q) first.inside.at
      (λ key l less. passes key (first.before key l less)) (fails q first.here))

-- a term to whose conjugate nothing is asked
pub not_asked : (model : Model) (place : ℕ) (term : Term) (es : List CouplingEntry) → moves_both term ≡ true → hermitian_failures model place term es ≡ []
not_asked model place term es e = ap (λ b. if b then [] else flat_map (hermitian_failure_at model place term es) (keys_of (legs_of model Scalar))) e

-- the failure as it is answered
pub hermitian_fault : (model : Model) (place : ℕ) (term : Term) (key coupling : List ℕ) (component : List Leg) → coupling ≡ term.coupling → component ≡ component_legs model Scalar (0 ∷ key) → fault.NotHermitian place coupling component ≡ fault_of model (NotHermitian place term key)
hermitian_fault model place term key coupling component couplings components = λ i. fault.NotHermitian place (couplings i) (components i)

-- a term of scalars alone
pub scalar_alone : (term : Term) → moves_both term ≡ false → term.kind ≡ Scalar
scalar_alone term e = by_kind term.kind refl
  where
    by_kind : (kind : TermKind) → term.kind ≡ kind → term.kind ≡ Scalar
    by_kind Scalar is = is
    by_kind Fermion is = absurd (true≢false (sym (ap (λ k. is_fermionic k || term.hc) is) ∙ e))

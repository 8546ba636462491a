-- The lines of directions that are found are those of the directions that are meant, and what each step adds to them.
use Rattle.std.specs.Prelude.{◌≡◌, ◌≤◌, ◌+◌, ◌<◌, ◌||◌, if◌then◌else◌, ℕ, suc, Bool, true, false, not, cond, List, [], ◌∷◌, ◌++◌, length, take, drop, get_or, slice_get, Option, Some}
use Rattle.std.specs.List.{flat_map, list_any}
use Rattle.std.proofs.Common.{refl, sym, ap, ap₂, ◌∙◌, arith, drop-cons, append_assoc}
use Rattle.std.proofs.lemmas.List.{append-nil, take_more, drop_all}
use Rattle.std.proofs.lemmas.Option.{slice_get_within, slice_get-get_or, get_or_from_slice_get}
use Rattle.model_core.specs.declared.model.Model.{Model}
use Rattle.model_core.specs.Directions.{Direction, directions}
use Rattle.term_expand.specs.declared.directions.Direction.{Direction as Found}
use Rattle.term_expand.specs.declared.token.Token.{Token}
use Rattle.term_expand.specs.Expansion.{IsDirection, AreDirections}
use Rattle.span_solver.specs.BlockDirections.{same_name, is_named, block_directions}
use Rattle.derive_core.specs.Blocks.{name_of, is_of, directions_of}
use Rattle.derive_core.specs.LineSteps.{found_has_line, found_line, found_lines_after}
use Rattle.derive_core.specs.Lines.{outcome_in, coordinate_line, has_line, direction_line, coupling_lines_after, coupling_lines}
use Rattle.derive_core.specs.declared.betas.Line.{Line}
use Rattle.derive_core.specs.declared.outcomes.Outcome.{Outcome}
use Rattle.derive_core.specs.declared.outcomes.Told.{Told}

-- ---- nothing, or one element more

pub nothing_more : {A : Type 0} (xs ys : List A) → ys ≡ [] → xs ≡ xs ++ ys
nothing_more xs ys none = sym (append-nil xs) ∙ ap (λ zs. xs ++ zs) (sym none)

-- nothing is left
nothing_left : {A : Type 0} (xs ys zs : List A) → ys ≡ [] → xs ++ ys ≡ zs → xs ≡ zs
nothing_left xs ys zs none is = nothing_more xs ys none ∙ is

drop_at : {A : Type 0} (xs : List A) (i : ℕ) (x : A) → slice_get xs i ≡ Some x → drop i xs ≡ x ∷ drop (i + 1) xs
drop_at xs i x found =
    let next : suc i ≡ i + 1 = omega arith in
    drop-cons xs i x (slice_get_within xs i x found) ∙ ap₂ ◌∷◌ (get_or_from_slice_get xs i x x found) (ap (λ k. drop k xs) next)

take_at : {A : Type 0} (xs : List A) (i : ℕ) (x : A) → slice_get xs i ≡ Some x → take i xs ++ x ∷ [] ≡ take (i + 1) xs
take_at xs i x found =
    ap (λ y. take i xs ++ y ∷ []) (sym (get_or_from_slice_get xs i x x found)) ∙ sym (take_more xs i x (slice_get_within xs i x found))

lines_step : {A B : Type 0} (f : A → List B) (xs : List A) (i : ℕ) (x : A) (old new : List B) → slice_get xs i ≡ Some x → new ≡ old ++ f x
    → new ++ flat_map f (drop (i + 1) xs) ≡ old ++ flat_map f (drop i xs)
lines_step f xs i x old new found is =
    ap (λ t. t ++ flat_map f (drop (i + 1) xs)) is ∙ append_assoc old (f x) (flat_map f (drop (i + 1) xs)) ∙ ap (λ ys. old ++ flat_map f ys) (sym (drop_at xs i x found))

-- the lines of one element more, of those from a place on
pub lines_more : {A B : Type 0} (f : A → List B) (xs : List A) (i : ℕ) (x : A) (old new : List B) → x ≡ get_or xs i x → i < length xs → new ≡ old ++ f x
    → new ++ flat_map f (drop (i + 1) xs) ≡ old ++ flat_map f (drop i xs)
lines_more f xs i x old new is within added = lines_step f xs i x old new (slice_get-get_or xs i x within ∙ ap Some (sym is)) added

-- ---- the line of a direction

module _ (told : List Told) (earlier : List Found) (found : Found) where
  abbrev line_if : Bool → Option Outcome → List Line
  line_if b o = if b then coordinate_line found.symbol.id (length (block_directions earlier found.block)) o else []

  pub no_line : found_has_line found ≡ false → found_line told earlier found ≡ []
  no_line plain = ap (λ b. line_if b (outcome_in found.block told)) plain

  pub line_with : (o : Option Outcome) → found_has_line found ≡ true → outcome_in found.block told ≡ o → found_line told earlier found ≡ coordinate_line found.symbol.id (length (block_directions earlier found.block)) o
  line_with o has is = ap₂ line_if has is

-- ---- the lines of one direction more

rest_at : (told : List Told) (ds : List Found) (i : ℕ) (d : Found) → slice_get ds i ≡ Some d
    → found_lines_after told (take i ds) (drop i ds) ≡ found_line told (take i ds) d ++ found_lines_after told (take (i + 1) ds) (drop (i + 1) ds)
rest_at told ds i d found =
    ap (found_lines_after told (take i ds)) (drop_at ds i d found)
    ∙ ap (λ front. found_line told (take i ds) d ++ found_lines_after told front (drop (i + 1) ds)) (take_at ds i d found)

pub found_step : (told : List Told) (ds : List Found) (i : ℕ) (d : Found) (old new : List Line) → slice_get ds i ≡ Some d → new ≡ old ++ found_line told (take i ds) d
    → new ++ found_lines_after told (take (i + 1) ds) (drop (i + 1) ds) ≡ old ++ found_lines_after told (take i ds) (drop i ds)
found_step told ds i d old new found is =
    let rest = found_lines_after told (take (i + 1) ds) (drop (i + 1) ds) in
    ap (λ t. t ++ rest) is ∙ append_assoc old (found_line told (take i ds) d) rest ∙ ap (λ ys. old ++ ys) (sym (rest_at told ds i d found))

pub found_end : (told : List Told) (ds : List Found) (i : ℕ) → length ds ≤ i → found_lines_after told (take i ds) (drop i ds) ≡ []
found_end told ds i over = ap (found_lines_after told (take i ds)) (drop_all i ds over)

-- ---- found and meant

has_line_same : (meant : Direction) (found : Found) → IsDirection meant found → found_has_line found ≡ has_line meant
has_line_same meant found is = ap (λ symbol. not symbol.conj) is.symbol

count_same : (name : List Token) (meants : List Direction) (founds : List Found) → AreDirections meants founds → length (block_directions founds name) ≡ length (directions_of name meants)
count_same name [] [] all = refl
count_same name [] (f ∷ founds) all = absurd all
count_same name (m ∷ meants) [] all = absurd all
count_same name (m ∷ meants) (f ∷ founds) all =
    ap (λ own. length (cond (same_name own name) (f ∷ block_directions founds name) (block_directions founds name))) all.0.block ∙ by_name (is_of name m) (count_same name meants founds all.1)
  where
    by_name : (b : Bool) → length (block_directions founds name) ≡ length (directions_of name meants)
        → length (cond b (f ∷ block_directions founds name) (block_directions founds name)) ≡ length (cond b (m ∷ directions_of name meants) (directions_of name meants))
    by_name true rest = ap suc rest
    by_name false rest = rest

pub some_same : (name : List Token) (meants : List Direction) (founds : List Found) → AreDirections meants founds → list_any (is_named name) founds ≡ list_any (is_of name) meants
some_same name [] [] all = refl
some_same name [] (f ∷ founds) all = absurd all
some_same name (m ∷ meants) [] all = absurd all
some_same name (m ∷ meants) (f ∷ founds) all = ap₂ (λ own rest. same_name own name || rest) all.0.block (some_same name meants founds all.1)

module _ (told : List Told) where
  line_same : (before : List Direction) (earlier : List Found) (meant : Direction) (found : Found) → AreDirections before earlier → IsDirection meant found → found_line told earlier found ≡ direction_line told before meant
  line_same before earlier meant found all is =
      ap₂ (λ b (id : ℕ). if b then coordinate_line id (length (block_directions earlier found.block)) (outcome_in found.block told) else []) (has_line_same meant found is) (ap (λ s. s.id) is.symbol)
      ∙ ap (λ name. if has_line meant then coordinate_line meant.symbol.id (length (block_directions earlier name)) (outcome_in name told) else []) is.block
      ∙ ap (λ count. if has_line meant then coordinate_line meant.symbol.id count (outcome_in (name_of meant) told) else []) (count_same (name_of meant) before earlier all)

  one_more : (before : List Direction) (earlier : List Found) (meant : Direction) (found : Found) → AreDirections before earlier → IsDirection meant found → AreDirections (before ++ meant ∷ []) (earlier ++ found ∷ [])
  one_more [] [] meant found all is = (is, tt)
  one_more [] (f ∷ earlier) meant found all is = absurd all
  one_more (m ∷ before) [] meant found all is = absurd all
  one_more (m ∷ before) (f ∷ earlier) meant found all is = (all.0, one_more before earlier meant found all.1 is)

  lines_after_same : (before : List Direction) (earlier : List Found) (meants : List Direction) (founds : List Found) → AreDirections before earlier → AreDirections meants founds
      → found_lines_after told earlier founds ≡ coupling_lines_after told before meants
  lines_after_same before earlier [] [] all rest = refl
  lines_after_same before earlier [] (f ∷ founds) all rest = absurd rest
  lines_after_same before earlier (m ∷ meants) [] all rest = absurd rest
  lines_after_same before earlier (m ∷ meants) (f ∷ founds) all rest =
      ap₂ ◌++◌ (line_same before earlier m f all rest.0)
      (lines_after_same (before ++ m ∷ []) (earlier ++ f ∷ []) meants founds (one_more before earlier m f all rest.0) rest.1)

  pub lines_same : (model : Model) (founds : List Found) → AreDirections (directions model) founds → found_lines_after told [] founds ≡ coupling_lines model told
  lines_same model founds all = lines_after_same [] [] (directions model) founds tt all

-- all directions
pub found_all : (told : List Told) (ds : List Found) (i : ℕ) (lines initial : List Line) (model : Model) → length ds ≤ i
    → lines ++ found_lines_after told (take i ds) (drop i ds) ≡ initial ++ found_lines_after told [] ds → AreDirections (directions model) ds → lines ≡ initial ++ coupling_lines model told
found_all told ds i lines initial model over so_far all =
    nothing_left lines _ _ (found_end told ds i over) so_far ∙ ap (λ ls. initial ++ ls) (lines_same told model ds all)

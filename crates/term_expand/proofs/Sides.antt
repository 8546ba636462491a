-- Values on the sides of a block, and the directions that they make.
use Rattle.std.specs.Prelude.{◌≡◌, ◌+◌, ◌==◌, ℕ, zero, suc, Bool, true, false, if◌then◌else◌, List, [], ◌∷◌, ◌++◌, map, length}
use Rattle.std.specs.List.{All, AllZip, flat_map}
use Rattle.std.specs.Ordering.{nat_cmp}
use Rattle.std.proofs.Common.{cond, subst, refl, sym, ap, ap₂, ◌∙◌, arith}
use Rattle.std.proofs.lemmas.Cmp.{nat_cmp_total, tied_itself}
use Rattle.std.proofs.lemmas.List.{map-append}
use Rattle.std.proofs.lemmas.List.Elements.{All-append}
use mathlib.Core.Path.{fun_ext}
use Rattle.exact_algebra.specs.Formal.{coefficient}
use Rattle.exact_algebra.specs.Maps.{const-zero, const-add}
use Rattle.exact_algebra.specs.Sums.{sum, sum-nil, sum-cons, sum-append, sum-map, where_equal, where_equal-apart, nat_equal}
use Rattle.exact_algebra.specs.Kronecker.{where_then, sum-where}
use Rattle.exact_algebra.specs.TensorContraction.{places_cmp}
use Rattle.frac128.specs.Rational.{ℚ, zero_ℚ, ◌+ℚ◌}
use Rattle.frac128.specs.RationalLaws.{ring_ℚ}
use Rattle.beta_poly.specs.declared.symbol.Symbol.{Symbol}
use Rattle.beta_poly.specs.Symbol.{conj_symbol}
use Rattle.beta_poly.specs.Monomial.{monomials}
use Rattle.beta_poly.specs.Polynomial.{poly_ring, zero_test, add_poly, constant}
use Rattle.sparse_tensor.specs.declared.values.Value.{Value}
use Rattle.sparse_tensor.specs.Tensor.{Tensor, Entries, HasRank, HasValues, rank_of, entries_of, value_in}
use Rattle.sparse_tensor.specs.Operations.{entry, gathered_at}
use Rattle.model_core.specs.declared.model.Model.{Model}
use Rattle.model_core.specs.declared.term.TermKind.{TermKind}
use Rattle.model_core.specs.declared.term.Term.{Term}
use Rattle.model_core.specs.declared.content.FieldToken.{FieldToken}
use Rattle.model_core.specs.TermTensor.{Numbers, legs_of, at_places}
use Rattle.model_core.specs.Directions.{CouplingEntry, Direction, symbol_of, text_cells, cell_tensor, conjugated, on_side, at_key, entry_block, plain_cell, conjugate_cell, plain_part, conjugate_part, moves_both, real_part, direction_of, entry_directions}
use Rattle.term_expand.specs.declared.directions.Direction.{Direction as Found}
use Rattle.term_expand.specs.declared.moves.Moves.{Moves}
use Rattle.term_expand.specs.declared.moves.Text.{Text}
use Rattle.term_expand.specs.Texts.{leg_count}
use Rattle.term_expand.specs.Tokens.{block_name}
use Rattle.term_expand.specs.Multiples.{HasNumbers, entry_on_side, values_on_side}
use Rattle.term_expand.specs.Moves.{IsText, IsMoves, HaveRanks, plain_on_side, conjugate_on_side, plain_values, conjugate_values, real_values}
use Rattle.term_expand.specs.Expansion.{IsMeant, IsDirection, AreDirections}

-- ---- keys

side_keys : (rank side : ℕ) (es : Entries) → HasRank rank es → All (λ v. length v.key ≡ 1 + rank) (map (entry_on_side side) es)
side_keys rank side [] keys i d within = absurd (omega (arith, within))
side_keys rank side (e ∷ es) keys zero d within = let here = keys.0 in omega (arith, here)
side_keys rank side (e ∷ es) keys (suc i) d within = side_keys rank side es keys.1 i d (omega arith)

-- keys with a side have one place more
pub on_side_keys : (kind : TermKind) (side : ℕ) (t : Tensor) → rank_of t ≡ leg_count kind → All (λ v. length v.key ≡ 1 + leg_count kind) (values_on_side side t)
on_side_keys kind side t is = subst (λ n. All (λ v. length v.key ≡ 1 + n) (values_on_side side t)) is (side_keys (rank_of t) side (entries_of t) t.1.keys)

no_keys : (rank : ℕ) → All {X = Value} (λ v. length v.key ≡ rank) []
no_keys rank i d within = absurd (omega (arith, within))

pub plain_keys : (kind : TermKind) (texts : List Text) → HaveRanks kind texts → All (λ v. length v.key ≡ 1 + leg_count kind) (plain_values texts)
plain_keys kind [] ranks = no_keys (1 + leg_count kind)
plain_keys kind (text ∷ texts) ranks =
    All-append (λ v. length v.key ≡ 1 + leg_count kind) (plain_on_side text) (plain_values texts)
    (on_side_keys kind text.plain_side text.plain ranks.0.plain) (plain_keys kind texts ranks.1)

pub conjugate_keys : (kind : TermKind) (texts : List Text) → HaveRanks kind texts → All (λ v. length v.key ≡ 1 + leg_count kind) (conjugate_values texts)
conjugate_keys kind [] ranks = no_keys (1 + leg_count kind)
conjugate_keys kind (text ∷ texts) ranks =
    All-append (λ v. length v.key ≡ 1 + leg_count kind) (conjugate_on_side text) (conjugate_values texts)
    (on_side_keys kind text.conjugate_side text.conjugate ranks.0.conjugate) (conjugate_keys kind texts ranks.1)

pub real_keys : (term : Term) (texts : List Text) → HaveRanks term.kind texts → All (λ v. length v.key ≡ 1 + leg_count term.kind) (real_values term texts)
real_keys term texts ranks = by_kind (moves_both term)
  where
    by_kind : (b : Bool) → All (λ v. length v.key ≡ 1 + leg_count term.kind) (if b then plain_values texts ++ conjugate_values texts else plain_values texts)
    by_kind true =
        All-append (λ v. length v.key ≡ 1 + leg_count term.kind) (plain_values texts) (conjugate_values texts) (plain_keys term.kind texts ranks) (conjugate_keys term.kind texts ranks)
    by_kind false = plain_keys term.kind texts ranks

-- ---- sums

-- values in two parts
pub gathered-append : (xs ys : List Value) (key : List ℕ) → gathered_at (map entry (xs ++ ys)) key ≡ add_poly (gathered_at (map entry xs) key) (gathered_at (map entry ys) key)
unfolding gathered_at
gathered-append xs ys key =
    ap (λ es. sum poly_ring.semiring es (λ e. where_equal poly_ring.semiring (places_cmp key e.0) e.1)) (map-append entry xs ys)
    ∙ sum-append poly_ring.semiring (map entry xs) (map entry ys) (λ e. where_equal poly_ring.semiring (places_cmp key e.0) e.1)

side_value : (side : ℕ) (es : Entries) (x : ℕ) (key : List ℕ) → gathered_at (map entry (map (entry_on_side side) es)) (x ∷ key) ≡ where_equal poly_ring.semiring (nat_cmp x side) (value_in es key)
unfolding gathered_at coefficient
side_value side es x key =
    sum-map poly_ring.semiring entry (map (entry_on_side side) es) (λ e. where_equal poly_ring.semiring (places_cmp (x ∷ key) e.0) e.1)
    ∙ sum-map poly_ring.semiring (entry_on_side side) es (λ v. where_equal poly_ring.semiring (places_cmp (x ∷ key) v.key) v.value)
    ∙ ap (sum poly_ring.semiring es) (fun_ext (λ e. where_then poly_ring.semiring (nat_cmp x side) (places_cmp key e.0) e.1))
    ∙ sum-where poly_ring.semiring (nat_cmp x side) es (λ e. where_equal poly_ring.semiring (places_cmp key e.0) e.1)

equal_number : (a b : ℕ) → (a == b) ≡ true → a ≡ b
equal_number a b h = grind arith

other_number : (a b : ℕ) → (a == b) ≡ false → a ≡ b → ⊥
other_number a b h e = grind arith

side_number : (b : Bool) (x side : ℕ) (p : ℚ) → (x == side) ≡ b → where_equal poly_ring.semiring (nat_cmp x side) (constant p) ≡ constant (if b then p else zero_ℚ)
side_number true x side p h = ap (λ y. where_equal poly_ring.semiring (nat_cmp x y) (constant p)) (sym (equal_number x side h)) ∙ ap (λ o. where_equal poly_ring.semiring o (constant p)) (tied_itself nat_cmp_total x)
side_number false x side p h = where_equal-apart poly_ring.semiring (nat_cmp x side) (constant p) (λ e. other_number x side h (nat_equal x side e)) ∙ sym (const-zero monomials ring_ℚ.semiring zero_test)

-- a tensor's numbers on a side
pub side_numbers : (model : Model) (kind : TermKind) (f : Numbers) (side : ℕ) (t : Tensor) (key : List ℕ) → HasNumbers model kind f t → length key ≡ 1 + leg_count kind
    → gathered_at (map entry (values_on_side side t)) key ≡ constant (on_side side (at_places zero_ℚ (legs_of model kind) f) key)
side_numbers model kind f side t [] has l = absurd (omega (arith, l))
side_numbers model kind f side t (x ∷ key) has l =
    side_value side (entries_of t) x key
    ∙ ap (where_equal poly_ring.semiring (nat_cmp x side)) (has.value_is key (omega (arith, l)))
    ∙ side_number (x == side) x side (at_places zero_ℚ (legs_of model kind) f key) refl

nothing_gathered : (key : List ℕ) → gathered_at [] key ≡ constant zero_ℚ
unfolding gathered_at
nothing_gathered key = sum-nil poly_ring.semiring (λ e. where_equal poly_ring.semiring (places_cmp key e.0) e.1) ∙ sym (const-zero monomials ring_ℚ.semiring zero_test)

-- values that each text gives add up to the sum over the cells of what they are
module _ (model : Model) (e : CouplingEntry) (values : Text → List Value) (part : List ℕ → ℕ × ℕ → ℚ) (key : List ℕ) where
  abbrev IsPart : ℕ × ℕ → Text → Type 0
  IsPart cell text = gathered_at (map entry (values text)) key ≡ constant (part key cell)

  texts_sum : (cells : List (ℕ × ℕ)) (texts : List Text) → AllZip IsPart cells texts → gathered_at (map entry (flat_map values texts)) key ≡ constant (sum ring_ℚ.semiring cells (part key))
  texts_sum [] [] are = nothing_gathered key ∙ ap constant (sym (sum-nil ring_ℚ.semiring (part key)))
  texts_sum [] (text ∷ texts) are = absurd are
  texts_sum (cell ∷ cells) [] are = absurd are
  texts_sum (cell ∷ cells) (text ∷ texts) are =
      gathered-append (values text) (flat_map values texts) key
      ∙ ap₂ add_poly are.0 (texts_sum cells texts are.1)
      ∙ sym (const-add monomials ring_ℚ.semiring zero_test (part key cell) (sum ring_ℚ.semiring cells (part key)))
      ∙ ap constant (sym (sum-cons ring_ℚ.semiring cell cells (part key)))

pub each_zipped : {A B : Type 0} (P Q : A → B → Type 0) → ((x : A) (y : B) → P x y → Q x y) → (xs : List A) (ys : List B) → AllZip P xs ys → AllZip Q xs ys
each_zipped P Q step [] [] all = tt
each_zipped P Q step [] (y ∷ ys) all = absurd all
each_zipped P Q step (x ∷ xs) [] all = absurd all
each_zipped P Q step (x ∷ xs) (y ∷ ys) all = (step x y all.0, each_zipped P Q step xs ys all.1)

module _ (model : Model) (e : CouplingEntry) (moves : Moves) (is : IsMoves model e.term e.row e.column moves) where
  abbrev cells : List (ℕ × ℕ)
  cells = text_cells e.term e.row e.column

  pub plain_numbers : (key : List ℕ) → length key ≡ 1 + leg_count e.term.kind → gathered_at (map entry (plain_values moves.texts)) key ≡ constant (plain_part model e key)
  plain_numbers key l =
      texts_sum model e plain_on_side (plain_cell model e) key cells moves.texts
      (each_zipped (IsText model e.term (entry_block model e)) (IsPart model e plain_on_side (plain_cell model e) key) each cells moves.texts is.texts)
    where
      each : (cell : ℕ × ℕ) (text : Text) → IsText model e.term (entry_block model e) cell text → gathered_at (map entry (plain_on_side text)) key ≡ constant (plain_cell model e key cell)
      each cell text here =
          side_numbers model e.term.kind (cell_tensor model e.term cell) text.plain_side text.plain key here.plain l
          ∙ ap (λ side. constant (on_side side (at_key model e.term.kind (cell_tensor model e.term cell)) key)) here.plain_side

  pub conjugate_numbers : (key : List ℕ) → length key ≡ 1 + leg_count e.term.kind → gathered_at (map entry (conjugate_values moves.texts)) key ≡ constant (conjugate_part model e key)
  conjugate_numbers key l =
      texts_sum model e conjugate_on_side (conjugate_cell model e) key cells moves.texts
      (each_zipped (IsText model e.term (entry_block model e)) (IsPart model e conjugate_on_side (conjugate_cell model e) key) each cells moves.texts is.texts)
    where
      each : (cell : ℕ × ℕ) (text : Text) → IsText model e.term (entry_block model e) cell text → gathered_at (map entry (conjugate_on_side text)) key ≡ constant (conjugate_cell model e key cell)
      each cell text here =
          side_numbers model e.term.kind (conjugated e.term.kind (cell_tensor model e.term cell)) text.conjugate_side text.conjugate key here.conjugate l
          ∙ ap (λ side. constant (on_side side (at_key model e.term.kind (conjugated e.term.kind (cell_tensor model e.term cell))) key)) here.conjugate_side

  pub real_numbers : (key : List ℕ) → length key ≡ 1 + leg_count e.term.kind → gathered_at (map entry (real_values e.term moves.texts)) key ≡ constant (real_part model e key)
  real_numbers key l = by_kind (moves_both e.term)
    where
      by_kind : (b : Bool) → gathered_at (map entry (if b then plain_values moves.texts ++ conjugate_values moves.texts else plain_values moves.texts)) key
          ≡ constant (if b then plain_part model e key +ℚ conjugate_part model e key else plain_part model e key)
      by_kind true =
          gathered-append (plain_values moves.texts) (conjugate_values moves.texts) key
          ∙ ap₂ add_poly (plain_numbers key l) (conjugate_numbers key l)
          ∙ sym (const-add monomials ring_ℚ.semiring zero_test (plain_part model e key) (conjugate_part model e key))
      by_kind false = plain_numbers key l

-- ---- directions

-- one direction more
pub directions_push : (before : List Direction) (found : List Found) (meant : Direction) (next : Found) → AreDirections before found → IsDirection meant next → AreDirections (before ++ meant ∷ []) (found ++ next ∷ [])
directions_push [] [] meant next so_far is = (is, tt)
directions_push [] (f ∷ found) meant next so_far is = absurd so_far
directions_push (m ∷ before) [] meant next so_far is = absurd so_far
directions_push (m ∷ before) (f ∷ found) meant next so_far is = (so_far.0, directions_push before found meant next so_far.1 is)

-- a direction with the parts that are meant
pub is_direction : (place : ℕ) (kind : TermKind) (symbol : Symbol) (block : List FieldToken) (values : List Value) (meant : Direction) (found : Found) (legs : ℕ) → IsMeant place kind symbol block values meant
    → legs ≡ leg_count kind → found.term ≡ place → found.symbol ≡ symbol → found.block ≡ block_name block legs → HasValues (legs + 1) (gathered_at (map entry values)) found.tensor → IsDirection meant found
is_direction place kind symbol block values meant found legs is counted term_is symbol_is block_is has =
    let kinds : leg_count kind ≡ leg_count meant.kind = ap leg_count (sym is.kind_is) in
    let rank : legs + 1 ≡ 1 + leg_count meant.kind = omega (arith, counted, kinds) in
    let known : 1 + leg_count meant.kind ≡ 1 + leg_count kind = omega (arith, kinds) in
    record {
      place = term_is ∙ sym is.place_is;
      symbol = symbol_is ∙ sym is.symbol_is;
      block = block_is ∙ ap₂ block_name (sym is.block_is) (counted ∙ kinds);
      numbers = record {
        rank_is = has.rank_is ∙ rank;
        value_is = λ key l. has.value_is key (l ∙ sym rank) ∙ is.numbers key (l ∙ known);
      };
    }

module _ (model : Model) (e : CouplingEntry) (moves : Moves) (is : IsMoves model e.term e.row e.column moves) (place : ℕ) (term : Term) (block : List FieldToken) (values : List Value) (places : e.place ≡ place) (terms : e.term ≡ term) (blocks : block ≡ moves.block) where
  same_length : (key : List ℕ) → length key ≡ 1 + leg_count term.kind → length key ≡ 1 + leg_count e.term.kind
  same_length key l = l ∙ ap (λ t. 1 + leg_count t.kind) (sym terms)

  -- the direction of a real symbol
  pub real_meant : (symbol : Symbol) → symbol_of e ≡ symbol → values ≡ real_values term moves.texts → IsMeant place term.kind symbol block values (direction_of model e (symbol_of e) (real_part model e))
  real_meant symbol symbols filled = record {
    place_is = places;
    kind_is = ap (λ t. t.kind) terms;
    symbol_is = symbols;
    block_is = sym is.block ∙ sym blocks;
    numbers = λ key l. ap (λ vs. gathered_at (map entry vs) key) (filled ∙ ap (λ t. real_values t moves.texts) (sym terms)) ∙ real_numbers model e moves is key (same_length key l);
  }

  -- that of a complex one
  pub plain_meant : (symbol : Symbol) → symbol_of e ≡ symbol → values ≡ plain_values moves.texts → IsMeant place term.kind symbol block values (direction_of model e (symbol_of e) (plain_part model e))
  plain_meant symbol symbols filled = record {
    place_is = places;
    kind_is = ap (λ t. t.kind) terms;
    symbol_is = symbols;
    block_is = sym is.block ∙ sym blocks;
    numbers = λ key l. ap (λ vs. gathered_at (map entry vs) key) filled ∙ plain_numbers model e moves is key (same_length key l);
  }

  -- and that of its conjugate
  pub conjugate_meant : (symbol : Symbol) → conj_symbol (symbol_of e) ≡ symbol → values ≡ conjugate_values moves.texts → IsMeant place term.kind symbol block values (direction_of model e (conj_symbol (symbol_of e)) (conjugate_part model e))
  conjugate_meant symbol symbols filled = record {
    place_is = places;
    kind_is = ap (λ t. t.kind) terms;
    symbol_is = symbols;
    block_is = sym is.block ∙ sym blocks;
    numbers = λ key l. ap (λ vs. gathered_at (map entry vs) key) filled ∙ conjugate_numbers model e moves is key (same_length key l);
  }

pub real_directions : (model : Model) (e : CouplingEntry) (term : Term) → e.term ≡ term → term.real ≡ true → entry_directions model e ≡ direction_of model e (symbol_of e) (real_part model e) ∷ []
real_directions model e term terms real =
    ap (λ b. cond b (direction_of model e (symbol_of e) (real_part model e) ∷ []) (direction_of model e (symbol_of e) (plain_part model e) ∷ direction_of model e (conj_symbol (symbol_of e)) (conjugate_part model e) ∷ [])) (ap (λ t. t.real) terms ∙ real)

pub complex_directions : (model : Model) (e : CouplingEntry) (term : Term) → e.term ≡ term → term.real ≡ false → entry_directions model e ≡ direction_of model e (symbol_of e) (plain_part model e) ∷ direction_of model e (conj_symbol (symbol_of e)) (conjugate_part model e) ∷ []
complex_directions model e term terms real =
    ap (λ b. cond b (direction_of model e (symbol_of e) (real_part model e) ∷ []) (direction_of model e (symbol_of e) (plain_part model e) ∷ direction_of model e (conj_symbol (symbol_of e)) (conjugate_part model e) ∷ [])) (ap (λ t. t.real) terms ∙ real)

-- What the entries of couplings add to the sums of the two tensors.
use Rattle.std.specs.Prelude.{◌≡◌, ℕ, zero, suc, Bool, true, false, if◌then◌else◌, List, [], ◌∷◌, ◌++◌, map, length, Option, Some, None, not, IsTrue, Result, Ok, Err, OnOk}
use Rattle.std.specs.List.{All, AllZip, flat_map}
use Rattle.std.proofs.Common.{Ordering, Less, Equal, Greater, subst, refl, sym, ap, ap₂, ◌∙◌, arith}
use Rattle.std.proofs.lemmas.Cmp.{tied_itself}
use Rattle.std.proofs.lemmas.List.{append-nil, append_assoc}
use Rattle.std.proofs.lemmas.Grind.{flat_map-append}
use Rattle.std.proofs.lemmas.List.Elements.{All-append}
use Rattle.exact_algebra.specs.Ring.{add_mul, add_add_comm}
use Rattle.exact_algebra.specs.Formal.{coefficient-eval, coefficient-cons, coefficient-nil, unit_at}
use Rattle.exact_algebra.specs.Canon.{value, eval-single, of-zero, nought-of, same_values, value-of, value-plus, coefficient-plus}
use Rattle.exact_algebra.specs.Maps.{const-zero, value-const}
use Rattle.exact_algebra.specs.Sums.{sum, sum-nil, sum-cons, sum-one, sum-append, where_equal}
use Rattle.exact_algebra.specs.TensorContraction.{places_keys, places_cmp}
use Rattle.frac128.specs.Rational.{ℚ, zero_ℚ, one_ℚ, ◌+ℚ◌, ◌*ℚ◌}
use Rattle.frac128.specs.RationalLaws.{ring_ℚ}
use Rattle.beta_poly.specs.declared.symbol.Symbol.{Symbol}
use Rattle.beta_poly.specs.Symbol.{conj_symbol}
use Rattle.beta_poly.specs.Monomial.{Monomial, monomials, monomial_keys, one_monomial, power}
use Rattle.beta_poly.specs.Polynomial.{Polynomial, poly_ring, polynomial, zero_test, zero_poly, add_poly, constant, coefficient_of, term}
use Rattle.sparse_tensor.specs.declared.values.Value.{Value}
use Rattle.sparse_tensor.specs.Tensor.{Tensor, Entries, HasRank, poly_zero_test, rank_of, entries_of, value_in}
use Rattle.sparse_tensor.specs.Operations.{entry, gathered_at}
use Rattle.model_core.specs.declared.model.Model.{Model}
use Rattle.model_core.specs.declared.term.TermKind.{TermKind}
use Rattle.model_core.specs.declared.term.TermKind.TheVariants.{Fermion, Scalar}
use Rattle.model_core.specs.Scalar.{Coordinate}
use Rattle.model_core.specs.TermTensor.{Numbers, legs_of, has_two_texts, text_tensor, symbol_tensor, coordinates_at, value_or, at_places}
use Rattle.model_core.specs.Content.{is_fermionic}
use Rattle.model_core.specs.declared.content.FieldToken.{FieldToken}
use Rattle.model_core.specs.declared.term.Term.{Term}
use Rattle.model_core.specs.Directions.{CouplingEntry, Direction, multiple, symbol_of, text_cells, cell_tensor, conjugated, entry_block, entry_directions, yukawa_part, scalar_part}
use Rattle.term_expand.specs.declared.expansion.Sums.{Sums}
use Rattle.term_expand.specs.declared.moves.Moves.{Moves}
use Rattle.term_expand.specs.declared.moves.Text.{Text}
use Rattle.term_expand.specs.Texts.{leg_count}
use Rattle.term_expand.specs.Multiples.{HasNumbers, multiple_entry, multiples}
use Rattle.term_expand.specs.Moves.{IsText, AreTexts, IsMoves, HasRanks, HaveRanks, plain_multiples, text_multiples, scalar_multiples, yukawa_values, scalar_values}
use Rattle.term_expand.specs.Expansion.{AreDirections, AddsValues, Adds, yukawa_sum, scalar_sum}
use Rattle.term_expand.proofs.Sides.{gathered-append, each_zipped}
use Rattle.term_expand.proofs.TextSums.{cells_sum, conjugated_texts}

-- ---- multiples of numbers by a symbol

term_value : (m : Monomial) (c : ℚ) (F : Monomial → ℚ) → value monomial_keys ring_ℚ.semiring zero_test (term m c) F ≡ c *ℚ F m
unfolding polynomial
term_value m c F = value-of monomial_keys ring_ℚ.semiring zero_test ((m, c) ∷ []) F ∙ eval-single monomial_keys ring_ℚ.semiring zero_test m c F

term_add : (m : Monomial) (c d : ℚ) → term m (c +ℚ d) ≡ add_poly (term m c) (term m d)
term_add m c d =
    same_values monomial_keys ring_ℚ.semiring zero_test (term m (c +ℚ d)) (add_poly (term m c) (term m d))
    (λ F. term_value m (c +ℚ d) F ∙ add_mul ring_ℚ.semiring c d (F m) ∙ sym (value-plus monomial_keys ring_ℚ.semiring zero_test (term m c) (term m d) F ∙ ap₂ ◌+ℚ◌ (term_value m c F) (term_value m d F)))

term_zero : (m : Monomial) → term m zero_ℚ ≡ zero_poly
unfolding polynomial
term_zero m = of-zero monomial_keys ring_ℚ.semiring zero_test m zero_ℚ refl ∙ sym (nought-of monomial_keys ring_ℚ.semiring zero_test)

-- the number of a polynomial that is one
number_of : (c : ℚ) → coefficient_of (constant c) one_monomial ≡ c
number_of c =
    coefficient-eval monomial_keys ring_ℚ.semiring (constant c).0 one_monomial
    ∙ value-const monomials ring_ℚ.semiring zero_test c (unit_at monomial_keys ring_ℚ.semiring one_monomial)
    ∙ ap (λ o. c *ℚ where_equal ring_ℚ.semiring o one_ℚ) (tied_itself monomial_keys.total one_monomial)
    ∙ ring_ℚ.semiring.mul_one c

abbrev taken : Symbol → Polynomial → Polynomial
taken symbol p = multiple symbol (coefficient_of p one_monomial)

taken_zero : (symbol : Symbol) → taken symbol zero_poly ≡ zero_poly
taken_zero symbol =
    ap (taken symbol) (sym (const-zero monomials ring_ℚ.semiring zero_test)) ∙ ap (multiple symbol) (number_of zero_ℚ) ∙ term_zero (power symbol 1)

taken_add : (symbol : Symbol) (p q : Polynomial) → taken symbol (add_poly p q) ≡ add_poly (taken symbol p) (taken symbol q)
taken_add symbol p q =
    ap (multiple symbol) (coefficient-plus monomial_keys ring_ℚ.semiring zero_test p q one_monomial) ∙ term_add (power symbol 1) (coefficient_of p one_monomial) (coefficient_of q one_monomial)

taken_where : (symbol : Symbol) (o : Ordering) (p : Polynomial) → where_equal poly_ring.semiring o (taken symbol p) ≡ taken symbol (where_equal poly_ring.semiring o p)
taken_where symbol Less p = sym (taken_zero symbol)
taken_where symbol Equal p = refl
taken_where symbol Greater p = sym (taken_zero symbol)

multiples_at : (symbol : Symbol) (es : Entries) (key : List ℕ) → gathered_at (map entry (map (multiple_entry symbol) es)) key ≡ taken symbol (value_in es key)
unfolding gathered_at
multiples_at symbol [] key =
    sum-nil poly_ring.semiring (λ e. where_equal poly_ring.semiring (places_cmp key e.0) e.1) ∙ sym (ap (taken symbol) (coefficient-nil places_keys poly_ring.semiring poly_zero_test key) ∙ taken_zero symbol)
multiples_at symbol (e ∷ es) key =
    sum-cons poly_ring.semiring (e.0, taken symbol e.1) (map entry (map (multiple_entry symbol) es)) (λ e. where_equal poly_ring.semiring (places_cmp key e.0) e.1)
    ∙ ap₂ add_poly (taken_where symbol (places_cmp key e.0) e.1) (multiples_at symbol es key)
    ∙ sym (ap (taken symbol) (coefficient-cons places_keys poly_ring.semiring poly_zero_test e es key) ∙ taken_add symbol (where_equal poly_ring.semiring (places_cmp key e.0) e.1) (value_in es key))

multiple_or : (symbol : Symbol) (f : Numbers) (o : Option (List Coordinate)) → multiple symbol (value_or zero_ℚ f o) ≡ value_or zero_poly (λ cs. multiple symbol (f cs)) o
multiple_or symbol f None = term_zero (power symbol 1)
multiple_or symbol f (Some cs) = refl

-- a tensor of numbers times a symbol
pub multiples_value : (model : Model) (kind : TermKind) (f : Numbers) (symbol : Symbol) (t : Tensor) (key : List ℕ) → HasNumbers model kind f t → length key ≡ leg_count kind
    → gathered_at (map entry (multiples symbol t)) key ≡ at_places zero_poly (legs_of model kind) (λ cs. multiple symbol (f cs)) key
multiples_value model kind f symbol t key has l =
    multiples_at symbol (entries_of t) key
    ∙ ap (taken symbol) (has.value_is key l)
    ∙ ap (multiple symbol) (number_of (at_places zero_ℚ (legs_of model kind) f key))
    ∙ multiple_or symbol f (coordinates_at (legs_of model kind) key)

-- ---- functions at places

at_zero : (o : Option (List Coordinate)) → zero_poly ≡ value_or zero_poly (λ cs. zero_poly) o
at_zero None = refl
at_zero (Some cs) = refl

at_add : (F G : List Coordinate → Polynomial) (o : Option (List Coordinate)) → add_poly (value_or zero_poly F o) (value_or zero_poly G o) ≡ value_or zero_poly (λ cs. add_poly (F cs) (G cs)) o
at_add F G None = poly_ring.semiring.add_zero zero_poly
at_add F G (Some cs) = refl

at_same : (F G : List Coordinate → Polynomial) (o : Option (List Coordinate)) → ((cs : List Coordinate) → F cs ≡ G cs) → value_or zero_poly F o ≡ value_or zero_poly G o
at_same F G None same = refl
at_same F G (Some cs) same = same cs

-- ---- one entry

-- where there is no entry, the sum at a key is 0
pub gathered_none : (key : List ℕ) → gathered_at [] key ≡ zero_poly
unfolding gathered_at
gathered_none key = sum-nil poly_ring.semiring (λ e. where_equal poly_ring.semiring (places_cmp key e.0) e.1)

-- values that each text gives add up to the sum over the cells of what they are
texts_at : (legs : List (List Coordinate)) (values : Text → List Value) (part : ℕ × ℕ → List Coordinate → Polynomial) (key : List ℕ) (cells : List (ℕ × ℕ)) (texts : List Text)
    → AllZip (λ cell text. gathered_at (map entry (values text)) key ≡ at_places zero_poly legs (part cell) key) cells texts
    → gathered_at (map entry (flat_map values texts)) key ≡ at_places zero_poly legs (λ cs. sum poly_ring.semiring cells (λ cell. part cell cs)) key
texts_at legs values part key [] [] are =
    gathered_none key ∙ at_zero (coordinates_at legs key)
    ∙ at_same (λ cs. zero_poly) (λ cs. sum poly_ring.semiring [] (λ cell. part cell cs)) (coordinates_at legs key) (λ cs. sym (sum-nil poly_ring.semiring (λ cell. part cell cs)))
texts_at legs values part key [] (text ∷ texts) are = absurd are
texts_at legs values part key (cell ∷ cells) [] are = absurd are
texts_at legs values part key (cell ∷ cells) (text ∷ texts) are =
    let others : List Coordinate → Polynomial = λ cs. sum poly_ring.semiring cells (λ cell. part cell cs) in
    gathered-append (values text) (flat_map values texts) key
    ∙ ap₂ add_poly are.0 (texts_at legs values part key cells texts are.1)
    ∙ at_add (part cell) others (coordinates_at legs key)
    ∙ at_same (λ cs. add_poly (part cell cs) (others cs)) (λ cs. sum poly_ring.semiring (cell ∷ cells) (λ cell. part cell cs)) (coordinates_at legs key) (λ cs. sym (sum-cons poly_ring.semiring cell cells (λ cell. part cell cs)))

-- the multiple of a symbol's tensor is the sum of those of its texts' tensors
multiple_texts : (symbol : Symbol) (two : Bool) (x y : ℚ) → (if two then add_poly (multiple symbol x) (multiple symbol y) else multiple symbol x) ≡ multiple symbol (if two then x +ℚ y else x)
multiple_texts symbol true x y = sym (term_add (power symbol 1) x y)
multiple_texts symbol false x y = refl

both_texts : (symbol other : Symbol) (two : Bool) (x y z w : ℚ)
    → (if two then add_poly (add_poly (multiple symbol x) (multiple other z)) (add_poly (multiple symbol y) (multiple other w)) else add_poly (multiple symbol x) (multiple other z))
    ≡ add_poly (multiple symbol (if two then x +ℚ y else x)) (multiple other (if two then z +ℚ w else z))
both_texts symbol other true x y z w =
    add_add_comm poly_ring.semiring (multiple symbol x) (multiple other z) (multiple symbol y) (multiple other w)
    ∙ ap₂ add_poly (sym (term_add (power symbol 1) x y)) (sym (term_add (power other 1) z w))
both_texts symbol other false x y z w = refl

module _ (model : Model) (term : Term) (block : List FieldToken) (row column : ℕ) (symbol : Symbol) (texts : List Text) (are : AreTexts model term block (text_cells term row column) texts) where
  abbrev cells : List (ℕ × ℕ)
  cells = text_cells term row column

  abbrev two : Bool
  two = has_two_texts term row column

  abbrev total : Numbers
  total = symbol_tensor model term row column

  abbrev other_total : Numbers
  other_total = conjugated term.kind total

  plain_value : (key : List ℕ) → length key ≡ leg_count term.kind → gathered_at (map entry (plain_multiples symbol texts)) key ≡ at_places zero_poly (legs_of model term.kind) (λ cs. multiple symbol (total cs)) key
  plain_value key l =
      let legs = legs_of model term.kind in
      let part : ℕ × ℕ → List Coordinate → Polynomial = λ cell cs. multiple symbol (cell_tensor model term cell cs) in
      texts_at legs (λ text. multiples symbol text.plain) part key cells texts
      (each_zipped (IsText model term block) (λ cell text. gathered_at (map entry (multiples symbol text.plain)) key ≡ at_places zero_poly legs (part cell) key)
      (λ cell text is. multiples_value model term.kind (cell_tensor model term cell) symbol text.plain key is.plain l) cells texts are)
      ∙ at_same (λ cs. sum poly_ring.semiring cells (λ cell. part cell cs)) (λ cs. multiple symbol (total cs)) (coordinates_at legs key)
      (λ cs. cells_sum poly_ring.semiring (λ cell. part cell cs) term row column ∙ multiple_texts symbol two (text_tensor model term row column cs) (text_tensor model term column row cs))

  both_value : (key : List ℕ) → length key ≡ leg_count term.kind → gathered_at (map entry (scalar_multiples true symbol texts)) key
      ≡ at_places zero_poly (legs_of model term.kind) (λ cs. add_poly (multiple symbol (total cs)) (multiple (conj_symbol symbol) (other_total cs))) key
  both_value key l =
      let legs = legs_of model term.kind in
      let other = conj_symbol symbol in
      let f : ℕ × ℕ → Numbers = cell_tensor model term in
      let g : ℕ × ℕ → Numbers = λ cell. conjugated term.kind (cell_tensor model term cell) in
      let part : ℕ × ℕ → List Coordinate → Polynomial = λ cell cs. add_poly (multiple symbol (f cell cs)) (multiple other (g cell cs)) in
      texts_at legs (λ text. text_multiples true symbol text.plain text.conjugate) part key cells texts
      (each_zipped (IsText model term block) (λ cell text. gathered_at (map entry (text_multiples true symbol text.plain text.conjugate)) key ≡ at_places zero_poly legs (part cell) key)
      (λ cell text is.
      gathered-append (multiples symbol text.plain) (multiples other text.conjugate) key
      ∙ ap₂ add_poly (multiples_value model term.kind (f cell) symbol text.plain key is.plain l) (multiples_value model term.kind (g cell) other text.conjugate key is.conjugate l)
      ∙ at_add (λ cs. multiple symbol (f cell cs)) (λ cs. multiple other (g cell cs)) (coordinates_at legs key)) cells texts are)
      ∙ at_same (λ cs. sum poly_ring.semiring cells (λ cell. part cell cs)) (λ cs. add_poly (multiple symbol (total cs)) (multiple other (other_total cs))) (coordinates_at legs key)
      (λ cs. cells_sum poly_ring.semiring (λ cell. part cell cs) term row column
      ∙ both_texts symbol other two (f (row, column) cs) (f (column, row) cs) (g (row, column) cs) (g (column, row) cs)
      ∙ ap (λ x. add_poly (multiple symbol (total cs)) (multiple other x)) (sym (conjugated_texts term.kind two (f (row, column)) (f (column, row)) cs)))

  scalar_hc : (hc : Bool) (key : List ℕ) → length key ≡ leg_count term.kind → gathered_at (map entry (scalar_multiples hc symbol texts)) key
      ≡ at_places zero_poly (legs_of model term.kind) (λ cs. add_poly (multiple symbol (total cs)) (if hc then multiple (conj_symbol symbol) (other_total cs) else zero_poly)) key
  scalar_hc true key l = both_value key l
  scalar_hc false key l =
      plain_value key l
      ∙ at_same (λ cs. multiple symbol (total cs)) (λ cs. add_poly (multiple symbol (total cs)) zero_poly) (coordinates_at (legs_of model term.kind) key) (λ cs. sym (poly_ring.semiring.add_zero (multiple symbol (total cs))))

  -- by the kind of the term
  yukawa_value : (key : List ℕ) → length key ≡ 3 → gathered_at (map entry (yukawa_values term symbol texts)) key ≡ at_places zero_poly (legs_of model Fermion) (λ cs. if is_fermionic term.kind then multiple symbol (total cs) else zero_poly) key
  yukawa_value key l = by_kind term.kind refl
    where
      by_kind : (kind : TermKind) → kind ≡ term.kind → gathered_at (map entry (if is_fermionic kind then plain_multiples symbol texts else [])) key ≡ at_places zero_poly (legs_of model Fermion) (λ cs. if is_fermionic kind then multiple symbol (total cs) else zero_poly) key
      by_kind Fermion is = plain_value key (l ∙ ap leg_count is) ∙ ap (λ kind. at_places zero_poly (legs_of model kind) (λ cs. multiple symbol (total cs)) key) (sym is)
      by_kind Scalar is = gathered_none key ∙ at_zero (coordinates_at (legs_of model Fermion) key)

  scalar_value : (key : List ℕ) → length key ≡ 4 → gathered_at (map entry (scalar_values term symbol texts)) key
      ≡ at_places zero_poly (legs_of model Scalar) (λ cs. if is_fermionic term.kind then zero_poly else add_poly (multiple symbol (total cs)) (if term.hc then multiple (conj_symbol symbol) (other_total cs) else zero_poly)) key
  scalar_value key l = by_kind term.kind refl
    where
      both : List Coordinate → Polynomial
      both cs = add_poly (multiple symbol (total cs)) (if term.hc then multiple (conj_symbol symbol) (other_total cs) else zero_poly)

      by_kind : (kind : TermKind) → kind ≡ term.kind → gathered_at (map entry (if is_fermionic kind then [] else scalar_multiples term.hc symbol texts)) key ≡ at_places zero_poly (legs_of model Scalar) (λ cs. if is_fermionic kind then zero_poly else both cs) key
      by_kind Fermion is = gathered_none key ∙ at_zero (coordinates_at (legs_of model Scalar) key)
      by_kind Scalar is = scalar_hc term.hc key (l ∙ ap leg_count is) ∙ ap (λ kind. at_places zero_poly (legs_of model kind) both key) (sym is)

multiple_keys : (rank : ℕ) (symbol : Symbol) (es : Entries) → HasRank rank es → All (λ v. length v.key ≡ rank) (map (multiple_entry symbol) es)
multiple_keys rank symbol [] keys i d within = absurd (omega (arith, within))
multiple_keys rank symbol (e ∷ es) keys zero d within = keys.0
multiple_keys rank symbol (e ∷ es) keys (suc i) d within = multiple_keys rank symbol es keys.1 i d (omega arith)

no_keys : (rank : ℕ) → All {X = Value} (λ v. length v.key ≡ rank) []
no_keys rank i d within = absurd (omega (arith, within))

multiples_keys : (kind : TermKind) (symbol : Symbol) (t : Tensor) → rank_of t ≡ leg_count kind → All (λ v. length v.key ≡ leg_count kind) (multiples symbol t)
multiples_keys kind symbol t is = subst (λ n. All (λ v. length v.key ≡ n) (multiples symbol t)) is (multiple_keys (rank_of t) symbol (entries_of t) t.1.keys)

plain_keys : (kind : TermKind) (symbol : Symbol) (texts : List Text) → HaveRanks kind texts → All (λ v. length v.key ≡ leg_count kind) (plain_multiples symbol texts)
plain_keys kind symbol [] ranks = no_keys (leg_count kind)
plain_keys kind symbol (text ∷ texts) ranks =
    All-append (λ v. length v.key ≡ leg_count kind) (multiples symbol text.plain) (plain_multiples symbol texts) (multiples_keys kind symbol text.plain ranks.0.plain) (plain_keys kind symbol texts ranks.1)

text_keys : (kind : TermKind) (hc : Bool) (symbol : Symbol) (text : Text) → HasRanks kind text → All (λ v. length v.key ≡ leg_count kind) (text_multiples hc symbol text.plain text.conjugate)
text_keys kind true symbol text ranks =
    All-append (λ v. length v.key ≡ leg_count kind) (multiples symbol text.plain) (multiples (conj_symbol symbol) text.conjugate) (multiples_keys kind symbol text.plain ranks.plain) (multiples_keys kind (conj_symbol symbol) text.conjugate ranks.conjugate)
text_keys kind false symbol text ranks = multiples_keys kind symbol text.plain ranks.plain

all_keys : (kind : TermKind) (hc : Bool) (symbol : Symbol) (texts : List Text) → HaveRanks kind texts → All (λ v. length v.key ≡ leg_count kind) (scalar_multiples hc symbol texts)
all_keys kind hc symbol [] ranks = no_keys (leg_count kind)
all_keys kind hc symbol (text ∷ texts) ranks =
    All-append (λ v. length v.key ≡ leg_count kind) (text_multiples hc symbol text.plain text.conjugate) (scalar_multiples hc symbol texts) (text_keys kind hc symbol text ranks.0) (all_keys kind hc symbol texts ranks.1)

yukawa_keys : (kind : TermKind) (symbol : Symbol) (texts : List Text) → HaveRanks kind texts → All (λ v. length v.key ≡ 3) (if is_fermionic kind then plain_multiples symbol texts else [])
yukawa_keys Fermion symbol texts ranks = plain_keys Fermion symbol texts ranks
yukawa_keys Scalar symbol texts ranks = no_keys 3

scalar_keys : (kind : TermKind) (hc : Bool) (symbol : Symbol) (texts : List Text) → HaveRanks kind texts → All (λ v. length v.key ≡ 4) (if is_fermionic kind then [] else scalar_multiples hc symbol texts)
scalar_keys Fermion hc symbol texts ranks = no_keys 4
scalar_keys Scalar hc symbol texts ranks = all_keys Scalar hc symbol texts ranks

-- the ranks of texts
pub ranks_of : (model : Model) (term : Term) (block : List FieldToken) (cells : List (ℕ × ℕ)) (texts : List Text) → AreTexts model term block cells texts → HaveRanks term.kind texts
ranks_of model term block [] [] are = tt
ranks_of model term block [] (text ∷ texts) are = absurd are
ranks_of model term block (cell ∷ others) [] are = absurd are
ranks_of model term block (cell ∷ others) (text ∷ texts) are = (record { plain = are.0.plain.rank_is; conjugate = are.0.conjugate.rank_is }, ranks_of model term block others texts are.1)

-- values put behind others
adds_behind : (legs : ℕ) (more : List ℕ → Polynomial) (old new values : List Value) → new ≡ old ++ values → All (λ v. length v.key ≡ legs) values → ((key : List ℕ) → length key ≡ legs → gathered_at (map entry values) key ≡ more key) → AddsValues legs more old new
adds_behind legs more old new values is keys sums = record {
  keys = λ before. subst (All (λ v. length v.key ≡ legs)) (sym is) (All-append (λ v. length v.key ≡ legs) old values before keys);
  sums = λ key l. ap (λ vs. gathered_at (map entry vs) key) is ∙ gathered-append old values key ∙ ap (add_poly (gathered_at (map entry old) key)) (sums key l);
}

module _ (model : Model) (e : CouplingEntry) (moves : Moves) (is : IsMoves model e.term e.row e.column moves) where
  abbrev ranks : HaveRanks e.term.kind moves.texts
  ranks = ranks_of model e.term (entry_block model e) (text_cells e.term e.row e.column) moves.texts is.texts

  -- what one entry adds to the Yukawa tensor's values
  pub entry_yukawa : (old new : List Value) → new ≡ old ++ yukawa_values e.term (symbol_of e) moves.texts → AddsValues 3 (yukawa_sum model (e ∷ [])) old new
  entry_yukawa old new filled =
      adds_behind 3 (yukawa_sum model (e ∷ [])) old new (yukawa_values e.term (symbol_of e) moves.texts) filled (yukawa_keys e.term.kind (symbol_of e) moves.texts ranks)
      (λ key l. yukawa_value model e.term (entry_block model e) e.row e.column (symbol_of e) moves.texts is.texts key l
      ∙ at_same (λ cs. yukawa_part model cs e) (λ cs. sum poly_ring.semiring (e ∷ []) (yukawa_part model cs)) (coordinates_at (legs_of model Fermion) key) (λ cs. sym (sum-one poly_ring.semiring e (yukawa_part model cs))))

  -- and to the scalar tensor's
  pub entry_scalar : (old new : List Value) → new ≡ old ++ scalar_values e.term (symbol_of e) moves.texts → AddsValues 4 (scalar_sum model (e ∷ [])) old new
  entry_scalar old new filled =
      adds_behind 4 (scalar_sum model (e ∷ [])) old new (scalar_values e.term (symbol_of e) moves.texts) filled (scalar_keys e.term.kind e.term.hc (symbol_of e) moves.texts ranks)
      (λ key l. scalar_value model e.term (entry_block model e) e.row e.column (symbol_of e) moves.texts is.texts key l
      ∙ at_same (λ cs. scalar_part model cs e) (λ cs. sum poly_ring.semiring (e ∷ []) (scalar_part model cs)) (coordinates_at (legs_of model Scalar) key) (λ cs. sym (sum-one poly_ring.semiring e (scalar_part model cs))))

-- the conjugate of a symbol that isn't one, where it is real
pub conjugate_plain : (symbol other : Symbol) → (IsTrue symbol.real → symbol.conj ≡ false) → other ≡ conj_symbol symbol → IsTrue other.real → other.conj ≡ false
unfolding conj_symbol
conjugate_plain symbol other plain is real =
    let own : symbol.real ≡ true = sym (ap (λ s. s.real) is) ∙ real in
    ap (λ s. s.conj) is ∙ ap (λ b. if b then symbol.conj else not symbol.conj) own ∙ plain own

-- what holds with each value holds with all
pub on_ok_all : {T E A : Type 0} (r : Result T E) (P : A → Type 0) → ((a : A) → OnOk r (P a)) → OnOk r ((a : A) → P a)
on_ok_all (Ok x) P each = each
on_ok_all (Err e) P each = tt

module _ (model : Model) where
  -- no entry adds nothing
  pub adds_none : (sums : Sums) → Adds model [] sums sums
  adds_none sums = record {
    yukawa = nothing 3 (legs_of model Fermion) (yukawa_part model) sums.yukawa;
    scalar = nothing 4 (legs_of model Scalar) (scalar_part model) sums.scalar;
    directions = λ before so_far. subst (λ ds. AreDirections ds sums.directions) (sym (append-nil before)) so_far;
  }
    where
      nothing : (legs : ℕ) (at : List (List Coordinate)) (part : List Coordinate → CouplingEntry → Polynomial) (old : List Value) → AddsValues legs (at_places zero_poly at (λ cs. sum poly_ring.semiring [] (part cs))) old old
      nothing legs at part old = record {
        keys = λ before. before;
        sums = λ key l. sym (poly_ring.semiring.add_zero (gathered_at (map entry old) key)) ∙ ap (add_poly (gathered_at (map entry old) key)) (at_zero (coordinates_at at key) ∙ at_same (λ cs. zero_poly) (λ cs. sum poly_ring.semiring [] (part cs)) (coordinates_at at key) (λ cs. sym (sum-nil poly_ring.semiring (part cs))));
      }

  -- some entries and then others add those of both
  pub adds_both : (first second : List CouplingEntry) (old now new : Sums) → Adds model first old now → Adds model second now new → Adds model (first ++ second) old new
  adds_both first second old now new one two = record {
    yukawa = both_values 3 (legs_of model Fermion) (yukawa_part model) old.yukawa now.yukawa new.yukawa one.yukawa two.yukawa;
    scalar = both_values 4 (legs_of model Scalar) (scalar_part model) old.scalar now.scalar new.scalar one.scalar two.scalar;
    directions = λ before so_far.
        subst (λ ds. AreDirections ds new.directions) (append_assoc before (flat_map (entry_directions model) first) (flat_map (entry_directions model) second) ∙ ap (λ ds. before ++ ds) (sym (flat_map-append (entry_directions model) first second)))
        (two.directions (before ++ flat_map (entry_directions model) first) (one.directions before so_far));
  }
    where
      both_values : (legs : ℕ) (at : List (List Coordinate)) (part : List Coordinate → CouplingEntry → Polynomial) (a b c : List Value) → AddsValues legs (at_places zero_poly at (λ cs. sum poly_ring.semiring first (part cs))) a b → AddsValues legs (at_places zero_poly at (λ cs. sum poly_ring.semiring second (part cs))) b c
          → AddsValues legs (at_places zero_poly at (λ cs. sum poly_ring.semiring (first ++ second) (part cs))) a c
      both_values legs at part a b c x y = record {
        keys = λ before. y.keys (x.keys before);
        sums = λ key l.
            let p = gathered_at (map entry a) key in
            let q = at_places zero_poly at (λ cs. sum poly_ring.semiring first (part cs)) key in
            let r = at_places zero_poly at (λ cs. sum poly_ring.semiring second (part cs)) key in
            y.sums key l ∙ ap (λ z. add_poly z r) (x.sums key l) ∙ poly_ring.semiring.add_assoc p q r
            ∙ ap (add_poly p) (at_add (λ cs. sum poly_ring.semiring first (part cs)) (λ cs. sum poly_ring.semiring second (part cs)) (coordinates_at at key)
            ∙ at_same (λ cs. add_poly (sum poly_ring.semiring first (part cs)) (sum poly_ring.semiring second (part cs))) (λ cs. sum poly_ring.semiring (first ++ second) (part cs)) (coordinates_at at key) (λ cs. sym (sum-append poly_ring.semiring first second (part cs))));
      }

-- what one entry adds
pub entry_adds : (model : Model) (e : CouplingEntry) (moves : Moves) (old new : Sums) → IsMoves model e.term e.row e.column moves
    → new.yukawa ≡ old.yukawa ++ yukawa_values e.term (symbol_of e) moves.texts → new.scalar ≡ old.scalar ++ scalar_values e.term (symbol_of e) moves.texts
    → ((before : List Direction) → AreDirections before old.directions → AreDirections (before ++ entry_directions model e) new.directions) → Adds model (e ∷ []) old new
entry_adds model e moves old new is yukawa scalar directions = record {
  yukawa = entry_yukawa model e moves is old.yukawa new.yukawa yukawa;
  scalar = entry_scalar model e moves is old.scalar new.scalar scalar;
  directions = λ before so_far. subst (λ ds. AreDirections (before ++ ds) new.directions) (sym (append-nil (entry_directions model e))) (directions before so_far);
}

-- The bad places of a term's text, in the order in which it is checked: each step runs over all monomials before the next
-- one begins. A place within the text is an offset in bytes, counted from 0.
use Rattle.std.specs.Prelude.{ℕ, suc, ◌==◌, nat_le, Bool, true, false, not, ◌&&◌, ◌||◌, if◌then◌else◌, List, [], ◌∷◌, ◌++◌, length, slice_get, Option, Some, None, is_some, option_map}
use Rattle.std.specs.List.{filter, flat_map, list_all, list_any, count_by}
use Rattle.std.specs.Str.{bytes_eq}
use Rattle.model_core.specs.declared.group.Group.{Group}
use Rattle.model_core.specs.declared.field.Field.{Field}
use Rattle.model_core.specs.declared.model.Model.{Model}
use Rattle.model_core.specs.declared.fault.ReadFault.{ReadFault}
use Rattle.model_core.specs.declared.fault.ReadKind.TheVariants.{BadNumber, BadTermText, UnknownField, WrongSlots, LabelCount, WrongContent}
use Rattle.model_core.specs.declared.fault.FaultPlace.{FaultPlace}
use Rattle.model_core.specs.declared.sum.Span.{Span}
use Rattle.model_core.specs.declared.sum.WrittenLiteral.{WrittenLiteral}
use Rattle.model_core.specs.declared.sum.Index.{Index}
use Rattle.model_core.specs.declared.sum.Index.TheVariants as index
use Rattle.model_core.specs.declared.sum.Bracket.{Bracket}
use Rattle.model_core.specs.declared.sum.WrittenFactor.{WrittenFactor}
use Rattle.model_core.specs.declared.sum.WrittenMonomial.{WrittenMonomial}
use Rattle.model_core.specs.declared.referent.Referent.{Referent}
use Rattle.model_core.specs.declared.referent.Referent.TheVariants.{Fermion, Scalar, Eps, Table}
use Rattle.model_core.specs.declared.term.Shape.{Shape}
use Rattle.model_core.specs.declared.term.Shape.TheVariants.{One}
use Rattle.model_core.specs.declared.term.TermKind.{TermKind}
use Rattle.model_core.specs.declared.term.TermKind.TheVariants as kind
use Rattle.model_core.specs.declared.term.Factor.{Factor}
use Rattle.model_core.specs.declared.term.Monomial.{Monomial}
use Rattle.model_core.specs.declared.term.Term.{Term}
use Rattle.model_core.specs.declared.content.FieldUse.{FieldUse}
use Rattle.model_core.specs.declared.content.FieldToken.{FieldToken}
use Rattle.model_core.specs.declared.content.LabelledSlot.{LabelledSlot}
use Rattle.model_core.specs.declared.content.SymbolBlock.{SymbolBlock}
use Rattle.model_core.specs.Groups.{is_between}
use Rattle.model_core.specs.Fault.{fault, over, key_place, offset_place, bad_where, over_limit}
use Rattle.model_core.specs.Literal.{number_between}
use Rattle.model_core.specs.TermText.{bytes_at}
use Rattle.model_core.specs.TermGrammar.{bad_offset, sum_in}
use Rattle.model_core.specs.TermMeaning.{referent_at, labels_of_monomial, literal_fraction}
use Rattle.model_core.specs.Factors.{slots_of_field, slots_of_table, labelled_slots, joins_two, joins_one_group, eps_fits}
use Rattle.model_core.specs.Flavour.{monomial_has_flavour, have_sizes}
use Rattle.model_core.specs.Content.{is_fermionic, first_uses, has_content, is_real, has_mirrored_blocks, first_of_two, term_blocks, block_directions, is_few}

-- ---- first: the text is a sum, without `~` and `[` after `eps` and the names of tables

-- bad at an offset
abbrev pub bad_at : FaultPlace → Option ℕ → List ReadFault
bad_at place None = []
bad_at place (Some offset) = fault (offset_place place offset) BadTermText ∷ []

-- at most 4,096 bytes, which are a sum
unfoldable pub grammar_places : FaultPlace → List ℕ → List ReadFault
grammar_places place text = over_limit 4096 (length text) place ++ bad_at place (bad_offset text)

abbrev pub is_tensor_name : Option Referent → Bool
is_tensor_name (Some Eps) = true
is_tensor_name (Some (Table table)) = true
is_tensor_name _ = false

abbrev pub names_tensor : Model → List ℕ → WrittenFactor → Bool
names_tensor model text factor = is_tensor_name (referent_at model text factor)

abbrev pub bracket_offset : Bracket → ℕ
bracket_offset bracket = bracket.at

abbrev pub mark_places : Model → List ℕ → FaultPlace → WrittenFactor → List ReadFault
mark_places model text place factor =
    if names_tensor model text factor then bad_at place factor.tilde ++ bad_at place (option_map bracket_offset factor.bracket) else []

abbrev pub monomial_mark_places : Model → List ℕ → FaultPlace → WrittenMonomial → List ReadFault
monomial_mark_places model text place monomial = flat_map (mark_places model text place) monomial.factors

unfoldable pub marks_places : Model → List ℕ → FaultPlace → List WrittenMonomial → List ReadFault
marks_places model text place sum = flat_map (monomial_mark_places model text place) sum

-- ---- second: at most 16 monomials, with at most 4 `eps` and tables each

abbrev pub tensor_count_places : Model → List ℕ → FaultPlace → WrittenMonomial → List ReadFault
tensor_count_places model text place monomial = over_limit 4 (count_by (names_tensor model text) monomial.factors) place

unfoldable pub count_places : Model → List ℕ → FaultPlace → List WrittenMonomial → List ReadFault
count_places model text place sum = over_limit 16 (length sum) place ++ flat_map (tensor_count_places model text place) sum

-- ---- third: literals and factors

abbrev pub literal_places : List ℕ → FaultPlace → Option WrittenLiteral → List ReadFault
literal_places text place None = []
literal_places text place (Some literal) = bad_where (not (is_some (literal_fraction text literal))) (offset_place place literal.numerator.start) BadNumber

-- only a complex scalar is written with `~`
abbrev pub has_conjugate : Model → Referent → Bool
has_conjugate model (Fermion field) = false
has_conjugate model (Scalar field) = not (is_real (slice_get model.scalars field))
has_conjugate model _ = true

-- the generations of what is named
abbrev pub generations_in : Option Field → ℕ
generations_in None = 1
generations_in (Some field) = field.generations

abbrev pub referent_size : Model → Referent → ℕ
referent_size model (Fermion field) = generations_in (slice_get model.fermions field)
referent_size model (Scalar field) = generations_in (slice_get model.scalars field)
referent_size model _ = 1

-- a bracket where there is more than one generation, and a number from 1 to the generations in it
abbrev pub fits_index : List ℕ → ℕ → Index → Bool
fits_index text size (index.Word word) = true
fits_index text size (index.Digits digits) = is_some (number_between 1 size (bytes_at text digits))

abbrev pub fits_generations : List ℕ → ℕ → Option Bracket → Bool
fits_generations text size None = nat_le size 1
fits_generations text size (Some bracket) = fits_index text size bracket.index

-- a label for each slot, and 2 to 6 for an `eps`
abbrev pub fits_slots : Model → Referent → ℕ → Bool
fits_slots model (Fermion field) count = count == length (slots_of_field (slice_get model.fermions field))
fits_slots model (Scalar field) count = count == length (slots_of_field (slice_get model.scalars field))
fits_slots model Eps count = is_between 2 6 count
fits_slots model (Table table) count = count == length (slots_of_table (slice_get model.tables table))

-- a word in a bracket is a flavour label
abbrev pub is_flavour : List (List ℕ) → List ℕ → Index → Bool
is_flavour flavour text (index.Word word) = list_any (bytes_eq (bytes_at text word)) flavour
is_flavour flavour text (index.Digits digits) = true

abbrev pub has_flavour_label : List (List ℕ) → List ℕ → Option Bracket → Bool
has_flavour_label flavour text None = true
has_flavour_label flavour text (Some bracket) = is_flavour flavour text bracket.index

abbrev pub referent_places : Model → List (List ℕ) → List ℕ → FaultPlace → WrittenFactor → Option Referent → List ReadFault
referent_places model flavour text place factor None = fault place UnknownField ∷ []
referent_places model flavour text place factor (Some named) =
    bad_where (is_some factor.tilde && not (has_conjugate model named)) place WrongContent
    ++ (bad_where (not (fits_generations text (referent_size model named) factor.bracket)) place WrongSlots
    ++ (bad_where (not (fits_slots model named (length factor.labels))) place WrongSlots
    ++ bad_where (not (has_flavour_label flavour text factor.bracket)) place LabelCount))

unfoldable pub factor_places : Model → List (List ℕ) → List ℕ → FaultPlace → WrittenFactor → List ReadFault
factor_places model flavour text place factor =
    referent_places model flavour text (offset_place place factor.word.start) factor (referent_at model text factor)

unfoldable pub monomial_places : Model → List (List ℕ) → List ℕ → FaultPlace → WrittenMonomial → List ReadFault
monomial_places model flavour text place monomial =
    literal_places text place monomial.literal ++ flat_map (factor_places model flavour text place) monomial.factors

unfoldable pub monomials_places : Model → List (List ℕ) → List ℕ → FaultPlace → List WrittenMonomial → List ReadFault
monomials_places model flavour text place sum = flat_map (monomial_places model flavour text place) sum

-- ---- fourth: labels, at their first places, and then each `eps`, at its word

abbrev pub label_places : List Factor → List LabelledSlot → FaultPlace → ℕ → List ReadFault
label_places factors slots place number =
    if not (joins_two factors number) then fault place LabelCount ∷ [] else bad_where (not (joins_one_group slots number)) place WrongSlots

abbrev pub labels_places : List Factor → List LabelledSlot → FaultPlace → ℕ → List Span → List ReadFault
labels_places factors slots place number [] = []
labels_places factors slots place number (label ∷ labels) =
    label_places factors slots (offset_place place label.start) number ++ labels_places factors slots place (suc number) labels

abbrev pub eps_places : List Group → List LabelledSlot → FaultPlace → WrittenFactor → Factor → List ReadFault
eps_places groups slots place written factor = bad_where (not (eps_fits groups slots factor)) (offset_place place written.word.start) WrongSlots

abbrev pub all_eps_places : List Group → List LabelledSlot → FaultPlace → List WrittenFactor → List Factor → List ReadFault
all_eps_places groups slots place (written ∷ others) (factor ∷ factors) =
    eps_places groups slots place written factor ++ all_eps_places groups slots place others factors
all_eps_places groups slots place _ _ = []

unfoldable pub join_places : Model → List ℕ → FaultPlace → WrittenMonomial → Monomial → List ReadFault
join_places model text place written monomial =
    labels_places monomial.factors (labelled_slots model monomial.factors) place 0 (labels_of_monomial text written)
    ++ all_eps_places model.groups (labelled_slots model monomial.factors) place written.factors monomial.factors

-- a rule on each monomial, as it is written and as it is read
abbrev pub monomial_wise : (WrittenMonomial → Monomial → List ReadFault) → List WrittenMonomial → List Monomial → List ReadFault
monomial_wise places (written ∷ sum) (monomial ∷ monomials) = places written monomial ++ monomial_wise places sum monomials
monomial_wise places _ _ = []

unfoldable pub joins_places : Model → List ℕ → FaultPlace → List WrittenMonomial → List Monomial → List ReadFault
joins_places model text place = monomial_wise (join_places model text place)

-- ---- fifth: flavour labels, at their key

-- two labels that differ, or none for one symbol
abbrev pub fits_shape : Shape → List (List ℕ) → Bool
fits_shape One flavour = length flavour == 0
fits_shape _ (row ∷ column ∷ []) = not (bytes_eq row column)
fits_shape _ _ = false

unfoldable pub flavour_places : Model → List (List ℕ) → FaultPlace → Term → List ReadFault
flavour_places model flavour place term =
    bad_where (not (fits_shape term.shape flavour)) (key_place place 5) LabelCount
    ++ (bad_where (not (list_all (monomial_has_flavour term.shape) term.monomials)) (key_place place 5) LabelCount
    ++ bad_where (not (have_sizes model term)) (key_place place 5) WrongSlots)

-- ---- sixth: contents, at the first factor of each monomial

abbrev pub first_offset : List WrittenFactor → ℕ
first_offset [] = 0
first_offset (factor ∷ factors) = factor.word.start

abbrev pub content_places : TermKind → List FieldUse → FaultPlace → WrittenMonomial → Monomial → List ReadFault
content_places kind first place written monomial =
    bad_where (not (has_content kind first monomial)) (offset_place place (first_offset written.factors)) WrongContent

unfoldable pub contents_places : FaultPlace → List WrittenMonomial → Term → List ReadFault
contents_places place sum term = monomial_wise (content_places term.kind (first_uses term.monomials) place) sum term.monomials

-- ---- seventh: `hc`, `value` and `shape`, at their keys

unfoldable pub coupling_places : Model → FaultPlace → Term → List ReadFault
coupling_places model place term =
    bad_where (term.hc && is_fermionic term.kind) (key_place place 6) WrongContent
    ++ (bad_where (not (is_fermionic term.kind) && not (term.real || term.hc)) (key_place place 3) WrongContent
    ++ bad_where (not (has_mirrored_blocks model term)) (key_place place 4) WrongContent)

-- ---- eighth: directions, at the term itself

abbrev pub is_overfull : List SymbolBlock → SymbolBlock → Bool
is_overfull blocks block = not (is_few blocks block)

-- the first of some blocks in the order of blocks
abbrev pub first_after : List FieldToken → List SymbolBlock → List FieldToken
first_after block [] = block
first_after block (other ∷ others) = first_after (first_of_two block other.block) others

abbrev pub first_block : List SymbolBlock → Option (List FieldToken)
first_block [] = None
first_block (block ∷ others) = Some (first_after block.block others)

abbrev pub overfull_places : List SymbolBlock → FaultPlace → Option (List FieldToken) → List ReadFault
overfull_places blocks place None = []
overfull_places blocks place (Some block) = over place (block_directions blocks block) ∷ []

-- of the blocks of a term's symbols, after those of earlier terms
unfoldable pub block_places : List SymbolBlock → FaultPlace → List SymbolBlock → List ReadFault
block_places earlier place blocks =
    overfull_places (earlier ++ blocks) (key_place place 0) (first_block (filter (is_overfull (earlier ++ blocks)) blocks))

-- ---- all steps

-- after the text is a sum, with the term that it gives; the blocks are those of earlier terms' symbols
unfoldable pub sum_places : Model → List SymbolBlock → List (List ℕ) → List ℕ → FaultPlace → List WrittenMonomial → Term → List ReadFault
sum_places model blocks flavour text place sum term =
    marks_places model text place sum
    ++ (count_places model text place sum
    ++ (monomials_places model flavour text place sum
    ++ (joins_places model text place sum term.monomials
    ++ (flavour_places model flavour place term
    ++ (contents_places place sum term
    ++ (coupling_places model place term
    ++ block_places blocks place (term_blocks model term)))))))

unfoldable pub term_text_places : Model → List SymbolBlock → List (List ℕ) → Term → FaultPlace → List ℕ → List ReadFault
term_text_places model blocks flavour term place text = grammar_places place text ++ sum_places model blocks flavour text place (sum_in text) term

-- Labels, sizes and blocks of the terms that are read.
use Rattle.std.proofs.Common.{◌≡◌, ℕ, ◌+◌, ◌≤◌, true, List, ◌++◌, length, drop, refl, ◌∙◌, arith, leb-true}
use Rattle.std.specs.List.{list_all}
use Rattle.std.proofs.lemmas.List.{length-append}
use Rattle.std.proofs.lemmas.List.Folds.{list_all-append}
use Rattle.std.proofs.Math.Seq.{drop-append_seam}
use Rattle.model_core.specs.declared.content.SymbolBlock.{SymbolBlock}
use Rattle.model_core.specs.declared.model.Model.{Model}
use Rattle.model_core.specs.declared.sum.WrittenMonomial.{WrittenMonomial}
use Rattle.model_core.specs.declared.term.Generation.TheVariants.{Row, Column}
use Rattle.model_core.specs.declared.term.Monomial.{Monomial}
use Rattle.model_core.specs.Groups.{is_between}
use Rattle.model_core.specs.Valid.{has_valid_parts, term_name}
use Rattle.model_core.specs.Flavour.{flavour_size}
use Rattle.model_core.specs.Content.{first_uses, has_small_directions}
use Rattle.model_core.specs.TermRules.{has_small_sizes}
use Rattle.model_core.specs.TermMeaning.{written_labels, labels_of_monomial}
use Rattle.model_core.proofs.BoolLaws.{both_hold}
use Rattle.model_core.proofs.TermLaws.{flavour_size_small}
use Rattle.model_reader.specs.Parsing.{has_labels_within}
use Rattle.model_reader.specs.TermValues.{term_from}
use Rattle.model_reader.specs.declared.terms.Coupling.{Coupling}
use Rattle.model_reader.proofs.LabelLaws.{few_labels}

-- ---- labels

-- the labels of a monomial have small numbers
pub labels_few : (text : List ℕ) (written : WrittenMonomial) → has_labels_within 4096 written ≡ true → 0 + length (labels_of_monomial text written) ≤ 4096
unfolding labels_of_monomial
labels_few text written few = omega (arith, leb-true (length (written_labels written)) 4096 few, few_labels text (written_labels written))

-- ---- rows and columns

-- a term's coupling has 1 to 6 rows and columns
pub term_sized : (model : Model) (coupling : Coupling) (monomials : List Monomial) → has_valid_parts model ≡ true → has_small_sizes (term_from model coupling monomials) ≡ true
unfolding term_from
term_sized model coupling monomials valid =
    both_hold (is_between 1 6 (flavour_size model Row (first_uses monomials))) (is_between 1 6 (flavour_size model Column (first_uses monomials)))
    (flavour_size_small model Row (first_uses monomials) valid) (flavour_size_small model Column (first_uses monomials) valid)

-- ---- blocks

pub all_append : (earlier own : List SymbolBlock) → list_all has_small_directions earlier ≡ true → list_all has_small_directions own ≡ true
    → list_all has_small_directions (earlier ++ own) ≡ true
all_append earlier own first second =
    list_all-append has_small_directions earlier own ∙ both_hold (list_all has_small_directions earlier) (list_all has_small_directions own) first second

-- what stands after earlier blocks
pub own_blocks : {A : Type 0} (earlier own : List A) → drop (length earlier) (earlier ++ own) ≡ own
own_blocks earlier own = drop-append_seam earlier own

pub blocks_more : (earlier own : List SymbolBlock) → length own ≤ 36 → length (earlier ++ own) ≤ length earlier + 36
blocks_more earlier own few = omega (arith, length-append earlier own, few)

pub term_named : (model : Model) (coupling : Coupling) (monomials : List Monomial) → term_name (term_from model coupling monomials) ≡ coupling.name
unfolding term_from
term_named model coupling monomials = refl

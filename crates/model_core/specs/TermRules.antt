-- Which terms a model may have.
use Rattle.std.specs.Prelude.{Bool, not, ◌&&◌, ◌||◌, if◌then◌else◌, nat_le, List, length, sum_by}
use Rattle.std.specs.List.{flat_map, list_all}
use Rattle.model_core.specs.declared.model.Model.{Model}
use Rattle.model_core.specs.declared.term.Monomial.{Monomial}
use Rattle.model_core.specs.declared.term.Term.{Term}
use Rattle.model_core.specs.Groups.{is_between}
use Rattle.model_core.specs.Factors.{are_factors, are_joined}
use Rattle.model_core.specs.Flavour.{monomial_has_flavour, have_sizes}
use Rattle.model_core.specs.Content.{first_uses, has_content, is_fermionic, has_mirrored_blocks, term_blocks, have_few_directions, symbol_count}

-- a monomial's factors and labels are as they must be
abbrev pub is_monomial : Model → Monomial → Bool
is_monomial model monomial = are_factors model monomial.factors && are_joined model monomial.factors

-- only a scalar term has a conjugate added, and has to have it where its coupling is complex
abbrev pub has_allowed_conjugate : Term → Bool
has_allowed_conjugate term = if is_fermionic term.kind then not term.hc else term.real || term.hc

-- 1 to 16 such monomials
abbrev pub has_monomials : Model → Term → Bool
has_monomials model term = is_between 1 16 (length term.monomials) && list_all (is_monomial model) term.monomials

-- 1 to 6 rows and columns
abbrev pub has_small_sizes : Term → Bool
has_small_sizes term = is_between 1 6 term.rows && is_between 1 6 term.columns

-- so many as the shape says, in each monomial
abbrev pub has_shape : Model → Term → Bool
has_shape model term = (has_small_sizes term && list_all (monomial_has_flavour term.shape) term.monomials) && have_sizes model term

-- the fields that a term of its kind may have, the same in each monomial
abbrev pub has_one_content : Term → Bool
has_one_content term = list_all (has_content term.kind (first_uses term.monomials)) term.monomials

-- all of these
abbrev pub has_good_monomials : Model → Term → Bool
has_good_monomials model term = (has_monomials model term && has_shape model term) && has_one_content term

-- a conjugate and a shape that the fields allow
abbrev pub has_good_coupling : Model → Term → Bool
has_good_coupling model term = has_allowed_conjugate term && has_mirrored_blocks model term

abbrev pub is_term : Model → Term → Bool
is_term model term = has_good_monomials model term && has_good_coupling model term

-- at most 64 terms with at most 400 symbols, which give no block more than 4 directions
abbrev pub has_few_symbols : List Term → Bool
has_few_symbols terms = nat_le (sum_by symbol_count terms) 400

abbrev pub are_terms : Model → List Term → Bool
are_terms model terms =
    ((nat_le (length terms) 64 && list_all (is_term model) terms) && has_few_symbols terms) && have_few_directions (flat_map (term_blocks model) terms)

-- The CSV form of beta functions: each line's rows, each row written as a record of the crate `csv` by its default settings.
use Rattle.std.specs.Prelude.{ℕ, List, [], ◌∷◌, ◌++◌, map, codes, decimal}
use Rattle.std.specs.List.{flat_map}
use Rattle.std.specs.Fmt.{signed_decimal}
use Rattle.csv.specs.Writing.{row_text, default_writer}
use Rattle.frac128.specs.Rational.{ℚ}
use Rattle.beta_poly.specs.Monomial.{Powers, Monomial}
use Rattle.beta_poly.specs.Polynomial.{Terms}
use Rattle.derive_core.specs.declared.betas.Target.{Target}
use Rattle.derive_core.specs.declared.betas.Line.{Line}
use Rattle.derive_core.specs.declared.betas.Line.TheVariants.{Beta, NotSpanned, Generated}
use Rattle.derive_core.specs.declared.betas.Betas.{Betas}
use Rattle.print_beta.specs.ComponentText.{component_text}
use Rattle.print_beta.specs.Sums.{next_factor}
use Rattle.print_beta.specs.Text.{name_text, factor_text, text_style}

-- a monomial: its factors joined by `*`, or `1` where it has none
abbrev pub monomial_text : List Target → Powers → List ℕ
monomial_text targets [] = codes "1"
monomial_text targets (power ∷ powers) = factor_text targets power ++ flat_map (next_factor text_style targets) powers

-- the last three fields of a term's row: the numerator, the denominator and the monomial
abbrev pub term_fields : List Target → Monomial × ℚ → List (List ℕ)
term_fields targets e = signed_decimal e.1.num ∷ decimal e.1.den ∷ monomial_text targets e.0.0 ∷ []

-- those of a polynomial's terms in their order; the zero polynomial has 0, 1 and the monomial `1`
abbrev pub value_fields : List Target → Terms → List (List (List ℕ))
value_fields targets [] = (codes "0" ∷ codes "1" ∷ codes "1" ∷ []) ∷ []
value_fields targets (e ∷ es) = map (term_fields targets) (e ∷ es)

-- the rows of a line: its kind, its target, the loops, the component that it stands at, and a term
abbrev pub line_rows : List Target → Line → List (List (List ℕ))
line_rows targets (Beta symbol loops value) =
    map (λ term. codes "beta" ∷ name_text targets symbol ∷ decimal loops ∷ [] ∷ term) (value_fields targets value.0)
line_rows targets (Generated block component value) =
    map (λ term. codes "generated" ∷ component_text block ∷ codes "1" ∷ component_text component ∷ term) (value_fields targets value.0)
line_rows targets (NotSpanned block component) =
    (codes "open" ∷ component_text block ∷ codes "1" ∷ component_text component ∷ [] ∷ [] ∷ [] ∷ []) ∷ []

-- the names of the fields
abbrev pub head_row : List (List ℕ)
head_row = codes "kind" ∷ codes "target" ∷ codes "loops" ∷ codes "at" ∷ codes "num" ∷ codes "den" ∷ codes "monomial" ∷ []

-- all rows
abbrev pub csv_rows : Betas → List (List (List ℕ))
csv_rows betas = head_row ∷ flat_map (line_rows betas.targets) betas.lines

-- the whole text
abbrev pub csv_text : Betas → List ℕ
csv_text betas = flat_map (row_text default_writer) (csv_rows betas)

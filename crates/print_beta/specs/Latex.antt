-- The printed form of beta functions in LaTeX: a line of a table for each beta function, and remarks.
use Rattle.std.specs.Prelude.{ℕ, ◌==◌, nat_lt, if◌then◌else◌, List, [], ◌++◌, slice_get, Option, Some, None, codes, decimal}
use Rattle.std.specs.List.{flat_map}
use Rattle.beta_poly.specs.declared.symbol.Symbol.{Symbol}
use Rattle.derive_core.specs.declared.betas.Target.{Target}
use Rattle.derive_core.specs.declared.betas.Line.{Line}
use Rattle.derive_core.specs.declared.betas.Line.TheVariants.{Beta, NotSpanned, Generated}
use Rattle.derive_core.specs.declared.betas.Betas.{Betas}
use Rattle.print_beta.specs.Sums.{Style, sum_text}
use Rattle.print_beta.specs.Text.{line_text}

-- ---- symbols

-- `_{i,j}`, where the coupling is a matrix
abbrev pub latex_entry : ℕ → ℕ → List ℕ
latex_entry row column = if row == 0 then [] else codes "_{" ++ decimal row ++ codes "," ++ decimal column ++ codes "}"

abbrev pub latex_target : Target → List ℕ
latex_target target = target.latex ++ latex_entry target.row target.column

-- the symbol with this id, without its conjugation
abbrev pub latex_target_or_none : Option Target → List ℕ
latex_target_or_none (Some target) = latex_target target
latex_target_or_none None = []

abbrev pub latex_name : List Target → ℕ → List ℕ
latex_name targets id = latex_target_or_none (slice_get targets id)

-- a symbol; a conjugate is `\overline{symbol}`
abbrev pub latex_symbol : List Target → Symbol → List ℕ
latex_symbol targets s = if s.conj then codes "\\overline{" ++ latex_name targets s.id ++ codes "}" else latex_name targets s.id

-- `{symbol}^{k}`, where the power k is at least 2
abbrev pub latex_factor : List Target → Symbol × ℕ → List ℕ
latex_factor targets power =
    if nat_lt power.1 2 then latex_symbol targets power.0
    else codes "{" ++ latex_symbol targets power.0 ++ codes "}^{" ++ decimal power.1 ++ codes "}"

-- ---- polynomials

-- a positive fraction: `p`, or `\frac{p}{q}`
abbrev pub latex_ratio : ℕ → ℕ → List ℕ
latex_ratio num den = if den == 1 then decimal num else codes "\\frac{" ++ decimal num ++ codes "}{" ++ decimal den ++ codes "}"

-- the parts of a term are joined by one space
abbrev pub latex_style : Style
latex_style = record { times = codes " "; ratio = latex_ratio; factor = latex_factor }

-- ---- lines

-- `\beta^{(N)}_{SYMBOL} = POLY \\`; an open or a generated line is a remark, as it is in the text
abbrev pub latex_line : List Target → Line → List ℕ
latex_line targets (Beta symbol loops value) =
    codes "\\beta^{(" ++ decimal loops ++ codes ")}_{" ++ latex_name targets symbol ++ codes "} = " ++ sum_text latex_style targets value.0 ++ codes " \\\\\n"
latex_line targets (NotSpanned block component) = codes "% " ++ line_text targets (NotSpanned block component)
latex_line targets (Generated block component value) = codes "% " ++ line_text targets (Generated block component value)

-- the two first lines, which are remarks: the model's name, and the number of loops
abbrev pub latex_head : List ℕ → ℕ → List ℕ
latex_head name loops = codes "% model " ++ name ++ codes "\n% loops " ++ decimal loops ++ codes "\n"

-- the whole form
abbrev pub latex_text : Betas → List ℕ
latex_text betas = latex_head betas.model betas.loops ++ flat_map (latex_line betas.targets) betas.lines

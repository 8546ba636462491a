-- The printed text of beta functions.
use Rattle.std.specs.Prelude.{ℕ, ◌==◌, nat_lt, if◌then◌else◌, List, [], ◌++◌, slice_get, Option, Some, None, codes, decimal}
use Rattle.std.specs.List.{flat_map}
use Rattle.beta_poly.specs.declared.symbol.Symbol.{Symbol}
use Rattle.beta_poly.specs.Polynomial.{Terms}
use Rattle.derive_core.specs.declared.betas.Target.{Target}
use Rattle.derive_core.specs.declared.betas.Line.{Line}
use Rattle.derive_core.specs.declared.betas.Line.TheVariants.{Beta, NotSpanned, Generated}
use Rattle.derive_core.specs.declared.betas.Betas.{Betas}
use Rattle.print_beta.specs.ComponentText.{component_text}
use Rattle.print_beta.specs.Sums.{Style, next_factor, sum_text}

-- ---- symbols

-- `[i,j]`, where the coupling is a matrix
abbrev pub entry_text : ℕ → ℕ → List ℕ
entry_text row column = if row == 0 then [] else codes "[" ++ decimal row ++ codes "," ++ decimal column ++ codes "]"

abbrev pub target_text : Target → List ℕ
target_text target = target.name ++ entry_text target.row target.column

-- the symbol with this id, without its conjugation
abbrev pub target_or_none : Option Target → List ℕ
target_or_none (Some target) = target_text target
target_or_none None = []

abbrev pub name_text : List Target → ℕ → List ℕ
name_text targets id = target_or_none (slice_get targets id)

-- a symbol; a conjugate is `conj(symbol)`
abbrev pub symbol_text : List Target → Symbol → List ℕ
symbol_text targets s = if s.conj then codes "conj(" ++ name_text targets s.id ++ codes ")" else name_text targets s.id

-- `^k`, where the power k is at least 2
abbrev pub power_text : ℕ → List ℕ
power_text k = if nat_lt k 2 then [] else codes "^" ++ decimal k

abbrev pub factor_text : List Target → Symbol × ℕ → List ℕ
factor_text targets power = symbol_text targets power.0 ++ power_text power.1

-- ---- polynomials

-- a positive fraction: `p`, or `p/q`
abbrev pub ratio_text : ℕ → ℕ → List ℕ
ratio_text num den = if den == 1 then decimal num else decimal num ++ codes "/" ++ decimal den

-- the parts of a term are joined by `*`
abbrev pub text_style : Style
text_style = record { times = codes "*"; ratio = ratio_text; factor = factor_text }

-- one factor more
abbrev pub next_factor_text : List Target → Symbol × ℕ → List ℕ
next_factor_text targets power = next_factor text_style targets power

-- a polynomial
abbrev pub terms_text : List Target → Terms → List ℕ
terms_text targets terms = sum_text text_style targets terms

-- ---- lines

-- `betaN SYMBOL = POLY`, `open TOKENS at COMPONENT`, `generated TOKENS at COMPONENT = POLY`
abbrev pub line_text : List Target → Line → List ℕ
line_text targets (Beta symbol loops value) =
    codes "beta" ++ decimal loops ++ codes " " ++ name_text targets symbol ++ codes " = " ++ terms_text targets value.0 ++ codes "\n"
line_text targets (NotSpanned block component) =
    codes "open " ++ component_text block ++ codes " at " ++ component_text component ++ codes "\n"
line_text targets (Generated block component value) =
    codes "generated " ++ component_text block ++ codes " at " ++ component_text component ++ codes " = " ++ terms_text targets value.0 ++ codes "\n"

-- the two first lines: the model's name, and the number of loops
abbrev pub head_text : List ℕ → ℕ → List ℕ
head_text name loops = codes "model " ++ name ++ codes "\nloops " ++ decimal loops ++ codes "\n"

-- the whole text
abbrev pub betas_text : Betas → List ℕ
betas_text betas = head_text betas.model betas.loops ++ flat_map (line_text betas.targets) betas.lines

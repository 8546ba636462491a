-- The answers of one line.
use Rattle.std.specs.Prelude.{ℕ, ◌+◌, List, [], ◌∷◌, ◌++◌, length, codes, decimal}
use Rattle.std.specs.List.{flat_map}
use Rattle.derive_core.specs.declared.betas.Line.{Line}
use Rattle.derive_core.specs.declared.betas.Line.TheVariants.{Beta, NotSpanned, Generated}
use Rattle.derive_core.specs.declared.betas.Betas.{Betas}
use Rattle.derive_core.specs.declared.betas.Checked.{Checked}
use Rattle.demo_models.specs.Demo.{generations_of}
use Rattle.register_core.specs.declared.register.NameCount.{NameCount}
use Rattle.rate_tool.specs.declared.lines.LineKind.{LineKind}
use Rattle.rate_tool.specs.declared.lines.LineKind.TheVariants.{OfBeta, OfOpen, OfGenerated}

-- what is written of a model that is accepted
abbrev pub accepted_text : Checked → List ℕ
accepted_text found = codes "accepted " ++ found.name ++ codes "\n"

-- 1 for a line of a kind
abbrev pub share_of : LineKind → Line → ℕ
share_of OfBeta (Beta symbol loops value) = 1
share_of OfOpen (NotSpanned block component) = 1
share_of OfGenerated (Generated block component value) = 1
share_of _ _ = 0

-- how many lines are of a kind
abbrev pub count_of : LineKind → List Line → ℕ
count_of kind [] = 0
count_of kind (line ∷ lines) = share_of kind line + count_of kind lines

-- how many monomials the lines of beta functions have
abbrev pub line_monomials : Line → ℕ
line_monomials (Beta symbol loops value) = length value.0
line_monomials _ = 0

abbrev pub monomial_count : List Line → ℕ
monomial_count [] = 0
monomial_count (line ∷ lines) = line_monomials line + monomial_count lines

-- what is written of the model of a seed
abbrev pub summary_text : ℕ → Betas → List ℕ
summary_text seed betas =
    codes "demo " ++ decimal seed ++ codes " generations " ++ decimal (generations_of seed) ++ codes " betas " ++ decimal (count_of OfBeta betas.lines)
    ++ codes " open " ++ decimal (count_of OfOpen betas.lines) ++ codes " generated " ++ decimal (count_of OfGenerated betas.lines)
    ++ codes " monomials " ++ decimal (monomial_count betas.lines) ++ codes "\n"

-- what is written of a version that was stored
abbrev pub stored_text : List ℕ → ℕ → List ℕ
stored_text name version = name ++ codes " " ++ decimal version ++ codes "\n"

-- what is written of the names and their numbers of versions
abbrev pub count_text : NameCount → List ℕ
count_text entry = entry.name ++ codes " " ++ decimal entry.count ++ codes "\n"

abbrev pub counts_text : List NameCount → List ℕ
counts_text counts = flat_map count_text counts

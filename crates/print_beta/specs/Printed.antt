-- The printed forms of beta functions.
use Rattle.std.specs.Prelude.{ℕ, List}
use Rattle.model_core.specs.declared.format.Format.{Format}
use Rattle.model_core.specs.declared.format.Format.TheVariants.{Text, Latex, Csv}
use Rattle.derive_core.specs.declared.betas.Betas.{Betas}
use Rattle.print_beta.specs.Text.{betas_text}
use Rattle.print_beta.specs.Latex.{latex_text}
use Rattle.print_beta.specs.Csv.{csv_text}

-- the bytes of a form
abbrev pub printed : Format → Betas → List ℕ
printed Text betas = betas_text betas
printed Latex betas = latex_text betas
printed Csv betas = csv_text betas

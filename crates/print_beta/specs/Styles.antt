-- The style of each notation.
use Rattle.print_beta.specs.declared.sums.Notation.{Notation}
use Rattle.print_beta.specs.declared.sums.Notation.TheVariants.{Text, Latex}
use Rattle.print_beta.specs.Sums.{Style}
use Rattle.print_beta.specs.Text.{text_style}
use Rattle.print_beta.specs.Latex.{latex_style}

abbrev pub style_of : Notation → Style
style_of Text = text_style
style_of Latex = latex_style

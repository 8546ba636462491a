use Rattle.std.proofs.Common.{◌≡◌, ◌++◌, take}
use Rattle.std.specs.List.{flat_map}
use Rattle.csv.specs.Writing.{row_text, default_writer}
use Rattle.print_beta.specs.Csv.{head_row, line_rows}
use Rattle.print_beta.proofs.csv_text.print_csv.Given as goal

abbrev pub invariant-loop-line : goal.invariant-loop-line
invariant-loop-line l =
    l.text ≡ row_text default_writer head_row ++ flat_map (row_text default_writer) (flat_map (line_rows l.betas.targets) (take l.line-index l.line-items))

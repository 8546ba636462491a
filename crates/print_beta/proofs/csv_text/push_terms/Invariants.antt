use Rattle.std.proofs.Common.{◌≡◌, ◌++◌, drop}
use Rattle.std.specs.List.{flat_map}
use Rattle.csv.specs.Writing.{row_text, default_writer}
use Rattle.print_beta.specs.Csv.{term_fields}
use Rattle.print_beta.proofs.csv_text.push_terms.Given as goal

-- the text so far, and then the rows of the terms that are left
abbrev pub invariant-loop-place : goal.invariant-loop-place
invariant-loop-place l =
    l.text ++ flat_map (λ e. row_text default_writer (l.front ++ term_fields l.targets e)) (drop l.place l.value.0)
    ≡ l.initial.text ++ flat_map (λ e. row_text default_writer (l.front ++ term_fields l.targets e)) l.value.0

use Rattle.std.proofs.Common.{sym, ap, ◌∙◌}
use Rattle.std.specs.Prelude.{slice_get}
use Rattle.std.proofs.lemmas.Option.{slice_get_past}
use Rattle.derive_core.specs.Lines.{line_of}
use Rattle.derive_core.proofs.FoundLines.{nothing_more}
use Rattle.derive_core.proofs.coupling_lines.push_coordinate.Goals as goal

pub returns-in-None : goal.returns-in-None
returns-in-None c =
    let all = c.as_slice.result.now in
    let none = ap (λ xs. slice_get xs c.args.place) (sym c.as_slice.ensures) ∙ slice_get_past all c.args.place c.in-None.ensures.lookup.3 in
    nothing_more c.args.lines.now _ (ap (line_of c.args.id) none)

use Rattle.std.proofs.Common.{◌≡◌, ◌+◌, ◌++◌, ◌∷◌, [], ◌∙◌, ap, drop, map}
use Rattle.std.specs.List.{enumerate_from}
use Rattle.derive_core.specs.Lines.{gauge_line}
use Rattle.derive_core.proofs.Enumerated.{numbered_more}
use Rattle.derive_core.proofs.gauge_lines.first_lines.Goals as goal

pub loop-place-preserved : goal.loop-place-preserved
loop-place-preserved c =
    let model = c.args.model.now in
    let i = c.loop-place.place in
    let line : c.push.new.self ≡ c.loop-place.lines ++ gauge_line model (i, c.item.result.now) ∷ [] =
    c.in_ok-push.ensures.ok ∙ ap (λ l. c.loop-place.lines ++ l ∷ []) c.in_ok-line.ensures in
    ap (λ ls. ls ++ map (gauge_line model) (enumerate_from (i + 1) (drop (i + 1) model.groups))) line
    ∙ numbered_more (gauge_line model) model.groups i c.item.result.now c.loop-place.lines c.item.ensures
    ∙ c.loop-place.invariant

use Rattle.std.proofs.Common.{sym, ap, ◌∙◌, Some}
use Rattle.std.specs.Prelude.{map}
use Rattle.span_solver.specs.BlockDirections.{numbers_of}
use Rattle.span_solver.proofs.Gathered.{image_at, take-next}
use Rattle.span_solver.proofs.directions.rows_at.Goals as goal

pub loop-key-preserved : goal.loop-key-preserved
loop-key-preserved c =
    take-next (map (λ key. map (λ d. numbers_of d key) (map (λ d. d.now) c.args.directions.now)) c.args.keys.now) c.loop-key.key-index c.in_ok-row.row c.loop-key.rows.items c.push.new.self.items
    (image_at c.args.keys.now (λ key. map (λ d. numbers_of d key) (map (λ d. d.now) c.args.directions.now)) c.loop-key.key-index c.key-item.result c.loop-key-test.true c.key-item.is
    ∙ ap Some (sym (c.in_ok-row.ensures ∙ ap (λ key. map (λ d. numbers_of d key) (map (λ d. d.now) c.args.directions.now)) c.as_slice.ensures)))
    c.loop-key.invariant c.in_ok-push.ensures.items

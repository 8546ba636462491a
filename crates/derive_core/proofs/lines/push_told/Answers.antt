use Rattle.derive_core.proofs.AllLines.{told_lines}
use Rattle.derive_core.proofs.lines.push_told.Goals as goal

pub returns : goal.returns
returns c =
    rw (told_lines c.args.model.now c.args.told.now c.args.lines.now c.push_couplings.new.lines c.push_open_blocks.new.lines
    (c.in_ok-push_couplings.ensures c.args.model.now c.requires.directions) c.in_ok-push_open_blocks.ensures) c.push_generated_blocks.ensures

use Rattle.std.proofs.Common.{sym, subst, ◌∙◌}
use Rattle.std.proofs.lemmas.List.Elements.{All-get_or}
use Rattle.derive_core.specs.Lines.{generated_line}
use Rattle.derive_core.specs.Works.{HasLegs}
use Rattle.derive_core.proofs.FoundLines.{lines_more}
use Rattle.derive_core.proofs.block_lines.push_generated_blocks.Goals as goal

pub push_generated-requires-clause-legs : goal.push_generated-requires-clause-legs
push_generated-requires-clause-legs c =
    subst HasLegs (sym c.block-item.is) (All-get_or HasLegs c.args.told.now c.loop-block.block-index c.block-item.result c.loop-block-test.true c.requires.legs)

pub loop-block-preserved : goal.loop-block-preserved
loop-block-preserved c =
    lines_more (generated_line c.args.model.now) c.args.told.now c.loop-block.block-index c.block-item.result c.loop-block.lines c.push_generated.new.lines
    c.block-item.is c.loop-block-test.true c.in_ok-push_generated.ensures
    ∙ c.loop-block.invariant

use Rattle.derive_core.proofs.SecondLines.{few_values, two_loops}
use Rattle.derive_core.proofs.gauge_lines.gauge_lines_of.Goals as goal

pub push_second_lines-requires : goal.push_second_lines-requires
push_second_lines-requires g c = few_values c.args.accepted.now.model c.in_ok-values.values c.requires.valid c.in_ok-values.ensures

pub returns : goal.returns
returns g c =
    two_loops c.args.accepted.now.model c.args.loops c.in_ok-lines.lines c.in_ok-values.values c.push_second_lines.new.lines c.if-loops-ne2.false
    c.in_ok-lines.ensures c.in_ok-values.ensures c.in_ok-push_second_lines.ensures

use Rattle.std.proofs.Common.{ap, ◌∙◌, arith}
use Rattle.yukawa_one_loop.specs.Matrices.{identity_links}
use Rattle.yukawa_one_loop.proofs.Coordinates.{coordinates_count}
use Rattle.yukawa_one_loop.proofs.lines.lines_of.Goals as goal

pub returns-clause-value : goal.returns-clause-value
returns-clause-value c = record {
  valid = c.requires.valid;
  links = c.in_ok-links.ensures ∙ ap identity_links c.fermion_count-fermions.ensures;
  matrices = c.in_ok-matrices.ensures.value;
  gauges = c.in_ok-gauges.ensures.value;
  fermions = c.fermion_count-fermions.ensures;
  dummy = omega (arith, c.scalar_count.ensures, coordinates_count c.args.model.now);
}

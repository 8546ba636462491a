use Rattle.std.proofs.Common.{ap, ◌∙◌}
use Rattle.yukawa_one_loop.specs.Matrices.{identity_links}
use Rattle.quartic_one_loop.proofs.boxes.vertices_of.Goals as goal

pub returns-clause-value : goal.returns-clause-value
returns-clause-value c = record {
  valid = c.requires.valid;
  yukawa = c.requires.yukawa;
  conjugate = c.in_ok-conjugate.ensures.value;
  links = c.in_ok-links.ensures ∙ ap identity_links c.fermion_count.ensures;
}

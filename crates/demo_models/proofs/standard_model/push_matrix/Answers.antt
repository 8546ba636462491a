use Rattle.demo_models.proofs.Pushes.{pushed}
use Rattle.demo_models.specs.Demo.{matrix_text}
use Rattle.demo_models.proofs.standard_model.push_matrix.Goals as goal

pub returns : goal.returns
unfolding matrix_text
returns c = pushed _ _ _ c.in_ok-push_around.ensures c.in_ok-push_around-2.ensures

use Rattle.demo_models.proofs.Pushes.{pushed}
use Rattle.demo_models.proofs.standard_model.push_head.Goals as goal

pub returns : goal.returns
returns c =
    pushed _ _ _ c.in_ok-push_around.ensures
    c.in_ok-extend.ensures.ok

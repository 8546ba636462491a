use Rattle.demo_models.proofs.Pushes.{pushed}
use Rattle.demo_models.proofs.standard_model.push_fields.Goals as goal

pub returns : goal.returns
returns c =
    pushed _ _ _ (pushed _ _ _ (pushed _ _ _ (pushed _ _ _ (pushed _ _ _ c.in_ok-push_around.ensures
    c.in_ok-push_around-2.ensures)
    c.in_ok-push_around-3.ensures)
    c.in_ok-push_around-4.ensures)
    c.in_ok-push_around-5.ensures)
    c.in_ok-extend.ensures.ok

use Rattle.demo_models.proofs.Pushes.{pushed}
use Rattle.demo_models.proofs.standard_model.push_terms.Goals as goal

pub returns : goal.returns
returns c =
    pushed _ _ _ (pushed _ _ _ (pushed _ _ _ (pushed _ _ _ c.in_ok-push_matrix.ensures
    c.in_ok-push_matrix-2.ensures)
    c.in_ok-push_matrix-3.ensures)
    c.in_ok-extend.ensures.ok)
    c.in_ok-extend-2.ensures.ok

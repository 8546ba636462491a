use Rattle.derive_core.proofs.Sounds.{sound_terms}
use Rattle.derive_core.proofs.accept.check_couplings.Goals as goal

pub returns-in-None : goal.returns-in-None
returns-in-None g = sound_terms g.args.model.now g.in_ok-survey.survey g.in_ok-survey.ensures (rw g.in-None.is at g.first_fault.ensures)

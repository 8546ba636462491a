use Rattle.std.proofs.Common.{length, ap, ◌∙◌, arith}
use Rattle.model_core.proofs.ComponentListLaws.{fermion_list-fits, scalar_list-fits}
use Rattle.term_expand.proofs.assignments.after_factor.Goals as goal

pub candidates-requires : goal.candidates-requires
candidates-requires c =
    omega (arith, ap length (c.as_slice-fermions.ensures ∙ c.requires.basis.fermions), fermion_list-fits c.args.model.now c.requires.valid)

pub candidates-requires-in-Scalar : goal.candidates-requires-in-Scalar
candidates-requires-in-Scalar c =
    omega (arith, ap length (c.as_slice-scalars.ensures ∙ c.requires.basis.scalars), scalar_list-fits c.args.model.now c.requires.valid)

use Rattle.std.proofs.Common.{◌^◌, sym, subst, arith}
use Rattle.std.specs.List.{All}
use Rattle.std.proofs.lemmas.Result.{on_err_weaker}
use Rattle.model_core.specs.Plain.{IsPlainCharge}
use Rattle.gauge_two_loop.proofs.Squares.{weaker}
use Rattle.gauge_two_loop.proofs.abelian.abelian_one.Goals as goal

pub returns-clause-large : goal.returns-clause-large
returns-clause-large c =
    on_err_weaker c.sixth_of.result (λ large plain. large (
      weaker (2 ^ 50) (2 ^ 60) c.in_ok-fermions.fermions (omega arith) (c.in_ok-fermions.ensures.bound (subst (All (λ field. IsPlainCharge field.charge)) (sym c.as_slice.ensures) plain.fermions)),
      weaker (2 ^ 50) (2 ^ 60) c.in_ok-scalars.scalars (omega arith) (c.in_ok-scalars.ensures.bound (subst (All (λ field. IsPlainCharge field.charge)) (sym c.as_slice-2.ensures) plain.scalars)),
    )) c.sixth_of.ensures.large

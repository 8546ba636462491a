use Rattle.std.proofs.Common.{◌≡◌, ◌+◌, ◌*◌, ◌^◌, take}
use Rattle.std.specs.List.{enumerate_from}
use Rattle.frac128.specs.Rational.{neg_ℚ}
use Rattle.beta_poly.specs.Polynomial.{add_poly}
use Rattle.model_core.specs.GaugeTwoLoop.{own_number}
use Rattle.model_core.specs.Plain.{IsPlain}
use Rattle.gauge_two_loop.specs.Pieces.{AllShares, gauge_piece, mixed_pieces}
use Rattle.gauge_two_loop.proofs.pieces.gauge_part.Given as goal

abbrev pub invariant-loop-l : goal.invariant-loop-l
invariant-loop-l l = record {
  so_far : l.sum ≡ add_poly (gauge_piece l.k l.k (neg_ℚ (own_number l.model (l.k, l.group)))) (mixed_pieces l.model (l.k, l.group) (take l.l (enumerate_from 0 l.model.groups)));
  bound : IsPlain l.model → AllShares (2 ^ 91 + l.l * 2 ^ 91) l.sum;
}

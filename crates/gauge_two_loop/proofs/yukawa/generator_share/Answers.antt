use Rattle.std.proofs.Common.{◌-◌, ◌*◌, ◌∙◌, pos, sym, ap}
use Rattle.frac128.specs.Rational.{whole, reciprocal}
use Rattle.frac128.specs.RationalLaws.{one-*ℚ, whole-ratio}
use Rattle.model_core.proofs.ValidLaws.{special_size}
use Rattle.gauge_two_loop.proofs.CasimirSums.{count-abelian, count-special}
use Rattle.gauge_two_loop.proofs.Shares.{one_over}
use Rattle.gauge_two_loop.proofs.yukawa.generator_share.Goals as goal

pub returns-then-is_abelian : goal.returns-then-is_abelian
returns-then-is_abelian c =
    c.one.ensures ∙ whole-ratio (pos 1) ∙ sym (one_over 1) ∙ ap reciprocal (sym (count-abelian c.args.group.now (sym c.is_abelian.ensures ∙ c.if-is_abelian.true)))

pub special_share-requires-clause-low : goal.special_share-requires-clause-low
special_share-requires-clause-low c = special_size c.args.group.now c.requires (sym c.is_abelian.ensures ∙ c.if-is_abelian.false)

pub returns : goal.returns
returns c =
    c.special_share.ensures ∙ one-*ℚ (reciprocal (whole (pos (c.args.group.now.n * c.args.group.now.n - 1)))) ∙ ap reciprocal (sym (count-special c.args.group.now (sym c.is_abelian.ensures ∙ c.if-is_abelian.false)))

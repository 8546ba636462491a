use Rattle.std.proofs.Common.{subst, sym}
use Rattle.derive_core.specs.Works.{IsWholeTold}
use Rattle.derive_core.proofs.WholeTold.{nothing_told}
use Rattle.derive_core.proofs.outcomes.told_of.Goals as goal

pub returns-then-not-may_have_blocks : goal.returns-then-not-may_have_blocks
returns-then-not-may_have_blocks g c =
    let model = c.args.accepted.now.model in
    let none = c.if-not-may_have_blocks.true in
    subst (IsWholeTold model) (sym c.new.ensures)
    (nothing_told model c.in_ok-sides.sides c.in_ok-sides.ensures (c.may_have_blocks.ensures.no_terms none) (c.may_have_blocks.ensures.no_scalars none))

pub returns-in-Err-Overflow : goal.returns-in-Err-Overflow
returns-in-Err-Overflow g c =
    let refused = rw c.in-Err-Overflow.field-0-is at c.in-Err-Overflow.ensures.refused in
    record { refused = refused; large = c.may_have_blocks.ensures.large c.if-not-may_have_blocks.false }

use Rattle.derive_core.proofs.Sounds.{has_some}
use Rattle.derive_core.proofs.outcomes.on_sides.Goals as goal

pub returns-in-Ok : goal.returns-in-Ok
returns-in-Ok c =
    record {
      are = c.in-Ok.ensures.value;
      no_yukawa = λ none. (c.in-Ok.ensures.no_yukawa (c.requires.yukawa.none none)).0;
      no_conjugate_yukawa = λ none. (c.in-Ok.ensures.no_yukawa (c.requires.yukawa.none none)).1;
      no_scalar = λ none. (c.in-Ok.ensures.no_scalar (c.requires.scalar.none none)).0;
      no_conjugate_scalar = λ none. (c.in-Ok.ensures.no_scalar (c.requires.scalar.none none)).1;
    }

pub returns-in-Err-Overflow : goal.returns-in-Err-Overflow
returns-in-Err-Overflow c =
    let refused = rw c.in-Err-Overflow.field-0-is at c.in-Err-Overflow.ensures.refused_where in
    record { refused = refused.1; large = has_some c.args.model.now c.args.yukawa c.args.scalar.now c.requires.yukawa c.requires.scalar refused.0 }

use Rattle.std.proofs.Common.{◌≡◌, ◌<◌, ◌∙◌, ◌^◌, sym, ap₂, subst, to_z, of_z, rules}
use Rattle.std.specs.Prelude.{unsigned_abs}
use Rattle.std.specs.Int.{w128}
use Rattle.frac128.specs.Rational.{whole, ◌/ℚ◌}
use Rattle.frac128.specs.RationalLaws.{zero_num}
use Rattle.span_solver.proofs.Values.{turned_over}
use Rattle.span_solver.proofs.numbers.inverse.Goals as goal

pub unwrap-requires : goal.unwrap-requires
unwrap-requires c =
    let num : to_z w128 (of_z w128 c.num.result) ≡ c.num.result = search rules in
    let den : to_z w128 (of_z w128 c.den.result) ≡ c.den.result = search rules in
    c.new.ensures.plain (λ e. absurd (c.requires (zero_num c.args.x.now (sym c.num.ensures.value ∙ sym num ∙ e))))
    (subst (λ n. unsigned_abs n < 2 ^ 127) (sym (den ∙ c.den.ensures.value)) c.den.ensures.small)
    (subst (λ n. unsigned_abs n < 2 ^ 127) (sym (num ∙ c.num.ensures.value)) c.num.ensures.small)

pub returns : goal.returns
returns c =
    let num : to_z w128 (of_z w128 c.num.result) ≡ c.num.result = search rules in
    let den : to_z w128 (of_z w128 c.den.result) ≡ c.den.result = search rules in
    let v = rw c.unwrap.ensures at c.new.ensures.value in
    v ∙ ap₂ (λ n m. whole n /ℚ whole m) (den ∙ c.den.ensures.value) (num ∙ c.num.ensures.value) ∙ turned_over c.args.x.now c.requires

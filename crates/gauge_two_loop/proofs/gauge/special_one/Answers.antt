use Rattle.std.proofs.Common.{◌≡◌, ◌∙◌, ◌+◌, ◌*◌, ap₂, sym}
use Rattle.std.specs.Prelude.{pos, ◌-ℤ◌}
use Rattle.frac128.specs.Rational.{whole, ◌/ℚ◌}
use Rattle.model_core.specs.Multiplet.{fermion_copies, scalar_copies, doubled_index_sum}
use Rattle.model_core.proofs.GaugeLaws.{gauge_one_loop-special}
use Rattle.gauge_two_loop.proofs.gauge.special_one.Goals as goal

pub returns : goal.returns
returns c =
    let model = c.args.model.now in
    let group = c.args.group.now in
    let fermions : c.fermion_index-fermions.result ≡ doubled_index_sum fermion_copies model.groups c.args.place group model.fermions = cc in
    let scalars : c.scalar_index-scalars.result ≡ doubled_index_sum scalar_copies model.groups c.args.place group model.scalars = cc in
    c.twelfths.ensures
    ∙ ap₂ (λ f s. whole (pos (4 * f + s) -ℤ pos (44 * group.n)) /ℚ whole (pos 12)) fermions scalars
    ∙ sym (gauge_one_loop-special model c.args.place group c.requires.valid c.requires.group c.requires.special)

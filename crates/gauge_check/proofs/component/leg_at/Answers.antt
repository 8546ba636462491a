use Rattle.std.proofs.Common.{subst, sym, ap, ◌∙◌}
use Rattle.gauge_check.specs.Legs.{HasPlace, leg_of_place}
use Rattle.gauge_check.proofs.Components.{fermion_place, fermion_scalar_place, scalar_place}
use Rattle.gauge_check.proofs.component.leg_at.Goals as goal

pub returns-then-leg-lt2 : goal.returns-then-leg-lt2
returns-then-leg-lt2 c =
    c.on_side.ensures ∙ fermion_place c.args.model.now c.args.place c.fermion_leg.result c.args.side c.args.leg c.if-leg-lt2.true c.fermion_leg.ensures
    ∙ ap (λ kind. leg_of_place c.args.model.now kind c.args.side c.args.leg c.args.place) (sym c.in-Fermion.is)

pub returns-else-leg-lt2 : goal.returns-else-leg-lt2
returns-else-leg-lt2 c =
    fermion_scalar_place c.args.model.now c.args.place c.scalar_leg.result c.args.side c.args.leg c.if-leg-lt2.false
    (subst (λ kind. HasPlace c.args.model.now kind c.args.leg c.args.place) c.in-Fermion.is c.requires.inside) c.scalar_leg.ensures
    ∙ ap (λ kind. leg_of_place c.args.model.now kind c.args.side c.args.leg c.args.place) (sym c.in-Fermion.is)

pub returns-in-Scalar : goal.returns-in-Scalar
returns-in-Scalar c =
    scalar_place c.args.model.now c.args.place c.scalar_leg-in-Scalar.result c.args.side c.args.leg
    (subst (λ kind. HasPlace c.args.model.now kind c.args.leg c.args.place) c.in-Scalar.is c.requires.inside) c.scalar_leg-in-Scalar.ensures
    ∙ ap (λ kind. leg_of_place c.args.model.now kind c.args.side c.args.leg c.args.place) (sym c.in-Scalar.is)

use Rattle.std.proofs.Common.{◌≡◌, subst, ◌∙◌}
use Rattle.std.specs.Prelude.{IfOk}
use Rattle.derive_core.proofs.NameSizes.{name_of_three, name_of_four, no_name}
use Rattle.derive_core.proofs.block_names.name_at.Goals as goal

pub returns-then-places-eq3 : goal.returns-then-places-eq3
returns-then-places-eq3 c =
    let found = c.name_of_kind in
    let is = name_of_three c.args.model.now c.args.side c.args.places.now c.if-places-eq3.true in
    record { name = subst (λ name. IfOk found.result (λ found. found ≡ name)) is found.ensures }

pub returns-then-places-eq4 : goal.returns-then-places-eq4
returns-then-places-eq4 c =
    let found = c.name_of_kind-then-places-eq4 in
    let is = name_of_four c.args.model.now c.args.side c.args.places.now c.if-places-eq4.true in
    record { name = subst (λ name. IfOk found.result (λ found. found ≡ name)) is found.ensures }

pub returns : goal.returns
returns c = record { name = c.new.ensures ∙ no_name c.args.model.now c.args.side c.args.places.now c.if-places-eq3.false c.if-places-eq4.false }

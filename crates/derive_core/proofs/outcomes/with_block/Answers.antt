use Rattle.std.proofs.Common.{◌≡◌, ◌≤◌, ap, ap₂, sym, subst, length, ◌∙◌, arith}
use Rattle.std.specs.List.{insert}
use Rattle.std.proofs.lemmas.List.Sums.{prefix_len-le-length}
use Rattle.derive_core.specs.Outcomes.{IsOutcome}
use Rattle.derive_core.specs.Works.{is_at}
use Rattle.derive_core.proofs.TellingSteps.{block_told, told_already, told_more}
use Rattle.derive_core.proofs.ToldLists.{place_of}
use Rattle.derive_core.proofs.outcomes.with_block.Goals as goal

pub returns-then-is_at-clause-value : goal.returns-then-is_at-clause-value
returns-then-is_at-clause-value g c =
    told_already c.args.accepted.now.model c.args.name c.args.told c.place_among-place.result c.requires.told
    (ap₂ (λ t n. is_at t c.place_among-place.result n) (sym c.as_slice-3.ensures) (sym c.as_slice-4.ensures) ∙ sym c.is_at.ensures ∙ c.if-is_at.true)

pub insert-requires : goal.insert-requires
insert-requires g c =
    let place : c.place_among-place.result ≡ place_of c.args.name c.args.told = c.place_among-place.ensures ∙ ap₂ place_of c.as_slice.ensures c.as_slice-2.ensures in
    let within : place_of c.args.name c.args.told ≤ length c.args.told = prefix_len-le-length _ c.args.told in
    omega (arith, place, within, ap length c.into_vec-all.ensures)

pub returns-clause-value : goal.returns-clause-value
returns-clause-value g c =
    let model = c.args.accepted.now.model in
    let place = c.place_among-place.result in
    told_more model c.args.name c.in_ok-outcome.outcome c.args.told c.from_vec.result place c.requires.told c.requires.name
    (subst (λ n. IsOutcome model n c.in_ok-outcome.outcome) c.as_slice-5.ensures c.in_ok-outcome.ensures.value)
    (c.place_among-place.ensures ∙ ap₂ place_of c.as_slice.ensures c.as_slice-2.ensures)
    (ap₂ (λ t n. is_at t place n) (sym c.as_slice-3.ensures) (sym c.as_slice-4.ensures) ∙ sym c.is_at.ensures ∙ c.if-is_at.false)
    (c.from_vec.ensures ∙ c.in_ok-insert.ensures.items ∙ ap (λ xs. insert xs place (block_told c.args.name c.in_ok-outcome.outcome)) c.into_vec-all.ensures)

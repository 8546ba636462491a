use Rattle.std.proofs.Common.{◌≡◌, ◌∙◌, sym, subst, Some}
use Rattle.span_solver.specs.BlockDirections.{block_numbers}
use Rattle.span_solver.specs.ChosenDirections.{IsNamedPlace}
use Rattle.span_solver.specs.Elimination.{HaveLength, pivots}
use Rattle.span_solver.specs.RowDependence.{AreIndependent, IsFirstDependent}
use Rattle.span_solver.proofs.Firsts.{some_pivots}
use Rattle.span_solver.proofs.Named.{dependent_place, independent_of, lengths-block, as_many}
use Rattle.span_solver.proofs.block.of_rows.Goals as goal

pub first_dependent-requires : goal.first_dependent-requires
first_dependent-requires c =
    subst (HaveLength c.args.count) (sym c.as_slice.ensures.value) (lengths-block (block_numbers c.args.directions.now c.args.name.now) c.args.count c.args.keys.items c.args.rows.items c.requires.is)

pub returns-in-Some-clause-fault : goal.returns-in-Some-clause-fault
returns-in-Some-clause-fault c =
    let found = rw c.in-Some.is at c.in_ok-number.ensures.value in
    dependent_place c.args.directions.now c.args.name.now c.in-Some.number c.place_of-place.result c.args.count c.args.keys.items c.args.rows.items c.requires.is found.0
    (subst (λ rows. IsFirstDependent rows c.in-Some.number) c.as_slice.ensures.value found.1)
    (subst (λ name. IsNamedPlace c.args.directions.now name c.in-Some.number c.place_of-place.result) c.as_slice-in-Some.ensures c.place_of-place.ensures)

pub pivots-requires : goal.pivots-requires
pivots-requires c =
    subst (HaveLength c.args.count) (sym c.as_slice-2.ensures.value) (lengths-block (block_numbers c.args.directions.now c.args.name.now) c.args.count c.args.keys.items c.args.rows.items c.requires.is)

pub unwrap-gaps-requires : goal.unwrap-gaps-requires
unwrap-gaps-requires c =
    some_pivots c.in_ok-pivots.field-0 (λ v. pivots c.args.count c.as_slice-2.result.now ≡ Some v.items) c.args.count c.as_slice-2.result.now
    (subst (HaveLength c.args.count) (sym c.as_slice-2.ensures.value) (lengths-block (block_numbers c.args.directions.now c.args.name.now) c.args.count c.args.keys.items c.args.rows.items c.requires.is))
    (subst (AreIndependent c.args.count) (c.as_slice.ensures.value ∙ sym c.as_slice-2.ensures.value) (rw c.in_default.is at c.in_ok-number.ensures.value))
    c.in_ok-pivots.ensures.value

pub invariant_of-result : goal.invariant_of-result
invariant_of-result c = (
  as_many (block_numbers c.args.directions.now c.args.name.now) c.args.count c.args.keys.items c.args.rows.items c.requires.is,
  lengths-block (block_numbers c.args.directions.now c.args.name.now) c.args.count c.args.keys.items c.args.rows.items c.requires.is,
  subst (λ rows. pivots c.args.count rows ≡ Some c.unwrap-gaps.result.items) c.as_slice-2.ensures.value (rw c.unwrap-gaps.ensures at c.in_ok-pivots.ensures.value),
  c.requires.is.ascend,
)

pub returns-clause-independent : goal.returns-clause-independent
returns-clause-independent c =
    independent_of c.args.directions.now c.args.name.now c.args.count c.args.keys.items c.args.rows.items c.requires.is
    (subst (AreIndependent c.args.count) c.as_slice.ensures.value (rw c.in_default.is at c.in_ok-number.ensures.value))

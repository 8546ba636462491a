use Rattle.std.proofs.Common.{◌+◌, sym, ap, ◌∙◌, arith, bytes_eq}
use Rattle.register_core.specs.Register.{version_of}
use Rattle.register_core.proofs.Versions.{stored_at, stored_full, stored_new, version_next}
use Rattle.register_core.proofs.register.store.Goals as goal

pub returns-then-eq-clause-answer : goal.returns-then-eq-clause-answer
returns-then-eq-clause-answer g c told =
    let s = g.K.Keeper.tables c.args.keeper.now in
    let name = c.args.name.now in
    let place = c.loop-place.place in
    let back = c.model.ensures.same told in
    let first = c.loop-place.invariant.same back.0 in
    let same = back.1 ∙ first.1 in
    let found = sym (version_next s name place) ∙ ap (λ t. version_of t name (place + 1)) (sym same) ∙ sym (c.in_ok-kept.ensures.bytes told) ∙ c.in-Some.is in
    let equal = ap (λ b. bytes_eq b c.args.bytes.now) (sym c.as_slice.ensures) ∙ sym c.if-eq.ensures in
    (first.0, stored_at s _ same name c.args.bytes.now c.in_ok-count.count place (c.loop-place.invariant.looked back.0) c.in-Some.kept found equal)

pub returns-then-count-ge-MOST_VERSIONS-clause-answer : goal.returns-then-count-ge-MOST_VERSIONS-clause-answer
returns-then-count-ge-MOST_VERSIONS-clause-answer g c told =
    let first = c.loop-place.invariant.same told in
    let it = c.loop-place.invariant.looked told in (
      first.0,
      stored_full (g.K.Keeper.tables c.args.keeper.now) _ first.1 c.args.name.now c.args.bytes.now c.in_ok-count.count c.loop-place.place it
          (omega (arith, c.loop-place-test.false, c.min-looked.ensures, it.most)) (omega (arith, c.if-count-ge-MOST_VERSIONS.true)),
    )

pub returns-clause-answer : goal.returns-clause-answer
returns-clause-answer g c told =
    let back = c.in_ok-add_model.ensures.added told in
    let first = c.loop-place.invariant.same back.0 in
    let it = c.loop-place.invariant.looked back.0 in (
      first.0,
      stored_new (g.K.Keeper.tables c.args.keeper.now) _ first.1 c.args.name.now c.args.bytes.now c.in_ok-count.count c.loop-place.place it
          (omega (arith, c.loop-place-test.false, c.min-looked.ensures, it.most)) (omega (arith, c.if-count-ge-MOST_VERSIONS.false)) _ back.1,
    )

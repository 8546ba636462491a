use Rattle.std.proofs.lemmas.Result.{IfOk-at_ok}
use Rattle.beta_formulas.specs.YukawaBeta.{conjugate, times, yukawa}
use Rattle.yukawa_one_loop.specs.Matrices.{AreWithin, IsMatrix}
use Rattle.yukawa_one_loop.specs.Parts.{coordinate_at}
use Rattle.yukawa_one_loop.proofs.LineMatrices.{within_two, plain_inside, conjugate_inside, plain_there, conjugate_there}
use Rattle.yukawa_one_loop.proofs.lines.chain.Goals as goal

pub item-left-requires : goal.item-left-requires
item-left-requires c = plain_inside c.args.lines.now c.requires.lines c.args.first c.requires.first

pub item-inner-requires : goal.item-inner-requires
item-inner-requires c = conjugate_inside c.args.lines.now c.requires.lines c.args.middle c.requires.middle

pub item-right-requires : goal.item-right-requires
item-right-requires c = plain_inside c.args.lines.now c.requires.lines c.args.last c.requires.last

pub times-requires-clause-left_rank : goal.times-requires-clause-left_rank
times-requires-clause-left_rank c =
    (plain_there c.args.lines.now c.requires.lines c.args.first c.item-left.result.now c.item-left.ensures).entries.rank_is

pub times-requires-clause-right_rank : goal.times-requires-clause-right_rank
times-requires-clause-right_rank c =
    (conjugate_there c.args.lines.now c.requires.lines c.args.middle c.item-inner.result.now c.item-inner.ensures).entries.rank_is

pub times-requires-clause-left : goal.times-requires-clause-left
times-requires-clause-left c =
    within_two c.item-left.result.now (plain_there c.args.lines.now c.requires.lines c.args.first c.item-left.result.now c.item-left.ensures).within

pub times-requires-clause-right : goal.times-requires-clause-right
times-requires-clause-right c =
    within_two c.item-inner.result.now (conjugate_there c.args.lines.now c.requires.lines c.args.middle c.item-inner.result.now c.item-inner.ensures).within

pub times-requires-2-clause-left_rank : goal.times-requires-2-clause-left_rank
times-requires-2-clause-left_rank c =
    let model = c.args.lines.now.model.now in
    let left = plain_there c.args.lines.now c.requires.lines c.args.first c.item-left.result.now c.item-left.ensures in
    let inner = conjugate_there c.args.lines.now c.requires.lines c.args.middle c.item-inner.result.now c.item-inner.ensures in
    let A = yukawa model (coordinate_at model c.args.first) in
    let B = conjugate model (coordinate_at model c.args.middle) in
    (IfOk-at_ok (IsMatrix model (times model A B)) c.in_ok-both.was (c.times.ensures.value model A B c.requires.lines.links left.entries inner.entries)).rank_is

pub times-requires-2-clause-right_rank : goal.times-requires-2-clause-right_rank
times-requires-2-clause-right_rank c =
    (plain_there c.args.lines.now c.requires.lines c.args.last c.item-right.result.now c.item-right.ensures).entries.rank_is

pub times-requires-2-clause-left : goal.times-requires-2-clause-left
times-requires-2-clause-left c =
    let left = plain_there c.args.lines.now c.requires.lines c.args.first c.item-left.result.now c.item-left.ensures in
    let inner = conjugate_there c.args.lines.now c.requires.lines c.args.middle c.item-inner.result.now c.item-inner.ensures in
    IfOk-at_ok (AreWithin 2) c.in_ok-both.was (c.times.ensures.within left.within inner.within)

pub times-requires-2-clause-right : goal.times-requires-2-clause-right
times-requires-2-clause-right c =
    within_two c.item-right.result.now (plain_there c.args.lines.now c.requires.lines c.args.last c.item-right.result.now c.item-right.ensures).within

pub returns-clause-value : goal.returns-clause-value
returns-clause-value c =
    let model = c.args.lines.now.model.now in
    let left = plain_there c.args.lines.now c.requires.lines c.args.first c.item-left.result.now c.item-left.ensures in
    let inner = conjugate_there c.args.lines.now c.requires.lines c.args.middle c.item-inner.result.now c.item-inner.ensures in
    let right = plain_there c.args.lines.now c.requires.lines c.args.last c.item-right.result.now c.item-right.ensures in
    let A = yukawa model (coordinate_at model c.args.first) in
    let B = conjugate model (coordinate_at model c.args.middle) in
    let C = yukawa model (coordinate_at model c.args.last) in
    let both = IfOk-at_ok (IsMatrix model (times model A B)) c.in_ok-both.was (c.times.ensures.value model A B c.requires.lines.links left.entries inner.entries) in
    c.times-2.ensures.value model (times model A B) C c.requires.lines.links both right.entries

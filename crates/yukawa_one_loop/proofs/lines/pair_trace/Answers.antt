use Rattle.std.proofs.lemmas.Result.{IfOk-at_ok}
use Rattle.beta_formulas.specs.YukawaBeta.{conjugate, times, yukawa}
use Rattle.yukawa_one_loop.specs.Matrices.{AreWithin, IsMatrix}
use Rattle.yukawa_one_loop.specs.Parts.{coordinate_at}
use Rattle.yukawa_one_loop.proofs.LineMatrices.{within_two, plain_inside, conjugate_inside, plain_there, conjugate_there}
use Rattle.yukawa_one_loop.proofs.lines.pair_trace.Goals as goal

pub item-left-requires : goal.item-left-requires
item-left-requires c = conjugate_inside c.args.lines.now c.requires.lines c.args.first c.requires.first

pub item-right-requires : goal.item-right-requires
item-right-requires c = plain_inside c.args.lines.now c.requires.lines c.args.second c.requires.second

pub times-requires-clause-left_rank : goal.times-requires-clause-left_rank
times-requires-clause-left_rank c =
    (conjugate_there c.args.lines.now c.requires.lines c.args.first c.item-left.result.now c.item-left.ensures).entries.rank_is

pub times-requires-clause-right_rank : goal.times-requires-clause-right_rank
times-requires-clause-right_rank c =
    (plain_there c.args.lines.now c.requires.lines c.args.second c.item-right.result.now c.item-right.ensures).entries.rank_is

pub times-requires-clause-left : goal.times-requires-clause-left
times-requires-clause-left c =
    within_two c.item-left.result.now (conjugate_there c.args.lines.now c.requires.lines c.args.first c.item-left.result.now c.item-left.ensures).within

pub times-requires-clause-right : goal.times-requires-clause-right
times-requires-clause-right c =
    within_two c.item-right.result.now (plain_there c.args.lines.now c.requires.lines c.args.second c.item-right.result.now c.item-right.ensures).within

pub trace-requires : goal.trace-requires
trace-requires c =
    let model = c.args.lines.now.model.now in
    let left = conjugate_there c.args.lines.now c.requires.lines c.args.first c.item-left.result.now c.item-left.ensures in
    let right = plain_there c.args.lines.now c.requires.lines c.args.second c.item-right.result.now c.item-right.ensures in
    let A = conjugate model (coordinate_at model c.args.first) in
    let B = yukawa model (coordinate_at model c.args.second) in
    record { rank = (IfOk-at_ok (IsMatrix model (times model A B)) c.in_ok-both.was (c.times.ensures.value model A B c.requires.lines.links left.entries right.entries)).rank_is }

pub returns-clause-value : goal.returns-clause-value
returns-clause-value c =
    let model = c.args.lines.now.model.now in
    let left = conjugate_there c.args.lines.now c.requires.lines c.args.first c.item-left.result.now c.item-left.ensures in
    let right = plain_there c.args.lines.now c.requires.lines c.args.second c.item-right.result.now c.item-right.ensures in
    let A = conjugate model (coordinate_at model c.args.first) in
    let B = yukawa model (coordinate_at model c.args.second) in
    let both = IfOk-at_ok (IsMatrix model (times model A B)) c.in_ok-both.was (c.times.ensures.value model A B c.requires.lines.links left.entries right.entries) in
    c.trace.ensures.value model (times model A B) c.requires.lines.fermions both

pub returns-clause-within : goal.returns-clause-within
returns-clause-within c =
    let left = conjugate_there c.args.lines.now c.requires.lines c.args.first c.item-left.result.now c.item-left.ensures in
    let right = plain_there c.args.lines.now c.requires.lines c.args.second c.item-right.result.now c.item-right.ensures in
    c.trace.ensures.within (IfOk-at_ok (AreWithin 2) c.in_ok-both.was (c.times.ensures.within left.within right.within))

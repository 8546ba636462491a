use Rattle.std.proofs.Common.{◌≤◌, pos, sym, ap₂, ◌∙◌, arith}
use Rattle.std.proofs.lemmas.Bool.Decides.{nat_tests}
use Rattle.frac128.specs.Rational.{whole}
use Rattle.model_core.specs.Multiplet.{fermion_copies, doubled_index_sum}
use Rattle.anomaly_check.specs.Counts.{cubic_sum}
use Rattle.anomaly_check.proofs.AnswerLaws.{own_doublets, own_cubic}
use Rattle.anomaly_check.proofs.DenseTraces.{cubic_is, index_is}
use Rattle.anomaly_check.proofs.check.check_own.Goals as goal

pub returns-then-group-eq2 : goal.returns-then-group-eq2
returns-then-group-eq2 c =
    let model = c.args.model.now in
    let group = c.args.group.now in
    own_doublets model c.args.place group c.index_trace-trace.result c.check_trace.result c.if-group-eq2.true
    (c.index_trace-trace.ensures ∙ ap₂ (λ g f. whole (pos (doubled_index_sum fermion_copies g c.args.place group f))) c.as_slice-groups.ensures c.as_slice-fermions.ensures
    ∙ sym (index_is model c.requires.valid c.args.place group c.requires.group c.requires.special))
    c.check_trace.ensures

pub returns : goal.returns
returns c =
    let model = c.args.model.now in
    let group = c.args.group.now in
    let large : 3 ≤ group.n = grind (arith, nat_tests) in
    own_cubic model c.args.place group c.cubic_trace-trace.result c.check_trace-2.result c.if-group-eq2.false
    (c.cubic_trace-trace.ensures ∙ ap₂ (λ g f. whole (cubic_sum g c.args.place group f)) c.as_slice-groups.ensures c.as_slice-fermions.ensures
    ∙ sym (cubic_is model c.requires.valid c.args.place group c.requires.group large))
    c.check_trace-2.ensures

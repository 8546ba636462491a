use Rattle.std.proofs.Common.{ap, ◌∙◌}
use Rattle.model_reader.specs.Tables.{texts}
use Rattle.model_core.specs.TermRules.{has_small_sizes}
use Rattle.model_reader.proofs.TermLaws.{term_sized}
use Rattle.model_reader.proofs.TermValid.{read_valid}
use Rattle.model_reader.proofs.terms.sum_term.Goals as goal

pub checked_term-requires-clause-sized : goal.checked_term-requires-clause-sized
checked_term-requires-clause-sized c = ap has_small_sizes c.in_ok-term.ensures ∙ term_sized c.args.model.now c.args.coupling c.in_ok-monomials.monomials c.requires.valid

pub returns-clause-valid : goal.returns-clause-valid
returns-clause-valid c =
    read_valid c.args.model.now (texts c.args.flavour.now) c.args.text.now c.args.place c.args.sum.now c.args.coupling c.in_ok-monomials.monomials c.in_ok-term.term _
    c.requires.valid c.in_ok-term.ensures c.in_ok-monomials.ensures.1 c.requires.filled c.in_ok-checked_counts.ensures.walked
    c.in_ok-monomials.ensures.0 c.in_ok-checked_term.ensures.walked

pub returns-clause-sized : goal.returns-clause-sized
returns-clause-sized c = ap has_small_sizes c.in_ok-term.ensures ∙ term_sized c.args.model.now c.args.coupling c.in_ok-monomials.monomials c.requires.valid

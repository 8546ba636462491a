use Rattle.std.proofs.Common.{ap}
use Rattle.std.proofs.lemmas.Bool.{false≢true}
use Rattle.toml.specs.Errors.{IsMemory}
use Rattle.model_reader.specs.Parts.{members_or_fault}
use Rattle.model_reader.proofs.Documents.{document-found, document-refused}
use Rattle.model_reader.proofs.reader.document.Goals as goal

pub returns-in-Ok : goal.returns-in-Ok
returns-in-Ok c = ap members_or_fault (document-found _ _ c.in-Ok.ensures.ok.0 c.in-Ok.ensures.ok.1)

pub returns-else-is_memory : goal.returns-else-is_memory
returns-else-is_memory c =
    let other : ¬ IsMemory c.in-Err.error = λ memory. false≢true (c.if-is_memory.ensures.1 memory) in
    rw (c.refused.ensures, c.new.ensures) (ap members_or_fault (document-refused c.args.bytes.now (c.in-Err.ensures.refused other)))

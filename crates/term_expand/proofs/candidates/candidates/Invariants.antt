use Rattle.std.proofs.Common.{◌≡◌, ◌++◌, drop}
use Rattle.term_expand.specs.Candidates.{is_candidate, candidates_from}
use Rattle.term_expand.proofs.candidates.candidates.Given as goal

abbrev pub invariant-loop-place : goal.invariant-loop-place
invariant-loop-place l =
    l.found ++ candidates_from (is_candidate l.fields l.field l.conj l.generation) l.place (drop l.place l.components)
    ≡ candidates_from (is_candidate l.fields l.field l.conj l.generation) 0 l.components

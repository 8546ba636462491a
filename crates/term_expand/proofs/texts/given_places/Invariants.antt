use Rattle.std.proofs.Common.{◌≡◌, ◌++◌, drop}
use Rattle.term_expand.specs.Texts.{given_places}
use Rattle.term_expand.proofs.texts.given_places.Given as goal

-- the places so far, and the scalars that are left
abbrev pub invariant-loop-place : goal.invariant-loop-place
invariant-loop-place l = given_places l.given ≡ l.places ++ drop l.place-index l.given.scalars

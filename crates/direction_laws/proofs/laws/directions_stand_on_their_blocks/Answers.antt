use Rattle.direction_laws.proofs.Directions.{direction_bare, direction_zero}
use Rattle.direction_laws.proofs.laws.directions_stand_on_their_blocks.Goals as goal

pub returns-clause-component : goal.returns-clause-component
returns-clause-component c = λ model place direction valid found side places none. direction_zero model place direction valid found side places none

pub returns-clause-no_side : goal.returns-clause-no_side
returns-clause-no_side c = λ model place direction found. direction_bare model place direction found

-- A tensor on a grid.
use Rattle.std.specs.Prelude.{List, map}
use Rattle.beta_poly.specs.Grid.{Kind, Grid, IsWholeOnGrid}
use Rattle.sparse_tensor.specs.Tensor.{Tensor, entries_of}

-- a tensor is on a grid as a whole where the list of its values is
pub record IsTensorOnGrid (kinds : List Kind) (grid : Grid) (t : Tensor) : Type 0 where
  pub whole : IsWholeOnGrid kinds grid (map (λ e. e.1) (entries_of t))

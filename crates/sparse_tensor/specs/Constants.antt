-- Polynomials that are numbers.
use Rattle.std.specs.Prelude.{◌≡◌, length}
use Rattle.std.specs.List.{All}
use Rattle.beta_poly.specs.Polynomial.{Polynomial}
use Rattle.sparse_tensor.specs.Tensor.{Tensor, entries_of}

-- no term of the polynomial has a symbol
abbrev pub IsConstant : Polynomial → Type 0
IsConstant p = All (λ d. length d.0.0 ≡ 0) p.0

-- each value of the tensor is a number
abbrev pub AllConstant : Tensor → Type 0
AllConstant t = All (λ e. IsConstant e.1) (entries_of t)

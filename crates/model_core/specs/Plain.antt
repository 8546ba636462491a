-- Models of everyday size, whose beta functions are found in numbers of 128 bits.
use Rattle.std.specs.Prelude.{◌≡◌, ◌≤◌, ℤ, unsigned_abs}
use Rattle.std.specs.List.{All}
use Rattle.frac128.specs.Rational.{ℚ, ratio}
use Rattle.model_core.specs.declared.model.Model.{Model}

-- a multiple of 1/6 that is at most 10 in size
pub record IsPlainCharge (charge : ℚ) : Type 0 where
  pub sixths : ℤ
  pub is : charge ≡ ratio sixths 6
  pub small : unsigned_abs sixths ≤ 60

-- each field's charge is plain
pub record IsPlain (model : Model) : Type 0 where
  pub fermions : All (λ field. IsPlainCharge field.charge) model.fermions
  pub scalars : All (λ field. IsPlainCharge field.charge) model.scalars

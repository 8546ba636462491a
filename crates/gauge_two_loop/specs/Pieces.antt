-- The parts of a beta function at two loops: the terms with gauge couplings alone, and the trace of Yukawa matrices.
use Rattle.std.specs.Prelude.{◌≡◌, ◌<◌, ℕ, ◌==◌, if◌then◌else◌, List, [], ◌∷◌, length, get_or}
use Rattle.std.specs.List.{All, enumerate_from}
use Rattle.exact_algebra.specs.Sums.{sum}
use Rattle.frac128.specs.Rational.{ℚ, zero_ℚ, neg_ℚ, reciprocal}
use Rattle.beta_poly.specs.Exponents.{AllWithin}
use Rattle.beta_poly.specs.Monomial.{Monomial, power, times_monomial}
use Rattle.beta_poly.specs.Polynomial.{Polynomial, poly_ring, zero_poly, add_poly, mul_poly, scale_poly, conj_poly, coefficient_of, term as poly_term}
use Rattle.sparse_tensor.specs.Tensor.{Tensor, rank_of, entries_of, value}
use Rattle.model_core.specs.declared.group.Group.{Group}
use Rattle.model_core.specs.declared.model.Model.{Model}
use Rattle.model_core.specs.GaugeBeta.{generator_count}
use Rattle.model_core.specs.GaugeTwoLoop.{gauge_symbol, own_number, mixed_number}
use Rattle.gauge_two_loop.specs.Refused.{IsShare}

-- ---- gauge couplings

-- a number times g_k^3 g_l^2
abbrev pub gauge_piece : ℕ → ℕ → ℚ → Polynomial
gauge_piece k l number = poly_term (times_monomial (power (gauge_symbol k) 3) (power (gauge_symbol l) 2)) number

-- the sum over groups of their terms
abbrev pub mixed_pieces : Model → ℕ × Group → List (ℕ × Group) → Polynomial
mixed_pieces model k groups = sum poly_ring.semiring groups (λ l. gauge_piece k.0 l.0 (mixed_number model k l))

-- all terms with gauge couplings alone
abbrev pub gauge_part : Model → ℕ × Group → Polynomial
gauge_part model k =
    add_poly (gauge_piece k.0 k.0 (neg_ℚ (own_number model k))) (mixed_pieces model k (enumerate_from 0 model.groups))

-- each coefficient is a small multiple of 1/129600
abbrev pub AllShares : ℕ → Polynomial → Type 0
AllShares bound p = (m : Monomial) → IsShare 129600 bound (coefficient_of p m)

-- ---- Yukawa couplings

-- A tensor of three legs whose values have no symbol twice, and whose first leg has this many places.
pub record IsYukawa (fermions : ℕ) (t : Tensor) : Type 0 where
  pub rank : rank_of t ≡ 3
  pub within : (key : List ℕ) → length key ≡ 3 → AllWithin 1 (value t key)
  pub inside : All (λ e. get_or e.0 0 0 < fermions) (entries_of t)

-- What an entry at (i, j, b) adds to the trace: the Casimir at i times the value times the conjugate of that at (j, i, b). The
-- dummy adds nothing.
abbrev pub share_at : List ℚ → ℕ → Tensor → ℕ → ℕ → ℕ → Polynomial → Polynomial
share_at casimirs dummy yukawa i j b found =
    if b == dummy then zero_poly
    else scale_poly (get_or casimirs i zero_ℚ) (mul_poly found (conj_poly (value yukawa (j ∷ i ∷ b ∷ []))))

abbrev pub entry_share : List ℚ → ℕ → Tensor → List ℕ × Polynomial → Polynomial
entry_share casimirs dummy yukawa e =
    share_at casimirs dummy yukawa (get_or e.0 0 0) (get_or e.0 1 0) (get_or e.0 2 0) e.1

-- the sum over entries
abbrev pub shares : List ℚ → ℕ → Tensor → List (List ℕ × Polynomial) → Polynomial
shares casimirs dummy yukawa entries = sum poly_ring.semiring entries (entry_share casimirs dummy yukawa)

-- minus g_k^3 over the number of generators
abbrev pub minus_cube : ℕ × Group → Polynomial
minus_cube k = poly_term (power (gauge_symbol k.0) 3) (neg_ℚ (reciprocal (generator_count k.1)))

-- the part of a beta function that the trace gives
abbrev pub yukawa_part : ℕ × Group → Polynomial → Polynomial
yukawa_part k trace = mul_poly (minus_cube k) trace

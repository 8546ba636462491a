-- The scan: the first row that fails, the first entry of a tensor whose key the block doesn't have, and the earlier of both.
use Rattle.std.specs.Prelude.{◌≡◌, ℕ, zero, suc, List, [], ◌∷◌, Option, None, Some, slice_get}
use Rattle.std.proofs.Common.{Ordering, Less, Equal, Greater}
use Rattle.exact_algebra.specs.TensorContraction.{places_cmp}
use Rattle.frac128.specs.Rational.{ℚ}
use Rattle.beta_poly.specs.Polynomial.{Polynomial}
use Rattle.sparse_tensor.specs.Tensor.{Entries}
use Rattle.span_solver.specs.Block.{IsIn}
use Rattle.span_solver.specs.Combine.{Each}

-- rows with the values at their keys
abbrev pub valued : (List ℕ → Polynomial) → List (List ℕ) → List (List ℚ) → List (List ℚ × Polynomial)
valued at [] rows = []
valued at (key ∷ keys) [] = []
valued at (key ∷ keys) (row ∷ rows) = (row, at key) ∷ valued at keys rows

-- each entry's key stands in the list
abbrev pub AreKnown : List (List ℕ) → Entries → Type 0
AreKnown keys es = Each (λ e. IsIn e.0 keys) es

-- the entry at a place is the first whose key doesn't stand in the list
abbrev pub IsFirstStray : List (List ℕ) → Entries → ℕ → Type 0
IsFirstStray keys [] place = ⊥
IsFirstStray keys (e ∷ es) zero = ¬ IsIn e.0 keys
IsFirstStray keys (e ∷ es) (suc place) = IsIn e.0 keys × IsFirstStray keys es place

-- the first of two keys where it comes before the second, and else the second
abbrev pub earlier : Ordering → List ℕ → List ℕ → List ℕ
earlier Less first second = first
earlier Equal first second = second
earlier Greater first second = second

-- the key of a failing row where no entry is a stray, of a stray where no row fails, and else the earlier of the two
abbrev pub IsOpenKey : List (List ℕ) → Entries → Option ℕ → Option ℕ → List ℕ → Type 0
IsOpenKey keys es None None key = ⊥
IsOpenKey keys es (Some row) None key = slice_get keys row ≡ Some key
IsOpenKey keys es None (Some stray) key = (p : Polynomial) × (slice_get es stray ≡ Some (key, p))
IsOpenKey keys es (Some row) (Some stray) key = (own : List ℕ) × (other : List ℕ) × (p : Polynomial) × (slice_get keys row ≡ Some own) × (slice_get es stray ≡ Some (other, p)) × (key ≡ earlier (places_cmp other own) other own)

-- An open key is unique, and excludes coordinates.
use Rattle.std.proofs.Common.{◌≡◌, ℕ, List, Ordering, Less, Equal, Greater, refl}
use Rattle.exact_algebra.specs.Formal.{greater_less}
use Rattle.exact_algebra.specs.TensorContraction.{places_cmp, places_keys, places_equal}
use Rattle.beta_poly.specs.Polynomial.{Polynomial}
use Rattle.span_solver.specs.Coordinate.{AreCoordinates, AreCoordinatesBefore, IsOpenAt}
use Rattle.span_solver.specs.Dependence.{Numbers}
use Rattle.span_solver.specs.Laws.{OpenKeyIsUnique, OpenKeyExcludesCoordinates}

module _ (directions : List Numbers) (tensor : List ℕ → Polynomial) where
  -- coordinates before a key are such before an earlier one
  earlier : (first second : List ℕ) (coordinates : List Polynomial) → places_cmp first second ≡ Less → AreCoordinatesBefore directions tensor second coordinates → AreCoordinatesBefore directions tensor first coordinates
  earlier first second coordinates less before = record {
    many = before.many;
    adds = λ key under. before.adds key (places_keys.total.trans key first second under less);
  }

  -- of two open keys none comes first
  none_first : (first second : List ℕ) → IsOpenAt directions tensor first → IsOpenAt directions tensor second → places_cmp first second ≡ Less → ⊥
  none_first first second a b less = a.none b.coordinates (earlier first second b.coordinates less b.before) (b.before.adds first less)

  same_by : (first second : List ℕ) (o : Ordering) → places_cmp first second ≡ o → IsOpenAt directions tensor first → IsOpenAt directions tensor second → first ≡ second
  same_by first second Less is a b = absurd (none_first first second a b is)
  same_by first second Equal is a b = places_equal first second is
  same_by first second Greater is a b = absurd (none_first second first b a (greater_less places_keys first second is))

  excluded : (key : List ℕ) (coordinates : List Polynomial) → IsOpenAt directions tensor key → AreCoordinates directions tensor coordinates → ⊥
  excluded key coordinates open_key all = open_key.none coordinates (record { many = all.many; adds = λ other under. all.adds other }) (all.adds key)

pub one_open_key : OpenKeyIsUnique
one_open_key directions tensor first second a b = same_by directions tensor first second (places_cmp first second) refl a b

pub no_coordinates : OpenKeyExcludesCoordinates
no_coordinates directions tensor key coordinates open_key all = excluded directions tensor key coordinates open_key all

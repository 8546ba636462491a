-- What projections, contractions and symmetrisations collect before it is gathered.
use Rattle.std.specs.Prelude.{◌≡◌, ◌==◌, ◌<◌, ⊤, ℕ, List, [], ◌∷◌, length, ◌++◌, map, get_or, set, IsPermutation}
use Rattle.std.specs.List.{filter, flat_map, remove}
use Rattle.exact_algebra.specs.Sums.{sum}
use Rattle.beta_poly.specs.Polynomial.{Polynomial, poly_ring, add_poly, mul_poly, scale_poly, ProductsFit}
use Rattle.sparse_tensor.specs.declared.links.Link.{Link}
use Rattle.sparse_tensor.specs.Tensor.{Entries}
use Rattle.sparse_tensor.specs.Operations.{places_at, put_back}

-- the sum of a value and of more values
abbrev pub run_value : Polynomial → List Polynomial → Polynomial
run_value first more = add_poly first (sum poly_ring.semiring more (λ q. q))

-- the links from a place
abbrev pub links_from : ℕ → List Link → List Link
links_from place links = filter (λ l. l.from == place) links

-- an entry moved along a link at a leg
abbrev pub moved : ℕ → List ℕ × Polynomial → Link → List ℕ × Polynomial
moved leg e l = (set e.0 leg l.to, scale_poly l.value e.1)

-- each entry moved along each link from its place at the leg
abbrev pub all_moved : ℕ → List Link → Entries → Entries
all_moved leg links es = flat_map (λ e. map (moved leg e) (links_from (get_or e.0 leg 0) links)) es

-- the second entry has the leg, and the products of the two values fit
abbrev pub CanMeet : ℕ → List ℕ × Polynomial → List ℕ × Polynomial → Type 0
CanMeet q a b = (q < length b.0) × ProductsFit a.1 b.1

-- two entries joined by a link: the other legs of the first, then those of the second
abbrev pub met : ℕ → ℕ → List ℕ × Polynomial → Link → List ℕ × Polynomial → List ℕ × Polynomial
met p q a l b = (remove a.0 p ++ remove b.0 q, scale_poly l.value (mul_poly a.1 b.1))

-- the entries with a place at a leg
abbrev pub with_place : ℕ → ℕ → Entries → Entries
with_place leg place es = filter (λ e. get_or e.0 leg 0 == place) es

-- an entry joined to each entry that a link from its place goes to
abbrev pub met_along : ℕ → ℕ → List Link → Entries → List ℕ × Polynomial → Entries
met_along p q links bs a = flat_map (λ l. map (met p q a l) (with_place q l.to bs)) links

-- each entry joined along each link from its place
abbrev pub all_met : ℕ → ℕ → List Link → Entries → Entries → Entries
all_met p q links bs es = flat_map (λ a. met_along p q (links_from (get_or a.0 p 0) links) bs a) es

-- an entry with the places that it has at legs put back in another order of the legs
abbrev pub exchanged : List ℕ → List ℕ × Polynomial → List ℕ → List ℕ × Polynomial
exchanged legs e order = (put_back e.0 legs (places_at order e.0), e.1)

-- each entry with the places at legs in each of some orders of the legs
abbrev pub all_exchanged : List ℕ → List (List ℕ) → Entries → Entries
all_exchanged legs all es = flat_map (λ e. map (exchanged legs e) all) es

-- an entry with the places that it has at legs in another order of the legs
pub record IsFolded (legs : List ℕ) (e f : List ℕ × Polynomial) : Type 0 where
  pub order : List ℕ
  pub legs_are : IsPermutation legs order
  pub is : f ≡ exchanged legs e order

-- each entry so
abbrev pub AreFolded : List ℕ → Entries → Entries → Type 0
AreFolded legs [] [] = ⊤
AreFolded legs (e ∷ es) (f ∷ fs) = IsFolded legs e f × AreFolded legs es fs
AreFolded legs _ _ = ⊥

-- Links between places, and what is done with functions from keys to polynomials along them.
use Rattle.std.specs.Prelude.{◌≡◌, ◌<◌, ◌-◌, ℕ, List, [], ◌∷◌, length, map, get_or, set, take, drop}
use Rattle.std.specs.List.{insert}
use Rattle.std.specs.Ordering.{nat_cmp, on, then_cmp}
use Rattle.std.proofs.Common.{Ordering, Less}
use Rattle.exact_algebra.specs.Sums.{sum, where_equal}
use Rattle.exact_algebra.specs.Orders.{sum_orders}
use Rattle.exact_algebra.specs.TensorContraction.{places_keys}
use Rattle.beta_poly.specs.Polynomial.{Polynomial, poly_ring, mul_poly, scale_poly}
use Rattle.sparse_tensor.specs.declared.links.Link.{Link}
use Rattle.sparse_tensor.specs.declared.values.Value.{Value}
use Rattle.sparse_tensor.specs.Tensor.{Entries}

-- functions from keys to polynomials, as tensors have them
abbrev pub Values : Type 0
Values = List ℕ → Polynomial

-- links by the place that they come from, then by the one that they go to
abbrev pub link_cmp : Link → Link → Ordering
link_cmp = then_cmp (on (λ l. l.from) nat_cmp) (on (λ l. l.to) nat_cmp)

-- each link comes before the ones behind it
abbrev pub IsLinks : List Link → Type 0
IsLinks ls = (i j : ℕ) (d : Link) → i < j → j < length ls → link_cmp (get_or ls i d) (get_or ls j d) ≡ Less

-- the link comes after the last one
abbrev pub IsAfter : List Link → Link → Type 0
IsAfter ls l = 0 < length ls → link_cmp (get_or ls (length ls - 1) l) l ≡ Less

-- a value with its key
abbrev pub entry : Value → List ℕ × Polynomial
entry v = (v.key, v.value)

-- the sum of the values that have the key
unfoldable pub gathered_at : Entries → Values
gathered_at es key = sum poly_ring.semiring es (λ e. where_equal poly_ring.semiring (places_keys.cmp key e.0) e.1)

-- leg p of f joined to leg q of g: at the other legs ks of f and the other legs ls of g, the sum over the links
unfoldable pub joined : ℕ → ℕ → List Link → Values → Values → List ℕ → List ℕ → Polynomial
joined p q links f g ks ls =
    sum poly_ring.semiring links (λ l. scale_poly l.value (mul_poly (f (insert ks p l.from)) (g (insert ls q l.to))))

-- the same at a key whose first n places are the other legs of f
abbrev pub contracted_at : ℕ → ℕ → ℕ → List Link → Values → Values → Values
contracted_at n p q links f g key = joined p q links f g (take n key) (drop n key)

-- f projected on a leg: at a key with the place x there, the sum over the links to x
unfoldable pub projected_at : ℕ → List Link → Values → Values
projected_at leg links f key =
    sum poly_ring.semiring links (λ l. where_equal poly_ring.semiring (nat_cmp l.to (get_or key leg 0)) (scale_poly l.value (f (set key leg l.from))))

-- the places of a key at legs
abbrev pub places_at : List ℕ → List ℕ → List ℕ
places_at legs key = map (λ leg. get_or key leg 0) legs

-- the key with other places at the legs
unfoldable pub put_back : List ℕ → List ℕ → List ℕ → List ℕ
put_back key [] ps = key
put_back key (leg ∷ legs) [] = key
put_back key (leg ∷ legs) (p ∷ ps) = put_back (set key leg p) legs ps

-- f symmetrised over legs: the sum over all orders of the places at the legs, without a divisor
unfoldable pub symmetrised_at : List ℕ → Values → Values
symmetrised_at legs f key =
    sum_orders poly_ring.semiring (places_at legs key) (λ ps. f (put_back key legs ps))

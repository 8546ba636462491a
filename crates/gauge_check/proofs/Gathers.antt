-- Sums of values: those on a side of a block, and those that a generator gives leg by leg.
use Rattle.std.specs.Prelude.{◌≡◌, ◌≤◌, ◌+◌, ◌==◌, if◌then◌else◌, ℕ, zero, suc, Bool, true, false, List, [], ◌∷◌, ◌++◌, map, length, slice_get, Some}
use Rattle.std.specs.List.{All, flat_map, AllByRecursion}
use Rattle.std.specs.Ordering.{nat_cmp}
use Rattle.std.proofs.Common.{take, refl, sym, ap, ap₂, subst, ◌∙◌, arith}
use Rattle.std.proofs.lemmas.Cmp.{nat_cmp_total, tied_itself}
use Rattle.std.proofs.lemmas.List.{append_assoc, append-nil, take_more, take_all}
use Rattle.std.proofs.lemmas.List.Concat.{flat_map-append}
use Rattle.std.proofs.lemmas.List.Elements.{All-append, All-nil, All-from_recursion}
use Rattle.std.proofs.lemmas.Option.{slice_get_within, get_or_from_slice_get}
use Rattle.exact_algebra.specs.Sums.{sum-nil, sum-one, where_equal, where_equal-apart, nat_equal}
use Rattle.exact_algebra.specs.Kronecker.{where_then}
use Rattle.exact_algebra.specs.Formal.{coefficient-cons, coefficient-nil}
use Rattle.exact_algebra.specs.TensorContraction.{places_keys, places_cmp}
use Rattle.beta_poly.specs.Polynomial.{Polynomial, poly_ring, add_poly}
use Rattle.sparse_tensor.specs.declared.links.Link.{Link}
use Rattle.sparse_tensor.specs.declared.values.Value.{Value}
use Rattle.sparse_tensor.specs.Tensor.{Tensor, Entries, HasRank, HasValues, poly_zero_test, rank_of, entries_of, value, value_in}
use Rattle.sparse_tensor.specs.Operations.{entry, gathered_at, projected_at}
use Rattle.sparse_tensor.proofs.Parts.{other_values, value_gathered_at}
use Rattle.term_expand.proofs.Sides.{gathered-append}
use Rattle.gauge_check.specs.Actions.{acted_along, on_side, on_both, side_value, side_values, value_of}

-- ---- loops that add values

-- the values of one item more
pub flat_step : {A B : Type 0} (f : A → List B) (xs : List A) (i : ℕ) (x : A) (old now new : List B) → slice_get xs i ≡ Some x → now ≡ old ++ flat_map f (take i xs) → new ≡ now ++ f x → new ≡ old ++ flat_map f (take (i + 1) xs)
flat_step f xs i x old now new found so_far next =
    let more : take (i + 1) xs ≡ take i xs ++ x ∷ [] = take_more xs i x (slice_get_within xs i x found) ∙ ap (λ d. take i xs ++ d ∷ []) (get_or_from_slice_get xs i x x found) in
    next ∙ ap (λ l. l ++ f x) so_far ∙ append_assoc old (flat_map f (take i xs)) (f x)
    ∙ ap (λ l. old ++ l) (ap (λ l. flat_map f (take i xs) ++ l) (sym (append-nil (f x))) ∙ sym (flat_map-append f (take i xs) (x ∷ [])) ∙ ap (flat_map f) (sym more))

pub flat_end : {A B : Type 0} (f : A → List B) (xs : List A) (i : ℕ) (old now : List B) → length xs ≤ i → now ≡ old ++ flat_map f (take i xs) → now ≡ old ++ flat_map f xs
flat_end f xs i old now over so_far = so_far ∙ ap (λ ys. old ++ flat_map f ys) (take_all i xs over)

pub mapped_end : {A B : Type 0} (f : A → B) (xs : List A) (i : ℕ) (old now : List B) → length xs ≤ i → now ≡ old ++ map f (take i xs) → now ≡ old ++ map f xs
mapped_end f xs i old now over so_far = so_far ∙ ap (λ ys. old ++ map f ys) (take_all i xs over)

-- ---- keys

same_some : {A : Type 0} (x y : A) → Some x ≡ Some y → x ≡ y
same_some x y e = cc

-- each key has the tensor's rank
pub key_rank : (rank : ℕ) (es : Entries) (i : ℕ) (e : List ℕ × Polynomial) → HasRank rank es → slice_get es i ≡ Some e → length e.0 ≡ rank
key_rank rank [] i e keys found = let never : ⊥ = cc in absurd never
key_rank rank (d ∷ es) zero e keys found = ap (λ x. length x.0) (sym (same_some d e found)) ∙ keys.0
key_rank rank (d ∷ es) (suc i) e keys found = key_rank rank es i e keys.1 found

pub key_filled : (t : Tensor) (i : ℕ) (key : List ℕ) (p : Polynomial) → slice_get (entries_of t) i ≡ Some (key, p) → 1 ≤ length key
key_filled t i key p found = let long = key_rank (rank_of t) (entries_of t) i (key, p) t.1.keys found in let low = t.1.low in omega (arith, long, low)

-- the value's key has so many places
abbrev pub HasPlaces : ℕ → Value → Type 0
HasPlaces rank v = length v.key ≡ rank

-- ---- the values on a side

-- the entry's own value, where it stands on the side
side_value_is : (b : Bool) (side : ℕ) (x : ℕ) (rest key : List ℕ) (p : Polynomial) → (x == side) ≡ b
    → gathered_at (map entry (if b then record { key = rest; value = p } ∷ [] else [])) key ≡ where_equal poly_ring.semiring (nat_cmp side x) (where_equal poly_ring.semiring (places_cmp key rest) p)
unfolding gathered_at
side_value_is true side x rest key p h =
    let same : side ≡ x = grind arith in
    ◌∙◌ {b = where_equal poly_ring.semiring (places_cmp key rest) p} (sum-one poly_ring.semiring (rest, p) (λ e. where_equal poly_ring.semiring (places_cmp key e.0) e.1))
    (ap (λ o. where_equal poly_ring.semiring o (where_equal poly_ring.semiring (places_cmp key rest) p)) (sym (ap (λ y. nat_cmp y x) same ∙ tied_itself nat_cmp_total x)))
side_value_is false side x rest key p h =
    sum-nil poly_ring.semiring (λ e. where_equal poly_ring.semiring (places_cmp key e.0) e.1)
    ∙ sym (where_equal-apart poly_ring.semiring (nat_cmp side x) (where_equal poly_ring.semiring (places_cmp key rest) p) (λ e. other_number x side h (sym (nat_equal side x e))))
  where
    other_number : (a b : ℕ) → (a == b) ≡ false → a ≡ b → ⊥
    other_number a b h e = grind arith

-- the sum of those on a side is the value there
side_sum : (side rank : ℕ) (es : Entries) (key : List ℕ) → HasRank (suc rank) es → gathered_at (map entry (flat_map (side_value side) es)) key ≡ value_in es (side ∷ key)
unfolding gathered_at
side_sum side rank [] key keys =
    sum-nil poly_ring.semiring (λ e. where_equal poly_ring.semiring (places_cmp key e.0) e.1) ∙ sym (coefficient-nil places_keys poly_ring.semiring poly_zero_test (side ∷ key))
side_sum side rank (([], p) ∷ es) key keys = let long = keys.0 in absurd (omega (arith, long))
side_sum side rank ((x ∷ rest, p) ∷ es) key keys =
    gathered-append (side_value side (x ∷ rest, p)) (flat_map (side_value side) es) key
    ∙ ap₂ add_poly
    (side_value_is (x == side) side x rest key p refl ∙ sym (where_then poly_ring.semiring (nat_cmp side x) (places_cmp key rest) p))
    (side_sum side rank es key keys.1)
    ∙ sym (coefficient-cons places_keys poly_ring.semiring poly_zero_test (x ∷ rest, p) es (side ∷ key))

side_key : (b : Bool) (rank : ℕ) (rest : List ℕ) (p : Polynomial) → length rest ≡ rank → AllByRecursion (HasPlaces rank) (if b then record { key = rest; value = p } ∷ [] else [])
side_key true rank rest p long = (long, tt)
side_key false rank rest p long = tt

each_append : {A : Type 0} (P : A → Type 0) (xs ys : List A) → AllByRecursion P xs → AllByRecursion P ys → AllByRecursion P (xs ++ ys)
each_append P [] ys first second = second
each_append P (x ∷ xs) ys first second = (first.0, each_append P xs ys first.1 second)

side_keys : (side rank : ℕ) (es : Entries) → HasRank (suc rank) es → AllByRecursion (HasPlaces rank) (flat_map (side_value side) es)
side_keys side rank [] keys = tt
side_keys side rank (([], p) ∷ es) keys = let long = keys.0 in absurd (omega (arith, long))
side_keys side rank ((x ∷ rest, p) ∷ es) keys =
    let long : length rest ≡ rank = let all = keys.0 in omega (arith, all) in
    each_append (HasPlaces rank) (side_value side (x ∷ rest, p)) (flat_map (side_value side) es) (side_key (x == side) rank rest p long) (side_keys side rank es keys.1)

module _ (t : Tensor) (rank : ℕ) (ranked : suc rank ≡ rank_of t) where
  keys_are : HasRank (suc rank) (entries_of t)
  keys_are = subst (λ n. HasRank n (entries_of t)) (sym ranked) t.1.keys

  -- the keys of one side's values, and of both sides'
  pub one_side_keys : (side : ℕ) (vs : List Value) → vs ≡ side_values side t → All (HasPlaces rank) vs
  one_side_keys side vs is = subst (All (HasPlaces rank)) (sym is) (All-from_recursion (HasPlaces rank) (side_values side t) (side_keys side rank (entries_of t) keys_are))

  pub both_side_keys : (vs : List Value) → vs ≡ side_values 0 t ++ side_values 1 t → All (HasPlaces rank) vs
  both_side_keys vs is =
      subst (All (HasPlaces rank)) (sym is)
      (All-append (HasPlaces rank) (side_values 0 t) (side_values 1 t) (one_side_keys 0 (side_values 0 t) refl) (one_side_keys 1 (side_values 1 t) refl))

  module _ (vs : List Value) (gathered : ℕ) (found : Tensor) (same : gathered ≡ rank) (has : HasValues gathered (gathered_at (map entry vs)) found) where
    -- the part of a tensor on a side
    pub has_side : (side : ℕ) → vs ≡ side_values side t → HasValues rank (on_side side (value t)) found
    has_side side is =
        other_values gathered rank (gathered_at (map entry vs)) (on_side side (value t)) found same
        (λ key l. ap (λ ws. gathered_at (map entry ws) key) is ∙ side_sum side rank (entries_of t) key keys_are) has

    -- both sides added
    pub has_both : vs ≡ side_values 0 t ++ side_values 1 t → HasValues rank (on_both (value t)) found
    has_both is =
        other_values gathered rank (gathered_at (map entry vs)) (on_both (value t)) found same
        (λ key l. ap (λ ws. gathered_at (map entry ws) key) is ∙ gathered-append (side_values 0 t) (side_values 1 t) key
        ∙ ap₂ add_poly (side_sum 0 rank (entries_of t) key keys_are) (side_sum 1 rank (entries_of t) key keys_are)) has

-- ---- the entries of tensors

own_entries : (es : Entries) → map entry (map value_of es) ≡ es
own_entries [] = refl
own_entries (e ∷ es) = ap (λ ds. e ∷ ds) (own_entries es)

own_keys : (rank : ℕ) (es : Entries) → HasRank rank es → AllByRecursion (HasPlaces rank) (map value_of es)
own_keys rank [] keys = tt
own_keys rank (e ∷ es) keys = (keys.0, own_keys rank es keys.1)

-- the values of a tensor's entries are its own
pub own_values : (t : Tensor) (key : List ℕ) → gathered_at (map entry (map value_of (entries_of t))) key ≡ value t key
own_values t key = ap (λ es. gathered_at es key) (own_entries (entries_of t)) ∙ sym (value_gathered_at (entries_of t) key)

pub own_value_keys : (t : Tensor) → All (HasPlaces (rank_of t)) (map value_of (entries_of t))
own_value_keys t = All-from_recursion (HasPlaces (rank_of t)) (map value_of (entries_of t)) (own_keys (rank_of t) (entries_of t) t.1.keys)

-- ---- what a generator gives, leg by leg

-- the values of the first legs
pub record AreActed (links : ℕ → List Link) (part : Tensor) (legs : ℕ) (vs : List Value) : Type 0 where
  pub keys : All (HasPlaces (rank_of part)) vs
  pub sums : (key : List ℕ) → length key ≡ rank_of part → gathered_at (map entry vs) key ≡ acted_along links legs (value part) key

pub acted_none : (links : ℕ → List Link) (part : Tensor) (vs : List Value) → vs ≡ [] → AreActed links part 0 vs
unfolding acted_along gathered_at
acted_none links part vs is = record {
  keys = subst (All (HasPlaces (rank_of part))) (sym is) (All-nil (HasPlaces (rank_of part)));
  sums = λ key l. ap (λ ws. gathered_at (map entry ws) key) is ∙ sum-nil poly_ring.semiring (λ e. where_equal poly_ring.semiring (places_cmp key e.0) e.1);
}

-- one leg more
pub acted_step : (links : ℕ → List Link) (part : Tensor) (leg : ℕ) (along : List Link) (moved : Tensor) (now new : List Value) → along ≡ links leg → AreActed links part leg now → HasValues (rank_of part) (projected_at leg along (value part)) moved
    → new ≡ now ++ map value_of (entries_of moved) → AreActed links part (leg + 1) new
unfolding acted_along
acted_step links part leg along moved now new are so_far has next =
    let one_more : leg + 1 ≡ suc leg = omega arith in
    let more = map value_of (entries_of moved) in
    record {
      keys =
          subst (All (HasPlaces (rank_of part))) (sym next)
          (All-append (HasPlaces (rank_of part)) now more so_far.keys (subst (λ n. All (HasPlaces n) more) has.rank_is (own_value_keys moved)));
      sums = λ key l.
          ap (λ ws. gathered_at (map entry ws) key) next ∙ gathered-append now more key
          ∙ ap₂ add_poly (so_far.sums key l) (own_values moved key ∙ has.value_is key l ∙ ap (λ ls. projected_at leg ls (value part) key) are)
          ∙ ap (λ n. acted_along links n (value part) key) (sym one_more);
    }

-- all legs
pub has_acted : (links : ℕ → List Link) (part : Tensor) (legs rank : ℕ) (vs : List Value) (found : Tensor) → legs ≡ rank_of part → rank ≡ rank_of part → AreActed links part legs vs → HasValues rank (gathered_at (map entry vs)) found
    → HasValues (rank_of part) (acted_along links (rank_of part) (value part)) found
has_acted links part legs rank vs found all ranked are has =
    other_values rank (rank_of part) (gathered_at (map entry vs)) (acted_along links (rank_of part) (value part)) found ranked
    (λ key l. are.sums key l ∙ ap (λ n. acted_along links n (value part) key) all) has

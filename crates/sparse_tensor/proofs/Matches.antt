-- How often the orders of one list come to another: as often as the other way round.
use Rattle.std.specs.Prelude.{◌≡◌, ◌⊎◌, ℕ, List, [], ◌∷◌, map}
use Rattle.std.specs.List.{AllByRecursion}
use Rattle.std.specs.Ordering.{nat_cmp}
use Rattle.std.proofs.Common.{refl, sym, ap, ap₂, ◌∙◌, subst, inl, inr, Ordering, Less, Equal, Greater}
use mathlib.Core.Path.{fun_ext}
use Rattle.exact_algebra.specs.Ring.{Semiring, additive, zero_add, add_left_comm}
use Rattle.exact_algebra.specs.Sums.{sum, sum-nil, sum-cons, sum-map, sum-same_on, sum-add, sum-swap, where_equal, where_equal-apart, nat_equal}
use Rattle.exact_algebra.specs.Kronecker.{where_then, where_add, where_comm, sum-where}
use Rattle.exact_algebra.specs.Orders.{Rearranged, Rearranged-sym, orders, orders-rearranged, picks, sum_orders, sum_orders-picks, sum_orders-rearranged, total-rearranged}
use Rattle.exact_algebra.specs.Orders.Rearranged.{same, keep, swap, then}
use Rattle.exact_algebra.specs.TensorContraction.{places_cmp, places_equal}
use Rattle.sparse_tensor.proofs.Deltas.{place_same}

-- each pick with the rest has the items of the list
picked : (xs : List ℕ) → AllByRecursion (λ (p : ℕ × List ℕ). Rearranged (p.0 ∷ p.1) xs) (picks xs)
unfolding picks
picked [] = tt
picked (x ∷ xs) = (same, behind (picks xs) (picked xs))
  where
    behind : (ps : List (ℕ × List ℕ)) → AllByRecursion (λ (p : ℕ × List ℕ). Rearranged (p.0 ∷ p.1) xs) ps → AllByRecursion (λ (p : ℕ × List ℕ). Rearranged (p.0 ∷ p.1) (x ∷ xs)) (map (λ p. (p.0, x ∷ p.1)) ps)
    behind [] h = tt
    behind (p ∷ ps) h = (then swap (keep h.0), behind ps h.1)

module _ (R : Semiring) (c : R.carrier) where
  open R use {carrier as C, zero as 𝟘, add as ◌⊕◌}

  infixl 6 ◌⊕◌
  -- c as often as an order of u comes to v
  abbrev pub matches : List ℕ → List ℕ → C
  matches u v = sum_orders R u (λ w. where_equal R (places_cmp v w) c)

  matches-rearranged : (u v x : List ℕ) → Rearranged u v → matches u x ≡ matches v x
  matches-rearranged u v x r = sum_orders-rearranged R r (λ w. where_equal R (places_cmp x w) c)

  -- c d as often as x stands in u
  abbrev often : ℕ → List ℕ → C → C
  often x u d = sum R u (λ y. where_equal R (nat_cmp x y) d)

  first_item : (x y : ℕ) (u w : List ℕ) → sum_orders R w (λ v. where_equal R (places_cmp (x ∷ u) (y ∷ v)) c) ≡ where_equal R (nat_cmp x y) (matches w u)
  first_item x y u w =
      ap (sum R (orders w)) (fun_ext (λ v. where_then R (nat_cmp x y) (places_cmp u v) c))
      ∙ sum-where R (nat_cmp x y) (orders w) (λ v. where_equal R (places_cmp u v) c)

  -- an item that is x leaves the same items
  left_at : (o : Ordering) (x : ℕ) (u : List ℕ) (p : ℕ × List ℕ) → nat_cmp x p.0 ≡ o → Rearranged (p.0 ∷ p.1) u → where_equal R o (matches (x ∷ p.1) u) ≡ where_equal R o (matches u u)
  left_at Less x u p h r = refl
  left_at Greater x u p h r = refl
  left_at Equal x u p h r = matches-rearranged (x ∷ p.1) u u (subst (λ y. Rearranged (y ∷ p.1) u) (sym (nat_equal x p.0 h)) r)

  firsts : (x : ℕ) (u : List ℕ) (d : C) → sum R (picks u) (λ p. where_equal R (nat_cmp x p.0) d) ≡ often x u d
  unfolding picks
  firsts x [] d = sum-nil R (λ (p : ℕ × List ℕ). where_equal R (nat_cmp x p.0) d) ∙ sym (sum-nil R (λ (y : ℕ). where_equal R (nat_cmp x y) d))
  firsts x (y ∷ ys) d =
      sum-cons R (y, ys) (map (λ p. (p.0, y ∷ p.1)) (picks ys)) (λ p. where_equal R (nat_cmp x p.0) d)
      ∙ ap (λ s. where_equal R (nat_cmp x y) d ⊕ s) (sum-map R (λ (p : ℕ × List ℕ). (p.0, y ∷ p.1)) (picks ys) (λ p. where_equal R (nat_cmp x p.0) d) ∙ firsts x ys d)
      ∙ sym (sum-cons R y ys (λ y. where_equal R (nat_cmp x y) d))

  -- one item more: once for each item that it is
  matches-cons : (x : ℕ) (u : List ℕ) → matches (x ∷ u) (x ∷ u) ≡ matches u u ⊕ often x u (matches u u)
  unfolding picks
  matches-cons x u =
      sum_orders-picks R x u (λ w. where_equal R (places_cmp (x ∷ u) w) c)
      ∙ ap (sum R (picks (x ∷ u))) (fun_ext (λ p. first_item x p.0 u p.1))
      ∙ sum-cons R (x, u) (map (λ p. (p.0, x ∷ p.1)) (picks u)) (λ p. where_equal R (nat_cmp x p.0) (matches p.1 u))
      ∙ ap₂ ◌⊕◌ (ap (λ o. where_equal R o (matches u u)) (place_same x x refl))
      (sum-map R (λ (p : ℕ × List ℕ). (p.0, x ∷ p.1)) (picks u) (λ p. where_equal R (nat_cmp x p.0) (matches p.1 u))
      ∙ sum-same_on R (λ p. Rearranged (p.0 ∷ p.1) u) (picks u) (λ p. where_equal R (nat_cmp x p.0) (matches (x ∷ p.1) u)) (λ p. where_equal R (nat_cmp x p.0) (matches u u)) (picked u) (λ p h. left_at (nat_cmp x p.0) x u p refl h)
      ∙ firsts x u (matches u u))

  often-add : (x : ℕ) (u : List ℕ) (d e : C) → often x u (d ⊕ e) ≡ often x u d ⊕ often x u e
  often-add x u d e =
      ap (sum R u) (fun_ext (λ y. where_add R (nat_cmp x y) d e)) ∙ sum-add R u (λ y. where_equal R (nat_cmp x y) d) (λ y. where_equal R (nat_cmp x y) e)

  often-often : (x y : ℕ) (u : List ℕ) (d : C) → often x u (often y u d) ≡ often y u (often x u d)
  often-often x y u d =
      ap (sum R u) (fun_ext (λ v. sym (sum-where R (nat_cmp x v) u (λ w. where_equal R (nat_cmp y w) d))))
      ∙ sum-swap R u u (λ v w. where_equal R (nat_cmp x v) (where_equal R (nat_cmp y w) d))
      ∙ ap (sum R u) (fun_ext (λ w. ap (sum R u) (fun_ext (λ v. where_comm R (nat_cmp x v) (nat_cmp y w) d)) ∙ sum-where R (nat_cmp y w) u (λ v. where_equal R (nat_cmp x v) d)))

  often-rearranged : (x : ℕ) (u v : List ℕ) (d : C) → Rearranged u v → often x u d ≡ often x v d
  unfolding sum
  often-rearranged x u v d r = total-rearranged (additive R) r (λ y. where_equal R (nat_cmp x y) d)

  -- the cross term of two items
  cross_at : (o : Ordering) (x y : ℕ) (u : List ℕ) (d : C) → nat_cmp x y ≡ o → where_equal R (nat_cmp x y) (d ⊕ often y u d) ≡ where_equal R (nat_cmp y x) (d ⊕ often x u d)
  cross_at Equal x y u d h =
      let e = nat_equal x y h in
      λ i. where_equal R (nat_cmp (e i) (sym e i)) (d ⊕ often (sym e i) u d)
  cross_at Less x y u d h =
      ap (λ o. where_equal R o (d ⊕ often y u d)) h ∙ sym (off y x (d ⊕ often x u d) (λ g. apart x y h (sym (nat_equal y x g))))
    where
      apart : (a b : ℕ) → nat_cmp a b ≡ Less → a ≡ b → ⊥
      apart a b l e = let never : Less ≡ Equal = sym l ∙ place_same a b e in cc

      off : (a b : ℕ) (f : C) → (nat_cmp a b ≡ Equal → ⊥) → where_equal R (nat_cmp a b) f ≡ 𝟘
      off a b f n = where_equal-apart R (nat_cmp a b) f n
  cross_at Greater x y u d h =
      ap (λ o. where_equal R o (d ⊕ often y u d)) h ∙ sym (off y x (d ⊕ often x u d) (λ g. apart x y h (sym (nat_equal y x g))))
    where
      apart : (a b : ℕ) → nat_cmp a b ≡ Greater → a ≡ b → ⊥
      apart a b l e = let never : Greater ≡ Equal = sym l ∙ place_same a b e in cc

      off : (a b : ℕ) (f : C) → (nat_cmp a b ≡ Equal → ⊥) → where_equal R (nat_cmp a b) f ≡ 𝟘
      off a b f n = where_equal-apart R (nat_cmp a b) f n

  matches-two : (x y : ℕ) (u : List ℕ) → matches (x ∷ y ∷ u) (x ∷ y ∷ u) ≡ (matches u u ⊕ often y u (matches u u)) ⊕ (where_equal R (nat_cmp x y) (matches u u ⊕ often y u (matches u u)) ⊕ (often x u (matches u u) ⊕ often x u (often y u (matches u u))))
  matches-two x y u =
      let d = matches u u in
      let e = matches u u ⊕ often y u (matches u u) in
      matches-cons x (y ∷ u) ∙ ap₂ (λ f g. f ⊕ g) (matches-cons y u) (ap (often x (y ∷ u)) (matches-cons y u) ∙ sum-cons R y u (λ z. where_equal R (nat_cmp x z) e) ∙ ap (λ s. where_equal R (nat_cmp x y) e ⊕ s) (often-add x u d (often y u d)))

  mix : (d a b k m : C) → (d ⊕ a) ⊕ (k ⊕ (b ⊕ m)) ≡ (d ⊕ b) ⊕ (k ⊕ (a ⊕ m))
  mix d a b k m = simp (R.add_assoc, add_left_comm R)

  -- the orders that come to the list itself do not see its order
  same-rearranged : {u v : List ℕ} → Rearranged u v → matches u u ≡ matches v v
  same-rearranged same = refl
  same-rearranged (keep {x = x} {xs = u} {ys = v} r) =
      matches-cons x u ∙ ap₂ (λ f g. f ⊕ g) (same-rearranged r) (ap (often x u) (same-rearranged r) ∙ often-rearranged x u v (matches v v) r) ∙ sym (matches-cons x v)
  same-rearranged (swap {x = x} {y = y} {xs = u}) =
      let d = matches u u in
      matches-two x y u
      ∙ mix d (often y u d) (often x u d) (where_equal R (nat_cmp x y) (d ⊕ often y u d)) (often x u (often y u d))
      ∙ ap₂ (λ k m. (d ⊕ often x u d) ⊕ (k ⊕ (often y u d ⊕ m))) (cross_at (nat_cmp x y) x y u d refl) (often-often x y u d)
      ∙ sym (matches-two y x u)
  same-rearranged (then r s) = same-rearranged r ∙ same-rearranged s

  -- an order of u comes to v, or none does
  scan_at : (o : Ordering) (u v w : List ℕ) (ws : List (List ℕ)) → places_cmp v w ≡ o → Rearranged u w → (sum R ws (λ x. where_equal R (places_cmp v x) c) ≡ 𝟘) ⊎ Rearranged u v → (sum R (w ∷ ws) (λ x. where_equal R (places_cmp v x) c) ≡ 𝟘) ⊎ Rearranged u v
  scan_at Equal u v w ws h r rest = inr (subst (Rearranged u) (sym (places_equal v w h)) r)
  scan_at Less u v w ws h r (inr s) = inr s
  scan_at Less u v w ws h r (inl z) =
      inl (sum-cons R w ws (λ x. where_equal R (places_cmp v x) c) ∙ ap₂ (λ f g. f ⊕ g) (ap (λ o. where_equal R o c) h) z ∙ zero_add R 𝟘)
  scan_at Greater u v w ws h r (inr s) = inr s
  scan_at Greater u v w ws h r (inl z) =
      inl (sum-cons R w ws (λ x. where_equal R (places_cmp v x) c) ∙ ap₂ (λ f g. f ⊕ g) (ap (λ o. where_equal R o c) h) z ∙ zero_add R 𝟘)

  scan : (u v : List ℕ) (ws : List (List ℕ)) → AllByRecursion (Rearranged u) ws → (sum R ws (λ x. where_equal R (places_cmp v x) c) ≡ 𝟘) ⊎ Rearranged u v
  scan u v [] h = inl (sum-nil R (λ (x : List ℕ). where_equal R (places_cmp v x) c))
  scan u v (w ∷ ws) h = scan_at (places_cmp v w) u v w ws refl h.0 (scan u v ws h.1)

  either_way : (u v : List ℕ) → Rearranged u v → matches u v ≡ matches v u
  either_way u v r =
      matches-rearranged u v v r ∙ sym (same-rearranged r) ∙ sym (matches-rearranged v u u (Rearranged-sym r))

  matches_at : (u v : List ℕ) → (matches u v ≡ 𝟘) ⊎ Rearranged u v → (matches v u ≡ 𝟘) ⊎ Rearranged v u → matches u v ≡ matches v u
  matches_at u v (inr r) t = either_way u v r
  matches_at u v (inl z) (inr r) = sym (either_way v u r)
  matches_at u v (inl z) (inl y) = z ∙ sym y

  -- as often one way as the other
  pub matches-swap : (u v : List ℕ) → matches u v ≡ matches v u
  matches-swap u v =
      matches_at u v (scan u v (orders u) (orders-rearranged u)) (scan v u (orders v) (orders-rearranged v))

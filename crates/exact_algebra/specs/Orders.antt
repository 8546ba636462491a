-- Sums over all orders of a list, as over the 24 permutations of four legs: they do not see the order, and of a function
-- that does not see it they are n! times its value.
use Rattle.std.specs.Prelude.{◌≡◌, ℕ, zero, suc, ◌+◌, ◌*◌, List, [], ◌∷◌, ◌++◌, map, length}
use Rattle.std.specs.List.{flat_map, AllByRecursion}
use Rattle.std.proofs.Common.{refl, sym, ap, ap₂, ◌∙◌, arith, length-append}
use Rattle.std.proofs.lemmas.List.{length-map}
use mathlib.Core.Path.{fun_ext}
use Rattle.exact_algebra.specs.Ring.{CommutativeMonoid, Semiring, additive, times_left_comm}
use Rattle.exact_algebra.specs.Totals.{total, total-cons, total-one, total-map, total-flat_map, total-times, total-same}
use Rattle.exact_algebra.specs.Sums.{sum, sum-map, sum-same_on, sum-constant, number}

-- x at each place of a list
unfoldable pub inserts : {A : Type 0} → A → List A → List (List A)
inserts x [] = (x ∷ []) ∷ []
inserts x (y ∷ ys) = (x ∷ y ∷ ys) ∷ map (λ w. y ∷ w) (inserts x ys)

-- all orders of a list
unfoldable pub orders : {A : Type 0} → List A → List (List A)
orders [] = [] ∷ []
orders (x ∷ xs) = flat_map (inserts x) (orders xs)

-- each item of a list with the others
unfoldable pub picks : {A : Type 0} → List A → List (A × List A)
picks [] = []
picks (x ∷ xs) = (x, xs) ∷ map (λ p. (p.0, x ∷ p.1)) (picks xs)

-- one list is the other with its items moved
pub data Rearranged {A : Type 0} : List A → List A → Type 0 where
  same : {xs : List A} → Rearranged xs xs
  keep : {x : A} {xs ys : List A} → Rearranged xs ys → Rearranged (x ∷ xs) (x ∷ ys)
  swap : {x y : A} {xs : List A} → Rearranged (x ∷ y ∷ xs) (y ∷ x ∷ xs)
  then : {xs ys zs : List A} → Rearranged xs ys → Rearranged ys zs → Rearranged xs zs

-- n!
unfoldable pub factorial : ℕ → ℕ
factorial zero = 1
factorial (suc n) = suc n * factorial n

-- back again
pub Rearranged-sym : {A : Type 0} {xs ys : List A} → Rearranged xs ys → Rearranged ys xs
Rearranged-sym same = same
Rearranged-sym (keep r) = keep (Rearranged-sym r)
Rearranged-sym swap = swap
Rearranged-sym (then r s) = then (Rearranged-sym s) (Rearranged-sym r)

-- a mapped list in another order
pub Rearranged-map : {A B : Type 0} (g : A → B) {xs ys : List A} → Rearranged xs ys → Rearranged (map g xs) (map g ys)
Rearranged-map g same = same
Rearranged-map g (keep r) = keep (Rearranged-map g r)
Rearranged-map g swap = swap
Rearranged-map g (then r s) = then (Rearranged-map g r) (Rearranged-map g s)

-- ---- the list of all orders

All-append : {A : Type 0} (P : A → Type 0) (xs ys : List A) → AllByRecursion P xs → AllByRecursion P ys → AllByRecursion P (xs ++ ys)
All-append P [] ys h k = k
All-append P (x ∷ xs) ys h k = (h.0, All-append P xs ys h.1 k)

All-map : {A B : Type 0} (P : A → Type 0) (Q : B → Type 0) (g : A → B) (xs : List A) → ((x : A) → P x → Q (g x)) → AllByRecursion P xs → AllByRecursion Q (map g xs)
All-map P Q g [] f h = tt
All-map P Q g (x ∷ xs) f h = (f x h.0, All-map P Q g xs f h.1)

All-flat_map : {A B : Type 0} (P : A → Type 0) (Q : B → Type 0) (g : A → List B) (xs : List A) → ((x : A) → P x → AllByRecursion Q (g x)) → AllByRecursion P xs → AllByRecursion Q (flat_map g xs)
All-flat_map P Q g [] f h = tt
All-flat_map P Q g (x ∷ xs) f h = All-append Q (g x) (flat_map g xs) (f x h.0) (All-flat_map P Q g xs f h.1)

inserts-rearranged : {A : Type 0} (x : A) (w : List A) → AllByRecursion (Rearranged (x ∷ w)) (inserts x w)
unfolding inserts
inserts-rearranged x [] = (same, tt)
inserts-rearranged x (y ∷ ys) =
    (same, All-map (Rearranged (x ∷ ys)) (Rearranged (x ∷ y ∷ ys)) (λ w. y ∷ w) (inserts x ys) (λ w r. then swap (keep r)) (inserts-rearranged x ys))

-- each of them has the items of the list
pub orders-rearranged : {A : Type 0} (xs : List A) → AllByRecursion (Rearranged xs) (orders xs)
unfolding orders
orders-rearranged [] = (same, tt)
orders-rearranged {A = A} (x ∷ xs) =
    All-flat_map (Rearranged xs) (Rearranged (x ∷ xs)) (inserts x) (orders xs) (λ w r. moved w r (inserts x w) (inserts-rearranged x w)) (orders-rearranged xs)
  where
    moved : (w : List A) → Rearranged xs w → (vs : List (List A)) → AllByRecursion (Rearranged (x ∷ w)) vs → AllByRecursion (Rearranged (x ∷ xs)) vs
    moved w r [] h = tt
    moved w r (v ∷ vs) h = (then (keep r) h.0, moved w r vs h.1)

length-inserts : {A : Type 0} (x : A) (w : List A) → length (inserts x w) ≡ suc (length w)
unfolding inserts
length-inserts x [] = refl
length-inserts x (y ∷ ys) = ap suc (length-map (inserts x ys) (λ w. y ∷ w) ∙ length-inserts x ys)

pub length-rearranged : {A : Type 0} {xs ys : List A} → Rearranged xs ys → length ys ≡ length xs
length-rearranged same = refl
length-rearranged (keep r) = ap suc (length-rearranged r)
length-rearranged swap = refl
length-rearranged (then r s) = length-rearranged s ∙ length-rearranged r

-- there are n! of them
pub length-orders : {A : Type 0} (xs : List A) → length (orders xs) ≡ factorial (length xs)
unfolding orders factorial
length-orders [] = refl
length-orders {A = A} (x ∷ xs) = spread_out (orders xs) (orders-rearranged xs) ∙ ap (λ n. suc (length xs) * n) (length-orders xs)
  where
    spread_out : (ws : List (List A)) → AllByRecursion (Rearranged xs) ws → length (flat_map (inserts x) ws) ≡ suc (length xs) * length ws
    spread_out [] h = omega arith
    spread_out (w ∷ ws) h =
        length-append (inserts x w) (flat_map (inserts x) ws) ∙ ap₂ ◌+◌ (length-inserts x w ∙ ap suc (length-rearranged h.0)) (spread_out ws h.1)
        ∙ one_more (suc (length xs)) (length ws)
      where
        one_more : (m n : ℕ) → m + m * n ≡ m * suc n
        one_more m n = grind arith

map-append : {A B : Type 0} (g : A → B) (xs ys : List A) → map g (xs ++ ys) ≡ map g xs ++ map g ys
map-append g [] ys = refl
map-append g (x ∷ xs) ys = ap (λ zs. g x ∷ zs) (map-append g xs ys)

map-map : {A B D : Type 0} (f : B → D) (g : A → B) (xs : List A) → map f (map g xs) ≡ map (λ x. f (g x)) xs
map-map f g [] = refl
map-map f g (x ∷ xs) = ap (λ zs. f (g x) ∷ zs) (map-map f g xs)

inserts-map : {A B : Type 0} (g : A → B) (x : A) (w : List A) → inserts (g x) (map g w) ≡ map (map g) (inserts x w)
unfolding inserts
inserts-map g x [] = refl
inserts-map g x (y ∷ ys) =
    ap (λ ws. (g x ∷ g y ∷ map g ys) ∷ ws)
    (ap (map (λ w. g y ∷ w)) (inserts-map g x ys) ∙ map-map (λ w. g y ∷ w) (map g) (inserts x ys) ∙ sym (map-map (map g) (λ w. y ∷ w) (inserts x ys)))

-- the orders of a mapped list are the mapped orders
pub orders-map : {A B : Type 0} (g : A → B) (xs : List A) → orders (map g xs) ≡ map (map g) (orders xs)
unfolding orders
orders-map g [] = refl
orders-map {A = A} {B = B} g (x ∷ xs) = ap (flat_map (inserts (g x))) (orders-map g xs) ∙ each (orders xs)
  where
    each : (ws : List (List A)) → flat_map (inserts (g x)) (map (map g) ws) ≡ map (map g) (flat_map (inserts x) ws)
    each [] = refl
    each (w ∷ ws) = ap₂ ◌++◌ (inserts-map g x w) (each ws) ∙ sym (map-append (map g) (inserts x w) (flat_map (inserts x) ws))

module _ (M : CommutativeMonoid) where
  open M use {carrier as C, times as ◌⊙◌}

  infixl 6 ◌⊙◌
  -- the product over all orders
  abbrev pub total_orders : {A : Type 0} → List A → (List A → C) → C
  total_orders xs F = total M (orders xs) F

  -- the product over all ways to put x into a list
  abbrev spread : {A : Type 0} → A → List A → (List A → C) → C
  spread x w F = total M (inserts x w) F

  spread-nil : {A : Type 0} (x : A) (F : List A → C) → spread x [] F ≡ F (x ∷ [])
  unfolding inserts
  spread-nil x F = total-one M (x ∷ []) F

  spread-cons : {A : Type 0} (x y : A) (w : List A) (F : List A → C) → spread x (y ∷ w) F ≡ F (x ∷ y ∷ w) ⊙ spread x w (λ v. F (y ∷ v))
  unfolding inserts total
  spread-cons x y w F = ap (λ s. F (x ∷ y ∷ w) ⊙ s) (total-map M (λ v. y ∷ v) (inserts x w) F)

  mix : (a b c d e : C) → (a ⊙ (b ⊙ c)) ⊙ (d ⊙ e) ≡ (b ⊙ (a ⊙ d)) ⊙ (c ⊙ e)
  mix a b c d e = simp (M.times_assoc, times_left_comm M)

  spread-swap : {A : Type 0} (x y : A) (w : List A) (F : List A → C) → spread y w (λ v. spread x v F) ≡ spread x w (λ v. spread y v F)
  spread-swap x y [] F =
      spread-nil y (λ v. spread x v F) ∙ spread-cons x y [] F ∙ ap (λ s. F (x ∷ y ∷ []) ⊙ s) (spread-nil x (λ v. F (y ∷ v)))
      ∙ M.times_comm (F (x ∷ y ∷ [])) (F (y ∷ x ∷ [])) ∙ ap (λ s. F (y ∷ x ∷ []) ⊙ s) (sym (spread-nil y (λ v. F (x ∷ v))))
      ∙ sym (spread-cons y x [] F) ∙ sym (spread-nil x (λ v. spread y v F))
  spread-swap x y (z ∷ w) F =
      one_way x y z w F
      ∙ mix (F (x ∷ y ∷ z ∷ w)) (F (y ∷ x ∷ z ∷ w)) (spread x w (λ v. F (y ∷ z ∷ v))) (spread y w (λ v. F (x ∷ z ∷ v))) (spread y w (λ v. spread x v (λ u. F (z ∷ u))))
      ∙ ap (λ s. (F (y ∷ x ∷ z ∷ w) ⊙ (F (x ∷ y ∷ z ∷ w) ⊙ spread y w (λ v. F (x ∷ z ∷ v)))) ⊙ (spread x w (λ v. F (y ∷ z ∷ v)) ⊙ s)) (spread-swap x y w (λ u. F (z ∷ u)))
      ∙ sym (one_way y x z w F)
    where
      one_way : {A : Type 0} (x y z : A) (w : List A) (F : List A → C) → spread y (z ∷ w) (λ v. spread x v F) ≡ (F (x ∷ y ∷ z ∷ w) ⊙ (F (y ∷ x ∷ z ∷ w) ⊙ spread x w (λ v. F (y ∷ z ∷ v)))) ⊙ (spread y w (λ v. F (x ∷ z ∷ v)) ⊙ spread y w (λ v. spread x v (λ u. F (z ∷ u))))
      one_way x y z w F =
          spread-cons y z w (λ v. spread x v F)
          ∙ ap₂ ◌⊙◌ (spread-cons x y (z ∷ w) F ∙ ap (λ s. F (x ∷ y ∷ z ∷ w) ⊙ s) (spread-cons x z w (λ v. F (y ∷ v)))) (total-same M (inserts y w) (λ v. spread x (z ∷ v) F) (λ v. F (x ∷ z ∷ v) ⊙ spread x v (λ u. F (z ∷ u))) (λ v. spread-cons x z v F) ∙ total-times M (inserts y w) (λ v. F (x ∷ z ∷ v)) (λ v. spread x v (λ u. F (z ∷ u))))

  pub total_orders-cons : {A : Type 0} (x : A) (xs : List A) (F : List A → C) → total_orders (x ∷ xs) F ≡ total_orders xs (λ w. spread x w F)
  unfolding orders
  total_orders-cons x xs F = total-flat_map M (inserts x) (orders xs) F

  -- the product over all orders does not see the order
  pub total_orders-rearranged : {A : Type 0} {xs ys : List A} → Rearranged xs ys → (F : List A → C) → total_orders xs F ≡ total_orders ys F
  total_orders-rearranged same F = refl
  total_orders-rearranged (keep {x = x} {xs = xs} {ys = ys} r) F =
      total_orders-cons x xs F ∙ total_orders-rearranged r (λ w. spread x w F) ∙ sym (total_orders-cons x ys F)
  total_orders-rearranged (swap {x = x} {y = y} {xs = xs}) F =
      total_orders-cons x (y ∷ xs) F ∙ total_orders-cons y xs (λ w. spread x w F) ∙ ap (total M (orders xs)) (fun_ext (λ w. spread-swap x y w F))
      ∙ sym (total_orders-cons x xs (λ w. spread y w F)) ∙ sym (total_orders-cons y (x ∷ xs) F)
  total_orders-rearranged (then r s) F = total_orders-rearranged r F ∙ total_orders-rearranged s F

  picks-nil : {A : Type 0} (G : A × List A → C) → total M (picks []) G ≡ M.unit
  unfolding picks total
  picks-nil G = refl

  pub total_orders-nil : {A : Type 0} (F : List A → C) → total_orders [] F ≡ F []
  unfolding orders
  total_orders-nil F = total-one M [] F

  picks-cons : {A : Type 0} (x : A) (xs : List A) (G : A × List A → C) → total M (picks (x ∷ xs)) G ≡ G (x, xs) ⊙ total M (picks xs) (λ p. G (p.0, x ∷ p.1))
  unfolding picks total
  picks-cons x xs G = ap (λ s. G (x, xs) ⊙ s) (total-map M (λ p. (p.0, x ∷ p.1)) (picks xs) G)

  -- one item first, then the orders of the others
  pub total_orders-picks : {A : Type 0} (x : A) (xs : List A) (F : List A → C) → total_orders (x ∷ xs) F ≡ total M (picks (x ∷ xs)) (λ p. total_orders p.1 (λ w. F (p.0 ∷ w)))
  total_orders-picks x [] F =
      total_orders-cons x [] F ∙ total_orders-nil (λ w. spread x w F) ∙ spread-nil x F ∙ sym (total_orders-nil (λ w. F (x ∷ w))) ∙ sym (M.times_unit (total_orders [] (λ w. F (x ∷ w)))) ∙ ap (λ s. total_orders [] (λ w. F (x ∷ w)) ⊙ s) (sym (picks-nil (λ p. total_orders (x ∷ p.1) (λ w. F (p.0 ∷ w)))))
      ∙ sym (picks-cons x [] (λ p. total_orders p.1 (λ w. F (p.0 ∷ w))))
  total_orders-picks x (y ∷ ys) F =
      total_orders-cons x (y ∷ ys) F ∙ total_orders-picks y ys (λ w. spread x w F)
      ∙ total-same M (picks (y ∷ ys)) (λ p. total_orders p.1 (λ w. spread x (p.0 ∷ w) F)) (λ p. total_orders p.1 (λ w. F (x ∷ p.0 ∷ w)) ⊙ total_orders (x ∷ p.1) (λ w. F (p.0 ∷ w)))
      (λ p. total-same M (orders p.1) (λ w. spread x (p.0 ∷ w) F) (λ w. F (x ∷ p.0 ∷ w) ⊙ spread x w (λ v. F (p.0 ∷ v))) (λ w. spread-cons x p.0 w F)
      ∙ total-times M (orders p.1) (λ w. F (x ∷ p.0 ∷ w)) (λ w. spread x w (λ v. F (p.0 ∷ v)))
      ∙ ap (λ s. total_orders p.1 (λ w. F (x ∷ p.0 ∷ w)) ⊙ s) (sym (total_orders-cons x p.1 (λ w. F (p.0 ∷ w)))))
      ∙ total-times M (picks (y ∷ ys)) (λ p. total_orders p.1 (λ w. F (x ∷ p.0 ∷ w))) (λ p. total_orders (x ∷ p.1) (λ w. F (p.0 ∷ w)))
      ∙ ap (λ s. s ⊙ total M (picks (y ∷ ys)) (λ p. total_orders (x ∷ p.1) (λ w. F (p.0 ∷ w)))) (sym (total_orders-picks y ys (λ w. F (x ∷ w))))
      ∙ sym (picks-cons x (y ∷ ys) (λ p. total_orders p.1 (λ w. F (p.0 ∷ w))))

  -- a product does not see the order of the list
  pub total-rearranged : {A : Type 0} {xs ys : List A} → Rearranged xs ys → (f : A → C) → total M xs f ≡ total M ys f
  total-rearranged same f = refl
  total-rearranged (keep {x = x} {xs = xs} {ys = ys} r) f =
      total-cons M x xs f ∙ ap (λ s. f x ⊙ s) (total-rearranged r f) ∙ sym (total-cons M x ys f)
  total-rearranged (swap {x = x} {y = y} {xs = xs}) f =
      total-cons M x (y ∷ xs) f ∙ ap (λ s. f x ⊙ s) (total-cons M y xs f) ∙ times_left_comm M (f x) (f y) (total M xs f)
      ∙ ap (λ s. f y ⊙ s) (sym (total-cons M x xs f)) ∙ sym (total-cons M y (x ∷ xs) f)
  total-rearranged (then r s) f = total-rearranged r f ∙ total-rearranged s f

module _ (R : Semiring) where
  open R use {carrier as C, add as ◌⊕◌, mul as ◌⊗◌}

  infixl 6 ◌⊕◌
  infixl 7 ◌⊗◌
  -- the sum over all orders
  abbrev pub sum_orders : {A : Type 0} → List A → (List A → C) → C
  sum_orders xs F = sum R (orders xs) F

  -- the sum over all orders does not see the order
  pub sum_orders-rearranged : {A : Type 0} {xs ys : List A} → Rearranged xs ys → (F : List A → C) → sum_orders xs F ≡ sum_orders ys F
  unfolding sum
  sum_orders-rearranged r F = total_orders-rearranged (additive R) r F

  -- the first item goes to each place of an order of the rest
  pub sum_orders-cons : {A : Type 0} (x : A) (xs : List A) (F : List A → C) → sum_orders (x ∷ xs) F ≡ sum_orders xs (λ w. sum R (inserts x w) F)
  unfolding sum
  sum_orders-cons x xs F = total_orders-cons (additive R) x xs F

  pub sum_orders-nil : {A : Type 0} (F : List A → C) → sum_orders [] F ≡ F []
  unfolding sum
  sum_orders-nil F = total_orders-nil (additive R) F

  pub sum_orders-two : {A : Type 0} (a b : A) (F : List A → C) → sum_orders (a ∷ b ∷ []) F ≡ F (a ∷ b ∷ []) ⊕ F (b ∷ a ∷ [])
  unfolding orders inserts sum
  sum_orders-two a b F = ap (λ s. F (a ∷ b ∷ []) ⊕ s) (R.add_zero (F (b ∷ a ∷ [])))

  -- one item first, then the orders of the others
  pub sum_orders-picks : {A : Type 0} (x : A) (xs : List A) (F : List A → C) → sum_orders (x ∷ xs) F ≡ sum R (picks (x ∷ xs)) (λ p. sum_orders p.1 (λ w. F (p.0 ∷ w)))
  unfolding sum
  sum_orders-picks x xs F = total_orders-picks (additive R) x xs F

  -- the orders of a mapped list
  pub sum_orders-map : {A B : Type 0} (g : A → B) (xs : List A) (F : List B → C) → sum_orders (map g xs) F ≡ sum_orders xs (λ w. F (map g w))
  sum_orders-map g xs F = ap (λ ws. sum R ws F) (orders-map g xs) ∙ sum-map R (map g) (orders xs) F

  -- a function that does not see the order
  pub sum_orders-symmetric : {A : Type 0} (xs : List A) (F : List A → C) → ((ys : List A) → Rearranged xs ys → F ys ≡ F xs) → sum_orders xs F ≡ number R (factorial (length xs)) ⊗ F xs
  sum_orders-symmetric xs F h =
      sum-same_on R (Rearranged xs) (orders xs) F (λ _. F xs) (orders-rearranged xs) h ∙ sum-constant R (orders xs) (F xs)
      ∙ ap (λ n. number R n ⊗ F xs) (length-orders xs)

  -- to sum over all orders twice
  pub sum_orders-sum_orders : {A : Type 0} (xs : List A) (F : List A → C) → sum_orders xs (λ ys. sum_orders ys F) ≡ number R (factorial (length xs)) ⊗ sum_orders xs F
  sum_orders-sum_orders xs F =
      sum_orders-symmetric xs (λ ys. sum_orders ys F) (λ ys r. sym (sum_orders-rearranged r F))

-- Lists that go through one list and, at each element, through another: their lengths and places.
use Rattle.std.proofs.Common.{◌≡◌, ℕ, zero, suc, ◌+◌, ◌*◌, List, [], ◌∷◌, ◌++◌, map, length, length-append, add_assoc, Some, sym, ap, ap₂, ◌∙◌, arith}
use Rattle.std.specs.Prelude.{slice_get}
use Rattle.std.specs.List.{flat_map}
use Rattle.std.proofs.lemmas.List.{length-map}

-- ---- appended lists

pub slice_get-append_left : {A : Type 0} (xs ys : List A) (i : ℕ) (x : A) → slice_get xs i ≡ Some x → slice_get (xs ++ ys) i ≡ Some x
slice_get-append_left [] ys i x e = let never : ⊥ = cc in absurd never
slice_get-append_left (a ∷ xs) ys zero x e = e
slice_get-append_left (a ∷ xs) ys (suc i) x e = slice_get-append_left xs ys i x e

pub slice_get-append_right : {A : Type 0} (xs ys : List A) (i j : ℕ) → i ≡ length xs + j → slice_get (xs ++ ys) i ≡ slice_get ys j
slice_get-append_right [] ys i j e = ap (slice_get ys) (omega (arith, e))
slice_get-append_right (a ∷ xs) ys zero j e = absurd (omega (arith, e))
slice_get-append_right (a ∷ xs) ys (suc i) j e = slice_get-append_right xs ys i j (omega (arith, e))

pub slice_get-map_some : {A B : Type 0} (f : A → B) (xs : List A) (i : ℕ) (x : A) → slice_get xs i ≡ Some x → slice_get (map f xs) i ≡ Some (f x)
slice_get-map_some f [] i x e = let never : ⊥ = cc in absurd never
slice_get-map_some f (a ∷ xs) zero x e = let same : a ≡ x = cc in ap (λ b. Some (f b)) same
slice_get-map_some f (a ∷ xs) (suc i) x e = slice_get-map_some f xs i x e

-- ---- blocks

module _ {A B C : Type 0} (g : A → B → C) (ys : List B) where
  -- g of each element of xs and each of ys, all of one x together
  abbrev pub blocks : List A → List C
  blocks xs = flat_map (λ x. map (g x) ys) xs

  pub length-blocks : (xs : List A) → length (blocks xs) ≡ length xs * length ys
  length-blocks [] = omega arith
  length-blocks (x ∷ xs) = length-append (map (g x) ys) (blocks xs) ∙ ap₂ ◌+◌ (length-map ys (g x)) (length-blocks xs) ∙ step (length xs) (length ys)
    where
      step : (m n : ℕ) → n + m * n ≡ suc m * n
      step m n = grind arith

  -- the element at a place: quotient and remainder by the inner length
  pub block_at : (xs : List A) (q r : ℕ) (x : A) (y : B) → slice_get xs q ≡ Some x → slice_get ys r ≡ Some y → slice_get (blocks xs) (q * length ys + r) ≡ Some (g x y)
  block_at [] q r x y found inner = let never : ⊥ = cc in absurd never
  block_at (a ∷ xs) zero r x y found inner =
      let same : a ≡ x = cc in
      let start : 0 * length ys + r ≡ r = omega arith in
      ap (slice_get (blocks (a ∷ xs))) start
      ∙ slice_get-append_left (map (g a) ys) (blocks xs) r (g a y) (slice_get-map_some (g a) ys r y inner)
      ∙ ap (λ b. Some (g b y)) same
  block_at (a ∷ xs) (suc q) r x y found inner =
      let later : suc q * length ys + r ≡ length (map (g a) ys) + (q * length ys + r) = ap (λ k. k + r) (step q (length ys)) ∙ add_assoc (length ys) (q * length ys) r ∙ ap (λ k. k + (q * length ys + r)) (sym (length-map ys (g a))) in
      slice_get-append_right (map (g a) ys) (blocks xs) (suc q * length ys + r) (q * length ys + r) later
      ∙ block_at xs q r x y found inner
    where
      step : (m n : ℕ) → suc m * n ≡ n + m * n
      step m n = grind arith

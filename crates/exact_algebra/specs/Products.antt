-- Finite products in a commutative semiring: the totals of the numbers under multiplication, and how a product of sums is
-- the sum over all choices.
use Rattle.std.specs.Prelude.{◌≡◌, ℕ, zero, suc, ◌<◌, List, [], ◌∷◌, map, length, get_or}
use Rattle.std.specs.List.{flat_map}
use Rattle.std.proofs.Common.{sym, ap, ◌∙◌, arith}
use mathlib.Core.Path.{fun_ext}
use Rattle.exact_algebra.specs.Ring.{Semiring, multiplicative, times_times_comm, zero_mul}
use Rattle.exact_algebra.specs.Totals.{total, total-nil, total-cons, total_below}
use Rattle.exact_algebra.specs.Sums.{sum, sum-one, sum-pairs, sum-swap, sum_mul_sum}

-- all ways to choose for each a of a list one of g a, as the list of the pairs
unfoldable pub choices : {A B : Type 0} → (A → List B) → List A → List (List (A × B))
choices g [] = [] ∷ []
choices g (a ∷ rest) = flat_map (λ b. map (λ c. (a, b) ∷ c) (choices g rest)) (g a)

module _ (R : Semiring) where
  open R use {carrier, mul as ◌⊗◌}

  infixl 7 ◌⊗◌
  -- the product of f over the elements of a list
  abbrev pub product : {A : Type 0} → List A → (A → carrier) → carrier
  product xs f = total (multiplicative R) xs f

  -- the product of f over the places below n
  abbrev pub product_below : ℕ → (ℕ → carrier) → carrier
  product_below n f = total_below (multiplicative R) n f

  -- one factor is 0
  pub product-zero : {A : Type 0} (d : A) (xs : List A) (k : ℕ) (f : A → carrier) → k < length xs → f (get_or xs k d) ≡ R.zero → product xs f ≡ R.zero
  product-zero d [] k f l h = absurd (omega arith)
  product-zero d (x ∷ xs) zero f l h =
      total-cons (multiplicative R) x xs f ∙ ap (λ c. c ⊗ product xs f) h ∙ zero_mul R (product xs f)
  product-zero d (x ∷ xs) (suc k) f l h =
      total-cons (multiplicative R) x xs f ∙ ap (λ c. f x ⊗ c) (product-zero d xs k f (omega arith) h) ∙ R.mul_zero (f x)

  -- a product of sums is the sum over all choices of the products
  pub product-sum : {A B : Type 0} (g : A → List B) (xs : List A) (f : A → B → carrier) → product xs (λ a. sum R (g a) (f a)) ≡ sum R (choices g xs) (λ c. product c (λ p. f p.0 p.1))
  unfolding choices
  product-sum g [] f =
      total-nil (multiplicative R) (λ a. sum R (g a) (f a)) ∙ sym (total-nil (multiplicative R) (λ p. f p.0 p.1)) ∙ sym (sum-one R [] (λ c. product c (λ p. f p.0 p.1)))
  product-sum g (x ∷ xs) f =
      total-cons (multiplicative R) x xs (λ a. sum R (g a) (f a)) ∙ ap (λ s. sum R (g x) (f x) ⊗ s) (product-sum g xs f)
      ∙ sum_mul_sum R (g x) (choices g xs) (f x) (λ c. product c (λ p. f p.0 p.1))
      ∙ ap (sum R (g x)) (fun_ext (λ b. ap (sum R (choices g xs)) (fun_ext (λ c. sym (total-cons (multiplicative R) (x, b) c (λ p. f p.0 p.1))))))
      ∙ sym (sum-pairs R (λ b c. (x, b) ∷ c) (g x) (choices g xs) (λ c. product c (λ p. f p.0 p.1)))

  -- ---- values that are sums of products over two kinds of indices

  -- a sum over i and j of two such values: the sums over i and over j are taken apart, once for each pair of parts
  pub sum-separated : {I J X Y : Type 0} (is : List I) (js : List J) (xs : List X) (ys : List Y) (f : X → I → carrier) (p : X → J → carrier) (g : Y → I → carrier) (q : Y → J → carrier) → sum R is (λ i. sum R js (λ j. sum R xs (λ x. f x i ⊗ p x j) ⊗ sum R ys (λ y. g y i ⊗ q y j))) ≡ sum R xs (λ x. sum R ys (λ y. sum R is (λ i. f x i ⊗ g y i) ⊗ sum R js (λ j. p x j ⊗ q y j)))
  sum-separated {I = I} {J = J} {X = X} {Y = Y} is js xs ys f p g q =
      ap (sum R is) (fun_ext (λ i. ap (sum R js) (fun_ext (λ j. parts i j))))
      ∙ ap (sum R is) (fun_ext (λ i. sum-swap R js xs (λ j x. sum R ys (λ y. paired x y i j)) ∙ ap (sum R xs) (fun_ext (λ x. sum-swap R js ys (λ j y. paired x y i j)))))
      ∙ sum-swap R is xs (λ i x. sum R ys (λ y. sum R js (λ j. paired x y i j)))
      ∙ ap (sum R xs) (fun_ext (λ x. sum-swap R is ys (λ i y. sum R js (λ j. paired x y i j))))
      ∙ ap (sum R xs) (fun_ext (λ x. ap (sum R ys) (fun_ext (λ y. sym (sum_mul_sum R is js (λ i. f x i ⊗ g y i) (λ j. p x j ⊗ q y j))))))
    where
      paired : X → Y → I → J → carrier
      paired x y i j = (f x i ⊗ g y i) ⊗ (p x j ⊗ q y j)

      parts : (i : I) (j : J) → sum R xs (λ x. f x i ⊗ p x j) ⊗ sum R ys (λ y. g y i ⊗ q y j) ≡ sum R xs (λ x. sum R ys (λ y. paired x y i j))
      parts i j =
          sum_mul_sum R xs ys (λ x. f x i ⊗ p x j) (λ y. g y i ⊗ q y j)
          ∙ ap (sum R xs) (fun_ext (λ x. ap (sum R ys) (fun_ext (λ y. times_times_comm (multiplicative R) (f x i) (p x j) (g y i) (q y j)))))

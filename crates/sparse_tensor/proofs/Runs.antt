-- The run of items with one measure, between two partition points.
use Rattle.std.specs.Prelude.{◌≡◌, ◌==◌, ◌<◌, ◌≤◌, ◌-◌, ◌⊎◌, ℕ, zero, suc, Bool, true, false, List, [], ◌∷◌, length, get_or, take, drop}
use Rattle.std.specs.List.{filter}
use Rattle.std.specs.List.Sorted.{IsPartitionPoint}
use Rattle.std.proofs.Common.{refl, sym, ap, ◌∙◌, arith, cond, inl, inr, leb, ltb}
use Rattle.std.proofs.lemmas.Bool.{cases_lt}

-- the items between i and j, where the test holds there and nowhere else
run : {X : Type 0} (t : X → Bool) (xs : List X) (i j : ℕ) → i ≤ j → j ≤ length xs → ((k : ℕ) (d : X) → k < i → t (get_or xs k d) ≡ false) → ((k : ℕ) (d : X) → i ≤ k → k < j → t (get_or xs k d) ≡ true) → ((k : ℕ) (d : X) → j ≤ k → k < length xs → t (get_or xs k d) ≡ false) → take (j - i) (drop i xs) ≡ filter t xs
run t [] zero zero h l f m b = refl
run t [] zero (suc j) h l f m b = absurd (omega arith)
run t [] (suc i) j h l f m b = absurd (omega arith)
run t (x ∷ xs) zero zero h l f m b =
    run t xs zero zero (omega arith) (omega arith) (λ k d n. absurd (omega arith)) (λ k d n p. absurd (omega arith)) (λ k d n p. b (suc k) d (omega arith) (omega arith))
    ∙ ap (λ c. cond c (x ∷ filter t xs) (filter t xs)) (sym (b zero x (omega arith) (omega arith)))
run t (x ∷ xs) zero (suc j) h l f m b =
    ap (λ n. take n (x ∷ xs)) (sym (none (suc j))) ∙ ap (λ r. x ∷ r) (ap (λ n. take n xs) (none j) ∙ run t xs zero j (omega arith) (omega arith) (λ k d n. absurd (omega arith)) (λ k d n p. m (suc k) d (omega arith) (omega arith)) (λ k d n p. b (suc k) d (omega arith) (omega arith)))
    ∙ ap (λ c. cond c (x ∷ filter t xs) (filter t xs)) (sym (m zero x (omega arith) (omega arith)))
  where
    none : (n : ℕ) → n ≡ n - 0
    none n = omega arith
run t (x ∷ xs) (suc i) zero h l f m b = absurd (omega arith)
run t (x ∷ xs) (suc i) (suc j) h l f m b =
    ap (λ n. take n (drop i xs)) (both i j) ∙ run t xs i j (omega arith) (omega arith) (λ k d n. f (suc k) d (omega arith)) (λ k d n p. m (suc k) d (omega arith) (omega arith)) (λ k d n p. b (suc k) d (omega arith) (omega arith))
    ∙ ap (λ c. cond c (x ∷ filter t xs) (filter t xs)) (sym (f zero x (omega arith)))
  where
    both : (m n : ℕ) → suc n - suc m ≡ n - m
    both m n = omega arith

same_number : (a b : ℕ) → a ≡ b → (a == b) ≡ true
same_number a b h = grind arith

less_number : (a b : ℕ) → a < b → (a == b) ≡ false
less_number a b h = grind arith

more_number : (a b : ℕ) → b < a → (a == b) ≡ false
more_number a b h = grind arith

ltb_yes : (a b : ℕ) → ltb a b ≡ true → a < b
ltb_yes a b h = grind arith

ltb_no : (a b : ℕ) → ltb a b ≡ false → b ≤ a
ltb_no a b h = grind arith

leb_yes : (a b : ℕ) → leb a b ≡ true → a ≤ b
leb_yes a b h = grind arith

leb_no : (a b : ℕ) → leb a b ≡ false → b < a
leb_no a b h = grind arith

module _ {X : Type 0} (m : X → ℕ) (p : ℕ) (xs : List X) (i j : ℕ) (start : IsPartitionPoint (λ y. ltb (m y) p ≡ true) (λ y. ltb (m y) p ≡ false) xs i) (end : IsPartitionPoint (λ y. leb (m y) p ≡ true) (λ y. leb (m y) p ≡ false) xs j) (inside : i ≤ length xs) (within : j ≤ length xs) where
  run_ordered : X → i ≤ j
  run_ordered d = on_side (cases_lt j i)
    where
      on_side : (j < i) ⊎ (i ≤ j) → i ≤ j
      on_side (inl h) =
          let low = ltb_yes (m (get_or xs j d)) p (start.0 j d (omega arith) h) in
          let high = leb_no (m (get_or xs j d)) p (end.1 j d (omega arith) (omega arith)) in
          absurd (omega (arith, low, high))
      on_side (inr h) = h

  ordered_at : (ys : List X) → xs ≡ ys → i ≤ j
  ordered_at [] e = let none : length xs ≡ 0 = ap length e in omega (arith, none, inside)
  ordered_at (y ∷ ys) e = run_ordered y

  pub points_ordered : i ≤ j
  points_ordered = ordered_at xs refl

  pub run_is : i ≤ j → take (j - i) (drop i xs) ≡ filter (λ x. m x == p) xs
  run_is h =
      run (λ x. m x == p) xs i j h within
      (λ k d l. less_number (m (get_or xs k d)) p (ltb_yes (m (get_or xs k d)) p (start.0 k d (omega arith) l)))
      (λ k d l u. same_number (m (get_or xs k d)) p (between (m (get_or xs k d)) p (ltb_no (m (get_or xs k d)) p (start.1 k d l (omega arith))) (leb_yes (m (get_or xs k d)) p (end.0 k d (omega arith) u))))
      (λ k d l u. more_number (m (get_or xs k d)) p (leb_no (m (get_or xs k d)) p (end.1 k d l u)))
    where
      between : (a b : ℕ) → b ≤ a → a ≤ b → a ≡ b
      between a b l u = omega arith

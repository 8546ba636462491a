-- Keys with other places put back at distinct legs.
use Rattle.std.specs.Prelude.{◌≡◌, ◌≢◌, ◌<◌, ◌≤◌, ◌+◌, ℕ, zero, suc, List, [], ◌∷◌, length, get_or, set, drop, ⊤}
use Rattle.std.specs.List.{All, AllPairs, AllByRecursion}
use Rattle.std.proofs.Common.{refl, sym, ap, ap₂, ◌∙◌, arith, subst, drop_of_length-le}
use Rattle.sparse_tensor.specs.Operations.{places_at, put_back}
use Rattle.sparse_tensor.proofs.KeyLaws.{length_set, get_set, set_back}

-- no leg is this one
abbrev pub Apart : ℕ → List ℕ → Type 0
Apart leg legs = AllByRecursion (λ l. l ≢ leg) legs

-- the legs are distinct legs of a key with n places
abbrev pub AreLegs : ℕ → List ℕ → Type 0
AreLegs n [] = ⊤
AreLegs n (leg ∷ legs) = (leg < n) × Apart leg legs × AreLegs n legs

apart_from : (leg : ℕ) (legs : List ℕ) → ((i : ℕ) (d : ℕ) → i < length legs → leg ≢ get_or legs i d) → Apart leg legs
apart_from leg [] h = tt
apart_from leg (l ∷ ls) h =
    (λ e. h zero l (omega arith) (sym e), apart_from leg ls (λ i d k. h (suc i) d (omega arith)))

pub are_legs : (n : ℕ) (legs : List ℕ) → All (λ leg. leg < n) legs → AllPairs (λ i j. i ≢ j) legs → AreLegs n legs
are_legs n [] inside distinct = tt
are_legs n (leg ∷ legs) inside distinct =
    (inside zero leg (omega arith), apart_from leg legs (λ i d k. distinct zero (suc i) d (omega arith) (omega arith)), are_legs n legs (λ i d k. inside (suc i) d (omega arith)) (λ i j d h k. distinct (suc i) (suc j) d (omega arith) (omega arith)))

get_other : (k : List ℕ) (l leg x : ℕ) → l ≢ leg → get_or (set k l x) leg 0 ≡ get_or k leg 0
get_other [] l leg x n = refl
get_other (y ∷ ys) zero zero x n = absurd (n refl)
get_other (y ∷ ys) zero (suc leg) x n = refl
get_other (y ∷ ys) (suc l) zero x n = refl
get_other (y ∷ ys) (suc l) (suc leg) x n = get_other ys l leg x (λ e. n (ap suc e))

set_other : (k : List ℕ) (l leg x y : ℕ) → l ≢ leg → set (set k l x) leg y ≡ set (set k leg y) l x
set_other [] l leg x y n = refl
set_other (z ∷ zs) zero zero x y n = absurd (n refl)
set_other (z ∷ zs) zero (suc leg) x y n = refl
set_other (z ∷ zs) (suc l) zero x y n = refl
set_other (z ∷ zs) (suc l) (suc leg) x y n = ap (λ r. z ∷ r) (set_other zs l leg x y (λ e. n (ap suc e)))

pub length_put_back : (k legs ps : List ℕ) → length (put_back k legs ps) ≡ length k
unfolding put_back
length_put_back k [] ps = refl
length_put_back k (leg ∷ legs) [] = refl
length_put_back k (leg ∷ legs) (p ∷ ps) = length_put_back (set k leg p) legs ps ∙ length_set k leg p

get_apart : (k : List ℕ) (leg : ℕ) (legs ps : List ℕ) → Apart leg legs → get_or (put_back k legs ps) leg 0 ≡ get_or k leg 0
unfolding put_back
get_apart k leg [] ps h = refl
get_apart k leg (l ∷ ls) [] h = refl
get_apart k leg (l ∷ ls) (p ∷ ps) h = get_apart (set k l p) leg ls ps h.1 ∙ get_other k l leg p h.0

set_apart : (k : List ℕ) (leg x : ℕ) (legs ps : List ℕ) → Apart leg legs → set (put_back k legs ps) leg x ≡ put_back (set k leg x) legs ps
unfolding put_back
set_apart k leg x [] ps h = refl
set_apart k leg x (l ∷ ls) [] h = refl
set_apart k leg x (l ∷ ls) (p ∷ ps) h =
    set_apart (set k l p) leg x ls ps h.1 ∙ ap (λ r. put_back r ls ps) (set_other k l leg p x h.0)

-- the places that were put there
pub places_put_back : (n : ℕ) (k legs ps : List ℕ) → AreLegs n legs → length k ≡ n → length ps ≡ length legs → places_at legs (put_back k legs ps) ≡ ps
unfolding put_back
places_put_back n k [] [] h e l = refl
places_put_back n k [] (p ∷ ps) h e l = absurd (omega arith)
places_put_back n k (leg ∷ legs) [] h e l = absurd (omega arith)
places_put_back n k (leg ∷ legs) (p ∷ ps) h e l =
    let inside : leg < length k = subst (λ m. leg < m) (sym e) h.0 in
    ap₂ (λ x r. x ∷ r) (get_apart (set k leg p) leg legs ps h.1 ∙ get_set k leg p inside)
    (places_put_back n (set k leg p) legs ps h.2 (length_set k leg p ∙ e) (omega arith))

-- the old places put back
pub put_back_back : (n : ℕ) (k legs ps : List ℕ) → AreLegs n legs → length k ≡ n → length ps ≡ length legs → put_back (put_back k legs ps) legs (places_at legs k) ≡ k
unfolding put_back
put_back_back n k [] ps h e l = refl
put_back_back n k (leg ∷ legs) [] h e l = absurd (omega arith)
put_back_back n k (leg ∷ legs) (p ∷ ps) h e l =
    let inside : leg < length k = subst (λ m. leg < m) (sym e) h.0 in
    ap (λ r. put_back r legs (places_at legs k)) (set_apart (set k leg p) leg (get_or k leg 0) legs ps h.1 ∙ ap (λ r. put_back r legs ps) (set_back k leg p inside))
    ∙ put_back_back n k legs ps h.2 e (omega arith)

-- ---- the steps of a loop over the legs

pub put_step : (key moved new legs order m : List ℕ) (i leg o : ℕ) → drop i legs ≡ leg ∷ drop (i + 1) legs → drop i order ≡ o ∷ drop (i + 1) order → new ≡ set moved leg (get_or key o 0) → put_back moved (drop i legs) (places_at (drop i order) key) ≡ m → put_back new (drop (i + 1) legs) (places_at (drop (i + 1) order) key) ≡ m
unfolding put_back
put_step key moved new legs order m i leg o dl dr hn h =
    ap (λ r. put_back r (drop (i + 1) legs) (places_at (drop (i + 1) order) key)) hn
    ∙ sym (ap₂ (λ ls os. put_back moved ls (places_at os key)) dl dr) ∙ h

pub put_end : (moved legs ps m : List ℕ) (i : ℕ) → length legs ≤ i → put_back moved (drop i legs) ps ≡ m → moved ≡ m
unfolding put_back
put_end moved legs ps m i l h = ap (λ ls. put_back moved ls ps) (sym (drop_of_length-le legs l)) ∙ h

-- ---- places that are put back twice

set_twice : (k : List ℕ) (leg x y : ℕ) → set (set k leg x) leg y ≡ set k leg y
set_twice [] leg x y = refl
set_twice (z ∷ zs) zero x y = refl
set_twice (z ∷ zs) (suc leg) x y = ap (λ r. z ∷ r) (set_twice zs leg x y)

-- the later places count
pub overwritten : (n : ℕ) (k legs ps qs : List ℕ) → AreLegs n legs → length ps ≡ length legs → length qs ≡ length legs → put_back (put_back k legs ps) legs qs ≡ put_back k legs qs
unfolding put_back
overwritten n k [] ps qs h l m = refl
overwritten n k (leg ∷ legs) [] qs h l m = absurd (omega arith)
overwritten n k (leg ∷ legs) (p ∷ ps) [] h l m = absurd (omega arith)
overwritten n k (leg ∷ legs) (p ∷ ps) (q ∷ qs) h l m =
    ap (λ r. put_back r legs qs) (set_apart (set k leg p) leg q legs ps h.1 ∙ ap (λ r. put_back r legs ps) (set_twice k leg p q))
    ∙ overwritten n (set k leg q) legs ps qs h.2 (omega arith) (omega arith)

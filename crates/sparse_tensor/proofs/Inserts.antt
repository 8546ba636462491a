-- One more item at each place of a list, as a loop over the places makes it.
use Rattle.std.specs.Prelude.{◌≡◌, ◌<◌, ◌≤◌, ◌+◌, ◌-◌, ℕ, zero, suc, List, [], ◌∷◌, ◌++◌, length, get_or, take, drop, map}
use Rattle.std.specs.List.{flat_map, insert}
use Rattle.std.proofs.Common.{refl, sym, ap, ◌∙◌, arith, append_assoc, take_all, drop_of_length-le}
use Rattle.std.proofs.lemmas.List.{length-map, take_more}
use Rattle.exact_algebra.specs.Orders.{inserts, orders}
use Rattle.beta_poly.proofs.Steps.{at_number}

pub length_inserts : (x : ℕ) (w : List ℕ) → length (inserts x w) ≡ suc (length w)
unfolding inserts
length_inserts x [] = refl
length_inserts x (y ∷ ys) = ap suc (length-map (inserts x ys) (λ w. y ∷ w) ∙ length_inserts x ys)

get_map : (y : ℕ) (ws : List (List ℕ)) (i : ℕ) (d e : List ℕ) → i < length ws → get_or (map (λ w. y ∷ w) ws) i d ≡ y ∷ get_or ws i e
get_map y [] i d e l = absurd (omega arith)
get_map y (w ∷ ws) zero d e l = refl
get_map y (w ∷ ws) (suc i) d e l = get_map y ws i d e (omega arith)

get_inserts : (x : ℕ) (w : List ℕ) (i : ℕ) (d : List ℕ) → i ≤ length w → get_or (inserts x w) i d ≡ insert w i x
unfolding inserts
get_inserts x [] zero d l = refl
get_inserts x [] (suc i) d l = absurd (omega arith)
get_inserts x (y ∷ ys) zero d l = refl
get_inserts x (y ∷ ys) (suc i) d l =
    get_map y (inserts x ys) i d d (enough i (length (inserts x ys)) (length ys) (omega arith) (length_inserts x ys)) ∙ ap (λ r. y ∷ r) (get_inserts x ys i d (omega arith))
  where
    enough : (j m n : ℕ) → j ≤ n → m ≡ suc n → j < m
    enough j m n h e = omega arith

-- one place more
pub inserts_step : (start out new : List (List ℕ)) (x : ℕ) (w longer : List ℕ) (i : ℕ) → i ≤ length w → out ≡ start ++ take i (inserts x w) → longer ≡ insert w i x → new ≡ out ++ longer ∷ [] → new ≡ start ++ take (i + 1) (inserts x w)
inserts_step start out new x w longer i l ho hl hn =
    let inside : i < length (inserts x w) = let n = length_inserts x w in omega (arith, n, l) in
    hn ∙ ap (λ s. s ++ longer ∷ []) ho ∙ append_assoc start (take i (inserts x w)) (longer ∷ [])
    ∙ ap (λ s. start ++ s) (ap (λ r. take i (inserts x w) ++ r ∷ []) (hl ∙ sym (get_inserts x w i longer l)) ∙ sym (take_more (inserts x w) i longer inside))

pub inserts_end : (start out : List (List ℕ)) (x : ℕ) (w : List ℕ) (i : ℕ) → length w < i → out ≡ start ++ take i (inserts x w) → out ≡ start ++ inserts x w
inserts_end start out x w i l ho =
    ho ∙ ap (λ s. start ++ s) (take_all i (inserts x w) (let n = length_inserts x w in omega (arith, n, l)))

pub orders_none : [] ∷ [] ≡ orders {A = ℕ} []
unfolding orders
orders_none = refl

-- one leg more
pub orders_step : (legs : List ℕ) (i leg : ℕ) (all new : List (List ℕ)) → drop i legs ≡ leg ∷ drop (i + 1) legs → all ≡ orders (drop (i + 1) legs) → new ≡ flat_map (inserts leg) all → new ≡ orders (drop i legs)
unfolding orders
orders_step legs i leg all new d ha hn = hn ∙ ap (flat_map (inserts leg)) ha ∙ sym (ap orders d)

-- a leg before those that are done
pub orders_back : (legs : List ℕ) (i : ℕ) (all new : List (List ℕ)) → 0 < i → i ≤ length legs → all ≡ orders (drop i legs) → new ≡ flat_map (inserts (get_or legs (i - 1) 0)) all → new ≡ orders (drop (i - 1) legs)
orders_back legs i all new l u ha hn =
    let back : i ≡ (i - 1) + 1 = omega arith in
    orders_step legs (i - 1) (get_or legs (i - 1) 0) all new (at_number legs (i - 1) 0 (omega arith)) (ha ∙ ap (λ n. orders (drop n legs)) back) hn

pub orders_start : (legs : List ℕ) (all : List (List ℕ)) → all ≡ [] ∷ [] → all ≡ orders (drop (length legs) legs)
orders_start legs all h = h ∙ orders_none ∙ ap orders (sym (drop_of_length-le legs (omega arith)))

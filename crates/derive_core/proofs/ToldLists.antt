-- Blocks put in their place among those that are told.
use Rattle.std.proofs.Common.{◌≡◌, ℕ, zero, suc, ◌+◌, ◌≤◌, true, false, List, [], ◌∷◌, length, Ordering, Less, Equal, Greater, refl, sym, ap, ◌∙◌, inl, inr, arith, true≢false}
use Rattle.std.specs.Prelude.{⊤}
use Rattle.std.specs.List.{AllByRecursion, insert, prefix_len}
use Rattle.model_core.specs.Content.{is_before}
use Rattle.term_expand.specs.declared.token.Token.{Token}
use Rattle.span_solver.specs.BlockDirections.{same_name}
use Rattle.derive_core.specs.Outcomes.{Ascend, IsAmong}
use Rattle.derive_core.specs.Works.{is_at}
use Rattle.derive_core.specs.BlockBetas.{name_cmp}
use Rattle.derive_core.specs.declared.outcomes.Told.{Told}
use Rattle.derive_core.proofs.NameOrder.{greater_less, name_same, name_itself, name_equal}

-- how many come before a name
abbrev pub place_of : List Token → List Told → ℕ
place_of name told = prefix_len (λ (first : Told). is_before (name_cmp first.block name)) told

-- the list is empty or begins behind a block
abbrev Follows : Told → List Told → Type 0
Follows first [] = ⊤
Follows first (second ∷ others) = name_cmp first.block second.block ≡ Less

ascend-cons : (first : Told) (others : List Told) → Follows first others → Ascend others → Ascend (first ∷ others)
ascend-cons first [] follows ascend = tt
ascend-cons first (second ∷ others) follows ascend = (follows, ascend)

ascend-rest : (first : Told) (others : List Told) → Ascend (first ∷ others) → Follows first others × Ascend others
ascend-rest first [] ascend = (tt, tt)
ascend-rest first (second ∷ others) ascend = ascend

abbrev put : Told → List Told → List Told
put x told = insert told (place_of x.block told) x

-- what a put block follows
follows_put : (first x : Told) (others : List Told) → name_cmp first.block x.block ≡ Less → Follows first others → Follows first (put x others)
follows_put first x [] less follows = less
follows_put first x (second ∷ others) less follows = by_order (name_cmp second.block x.block) refl
  where
    by_order : (o : Ordering) → name_cmp second.block x.block ≡ o → Follows first (put x (second ∷ others))
    by_order Less is = let next : 1 + place_of x.block others ≡ suc (place_of x.block others) = omega arith in rw is (rw next follows)
    by_order Equal is = rw is less
    by_order Greater is = rw is less

ascend_step : (x first : Told) (others : List Told) (o : Ordering) → name_cmp first.block x.block ≡ o → Ascend (first ∷ others) → is_at (first ∷ others) (place_of x.block (first ∷ others)) x.block ≡ false
    → (Ascend others → is_at others (place_of x.block others) x.block ≡ false → Ascend (put x others)) → Ascend (put x (first ∷ others))
ascend_step x first others Less is ascend new later =
    let parts = ascend-rest first others ascend in
    let next : 1 + place_of x.block others ≡ suc (place_of x.block others) = omega arith in
    let rest : is_at others (place_of x.block others) x.block ≡ false = rw next at (rw is at new) in
    rw is (rw next (ascend-cons first (put x others) (follows_put first x others is parts.0) (later parts.1 rest)))
ascend_step x first others Equal is ascend new later =
    let here : same_name first.block x.block ≡ false = rw is at new in
    let never : ⊥ = true≢false (sym (ap (λ name. same_name name x.block) (name_equal first.block x.block is) ∙ name_itself x.block) ∙ here) in absurd never
ascend_step x first others Greater is ascend new later = rw is (greater_less first.block x.block is, ascend)

pub ascend_put : (x : Told) (told : List Told) → Ascend told → is_at told (place_of x.block told) x.block ≡ false → Ascend (put x told)
ascend_put x [] ascend new = tt
ascend_put x (first ∷ others) ascend new = ascend_step x first others (name_cmp first.block x.block) refl ascend new (ascend_put x others)

-- ---- elements

pub all_put : {A : Type 0} (P : A → Type 0) (xs : List A) (place : ℕ) (x : A) → AllByRecursion P xs → P x → AllByRecursion P (insert xs place x)
all_put P xs zero x all here = (here, all)
all_put P [] (suc place) x all here = (here, tt)
all_put P (y ∷ ys) (suc place) x all here = (all.0, all_put P ys place x all.1 here)

pub among_put : (name : List Token) (xs : List Told) (place : ℕ) (x : Told) → IsAmong name xs → IsAmong name (insert xs place x)
among_put name xs zero x among = inr among
among_put name [] (suc place) x among = absurd among
among_put name (y ∷ ys) (suc place) x (inl same) = inl same
among_put name (y ∷ ys) (suc place) x (inr among) = inr (among_put name ys place x among)

pub put_among : (xs : List Told) (place : ℕ) (x : Told) → place ≤ length xs → IsAmong x.block (insert xs place x)
put_among xs zero x within = inl refl
put_among [] (suc place) x within = let never : ⊥ = omega arith in absurd never
put_among (y ∷ ys) (suc place) x within = inr (put_among ys place x (omega arith))

pub among_at : (name : List Token) (xs : List Told) (place : ℕ) → is_at xs place name ≡ true → IsAmong name xs
among_at name [] place at = let never : ⊥ = cc in absurd never
among_at name (x ∷ xs) zero at = inl (sym (name_same x.block name at))
among_at name (x ∷ xs) (suc place) at = inr (among_at name xs place at)

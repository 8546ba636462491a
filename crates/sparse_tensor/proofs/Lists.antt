-- Loops over lists that put something for each item at the end.
use Rattle.std.specs.Prelude.{◌≡◌, ◌<◌, ◌+◌, ℕ, List, [], ◌∷◌, ◌++◌, length, get_or, take}
use Rattle.std.specs.List.{All, flat_map}
use Rattle.std.proofs.Common.{sym, ap, ◌∙◌, append-nil, append_assoc, subst}
use Rattle.std.proofs.lemmas.List.{take_more}
use Rattle.std.proofs.lemmas.Grind.{flat_map-append}

-- the first i items and the next one
pub taken : {X : Type 0} (xs : List X) (i : ℕ) (x : X) → i < length xs → x ≡ get_or xs i x → take i xs ++ x ∷ [] ≡ take (i + 1) xs
taken xs i x l r = ap (λ y. take i xs ++ y ∷ []) r ∙ sym (take_more xs i x l)

-- what is put at the end for each item, after one more
pub flat_step : {X Y : Type 0} (start out new row : List Y) (g : X → List Y) (xs : List X) (i : ℕ) (x : X) → i < length xs → x ≡ get_or xs i x → out ≡ start ++ flat_map g (take i xs) → new ≡ out ++ row → row ≡ g x → new ≡ start ++ flat_map g (take (i + 1) xs)
flat_step start out new row g xs i x l r ho hn hr =
    hn ∙ ap (λ s. s ++ row) ho ∙ append_assoc start (flat_map g (take i xs)) row
    ∙ ap (λ s. start ++ s) (ap (λ s. flat_map g (take i xs) ++ s) (hr ∙ sym (append-nil (g x))) ∙ sym (flat_map-append g (take i xs) (x ∷ [])) ∙ ap (flat_map g) (taken xs i x l r))

-- what holds of each item holds of the one at a place
pub item_of : {X : Type 0} (P : X → Type 0) (xs : List X) (i : ℕ) (x : X) → i < length xs → x ≡ get_or xs i x → All P xs → P x
item_of P xs i x l r h = subst P (sym r) (h i x l)

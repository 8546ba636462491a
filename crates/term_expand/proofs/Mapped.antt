-- Loops that add the image of each item of a list.
use Rattle.std.specs.Prelude.{◌≡◌, ◌+◌, ℕ, List, [], ◌∷◌, ◌++◌, map, slice_get, Some}
use Rattle.std.proofs.Common.{take, sym, ap, ◌∙◌}
use Rattle.std.proofs.lemmas.List.{append_assoc, map-append, take_more}
use Rattle.std.proofs.lemmas.Option.{slice_get_within, get_or_from_slice_get}

-- one item more
pub mapped_step : {A B : Type 0} (f : A → B) (xs : List A) (i : ℕ) (x : A) (y : B) (old now new : List B) → slice_get xs i ≡ Some x → y ≡ f x → now ≡ old ++ map f (take i xs) → new ≡ now ++ y ∷ [] → new ≡ old ++ map f (take (i + 1) xs)
mapped_step f xs i x y old now new found is so_far next =
    let more : take (i + 1) xs ≡ take i xs ++ x ∷ [] = take_more xs i x (slice_get_within xs i x found) ∙ ap (λ d. take i xs ++ d ∷ []) (get_or_from_slice_get xs i x x found) in
    next ∙ ap (λ l. l ++ y ∷ []) so_far ∙ append_assoc old (map f (take i xs)) (y ∷ [])
    ∙ ap (λ z. old ++ (map f (take i xs) ++ z ∷ [])) is
    ∙ ap (λ l. old ++ l) (sym (map-append f (take i xs) (x ∷ [])) ∙ ap (map f) (sym more))

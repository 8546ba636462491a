-- Lists whose elements are numbered, from a place on.
use Rattle.std.proofs.Common.{◌≡◌, ℕ, suc, ◌+◌, List, ◌∷◌, ◌++◌, [], map, drop, drop-cons, append_assoc, Some, sym, ap, ◌∙◌, arith}
use Rattle.std.specs.Prelude.{slice_get}
use Rattle.std.specs.List.{enumerate_from}
use Rattle.std.proofs.lemmas.Option.{slice_get_within, get_or_from_slice_get}

-- the element at a place, and those after it
enumerate_from-drop : {A : Type 0} (xs : List A) (i : ℕ) (x : A) → slice_get xs i ≡ Some x → enumerate_from i (drop i xs) ≡ (i, x) ∷ enumerate_from (i + 1) (drop (i + 1) xs)
enumerate_from-drop xs i x found =
    let next : suc i ≡ i + 1 = omega arith in
    ap (enumerate_from i) (drop-cons xs i x (slice_get_within xs i x found))
    ∙ ap (λ y. (i, y) ∷ enumerate_from (i + 1) (drop (suc i) xs)) (get_or_from_slice_get xs i x x found)
    ∙ ap (λ k. (i, x) ∷ enumerate_from (i + 1) (drop k xs)) next

-- one element more of a map over numbered elements
pub numbered_more : {A B : Type 0} (f : ℕ × A → B) (xs : List A) (i : ℕ) (x : A) (done : List B) → slice_get xs i ≡ Some x
    → (done ++ f (i, x) ∷ []) ++ map f (enumerate_from (i + 1) (drop (i + 1) xs)) ≡ done ++ map f (enumerate_from i (drop i xs))
numbered_more f xs i x done found =
    append_assoc done (f (i, x) ∷ []) (map f (enumerate_from (i + 1) (drop (i + 1) xs)))
    ∙ ap (λ ys. done ++ map f ys) (sym (enumerate_from-drop xs i x found))

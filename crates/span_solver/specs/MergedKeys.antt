-- Two ascending lists of keys as one.
use Rattle.std.specs.Prelude.{List, [], ◌∷◌, ℕ}
use Rattle.std.proofs.Common.{Ordering, Less, Equal, Greater}
use Rattle.exact_algebra.specs.TensorContraction.{places_cmp}

-- the merge of two lists by how their first keys compare, from the three merges of what is left
abbrev pub merge_at : Ordering → List ℕ → List ℕ → List (List ℕ) → List (List ℕ) → List (List ℕ) → List (List ℕ)
merge_at Less a b less equal greater = a ∷ less
merge_at Equal a b less equal greater = a ∷ equal
merge_at Greater a b less equal greater = b ∷ greater

-- the merge of a list that begins with a
abbrev pub merge_into : List ℕ → (List (List ℕ) → List (List ℕ)) → List (List ℕ) → List (List ℕ)
merge_into a rest [] = a ∷ rest []
merge_into a rest (b ∷ bs) = merge_at (places_cmp a b) a b (rest (b ∷ bs)) (rest bs) (merge_into a rest bs)

-- the keys of both lists in order, a common one once
unfoldable pub merge_keys : List (List ℕ) → List (List ℕ) → List (List ℕ)
merge_keys [] bs = bs
merge_keys (a ∷ ps) bs = merge_into a (merge_keys ps) bs

-- Places in a list and in its image.
use Rattle.std.proofs.Common.{◌≡◌, ◌+◌, Bool, cond, List, [], ◌∷◌, map, refl, ap, ap₂, Some, None}
use Rattle.std.specs.Prelude.{not, nat_lt, position}
use Rattle.std.specs.List.{position_or_len}
use Rattle.std.proofs.lemmas.List.{length-map}

position_or_len-map : {A B : Type 0} (xs : List A) (f : A → B) (test : B → Bool) → position_or_len test (map f xs) ≡ position_or_len (λ x. test (f x)) xs
position_or_len-map [] f test = refl
position_or_len-map (x ∷ xs) f test = ap (λ rest. cond (not (test (f x))) (1 + rest) 0) (position_or_len-map xs f test)

pub position-map : {A B : Type 0} (xs : List A) (f : A → B) (test : B → Bool) → position test (map f xs) ≡ position (λ x. test (f x)) xs
position-map xs f test = ap₂ (λ place count. cond (nat_lt place count) (Some place) None) (position_or_len-map xs f test) (length-map xs f)

-- Tests of a list's image.
use Rattle.std.proofs.Common.{◌≡◌, Bool, List, [], ◌∷◌, map, refl, ap}
use Rattle.std.specs.Prelude.{◌||◌}
use Rattle.std.specs.List.{list_any}

pub list_any_map : {A B : Type 0} (xs : List A) (f : A → B) (test : B → Bool) → list_any test (map f xs) ≡ list_any (λ x. test (f x)) xs
list_any_map [] f test = refl
list_any_map (x ∷ xs) f test = ap (λ rest. test (f x) || rest) (list_any_map xs f test)

-- The generation that a word in a bracket is.
use Rattle.std.proofs.Common.{◌≡◌, ℕ, suc, ◌+◌, Bool, true, false, cond, List, ◌∷◌, length, refl, ap, arith, Some, None}
use Rattle.std.specs.Prelude.{nat_lt, position, if◌then◌else◌}
use Rattle.std.specs.List.{position_or_len}
use Rattle.std.specs.Str.{bytes_eq}
use Rattle.std.proofs.lemmas.Bool.Decides.{nat_tests}
use Rattle.model_core.specs.declared.term.Generation.TheVariants.{Row, Column}
use Rattle.model_core.specs.TermMeaning.{is_first, flavour_generation}

pub first_is_row : (word first : List ℕ) (flavour : List (List ℕ)) → bytes_eq word first ≡ true → flavour_generation (first ∷ flavour) word ≡ Row
first_is_row word first flavour same =
    let some : nat_lt 0 (suc (length flavour)) ≡ true = grind (arith, nat_tests) in
    rw (same, some) refl

not_first : (inside : Bool) (n : ℕ) → is_first (cond inside (Some (1 + n)) None) ≡ false
not_first true n = grind (arith, nat_tests)
not_first false n = refl

pub other_is_column : (word first : List ℕ) (flavour : List (List ℕ)) → bytes_eq word first ≡ false → flavour_generation (first ∷ flavour) word ≡ Column
other_is_column word first flavour other =
    let later : is_first (position (bytes_eq word) (first ∷ flavour)) ≡ false = rw other (not_first _ (position_or_len (bytes_eq word) flavour)) in
    ap (λ b. if b then Row else Column) later

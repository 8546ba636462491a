-- Words that are too few or too many for any command.
use Rattle.std.proofs.Common.{◌≡◌, List, [], ◌∷◌, length, None, refl}
use Rattle.std.specs.declared.rc.RcStr.{RcStr}
use Rattle.std.specs.declared.alloc.Global.{Global}
use Rattle.rate_tool.specs.Words.{command_of, texts}

pub no_command : (words : List (RcStr Global)) → (length words ≡ 1 → ⊥) → (length words ≡ 2 → ⊥) → (length words ≡ 3 → ⊥) → (length words ≡ 4 → ⊥) → (length words ≡ 6 → ⊥)
    → None ≡ command_of (texts words)
no_command [] one two three four six = refl
no_command (a ∷ []) one two three four six = absurd (one refl)
no_command (a ∷ b ∷ []) one two three four six = absurd (two refl)
no_command (a ∷ b ∷ c ∷ []) one two three four six = absurd (three refl)
no_command (a ∷ b ∷ c ∷ d ∷ []) one two three four six = absurd (four refl)
no_command (a ∷ b ∷ c ∷ d ∷ e ∷ []) one two three four six = refl
no_command (a ∷ b ∷ c ∷ d ∷ e ∷ f ∷ []) one two three four six = absurd (six refl)
no_command (a ∷ b ∷ c ∷ d ∷ e ∷ f ∷ g ∷ more) one two three four six = refl

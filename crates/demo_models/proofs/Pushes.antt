-- Texts that are put together piece by piece.
use Rattle.std.proofs.Common.{◌≡◌, ℕ, List, ◌++◌, ap, ◌∙◌, append_assoc}

-- Behind a text with more stands one more piece.
pub pushed : (text more piece : List ℕ) {next end : List ℕ} → next ≡ text ++ more → end ≡ next ++ piece → end ≡ text ++ (more ++ piece)
pushed text more piece before last = last ∙ ap (λ t. t ++ piece) before ∙ append_assoc text more piece

-- A piece that a source in memory gives.
use Rattle.std.proofs.Common.{◌≡◌, ℕ, ◌+◌, ◌<◌, ◌≤◌, min, List, [], ◌++◌, take, drop, length, arith, sym, ap, ◌∙◌}
use Rattle.std.proofs.lemmas.List.{length-take-le, length-drop, take-append-drop, drop-drop, nil_from_length}
use Rattle.std.proofs.Math.Seq.{take-append_seam}

-- The piece in the buffer's front, and then what is left.
pub piece-and-rest : (bytes buf piece : List ℕ) (at k : ℕ) → piece ≡ take k (drop at bytes) → k ≤ length (drop at bytes)
    → drop at bytes ≡ take k (piece ++ drop k buf) ++ drop (at + k) bytes
piece-and-rest bytes buf piece at k is short =
    let long : length piece ≡ k = ap length is ∙ length-take-le k (drop at bytes) short in
    let front : take k (piece ++ drop k buf) ≡ piece = ap (λ n. take n (piece ++ drop k buf)) (sym long) ∙ take-append_seam piece (drop k buf) in
    sym (ap (λ t. t ++ drop (at + k) bytes) (front ∙ is)
    ∙ ap (λ t. take k (drop at bytes) ++ t) (sym (drop-drop k at bytes))
    ∙ take-append-drop k (drop at bytes))

-- No piece, though there was room: nothing is left.
pub none-left : (bytes : List ℕ) (at k room : ℕ) → k ≡ min (length (drop at bytes)) room → 0 < room → k ≡ 0 → drop (at + k) bytes ≡ []
none-left bytes at k room is some none =
    nil_from_length (drop (at + k) bytes) (omega (arith, length-drop (at + k) bytes, length-drop at bytes))

-- Writes, one after another.
use Rattle.std.proofs.Common.{◌≡◌, ℕ, ◌+◌, ◌≤◌, List, [], length-append, refl, sym, ◌++◌, take, drop, length, ◌-◌, arith, Option, None, Some, ap, ◌∙◌, append_assoc}
use Rattle.std.proofs.lemmas.List.{take_all, length-drop}
use Rattle.std.proofs.Math.Seq.{take-add}
use Rattle.rate_tool.specs.Stream.{Gave, GaveFew, Took}
use Rattle.rate_tool.specs.Reply.{most_asked}
use Rattle.rate_tool.specs.Steps.{WasRead}

-- one write after another
pub Took-then : (a b c : Option (List ℕ)) (xs ys : List ℕ) → Took a b xs → Took b c ys → Took a c (xs ++ ys)
Took-then a b None xs ys first second = tt
Took-then None None (Some z) xs ys first second = absurd second
Took-then None (Some y) (Some z) xs ys first second = absurd first
Took-then (Some x) None (Some z) xs ys first second = absurd second
Took-then (Some x) (Some y) (Some z) xs ys first second = second ∙ ap (λ t. t ++ ys) first ∙ append_assoc x xs ys

-- one more piece of the bytes was taken
pub Took-more : (a b c : Option (List ℕ)) (bytes : List ℕ) (at n : ℕ) → Took a b (take at bytes)
    → Took b c (take n (take (length bytes - at) (drop at bytes))) → Took a c (take (at + n) bytes)
Took-more a b c bytes at n first second =
    let whole : take (length bytes - at) (drop at bytes) ≡ drop at bytes = take_all (length bytes - at) (drop at bytes) (omega (arith, length-drop at bytes)) in
    rw (take-add at n bytes) (Took-then a b c (take at bytes) (take n (drop at bytes)) first (rw whole at second))

-- ---- bytes that a source gave

-- one piece after another
Gave-then : (a b c : Option (List ℕ)) (xs ys : List ℕ) → Gave a b xs → Gave b c ys → Gave a c (xs ++ ys)
Gave-then None None None xs ys first second = tt
Gave-then None None (Some z) xs ys first second = absurd second
Gave-then None (Some y) c xs ys first second = absurd first
Gave-then (Some x) None c xs ys first second = absurd first
Gave-then (Some x) (Some y) None xs ys first second = absurd second
Gave-then (Some x) (Some y) (Some z) xs ys first second = first ∙ ap (λ t. xs ++ t) second ∙ sym (append_assoc xs ys z)

pub gave_nothing : (left : Option (List ℕ)) → Gave left left []
gave_nothing None = tt
gave_nothing (Some bytes) = refl

-- nothing was read
pub few_unread : (left : Option (List ℕ)) → GaveFew most_asked left left
few_unread left = record { bytes = []; gave = gave_nothing left; few = omega arith }

-- a file was read
pub few_read : (left left' : Option (List ℕ)) (file : List ℕ) → WasRead left left' file → GaveFew most_asked left left'
few_read left left' file read = record { bytes = file; gave = read.gave; few = omega (arith, read.short) }

-- some bytes, and then one piece more
pub few_more : (a b c : Option (List ℕ)) (bytes : List ℕ) (room : ℕ) → Gave a b bytes → GaveFew room b c → length bytes + room ≤ most_asked → GaveFew most_asked a c
few_more a b c bytes room first more fits =
    record { bytes = bytes ++ more.bytes; gave = Gave-then a b c bytes more.bytes first more.gave; few = omega (arith, length-append bytes more.bytes, more.few, fits) }

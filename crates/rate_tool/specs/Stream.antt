-- What reads and writes do to the bytes that a source and a sink tell, and to their counts of faults.
use Rattle.std.specs.Prelude.{◌≡◌, ℕ, ◌≤◌, List, [], ◌++◌, length, take, ⊤, Option, Some, None, Result, Ok, Err, OnOk, OnErr, is_err, if◌then◌else◌}
pub use Rattle.register_core.specs.Counts.{Rose, one_more}
use Rattle.rate_tool.specs.declared.stream.Failed.{Failed}

-- The count doesn't fall, a failure comes only where it rose, and an Ok leaves it.
pub record HasCause {T E : Type 0} (before now : ℕ) (result : Result T E) : Type 0 where
  pub later : before ≤ now
  pub failed : OnErr result (Rose before now)
  pub kept : OnOk result (now ≡ before)

-- the count after a call: each failure raises it by one, and nothing else changes it
abbrev pub count_after : {T E : Type 0} → ℕ → Result T E → ℕ
count_after before result = if is_err result then one_more before else before

-- The source gave these bytes. It tells what is left exactly where it told it before.
abbrev pub Gave : Option (List ℕ) → Option (List ℕ) → List ℕ → Type 0
Gave None None bytes = ⊤
Gave None (Some ys) bytes = ⊥
Gave (Some xs) None bytes = ⊥
Gave (Some xs) (Some ys) bytes = xs ≡ bytes ++ ys

-- the source gave at most so many bytes
pub record GaveFew (most : ℕ) (left left' : Option (List ℕ)) : Type 0 where
  pub bytes : List ℕ
  pub gave : Gave left left' bytes
  pub few : length bytes ≤ most

-- no byte is left, where that is told
abbrev pub IsEmptied : Option (List ℕ) → Type 0
IsEmptied None = ⊤
IsEmptied (Some xs) = xs ≡ []

-- The sink took these bytes, where it tells what it has taken. One that tells it now told it before.
abbrev pub Took : Option (List ℕ) → Option (List ℕ) → List ℕ → Type 0
Took old None bytes = ⊤
Took None (Some ys) bytes = ⊥
Took (Some xs) (Some ys) bytes = ys ≡ xs ++ bytes

-- the sink took a front of these bytes
pub record TookFront (taken taken' : Option (List ℕ)) (bytes : List ℕ) : Type 0 where
  pub front : ℕ
  pub took : Took taken taken' (take front bytes)

-- How the writing of these bytes ends: all were taken, or a front of them and the sink's count rose.
abbrev pub Writes : Option (List ℕ) → Option (List ℕ) → ℕ → ℕ → List ℕ → Result (Unit {0}) Failed → Type 0
Writes taken taken' before now bytes (Ok done) = Took taken taken' bytes × (now ≡ before)
Writes taken taken' before now bytes (Err failed) = TookFront taken taken' bytes × Rose before now

-- What sources and sinks in memory hold.
use Rattle.std.specs.Prelude.{ℕ, ◌+◌, nat_le, if◌then◌else◌, List, ◌++◌, length, Option, Some, None}
pub use Rattle.register_core.specs.Memory.{is_listed}

-- a source that fails on some calls: the bytes left, the numbers of the calls that fail, and how many calls and faults there were
pub record MemoryInput : Type 0 where
  pub left : List ℕ
  pub fails : List ℕ
  pub calls : ℕ
  pub faults : ℕ

-- bytes in a room of a fixed size
pub record Filled : Type 0 where
  pub size : ℕ
  pub bytes : List ℕ

-- a sink that never fails: the bytes taken, where they fit in its room
pub record SureOutput : Type 0 where
  pub room : ℕ
  pub taken : Option (List ℕ)

-- the bytes and one more piece, where they are known and all fit in the room
abbrev pub fitting : ℕ → Option (List ℕ) → List ℕ → Option (List ℕ)
fitting room None piece = None
fitting room (Some bytes) piece = if nat_le (length bytes + length piece) room then Some (bytes ++ piece) else None

-- a sink that fails on some calls and where its room is full
pub record MemoryOutput : Type 0 where
  pub room : ℕ
  pub taken : List ℕ
  pub fails : List ℕ
  pub calls : ℕ
  pub faults : ℕ

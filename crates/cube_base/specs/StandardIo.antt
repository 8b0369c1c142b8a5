-- What contracts see of std's readers and writers as sources and sinks.
use Rattle.std.specs.Prelude.{ℕ}

-- a reader of std with its count of faults and that of reads that gave no byte
pub record Read (T : Type 0) : Type 0 where
  pub inner : T
  pub faults : ℕ
  pub ends : ℕ

-- a writer of std with its count of faults
pub record Written (T : Type 0) : Type 0 where
  pub inner : T
  pub faults : ℕ

-- What contracts see of a source and a sink in memory.
use Rattle.std.specs.Prelude.{ℕ, List}

-- a source: the bytes left, the most that a call gives, how many calls and faults there were and how many calls gave no byte, the calls that fail
pub record Reading : Type 0 where
  pub left : List ℕ
  pub step : ℕ
  pub calls : ℕ
  pub faults : ℕ
  pub ends : ℕ
  pub fails : List ℕ

-- a sink: the bytes taken, the most that a call takes, how many calls and faults there were, the calls that fail
pub record Writing : Type 0 where
  pub taken : List ℕ
  pub step : ℕ
  pub calls : ℕ
  pub faults : ℕ
  pub fails : List ℕ

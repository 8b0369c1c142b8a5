use Rattle.std.proofs.Common.{◌≡◌, ◌+◌, length, take}
use Rattle.std.specs.Prelude.{◌++◌}
use Rattle.cube_model.specs.Limits.{MAX_COLS}
use Rattle.fact_records.proofs.places.append.Given as goal

-- the values more before this one stand behind the others
abbrev pub invariant-loop-i : goal.invariant-loop-i
invariant-loop-i l = (take l.end l.places ≡ l.fn.cols ++ take l.i l.more) × (l.end ≡ length l.fn.cols + l.i) × (length l.places ≡ MAX_COLS)

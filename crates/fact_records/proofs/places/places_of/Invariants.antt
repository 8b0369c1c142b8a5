use Rattle.std.proofs.Common.{◌≡◌, length, take}
use Rattle.cube_model.specs.Limits.{MAX_COLS}
use Rattle.fact_records.proofs.places.places_of.Given as goal

-- the values before this one stand in their places
abbrev pub invariant-loop-i : goal.invariant-loop-i
invariant-loop-i l = (take l.i l.places ≡ take l.i l.cols) × (length l.places ≡ MAX_COLS)

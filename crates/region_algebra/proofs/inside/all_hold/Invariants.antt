use Rattle.std.proofs.Common.{◌≡◌, drop}
use Rattle.std.specs.List.{list_all}
use Rattle.region_algebra.specs.Inside.{is_held}
use Rattle.region_algebra.proofs.inside.all_hold.Given as goal

abbrev pub invariant-loop-digit : goal.invariant-loop-digit
invariant-loop-digit l = list_all (is_held l.cell) l.digits ≡ list_all (is_held l.cell) (drop l.digit-index l.digits)

use Rattle.std.proofs.Common.{◌≡◌, ◌+◌, ◌*◌, ◌^◌, ◌<◌}
use Rattle.exact_fraction.proofs.fraction.units_by_digits.Given as goal

-- the digits so far are those of the fraction
abbrev pub invariant-loop-place : goal.invariant-loop-place
invariant-loop-place l = record { parts : l.whole * l.den + l.rest ≡ l.size * 10 ^ l.place; rest : l.rest < l.den }

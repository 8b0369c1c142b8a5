use Rattle.std.proofs.Common.{◌≡◌, ◌+◌, drop, map}
use Rattle.std.specs.Option.{option_map}
use Rattle.store_audit.specs.Sound.{fact_told}
use Rattle.feed_run.specs.Following.{first_difference}
use Rattle.feed_run.proofs.same_base.first_difference.Given as goal

-- those before the place are the same
abbrev pub invariant-loop-place : goal.invariant-loop-place
invariant-loop-place l = first_difference (map fact_told l.kept) l.facts ≡ option_map (λ p. p + l.place) (first_difference (drop l.place (map fact_told l.kept)) (drop l.place l.facts))

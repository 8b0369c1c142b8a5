-- The place of the first, or that behind the last.
use Rattle.std.proofs.Common.{◌∙◌, ap, sym, subst, length, ◌≤◌}
use Rattle.std.specs.Prelude.{unwrap_or}
use Rattle.std.proofs.lemmas.List.Sums.{prefix_len-le-length}
use Rattle.fact_keeper.proofs.Places.{position-or_len}
use Rattle.fact_keeper.proofs.update.place_for.Goals as goal

pub returns-clause-place : goal.returns-clause-place
returns-clause-place g c = c.unwrap_or.ensures ∙ ap (λ r. unwrap_or r (length c.args.entries.now)) c.first_above.ensures ∙ position-or_len _ c.args.entries.now

pub returns-clause-within : goal.returns-clause-within
returns-clause-within g c = subst (λ n. n ≤ length c.args.entries.now) (sym (returns-clause-place g c)) (prefix_len-le-length _ c.args.entries.now)

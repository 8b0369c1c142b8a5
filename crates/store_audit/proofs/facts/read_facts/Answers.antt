-- None of the facts is refused, and their list is in order.
use Rattle.store_audit.proofs.Reading.{valid-good}
use Rattle.store_audit.proofs.facts.read_facts.Goals as goal

pub returns-clause-valid : goal.returns-clause-valid
returns-clause-valid c = valid-good _ _ c.args.kept.now c.in_ok-read_all.ensures.good _ c.in_ok-read_all.ensures.facts c.len.ensures.ascending

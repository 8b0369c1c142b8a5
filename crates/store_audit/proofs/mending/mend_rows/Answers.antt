-- The rows that a state of the content's facts has are those that the facts make.
use Rattle.std.proofs.Common.{ap, map, ◌∙◌}
use Rattle.fact_records.specs.Shape.{policy_over}
use Rattle.store_audit.specs.Sound.{fact_told}
use Rattle.store_audit.proofs.Loaded.{rows-of_state}
use Rattle.store_audit.proofs.Walking.{batch-mended}
use Rattle.store_audit.proofs.mending.mend_rows.Goals as goal

pub returns-clause-batch : goal.returns-clause-batch
returns-clause-batch g c =
    let weigh = g.P.WeightPolicy.weigh in
    let state = c.in_ok-state.state in
    let are = c.in_ok-state.ensures in
    let told = c.in_ok-facts.ensures.facts ∙ ap (map fact_told) c.as_slice.ensures in
    let made = rows-of_state weigh state c.args.policy c.args.shape c.args.space (map fact_told c.args.stored.now.facts) are.policy are.shape are.dims (are.facts ∙ told) in
    c.in_ok-mending.ensures.batch
    ∙ batch-mended (policy_over (weigh c.args.policy) c.args.shape) c.args.space c.args.stored.now state.facts _ c.as_slice-2.result.now (are.facts ∙ told) made c.as_slice-2.ensures

-- The rows that a state of the content's facts has are those that the facts make.
use Rattle.std.proofs.Common.{map}
use Rattle.std.proofs.lemmas.Result.{err_from_is_err_and}
use Rattle.edit_plan.specs.Plan.{kept_rows}
use Rattle.cube_state.specs.State.{rows_in}
use Rattle.fact_records.specs.Shape.{policy_over}
use Rattle.store_audit.proofs.Loaded.{rows-fault, rows-of_state}
use Rattle.store_audit.proofs.loading.load_state.Goals as goal

pub returns-in_err-check_rows-clause-fault : goal.returns-in_err-check_rows-clause-fault
returns-in_err-check_rows-clause-fault g c =
    let weigh = g.P.WeightPolicy.weigh in
    let state = c.in_ok-state.state in
    let are = c.in_ok-state.ensures in
    let p = err_from_is_err_and c.from_residual-in_err-check_rows.result c.from_residual-in_err-check_rows.ensures.1 in
    rw (p.1, p.2)
    (rows-fault (policy_over (weigh c.args.policy) c.args.shape) c.args.shape c.args.space c.args.stored.now c.as_slice.result.now c.as_slice.ensures c.in_ok-facts.ensures.good c.in_ok-facts.facts.facts c.in_ok-facts.ensures.facts are.few
    c.as_slice-2.result.now (map kept_rows (rows_in weigh state)) c.as_slice-2.ensures (rows-of_state weigh state c.args.policy c.args.shape c.args.space c.in_ok-facts.facts.facts are.policy are.shape are.dims are.facts) c.in_err-check_rows.field-0.0
    c.in_err-check_rows.ensures.fault)

-- The facts are left one after another, and the first difference is told.
use Rattle.std.proofs.Common.{map, refl, sym, ◌∙◌}
use Rattle.std.specs.Prelude.{None}
use Rattle.std.specs.Option.{option_copied}
use Rattle.std.proofs.lemmas.Result.{IfErr-weaker, err_from_is_err_and, on_ok_weaker}
use Rattle.edit_plan.specs.Plan.{kept_rows}
use Rattle.cube_state.specs.State.{policy_in, rows_in}
use Rattle.store_audit.specs.Loading.{DiffersAt, IsRowsFault}
use Rattle.store_audit.proofs.Comparing.{alike-next, all-alike, anew-ended, differ-first, fact-here, got, rows-count}
use Rattle.store_audit.proofs.rows.check_rows.Goals as goal

pub check_fact-requires : goal.check_fact-requires
check_fact-requires g c = fact-here _ _ _ _ _ c.loop-fact.invariant _ _ c.in-Some.ensures.steps

pub returns-in_err-check_fact-clause-fault : goal.returns-in_err-check_fact-clause-fault
returns-in_err-check_fact-clause-fault g c =
    let p = err_from_is_err_and c.from_residual.result c.from_residual.ensures.1 in
    rw (p.1, p.2) (differ-first _ _ _ _ _ c.loop-fact.invariant _ _ c.in_err-check_fact.field-0.0 (got c.args.kept.now c.loop-fact.place c.get.result c.get.ensures.lookup.3) refl c.in_err-check_fact.ensures.fault)

pub loop-fact-preserved : goal.loop-fact-preserved
loop-fact-preserved g c = alike-next _ _ _ _ _ c.loop-fact.invariant _ _ c.in-Some.ensures.steps (sym (got c.args.kept.now c.loop-fact.place c.get.result c.get.ensures.lookup.3) ∙ c.in_ok-check_fact.ensures.same)

pub returns-clause-same : goal.returns-clause-same
returns-clause-same g c =
    let state = c.args.state.now in
    let ended = anew-ended _ _ _ _ _ c.loop-fact.invariant c.in-None.ensures.steps.0 (rows-count (policy_in g.P.WeightPolicy.weigh state) state.dims state.facts) in
    on_ok_weaker c.check_end.result (λ none. all-alike _ _ _ _ _ c.loop-fact.invariant (sym (got c.args.kept.now c.loop-fact.place c.get-2.result c.get-2.ensures.lookup.3) ∙ none) ended) c.check_end.ensures.same

pub returns-clause-fault : goal.returns-clause-fault
returns-clause-fault g c =
    let state = c.args.state.now in
    let ended = anew-ended _ _ _ _ _ c.loop-fact.invariant c.in-None.ensures.steps.0 (rows-count (policy_in g.P.WeightPolicy.weigh state) state.dims state.facts) in
    IfErr-weaker c.check_end.result (DiffersAt c.loop-fact.place (option_copied c.get-2.result) None) (IsRowsFault c.args.kept.now (map kept_rows (rows_in g.P.WeightPolicy.weigh state)))
    (λ fault told. differ-first _ _ _ _ _ c.loop-fact.invariant _ _ fault (got c.args.kept.now c.loop-fact.place c.get-2.result c.get-2.ensures.lookup.3) (sym ended) told) c.check_end.ensures.fault

-- The fact at a place has an allocation, and its rows are those at the place.
use Rattle.std.proofs.Common.{ap, subst, ◌∙◌, map}
use Rattle.std.specs.Prelude.{Some, slice_get}
use Rattle.std.specs.Option.{option_copied}
use Rattle.std.proofs.lemmas.Result.{IfErr-weaker, on_ok_weaker}
use Rattle.edit_plan.specs.Plan.{kept_rows}
use Rattle.cube_state.specs.State.{policy_in, rows_in}
use Rattle.store_audit.specs.Loading.{DiffersAt, rows_told}
use Rattle.store_audit.proofs.Comparing.{never-lost, rows-found}
use Rattle.store_audit.proofs.rows.check_fact.Goals as goal

pub unreachable-requires : goal.unreachable-requires
unreachable-requires g c =
    let state = c.args.state.now in
    never-lost (policy_in g.P.WeightPolicy.weigh state) state.dims state.facts c.args.place c.args.fact.now c.requires c.facts.ensures.valid.ascending c.look_up.result c.look_up.ensures.rows c.in_default.is

pub returns-clause-same : goal.returns-clause-same
returns-clause-same g c =
    let state = c.args.state.now in
    on_ok_weaker c.compare.result
    (λ is.
    is
    ∙ rows-found (policy_in g.P.WeightPolicy.weigh state) state.dims state.facts c.args.place c.args.fact.now c.requires c.facts.ensures.valid.ascending c.look_up.result c.look_up.ensures.rows c.in-Some.spread.now (ap option_copied c.in-Some.is))
    c.compare.ensures.same

pub returns-clause-fault : goal.returns-clause-fault
returns-clause-fault g c =
    let state = c.args.state.now in
    let its =
    rows-found (policy_in g.P.WeightPolicy.weigh state) state.dims state.facts c.args.place c.args.fact.now c.requires c.facts.ensures.valid.ascending c.look_up.result c.look_up.ensures.rows c.in-Some.spread.now (ap option_copied c.in-Some.is) in
    IfErr-weaker c.compare.result (DiffersAt c.args.place (option_copied c.args.kept) (Some (rows_told c.args.fact.now.id c.in-Some.spread.now)))
    (DiffersAt c.args.place (option_copied c.args.kept) (slice_get (map kept_rows (rows_in g.P.WeightPolicy.weigh state)) c.args.place))
    (λ fault told. subst (λ there. DiffersAt c.args.place (option_copied c.args.kept) there fault) its told) c.compare.ensures.fault

-- A fact that is there has an allocation, and its rows are put or not.
use Rattle.std.proofs.Common.{ap, sym, ◌∙◌}
use Rattle.std.specs.Option.{option_copied}
use Rattle.cube_state.specs.State.{policy_in}
use Rattle.std.proofs.lemmas.Result.{on_ok_weaker}
use Rattle.store_audit.specs.Loading.{rows_told}
use Rattle.store_audit.proofs.Walking.{is-put, never-missing, not-put, rows_for, spread-found}
use Rattle.store_audit.proofs.mending.put_wanting.Goals as goal

pub unreachable-requires : goal.unreachable-requires
unreachable-requires g c =
    let state = c.args.state.now in
    never-missing (policy_in g.P.WeightPolicy.weigh state) state.dims state.facts c.args.fact.now c.requires.there c.look_up.result c.look_up.ensures.rows c.in_default.is

pub returns-then-not-is_wanting : goal.returns-then-not-is_wanting
returns-then-not-is_wanting g c =
    let state = c.args.state.now in
    let fact = c.args.fact.now in
    let policy = policy_in g.P.WeightPolicy.weigh state in
    let its = spread-found policy state.dims state.facts fact c.requires.there c.look_up.result c.look_up.ensures.rows c.in-Some.spread.now (ap option_copied c.in-Some.is) in
    not-put c.args.kept.now c.args.rows.now (rows_told fact.id c.in-Some.spread.now) (rows_for policy state.dims state.facts c.args.kept.now fact) its (sym c.is_wanting.ensures ∙ c.if-not-is_wanting.true)

pub returns : goal.returns
returns g c =
    let state = c.args.state.now in
    let fact = c.args.fact.now in
    let policy = policy_in g.P.WeightPolicy.weigh state in
    let its = spread-found policy state.dims state.facts fact c.requires.there c.look_up.result c.look_up.ensures.rows c.in-Some.spread.now (ap option_copied c.in-Some.is) in
    on_ok_weaker c.push.result
    (λ more. is-put c.args.kept.now c.args.rows.now (rows_told fact.id c.in-Some.spread.now) (rows_for policy state.dims state.facts c.args.kept.now fact) its c.in_ok-rows_of.field-0 c.push.new.self (sym c.is_wanting.ensures ∙ c.if-not-is_wanting.false) c.in_ok-rows_of.ensures more)
    c.push.ensures.ok

use Rattle.std.proofs.Common.{◌∙◌}
use Rattle.schema_text.specs.Schema.{schema_policy, weigh_of}
use Rattle.cube_cli.specs.Rows.{since}
use Rattle.cube_cli.proofs.RowFile.{gathered-all, gathered-next, gathered-none, left-all, left-fact, left-next, left-row, not-gathered, row}
use Rattle.cube_cli.proofs.row_file.gather_all.Goals as goal

-- at first all facts are left
pub loop-fact-init : goal.loop-fact-init
loop-fact-init g c =
    let cube = c.args.cube.now in
    let same = c.into_iter-fact-iterator.ensures.into_iter_gives ∙ c.iter-fact-items.ensures ∙ c.facts.ensures.facts in
    let policy = schema_policy (weigh_of cube.policy) cube.schema in
    (left-all policy cube.schema cube.facts _ c.facts.ensures.valid same, λ start on. gathered-none policy cube.schema cube.facts _ c.args.text.now.items (since start (g.K.Sink.tells c.args.out.now)) same on)

pub gather_fact-requires : goal.gather_fact-requires
gather_fact-requires g c =
    let cube = c.args.cube.now in
    left-fact (schema_policy (weigh_of cube.policy) cube.schema) cube.schema cube.facts _ _ _ c.in-Some.ensures.steps c.loop-fact.invariant.0

pub loop-fact-preserved : goal.loop-fact-preserved
loop-fact-preserved g c =
    let cube = c.args.cube.now in
    let policy = schema_policy (weigh_of cube.policy) cube.schema in
    let left = c.loop-fact.invariant.0 in
    let cut = c.in-Some.ensures.steps in
    let f = c.in-Some.fact in
    let waiting = c.loop-fact.text.items in (
      left-next policy cube.schema cube.facts _ _ f cut left,
      λ start on.
          let sink = since start (g.K.Sink.tells c.loop-fact.out) in
          let before = c.loop-fact.invariant.1 start on in
          gathered-next policy cube.schema cube.facts _ _ f cut waiting sink before c.gather_fact.new.text.items (since start (g.K.Sink.tells c.gather_fact.new.out))
          (rw c.in_default.is at (c.gather_fact.ensures start before.done (row policy cube.schema cube.facts _ _ f cut) (left-row policy cube.schema cube.facts _ _ f cut left) before.way)),
    )

pub returns-in-Err : goal.returns-in-Err
returns-in-Err g c = λ start on.
    let cube = c.args.cube.now in
    let policy = schema_policy (weigh_of cube.policy) cube.schema in
    let cut = c.in-Some.ensures.steps in
    let f = c.in-Some.fact in
    let before = c.loop-fact.invariant.1 start on in
    not-gathered policy cube.schema cube.facts _ _ f cut c.loop-fact.text.items (since start (g.K.Sink.tells c.loop-fact.out)) before (since start (g.K.Sink.tells c.gather_fact.new.out)) c.in-Err.error
    (rw c.in-Err.is at (c.gather_fact.ensures start before.done (row policy cube.schema cube.facts _ _ f cut) (left-row policy cube.schema cube.facts _ _ f cut c.loop-fact.invariant.0) before.way))

pub returns : goal.returns
returns g c = λ start on.
    let cube = c.args.cube.now in
    gathered-all (schema_policy (weigh_of cube.policy) cube.schema) cube.schema cube.facts _ c.loop-fact.text.items (since start (g.K.Sink.tells c.loop-fact.out)) (c.loop-fact.invariant.1 start on) c.in-None.ensures.steps.0

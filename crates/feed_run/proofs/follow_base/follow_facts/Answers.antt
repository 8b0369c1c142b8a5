use Rattle.std.proofs.Common.{[], Option, Some, None, Ok, refl, subst}
use Rattle.std.proofs.lemmas.Result.{err_from_is_err_and}
use Rattle.cube_model.specs.declared.edit.Fact.{Fact}
use Rattle.feed_run.specs.BaseTurn.{JudgesBase}
use Rattle.feed_run.specs.Following.{InBase, in_base}
use Rattle.feed_run.proofs.BaseFacts.{valid-none}
use Rattle.feed_run.proofs.FactSteps.{facts-all, facts-more, facts-stop}
use Rattle.feed_run.proofs.PullsOn.{few-on, fewer-on, fewer-same}
use Rattle.feed_run.proofs.Turns.{cuts-at, lacks-before, unpulled-at}
use Rattle.feed_run.proofs.follow_base.follow_facts.Goals as goal

pub facts-init : goal.facts-init
facts-init g c = record {
  valid = rw c.new-facts.ensures (valid-none c.args.schema.now);
  followed = λ base start before. rw c.new-facts.ensures before;
  few = c.requires.few;
  fewer = fewer-same c.args.feed.now;
}

pub returns-in_err-next-clause-follows : goal.returns-in_err-next-clause-follows
returns-in_err-next-clause-follows g c = λ base start before.
    let exit = err_from_is_err_and c.from_residual.result c.from_residual.ensures.1 in
    let place = InBase c.args.schema.now c.facts.facts in
    rw (exit.1, exit.2) (unpulled-at base start (g.S.Source.tells c.next.new.source) c.next.new.self place [] c.in_err-next.field-0.0 (c.in_err-next.ensures.pulls base start place [] (c.facts.invariant.followed base start before)))

pub returns-in_err-fact-clause-follows : goal.returns-in_err-fact-clause-follows
returns-in_err-fact-clause-follows g c = λ base start before.
    let exit = err_from_is_err_and c.from_residual-in_err-fact.result c.from_residual-in_err-fact.ensures.1 in
    let pulled = rw c.if-branch.true at (c.in_ok-next.ensures.pulls base start (InBase c.args.schema.now c.facts.facts) [] (c.facts.invariant.followed base start before)) in
    let told = rw (c.as_slice.ensures, c.count.ensures, c.line.ensures) at c.in_err-fact.ensures in
    rw (exit.1, exit.2) (facts-stop base start (g.S.Source.tells c.next.new.source) c.next.new.self c.args.schema.now c.facts.facts pulled c.in_err-fact.field-0.0 told)

pub facts-preserved : goal.facts-preserved
facts-preserved g c =
    let fewer = fewer-on c.args.feed.now c.facts.feed c.next.new.self c.in_ok-next.field-0 c.if-branch.true c.facts.invariant.fewer c.in_ok-next.ensures.counted c.in_ok-next.ensures.fewer in
    let first : JudgesBase (λ b. in_base b c.count.result c.args.schema.now c.as_slice.result.now c.line.result.now) c.args.schema.now c.as_slice.result.now c.count.result (Ok (Some c.in-Some.fact)) =
    subst (λ (v : Option Fact). JudgesBase (λ b. in_base b c.count.result c.args.schema.now c.as_slice.result.now c.line.result.now) c.args.schema.now c.as_slice.result.now c.count.result (Ok v)) c.in-Some.is c.in_ok-fact.ensures
    in
    let told = rw (c.as_slice.ensures, c.count.ensures, c.line.ensures) at first in
    record {
      valid = rw c.in_ok-push-in-Some.ensures.ok told.valid;
      followed = λ base start before.
          let pulled = rw c.if-branch.true at (c.in_ok-next.ensures.pulls base start (InBase c.args.schema.now c.facts.facts) [] (c.facts.invariant.followed base start before)) in
          rw c.in_ok-push-in-Some.ensures.ok (facts-more base start (g.S.Source.tells c.next.new.source) c.next.new.self c.args.schema.now c.facts.facts pulled c.in-Some.fact told);
      few = few-on c.args.feed.now c.next.new.self c.requires.few fewer;
      fewer = fewer;
    }

pub returns-in_err-push-in-Some-clause-follows : goal.returns-in_err-push-in-Some-clause-follows
returns-in_err-push-in-Some-clause-follows g c = λ base start before.
    let exit = err_from_is_err_and c.from_residual-in_err-push-in-Some.result c.from_residual-in_err-push-in-Some.ensures.1 in
    let place = InBase c.args.schema.now c.facts.facts in
    let pulled = rw c.if-branch.true at (c.in_ok-next.ensures.pulls base start place [] (c.facts.invariant.followed base start before)) in
    rw (exit.1, exit.2) (lacks-before base start (g.S.Source.tells c.next.new.source) c.next.new.self place [] pulled)

pub returns-in-None-clause-follows : goal.returns-in-None-clause-follows
returns-in-None-clause-follows g c = λ base start before.
    let pulled = rw c.if-branch.true at (c.in_ok-next.ensures.pulls base start (InBase c.args.schema.now c.facts.facts) [] (c.facts.invariant.followed base start before)) in
    let first : JudgesBase (λ b. in_base b c.count.result c.args.schema.now c.as_slice.result.now c.line.result.now) c.args.schema.now c.as_slice.result.now c.count.result (Ok None) =
    subst (λ (v : Option Fact). JudgesBase (λ b. in_base b c.count.result c.args.schema.now c.as_slice.result.now c.line.result.now) c.args.schema.now c.as_slice.result.now c.count.result (Ok v)) c.in-None.is c.in_ok-fact.ensures
    in
    let told = rw (c.as_slice.ensures, c.count.ensures, c.line.ensures) at first in
    facts-all base start (g.S.Source.tells c.next.new.source) c.next.new.self c.args.schema.now c.facts.facts pulled c.facts.invariant.valid told

pub returns-in-None-clause-few : goal.returns-in-None-clause-few
returns-in-None-clause-few g c = fewer-on c.args.feed.now c.facts.feed c.next.new.self c.in_ok-next.field-0 c.if-branch.true c.facts.invariant.fewer c.in_ok-next.ensures.counted c.in_ok-next.ensures.fewer

pub returns-clause-follows : goal.returns-clause-follows
returns-clause-follows g c = λ base start before.
    let place = InBase c.args.schema.now c.facts.facts in
    let whole = rw c.if-branch.false at (c.in_ok-next.ensures.pulls base start place [] (c.facts.invariant.followed base start before)) in
    cuts-at base start (g.S.Source.tells c.next.new.source) c.next.new.self place [] c.cut.result whole (rw c.cut.ensures refl)

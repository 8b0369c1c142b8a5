-- A line that was pulled is done behind those before it, or the leader stops.
use Rattle.std.proofs.Common.{[], ◌∷◌, ◌++◌, refl, sym, subst, arith, length-append}
use Rattle.std.proofs.lemmas.Result.{err_from_is_err_and}
use Rattle.fact_keeper.proofs.Staying.{stays-trans}
use Rattle.feed_run.specs.Pulling.{Pulled}
use Rattle.feed_run.proofs.LeadEnds.{ends-all, ends-broke, ends-stopped, ends-unbegun, leading-few}
use Rattle.feed_run.proofs.Leads.{led-broke, led-push, leader_of, outlets_of}
use Rattle.feed_run.proofs.Pulls.{ends_once, pulled_few, stopped_once}
use Rattle.feed_run.proofs.lead.LeadRun.lead.Goals as goal

pub returns-in_err-begin-clause-ends : goal.returns-in_err-begin-clause-ends
returns-in_err-begin-clause-ends g c =
    let exit = err_from_is_err_and c.from_residual.result c.from_residual.ensures.1 in
    let outlets = outlets_of g.K.Sink.tells g.Q.Keeper.tells in
    let keeper = c.args.keeper.now in
    rw (exit.1, exit.2)
    (ends-unbegun c.args.self.now (g.S.Source.tells c.args.source.now) (outlets c.args.out.now keeper) (outlets c.begin.new.out keeper) c.in_err-begin.field-0.0 refl refl c.in_err-begin.ensures)

pub do_line-requires-clause-few : goal.do_line-requires-clause-few
do_line-requires-clause-few g c = leading-few _ _ _ _ _ c.lines.pull.input c.lines.self c.lines.invariant.leads

pub lines-smaller : goal.lines-smaller
lines-smaller g c =
    let here = c.lines.invariant.leads in
    let source = g.S.Source.tells c.args.source.now in
    let pulled = rw c.in-Ok-true.field-0-test at (c.in-Ok-true.ensures.pulls source here.lines here.pulled) in
    omega (arith, c.in_ok-do_line-in-Ok-true.ensures.leads.done, here.led.done, pulled_few source (g.S.Source.tells c.next.new.source) c.next.new.self.input _ _ pulled, length-append here.lines (c.next.new.line.items ∷ []))

pub lines-preserved : goal.lines-preserved
lines-preserved g c =
    let here = c.lines.invariant.leads in
    let line = c.deref.result.now in
    let source = g.S.Source.tells c.args.source.now in
    let later = g.S.Source.tells c.next.new.source in
    let outlets = outlets_of g.K.Sink.tells g.Q.Keeper.tells in
    let told = c.in_ok-do_line-in-Ok-true.ensures in
    let pulled = rw c.in-Ok-true.field-0-test at (c.in-Ok-true.ensures.pulls source here.lines here.pulled) in
    record {
      leads = record {
        lines = here.lines ++ line ∷ [];
        pulled = subst (λ l. Pulled source later c.next.new.self.input (here.lines ++ l ∷ [])) (sym c.deref.ensures.value) pulled;
        led = led-push (leader_of c.args.self.now) here.lines line (outlets c.args.out.now c.args.keeper.now) (outlets c.lines.out c.lines.keeper) (outlets c.do_line.new.out c.do_line.new.keeper) c.lines.self here.led c.do_line.new.self told.leads;
      };
      stays_open = stays-trans _ _ _ c.lines.invariant.stays_open told.stays_open;
    }

pub returns-in_err-do_line-in-Ok-true-clause-ends : goal.returns-in_err-do_line-in-Ok-true-clause-ends
returns-in_err-do_line-in-Ok-true-clause-ends g c =
    let exit = err_from_is_err_and c.from_residual-in_err-do_line-in-Ok-true.result c.from_residual-in_err-do_line-in-Ok-true.ensures.1 in
    let here = c.lines.invariant.leads in
    let line = c.deref.result.now in
    let source = g.S.Source.tells c.args.source.now in
    let later = g.S.Source.tells c.next.new.source in
    let outlets = outlets_of g.K.Sink.tells g.Q.Keeper.tells in
    let start = outlets c.args.out.now c.args.keeper.now in
    let after = outlets c.do_line.new.out c.do_line.new.keeper in
    let leader = leader_of c.args.self.now in
    let off = c.in_err-do_line-in-Ok-true.field-0.0 in
    let pulled = rw c.in-Ok-true.field-0-test at (c.in-Ok-true.ensures.pulls source here.lines here.pulled) in
    rw (exit.1, exit.2)
    (ends-broke leader source later start after c.next.new.self.input (here.lines ++ line ∷ []) off
    (subst (λ l. Pulled source later c.next.new.self.input (here.lines ++ l ∷ [])) (sym c.deref.ensures.value) pulled)
    (led-broke leader here.lines line start (outlets c.lines.out c.lines.keeper) after c.lines.self here.led off c.in_err-do_line-in-Ok-true.ensures.leads))

pub returns-in_err-do_line-in-Ok-true-clause-ended : goal.returns-in_err-do_line-in-Ok-true-clause-ended
returns-in_err-do_line-in-Ok-true-clause-ended g c =
    let here = c.lines.invariant.leads in
    let pulled = rw c.in-Ok-true.field-0-test at (c.in-Ok-true.ensures.pulls (g.S.Source.tells c.args.source.now) here.lines here.pulled) in
    ends_once c.next.new.self.input.pieces.is_ended _ _ pulled.ends

pub returns-in-Ok-false-clause-ends : goal.returns-in-Ok-false-clause-ends
returns-in-Ok-false-clause-ends g c =
    let here = c.lines.invariant.leads in
    let source = g.S.Source.tells c.args.source.now in
    let outlets = outlets_of g.K.Sink.tells g.Q.Keeper.tells in
    let pulled = rw c.in-Ok-false.field-0-test at (c.in-Ok-false.ensures.pulls source here.lines here.pulled) in
    ends-all (leader_of c.args.self.now) source (g.S.Source.tells c.next.new.source) (outlets c.args.out.now c.args.keeper.now) (outlets c.lines.out c.lines.keeper) here.lines c.lines.self here.led pulled

pub returns-in-Ok-false-clause-ended : goal.returns-in-Ok-false-clause-ended
returns-in-Ok-false-clause-ended g c =
    let here = c.lines.invariant.leads in
    let pulled = rw c.in-Ok-false.field-0-test at (c.in-Ok-false.ensures.pulls (g.S.Source.tells c.args.source.now) here.lines here.pulled) in
    pulled.ends

pub returns-in-Err-clause-ends : goal.returns-in-Err-clause-ends
returns-in-Err-clause-ends g c =
    let here = c.lines.invariant.leads in
    let source = g.S.Source.tells c.args.source.now in
    let outlets = outlets_of g.K.Sink.tells g.Q.Keeper.tells in
    rw c.at.ensures
    (ends-stopped (leader_of c.args.self.now) source (g.S.Source.tells c.next.new.source) (outlets c.args.out.now c.args.keeper.now) (outlets c.lines.out c.lines.keeper) here.lines c.lines.self here.led c.next.new.self.input c.next.new.line.items c.in-Err.stop
    (c.in-Err.ensures.pulls source here.lines here.pulled))

pub returns-in-Err-clause-ended : goal.returns-in-Err-clause-ended
returns-in-Err-clause-ended g c =
    let here = c.lines.invariant.leads in
    let source = g.S.Source.tells c.args.source.now in
    stopped_once source (g.S.Source.tells c.next.new.source) c.next.new.self.input here.lines c.next.new.line.items c.in-Err.stop (c.in-Err.ensures.pulls source here.lines here.pulled)

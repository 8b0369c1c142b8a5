-- A line that is handed out is done behind those before it.
use Rattle.std.proofs.Common.{◌∷◌, [], Ok, Err, refl, sym, subst, rules}
use Rattle.std.specs.Prelude.{⊤}
use Rattle.std.proofs.lemmas.Result.{err_from_is_err_and}
use Rattle.fact_keeper.proofs.Staying.{stays-trans}
use Rattle.text_lines.specs.Pieces.{Held, behind_line}
use Rattle.schema_text.specs.Schema.{weigh_of}
use Rattle.script_run.specs.Seen.{keeper_seen, sink_seen}
use Rattle.script_run.specs.Stream.{DoesLines}
use Rattle.script_run.proofs.HeldLines.{SomeDone, some_done-all, some_done-broken, some_done-next}
use Rattle.script_run.proofs.streaming.do_held.Goals as goal

pub lines-preserved : goal.lines-preserved
lines-preserved g c =
    let weigh = weigh_of in
    let held = c.args.lines.now.lines in
    let left = c.lines.lines.lines in
    let line = c.in-Some.line.now in
    let sink = sink_seen g.K.Sink.tells in
    let seen = keeper_seen g.Q.Keeper.tells in
    let told = c.in_ok-do_line.ensures in
    let next : DoesLines weigh (line ∷ []) c.lines.run c.do_line.new.self (sink c.lines.out c.do_line.new.out) (seen c.lines.keeper c.do_line.new.keeper) (Ok c.in_ok-do_line.field-0) =
    search rules in
    let some : SomeDone weigh held (behind_line left) c.args.run.now c.do_line.new.self (sink c.args.out.now c.do_line.new.out) (seen c.args.keeper.now c.do_line.new.keeper) =
    some_done-next weigh g.K.Sink.tells g.Q.Keeper.tells held left line c.args.run.now c.lines.run c.do_line.new.self
    c.args.out.now c.lines.out c.do_line.new.out c.args.keeper.now c.lines.keeper c.do_line.new.keeper c.in_ok-do_line.field-0 c.lines.invariant.some c.in-Some.ensures.line (λ one. cc (c.in-Some.ensures.none.1 one)) next in
    record {
      some = subst (λ (h : Held). SomeDone weigh held h.lines c.args.run.now c.do_line.new.self (sink c.args.out.now c.do_line.new.out) (seen c.args.keeper.now c.do_line.new.keeper)) (sym c.next_line.follows.holds-at-none) some;
      stays_open = stays-trans _ _ _ c.lines.invariant.stays_open told.stays_open;
    }

pub returns-in_err-do_line-clause-does : goal.returns-in_err-do_line-clause-does
returns-in_err-do_line-clause-does g c =
    let weigh = weigh_of in
    let held = c.args.lines.now.lines in
    let left = c.lines.lines.lines in
    let line = c.in-Some.line.now in
    let sink = sink_seen g.K.Sink.tells in
    let seen = keeper_seen g.Q.Keeper.tells in
    let told = c.in_err-do_line.ensures in
    let exit = err_from_is_err_and c.from_residual.result c.from_residual.ensures.1 in
    let next : DoesLines {T = ⊤} weigh (line ∷ []) c.lines.run c.do_line.new.self (sink c.lines.out c.do_line.new.out) (seen c.lines.keeper c.do_line.new.keeper) (Err c.in_err-do_line.field-0.0) =
    search rules in
    rw (exit.1, exit.2)
    (some_done-broken weigh g.K.Sink.tells g.Q.Keeper.tells held left line c.args.run.now c.lines.run c.do_line.new.self
    c.args.out.now c.lines.out c.do_line.new.out c.args.keeper.now c.lines.keeper c.do_line.new.keeper c.in_err-do_line.field-0.0 c.lines.invariant.some c.in-Some.ensures.line (λ one. cc (c.in-Some.ensures.none.1 one)) next)

pub returns-clause-does : goal.returns-clause-does
returns-clause-does g c =
    some_done-all weigh_of g.K.Sink.tells g.Q.Keeper.tells c.args.lines.now.lines c.lines.lines.lines c.args.run.now c.lines.run
    c.args.out.now c.lines.out c.args.keeper.now c.lines.keeper tt c.lines.invariant.some (c.in_default.ensures.none.0 refl)

pub returns-in_err-do_line-clause-stays_open : goal.returns-in_err-do_line-clause-stays_open
returns-in_err-do_line-clause-stays_open g c = stays-trans _ _ _ c.lines.invariant.stays_open c.in_err-do_line.ensures.stays_open

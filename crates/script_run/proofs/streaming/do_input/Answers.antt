use Rattle.std.proofs.Common.{◌≡◌, false, refl, sym, ◌∙◌, subst, arith}
use Rattle.std.proofs.lemmas.Result.{err_from_is_err_and}
use Rattle.cube_base.specs.Outside.{Rose}
use Rattle.fact_keeper.proofs.Staying.{stays-refl, stays-trans}
use Rattle.schema_text.specs.Schema.{weigh_of}
use Rattle.script_run.specs.StreamTurn.{Outside, outside_of}
use Rattle.script_run.proofs.EndReads.{ends-begun, ends-over, ends-stopped, ends-turn}
use Rattle.script_run.proofs.PieceTurns.{all_broke, all_ended, counts_since, few_held}
use Rattle.script_run.proofs.streaming.do_input.Goals as goal

pub turns-init : goal.turns-init
turns-init g c = record {
  stands = λ ground text room start stands. stands;
  few = omega arith;
  keeps = refl;
  no_keep_fault = refl;
  stays_open = stays-refl _ c.requires.open;
  stays_ended = λ ended. ended;
  ends = ends-begun c.args.pieces.now.is_ended _;
}

pub do_piece-requires-clause-few : goal.do_piece-requires-clause-few
do_piece-requires-clause-few g c = omega (arith, c.requires.few, c.turns.invariant.few, few_held c.turns.lines.lines)

pub turns-smaller : goal.turns-smaller
turns-smaller g c =
    let more : c.turns.pieces.is_ended ≡ false = sym c.is_ended.ensures ∙ c.turns-test.true in
    let fewer = c.in_ok-do_piece.ensures.does.shorter in
    rw more (omega (arith, fewer))

pub turns-preserved : goal.turns-preserved
turns-preserved g c =
    let turn = c.turns.invariant in
    let does = c.in_ok-do_piece.ensures.does in
    record {
      stands = λ ground text room start stands. does.goes_on ground text room start (turn.stands ground text room start stands);
      few = omega (arith, does.few, turn.few);
      keeps = does.keeps ∙ turn.keeps;
      no_keep_fault = does.keep ∙ turn.no_keep_fault;
      stays_open = stays-trans _ _ _ turn.stays_open c.in_ok-do_piece.ensures.stays_open;
      stays_ended = λ ended. absurd (cc (turn.stays_ended ended, sym c.is_ended.ensures ∙ c.turns-test.true));
      ends = ends-turn c.args.pieces.now.is_ended c.turns.pieces.is_ended c.do_piece.new.pieces.is_ended _ _ _ (sym c.is_ended.ensures ∙ c.turns-test.true) turn.stays_ended turn.ends c.in_ok-do_piece.ensures.ends;
    }

pub returns-in_err-do_piece-clause-ends : goal.returns-in_err-do_piece-clause-ends
returns-in_err-do_piece-clause-ends g c = λ ground text room start stands.
    let exit = err_from_is_err_and c.from_residual.result c.from_residual.ensures.1 in
    rw (exit.1, exit.2) (c.in_err-do_piece.ensures.does.stops ground text room start (c.turns.invariant.stands ground text room start stands))

pub returns-in_err-do_piece-clause-count : goal.returns-in_err-do_piece-clause-count
returns-in_err-do_piece-clause-count g c = λ keeps.
    let exit = err_from_is_err_and c.from_residual.result c.from_residual.ensures.1 in
    let turn = c.turns.invariant in
    let does = c.in_err-do_piece.ensures.does in
    rw (exit.1, exit.2) (counts_since _ _ _ _ turn.no_keep_fault does.cause (does.other_cause (turn.keeps ∙ keeps)))

pub returns-in_err-do_piece-clause-cause : goal.returns-in_err-do_piece-clause-cause
returns-in_err-do_piece-clause-cause g c =
    let exit = err_from_is_err_and c.from_residual.result c.from_residual.ensures.1 in
    let after = (g.Q.Keeper.tells c.do_piece.new.keeper).faults in
    rw (exit.1, exit.2) (λ told. subst (λ n. Rose n after) c.turns.invariant.no_keep_fault (c.in_err-do_piece.ensures.does.cause told))

pub returns-in_err-do_end-clause-ends : goal.returns-in_err-do_end-clause-ends
returns-in_err-do_end-clause-ends g c = λ ground text room start stands.
    let exit = err_from_is_err_and c.from_residual-in_err-do_end.result c.from_residual-in_err-do_end.ensures.1 in
    let turn = c.turns.invariant in
    let after : Outside = outside_of g.S.Source.tells g.K.Sink.tells g.Q.Keeper.tells c.turns.source c.do_end.new.out c.do_end.new.keeper in
    rw (exit.1, exit.2)
    (all_broke weigh_of ground text room start _ c.turns.pieces c.turns.lines.lines c.turns.run (turn.stands ground text room start stands) after _ (sym c.is_ended.ensures ∙ c.turns-test.false) refl refl c.in_err-do_end.ensures.ends)

pub returns-in_err-do_end-clause-count : goal.returns-in_err-do_end-clause-count
returns-in_err-do_end-clause-count g c = λ keeps.
    let exit = err_from_is_err_and c.from_residual-in_err-do_end.result c.from_residual-in_err-do_end.ensures.1 in
    let turn = c.turns.invariant in
    let ends = c.in_err-do_end.ensures.ends in
    rw (exit.1, exit.2) (counts_since _ _ _ _ turn.no_keep_fault ends.cause (ends.other_cause (turn.keeps ∙ keeps)))

pub returns-in_err-do_end-clause-cause : goal.returns-in_err-do_end-clause-cause
returns-in_err-do_end-clause-cause g c =
    let exit = err_from_is_err_and c.from_residual-in_err-do_end.result c.from_residual-in_err-do_end.ensures.1 in
    let after = (g.Q.Keeper.tells c.do_end.new.keeper).faults in
    rw (exit.1, exit.2) (λ told. subst (λ n. Rose n after) c.turns.invariant.no_keep_fault (c.in_err-do_end.ensures.ends.cause told))

pub do_end-requires-clause-few : goal.do_end-requires-clause-few
do_end-requires-clause-few g c = omega (arith, c.requires.few, c.turns.invariant.few, few_held c.turns.lines.lines)

pub returns-clause-ends : goal.returns-clause-ends
returns-clause-ends g c = λ ground text room start stands.
    let turn = c.turns.invariant in
    let after : Outside = outside_of g.S.Source.tells g.K.Sink.tells g.Q.Keeper.tells c.turns.source c.do_end.new.out c.do_end.new.keeper in
    all_ended weigh_of ground text room start _ c.turns.pieces c.turns.lines.lines c.turns.run (turn.stands ground text room start stands) after _ (sym c.is_ended.ensures ∙ c.turns-test.false) refl refl c.in_ok-do_end.ensures.ends

pub returns-clause-count : goal.returns-clause-count
returns-clause-count g c = λ keeps. c.in_ok-do_end.ensures.ends.keep ∙ c.turns.invariant.no_keep_fault

pub returns-in_err-do_piece-clause-stays_open : goal.returns-in_err-do_piece-clause-stays_open
returns-in_err-do_piece-clause-stays_open g c = stays-trans _ _ _ c.turns.invariant.stays_open c.in_err-do_piece.ensures.stays_open

pub returns-in_err-do_piece-clause-ended : goal.returns-in_err-do_piece-clause-ended
returns-in_err-do_piece-clause-ended g c =
    let turn = c.turns.invariant in
    ends-stopped c.args.pieces.now.is_ended c.turns.pieces.is_ended _ _ _ (sym c.is_ended.ensures ∙ c.turns-test.true) turn.stays_ended turn.ends c.in_err-do_piece.ensures.ended

pub returns-in_err-do_end-clause-stays_open : goal.returns-in_err-do_end-clause-stays_open
returns-in_err-do_end-clause-stays_open g c = stays-trans _ _ _ c.turns.invariant.stays_open c.in_err-do_end.ensures.stays_open

pub returns-in_err-do_end-clause-ended : goal.returns-in_err-do_end-clause-ended
returns-in_err-do_end-clause-ended g c = ends-over c.args.pieces.now.is_ended c.turns.pieces.is_ended _ _ c.turns.invariant.ends

pub returns-clause-stays_open : goal.returns-clause-stays_open
returns-clause-stays_open g c = stays-trans _ _ _ c.turns.invariant.stays_open c.in_ok-do_end.ensures.stays_open

pub returns-clause-ended : goal.returns-clause-ended
returns-clause-ended g c = ends-over c.args.pieces.now.is_ended c.turns.pieces.is_ended _ _ c.turns.invariant.ends

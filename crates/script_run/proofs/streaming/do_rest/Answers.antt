-- The lines that are whole are done, and then the rest, where it is a line.
use Rattle.std.proofs.Common.{◌≡◌, ◌∷◌, [], refl, append-nil, arith, rules}
use Rattle.std.proofs.lemmas.Result.{err_from_is_err_and}
use Rattle.fact_keeper.proofs.Staying.{stays-trans}
use Rattle.text_lines.specs.Pieces.{last_line, rest_of, whole_lines}
use Rattle.schema_text.specs.Schema.{weigh_of}
use Rattle.script_run.specs.Seen.{keeper_seen, sink_seen}
use Rattle.script_run.specs.Stream.{DoesLines}
use Rattle.script_run.proofs.HeldLines.{last_line-none, last_line-some, length-whole_lines}
use Rattle.script_run.proofs.Streams.{does_lines-append, does_lines-cut}
use Rattle.script_run.proofs.streaming.do_rest.Goals as goal

pub returns-in_err-do_held-clause-does : goal.returns-in_err-do_held-clause-does
returns-in_err-do_held-clause-does g c =
    let held = c.args.lines.now.lines in
    let exit = err_from_is_err_and c.from_residual.result c.from_residual.ensures.1 in
    rw (exit.1, exit.2) (does_lines-cut weigh_of (whole_lines held) (last_line (rest_of held)) c.args.run.now c.do_held.new.run _ _ c.in_err-do_held.field-0.0 c.in_err-do_held.ensures.does)

pub do_line-requires-clause-few : goal.do_line-requires-clause-few
do_line-requires-clause-few g c = omega (arith, c.in_ok-do_held.ensures.does.count, length-whole_lines c.args.lines.now.lines)

pub returns-in-Some-clause-does : goal.returns-in-Some-clause-does
returns-in-Some-clause-does g c =
    let weigh = weigh_of in
    let held = c.args.lines.now.lines in
    let line = c.in-Some.line.now in
    let told = c.do_line.ensures in
    let next : DoesLines weigh (line ∷ []) c.do_held.new.run c.do_line.new.self (sink_seen g.K.Sink.tells c.do_held.new.out c.do_line.new.out)
    (keeper_seen g.Q.Keeper.tells c.do_held.new.keeper c.do_line.new.keeper) c.do_line.result =
    search rules in
    let last : last_line (rest_of held) ≡ line ∷ [] = last_line-some (rest_of held) line c.do_held.new.lines.lines c.in_ok-do_held.ensures.rest c.in-Some.ensures.line (λ none. cc (c.in-Some.ensures.none.1 none)) in
    rw last
    (does_lines-append weigh g.K.Sink.tells g.Q.Keeper.tells c.in_ok-do_held.field-0 (whole_lines held) (line ∷ []) c.args.run.now c.do_held.new.run c.do_line.new.self
    c.args.out.now c.do_held.new.out c.do_line.new.out c.args.keeper.now c.do_held.new.keeper c.do_line.new.keeper c.do_line.result c.in_ok-do_held.ensures.does next)

pub returns-in-None-clause-does : goal.returns-in-None-clause-does
returns-in-None-clause-does g c =
    let held = c.args.lines.now.lines in
    let last : last_line (rest_of held) ≡ [] = last_line-none (rest_of held) c.do_held.new.lines.lines c.in_ok-do_held.ensures.rest (c.in-None.ensures.none.0 refl) in
    rw (last, append-nil (whole_lines held)) c.in_ok-do_held.ensures.does

pub returns-in-Some-clause-stays_open : goal.returns-in-Some-clause-stays_open
returns-in-Some-clause-stays_open g c = stays-trans _ _ _ c.in_ok-do_held.ensures.stays_open c.do_line.ensures.stays_open

-- Each piece that comes.
use Rattle.std.proofs.Common.{◌≡◌, ap, subst, sym, ◌∙◌, refl, [], ◌∷◌}
use Rattle.std.proofs.lemmas.Result.{err_from_is_err_and}
use Rattle.text_lines.specs.Pieces.{Held, rest_of, whole_lines}
use Rattle.cube_cli.specs.SchemaLines.{TookHeld}
use Rattle.script_run.specs.Seen.{SourceSeen, source_seen}
use Rattle.cube_cli.proofs.SchemaPieces.{stops_taking, takes_all, takes_end, takes_last, taking-more, wants_memory}
use Rattle.text_lines.specs.Input.{ends_if}
use Rattle.cube_cli.proofs.TakenEnds.{not_ended}
use Rattle.cube_cli.proofs.schema_lines.take_lines.Goals as goal
use Rattle.cube_cli.proofs.schema_lines.take_lines.Goals.{in-Some+in_ok-push_line, in_default}

pub returns-in_err-feed_next-clause-none : goal.returns-in_err-feed_next-clause-none
returns-in_err-feed_next-clause-none g c =
    let p = err_from_is_err_and c.from_residual.result c.from_residual.ensures.1 in
    let source : SourceSeen = source_seen g.S.Source.tells c.args.source.now c.feed_next.new.source in
    rw (p.1, p.2)
    (stops_taking source (g.S.Source.tells c.pieces.source).left (g.S.Source.tells c.pieces.source).faults c.pieces.input.pieces.room c.pieces.input.lines.lines c.pieces.text.items c.in_err-feed_next.field-0.0
    c.pieces.invariant.taking c.pieces.invariant.count c.in_err-feed_next.ensures.stopped)

pub returns-in_err-take_held-clause-none : goal.returns-in_err-take_held-clause-none
returns-in_err-take_held-clause-none g c =
    let p = err_from_is_err_and c.from_residual-in_err-take_held.result c.from_residual-in_err-take_held.ensures.1 in
    rw (p.1, p.2) (
      c.in_ok-feed_next.ensures.count ∙ c.pieces.invariant.count,
      wants_memory (g.S.Source.tells c.args.source.now).left (g.S.Source.tells c.pieces.source).left (g.S.Source.tells c.feed_next.new.source).left c.pieces.input.pieces c.feed_next.new.self
          c.pieces.input.lines.lines c.feed_next.new.cutter.lines c.pieces.text.items c.pieces.invariant.taking c.in_ok-feed_next.ensures.fed,
    )

pub returns-then-branch-clause-took : goal.returns-then-branch-clause-took
returns-then-branch-clause-took g c =
    let source : SourceSeen = source_seen g.S.Source.tells c.args.source.now c.feed_next.new.source in
    let held = c.feed_next.new.cutter.lines in
    takes_end source (g.S.Source.tells c.pieces.source).left c.pieces.input.pieces c.feed_next.new.self c.pieces.input.lines.lines held c.take_held.new.lines.lines
    c.pieces.text.items c.take_held.new.text.items c.pieces.invariant.taking c.in_ok-feed_next.ensures.fed
    (subst (TookHeld (whole_lines held) (rest_of held) c.pieces.text.items c.take_held.new.text.items c.take_held.new.lines.lines) c.if-branch.true c.in_ok-take_held.ensures.took)

pub pieces-preserved : goal.pieces-preserved
pieces-preserved g c =
    let held = c.feed_next.new.cutter.lines in
    record {
      taking = taking-more (g.S.Source.tells c.args.source.now).left (g.S.Source.tells c.pieces.source).left (g.S.Source.tells c.feed_next.new.source).left c.pieces.input.pieces c.feed_next.new.self
          c.pieces.input.lines.lines held c.take_held.new.lines.lines c.pieces.text.items c.take_held.new.text.items c.pieces.invariant.taking c.in_ok-feed_next.ensures.fed
          (subst (TookHeld (whole_lines held) (rest_of held) c.pieces.text.items c.take_held.new.text.items c.take_held.new.lines.lines) c.if-branch.false c.in_ok-take_held.ensures.took);
      count = c.in_ok-feed_next.ensures.count ∙ c.pieces.invariant.count;
      end = λ ended. (c.in_ok-feed_next.ensures.fed.end ended).1;
      ends = c.in_ok-feed_next.ensures.ends ∙ ap (ends_if c.feed_next.new.self.is_ended) (not_ended c.pieces.input.pieces.is_ended _ _ (sym c.is_ended.ensures ∙ c.pieces-test.true) c.pieces.invariant.ends);
    }

pub returns-clause-took : goal.returns-clause-took
returns-clause-took g c =
    let source : SourceSeen = source_seen g.S.Source.tells c.args.source.now c.pieces.source in
    let room = c.pieces.input.pieces.room in
    let held = c.pieces.input.lines.lines in
    let end = c.pieces.invariant.end (sym c.is_ended.ensures ∙ c.pieces-test.false) in
    let none : c.finish.follows.lender-at-none.lines ≡ [] ∷ [] = ap (λ (h : Held). h.lines) c.finish.follows.holds-at-none in
    elim c.match-finish.branch [
      | in-Some+in_ok-push_line w ↦
          rw (w.input-is, w.text-is)
          (takes_last source room held c.finish.follows.lender-at-none.lines c.pieces.text.items w.push_line.new.text.items c.pieces.invariant.taking end none
          w.in-Some.line.now w.in-Some.ensures.line (λ e. cc (w.in-Some.ensures.none.1 e)) w.in_ok-push_line.ensures)
      | in_default w ↦
          rw (w.input-is, w.text-is)
          (takes_all source room held c.finish.follows.lender-at-none.lines c.pieces.text.items c.pieces.text.items c.pieces.invariant.taking end none (w.in_default.ensures.none.0 refl) refl)
    ]

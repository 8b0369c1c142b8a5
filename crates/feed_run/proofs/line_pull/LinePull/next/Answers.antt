use Rattle.std.proofs.Common.{◌<◌, ◌≤◌, refl, sym, ◌∙◌, subst, arith}
use Rattle.std.proofs.lemmas.Result.{err_from_is_err_and}
use Rattle.text_lines.specs.Reading.{Feeds}
use Rattle.feed_run.proofs.Pulls.{ends_pulled, none_pulled, piece_pulled, whole_memory}
use Rattle.text_lines.specs.declared.piece_reader.LineInput.{LineInput}
use Rattle.feed_run.specs.Pulling.{pulls_left}
use Rattle.feed_run.proofs.PullsLeft.{left-fed, left-held, left-whole}
use Rattle.feed_run.proofs.line_pull.LinePull.next.Goals as goal

pub returns-in_err-copy_whole-clause-pulls : goal.returns-in_err-copy_whole-clause-pulls
returns-in_err-copy_whole-clause-pulls g c = λ start pulled before.
    let exit = err_from_is_err_and c.from_residual.result c.from_residual.ensures.1 in
    rw (exit.1, exit.2, c.in_err-copy_whole.ensures) (whole_memory start _ c.pieces.self.input pulled (c.pieces.invariant.pulls start pulled before) (sym c.is_ended.ensures ∙ c.pieces-test.true))

pub pieces-preserved : goal.pieces-preserved
pieces-preserved g c = record {
  pulls = λ start pulled before.
      let input = c.pieces.self.input in
      let none = rw c.if-branch.false at c.in_ok-copy_whole.ensures in
      let told = c.in_ok-feed_next.ensures in
      let now = g.S.Source.tells c.pieces.source in
      let later = g.S.Source.tells c.feed_next.new.source in
      piece_pulled start now input pulled (c.pieces.invariant.pulls start pulled before) (sym c.is_ended.ensures ∙ c.pieces-test.true) none.0 later _
      (subst (λ held. Feeds now.left later.left input.pieces c.feed_next.new.self held c.feed_next.new.cutter.lines) none.1 told.fed) told.count told.ends;
  fewer =
      let input = c.pieces.self.input in
      let none = rw c.if-branch.false at c.in_ok-copy_whole.ensures in
      let told = c.in_ok-feed_next.ensures in
      let left = (g.S.Source.tells c.pieces.source).left in
      let later = (g.S.Source.tells c.feed_next.new.source).left in
      let after : LineInput = record { pieces = c.feed_next.new.self; lines = c.feed_next.new.cutter } in
      let fed : pulls_left after ≤ pulls_left input = left-fed input after left later (sym c.is_ended.ensures ∙ c.pieces-test.true) none.0 (subst (λ held. Feeds left later input.pieces c.feed_next.new.self held c.feed_next.new.cutter.lines) none.1 told.fed) in
      omega (arith, fed, c.pieces.invariant.fewer);
}

pub returns-in_err-feed_next-clause-pulls : goal.returns-in_err-feed_next-clause-pulls
returns-in_err-feed_next-clause-pulls g c = λ start pulled before.
    let exit = err_from_is_err_and c.from_residual-in_err-feed_next.result c.from_residual-in_err-feed_next.ensures.1 in
    let none = rw c.if-branch.false at c.in_ok-copy_whole.ensures in
    let told = c.in_err-feed_next.ensures in
    rw (exit.1, exit.2)
    (none_pulled start _ c.pieces.self.input pulled (c.pieces.invariant.pulls start pulled before) (sym c.is_ended.ensures ∙ c.pieces-test.true) none.0 _ (record { pieces = c.feed_next.new.self; lines = c.feed_next.new.cutter }) c.copy_whole.new.line.items _ told.stopped told.ended)

pub returns-clause-pulls : goal.returns-clause-pulls
returns-clause-pulls g c = λ start pulled before.
    ends_pulled start _ c.pieces.self.input pulled (c.pieces.invariant.pulls start pulled before) (sym c.is_ended.ensures ∙ c.pieces-test.false) _ _ _ c.copy_held.ensures

pub returns-clause-fewer : goal.returns-clause-fewer
returns-clause-fewer g c = left-held c.pieces.self.input c.copy_held.new.lines c.copy_held.new.line.items (pulls_left c.args.self.now.input) c.copy_held.result (sym c.is_ended.ensures ∙ c.pieces-test.false) c.pieces.invariant.fewer c.copy_held.ensures

pub returns-then-branch-clause-fewer : goal.returns-then-branch-clause-fewer
returns-then-branch-clause-fewer g c = λ yes.
    let input = c.pieces.self.input in
    let after : LineInput = record { pieces = input.pieces; lines = c.copy_whole.new.lines } in
    let less : pulls_left after < pulls_left input = left-whole input after c.copy_whole.new.line.items (sym c.is_ended.ensures ∙ c.pieces-test.true) refl (rw c.if-branch.true at c.in_ok-copy_whole.ensures) in
    omega (arith, less, c.pieces.invariant.fewer)

use Rattle.std.proofs.Common.{◌≡◌, ◌+◌, ◌<◌, Bool, true, false, Ok, Err, refl, arith, sym, ap, subst}
use Rattle.std.specs.Prelude.{if◌then◌else◌}
use Rattle.std.proofs.lemmas.Result.{err_from_is_err_and}
use Rattle.feed_run.specs.FollowTurn.{FeedPull}
use Rattle.feed_run.specs.Pulling.{Pulled, pulls_left}
use Rattle.feed_run.proofs.PullsOn.{pulls-on}
use Rattle.feed_run.proofs.feed_lines.FeedLines.next.Goals as goal

pub returns-in_err-more-clause-pulls : goal.returns-in_err-more-clause-pulls
returns-in_err-more-clause-pulls g c = λ base start place batches before.
    let exit = err_from_is_err_and c.from_residual.result c.from_residual.ensures.1 in
    let was = g.S.Source.tells c.args.source.now in
    let new : FeedPull = record { input = c.next.new.self.input; line = c.next.new.line.items; count = c.self.inside.count } in
    let came : Pulled start was c.self.inside.pull.input before.lines = subst (λ (f : FeedPull). Pulled start was f.input before.lines) (sym c.self.view_is) before.came.pulled in
    rw (exit.1, exit.2) (pulls-on base start was (g.S.Source.tells c.next.new.source) c.args.self.now new place batches before (Err c.in_err-more.field-0.0) (c.in_err-more.ensures.pulls start before.lines came) tt)

pub returns-clause-counted : goal.returns-clause-counted
returns-clause-counted g c = by_more c.in_ok-more.more refl
  where
    by_more : (more : Bool) → c.in_ok-more.more ≡ more → c.self.inside.count + c.from.result ≡ c.args.self.now.count + (if c.in_ok-more.more then 1 else 0)
    by_more true is = let one : c.from.result ≡ 1 = rw is at c.from.ensures in rw is (omega (arith, one, ap (λ (f : FeedPull). f.count) c.self.view_is))
    by_more false is = let none : c.from.result ≡ 0 = rw is at c.from.ensures in rw is (omega (arith, none, ap (λ (f : FeedPull). f.count) c.self.view_is))

pub returns-clause-pulls : goal.returns-clause-pulls
returns-clause-pulls g c = λ base start place batches before.
    let was = g.S.Source.tells c.args.source.now in
    let new : FeedPull = record { input = c.next.new.self.input; line = c.next.new.line.items; count = c.self.inside.count + c.from.result } in
    let came : Pulled start was c.self.inside.pull.input before.lines = subst (λ (f : FeedPull). Pulled start was f.input before.lines) (sym c.self.view_is) before.came.pulled in
    pulls-on base start was (g.S.Source.tells c.next.new.source) c.args.self.now new place batches before (Ok c.in_ok-more.more) (c.in_ok-more.ensures.pulls start before.lines came) (returns-clause-counted g c)

pub returns-clause-fewer : goal.returns-clause-fewer
returns-clause-fewer g c = λ yes. subst (λ (f : FeedPull). pulls_left c.next.new.self.input < pulls_left f.input) c.self.view_is (c.in_ok-more.ensures.fewer yes)

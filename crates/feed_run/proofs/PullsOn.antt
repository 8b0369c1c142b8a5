-- What the pull of a line does to the lines that are followed.
use Rattle.std.proofs.Common.{◌≡◌, ◌+◌, ◌<◌, Bool, true, false, List, [], ◌∷◌, Option, Result, Ok, Err, refl, arith, length-append}
use Rattle.std.specs.Prelude.{if◌then◌else◌, IfOk}
use Rattle.cube_base.specs.Outside.{SourceTold}
use Rattle.fact_keeper.specs.declared.content.Batch.{Batch}
use Rattle.text_lines.specs.declared.input.InputStop.{InputStop}
use Rattle.text_lines.specs.declared.input.InputStop.TheVariants as input_stop
use Rattle.feed_run.specs.FollowTurn.{AreFew, AreFewer, FeedPull, FollowedTo, PullsOn}
use Rattle.feed_run.specs.Following.{Base, Place}
use Rattle.feed_run.specs.Pulling.{Pulls, pulls_left}

-- a line more, if there is one, is counted
pub pulls-on : (base : Option Base) (start was now : SourceTold) (old new : FeedPull) (place : Place) (batches : List Batch) (before : FollowedTo base start was old place batches) (result : Result Bool InputStop)
    → Pulls start now new.input before.lines new.line result → IfOk result (λ more. new.count ≡ old.count + (if more then 1 else 0)) → PullsOn base start now new place batches result
pulls-on base start was now old new place batches before (Ok true) pulled counted = record {
  lines = before.lines;
  came = record { pulled = pulled; count = omega (arith, counted, before.came.count, length-append before.lines (new.line ∷ [])) };
  is = before.is;
}
pulls-on base start was now old new place batches before (Ok false) pulled counted = record {
  lines = before.lines;
  came = record { pulled = pulled; count = omega (arith, counted, before.came.count) };
  is = before.is;
}
pulls-on base start was now old new place batches before (Err input_stop.Fault) pulled counted = record { lines = before.lines; came = pulled; is = before.is }
pulls-on base start was now old new place batches before (Err input_stop.TooLong) pulled counted = record { lines = before.lines; came = pulled; is = before.is }
pulls-on base start was now old new place batches before (Err input_stop.Memory) pulled counted = record { lines = before.lines; came = pulled; is = before.is }

-- where there was one, fewer are left
pub fewer-on : (first before after : FeedPull) (more : Bool) → more ≡ true → AreFewer first before → after.count ≡ before.count + (if more then 1 else 0) → (more ≡ true → pulls_left after.input < pulls_left before.input) → AreFewer first after
fewer-on first before after true is fewer counted less = let left = less refl in record { all = omega (arith, fewer.all, counted, left); left = omega (arith, fewer.left, left) }
fewer-on first before after false is fewer counted less = cc

pub few-on : (before after : FeedPull) → AreFew before → AreFewer before after → AreFew after
few-on before after few fewer = omega (arith, few, fewer.all)

pub fewer-then : (first second third : FeedPull) → AreFewer first second → AreFewer second third → AreFewer first third
fewer-then first second third one two = record { all = omega (arith, one.all, two.all); left = omega (arith, one.left, two.left) }

pub fewer-same : (feed : FeedPull) → AreFewer feed feed
fewer-same feed = record { all = omega arith; left = omega arith }

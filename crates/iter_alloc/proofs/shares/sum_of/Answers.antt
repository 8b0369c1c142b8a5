-- The sum so far and the next level are within the whole.
use Rattle.iter_alloc.proofs.shares.sum_of.Goals as goal
use Rattle.iter_alloc.proofs.PlaceLists.{in-levels, level-at}
use Rattle.iter_alloc.proofs.Sharing.{mass-fits}
use Rattle.iter_alloc.specs.Forest.{at}
use Rattle.iter_alloc.specs.Places.{levels_in}
use Rattle.std.proofs.Common.{get_or, arith}
use Rattle.std.proofs.lemmas.List.Sums.{sum_by-drop_more}

pub overflow_add-sum : goal.overflow_add-sum
overflow_add-sum c =
    let places = c.args.places.now in
    let own = c.args.own.now in
    let k = c.loop-i.i-index in
    omega (
      arith,
      c.loop-i.invariant,
      sum_by-drop_more (at (levels_in places)) own k 0 c.loop-i-test.true,
      level-at places (get_or own k 0) (c.requires.within k 0 c.loop-i-test.true),
      mass-fits (levels_in places) own c.requires.levels (in-levels places own c.requires.within) c.requires.few,
    )

pub loop-i-preserved : goal.loop-i-preserved
loop-i-preserved c =
    let places = c.args.places.now in
    let own = c.args.own.now in
    let k = c.loop-i.i-index in
    omega (arith, c.loop-i.invariant, sum_by-drop_more (at (levels_in places)) own k 0 c.loop-i-test.true, level-at places (get_or own k 0) (c.requires.within k 0 c.loop-i-test.true))

use Rattle.std.proofs.Common.{refl, sym, subst}
use Rattle.feed_run.specs.BatchTurn.{TakesBatch}
use Rattle.feed_run.proofs.BatchCubes.{batch-says, told-next, told-other}
use Rattle.feed_run.proofs.follow_batches.take_told.Goals as goal
use Rattle.feed_run.proofs.follow_batches.take_told.Goals.{else-got-applied, then-got-applied}

pub do_batch-taken-requires : goal.do_batch-taken-requires
do_batch-taken-requires c = batch-says c.args.cube.now.schema c.in-Batch.got c.in-Batch.line (rw c.in-Batch.is at c.requires.within)

pub returns-after-got-applied-clause-takes : goal.returns-after-got-applied-clause-takes
returns-after-got-applied-clause-takes c = λ work at applied. elim c.if-got-applied.branch [
  | then-got-applied w ↦
      let next = told-next work c.args.number c.in-Batch.got c.args.applied c.in-Batch.line applied w.if-got-applied.true in
      rw (c.in-Batch.is, w.cube-is, w.taken-is) (subst (λ n. TakesBatch work n w.do_batch-taken.new.cube w.do_batch-taken.result) (sym next) (w.do_batch-taken.ensures.takes work at))
  | else-got-applied w ↦ rw (c.in-Batch.is, w.cube-is, w.taken-is) (told-other work c.args.number c.in-Batch.got c.args.applied c.in-Batch.line applied w.if-got-applied.false)
]

pub returns-after-got-applied-clause-rows : goal.returns-after-got-applied-clause-rows
returns-after-got-applied-clause-rows c = elim c.if-got-applied.branch [
  | then-got-applied w ↦ rw (w.cube-is, w.taken-is) w.do_batch-taken.ensures.rows
  | else-got-applied w ↦ rw w.taken-is tt
]

pub returns-in-Fact-clause-takes : goal.returns-in-Fact-clause-takes
returns-in-Fact-clause-takes c = λ work at applied. rw (c.in-Fact.is, c.refuse_line.ensures) refl

pub returns-in-Based-clause-takes : goal.returns-in-Based-clause-takes
returns-in-Based-clause-takes c = λ work at applied. rw (c.in-Based.is, c.refuse_line-in-Based.ensures) refl

pub returns-in-Other-clause-takes : goal.returns-in-Other-clause-takes
returns-in-Other-clause-takes c = λ work at applied. rw (c.in-Other.is, c.refuse_line-in-Other.ensures) refl

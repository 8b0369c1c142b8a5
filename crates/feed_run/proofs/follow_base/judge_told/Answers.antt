use Rattle.std.proofs.Common.{refl}
use Rattle.feed_run.proofs.FactSteps.{judges-fact, judges-refused}
use Rattle.feed_run.proofs.follow_base.judge_told.Goals as goal

pub judge_fact-requires : goal.judge_fact-requires
judge_fact-requires c = rw c.space.ensures.dims ((rw c.in-Fact.is at c.requires.within).placed.region)

pub returns-in-Ok : goal.returns-in-Ok
returns-in-Ok c = rw c.in-Fact.is (judges-fact c.args.schema.now c.args.facts.now c.args.number c.in-Fact.fact c.requires.facts (rw c.in-Fact.is at c.requires.within) (rw c.space.ensures.dims at c.in-Ok.ensures))

pub returns-in-Err : goal.returns-in-Err
returns-in-Err c = rw (c.in-Fact.is, c.refuse_line.ensures) (judges-refused c.args.schema.now c.args.facts.now c.args.number c.in-Fact.fact c.in-Err.code (rw c.space.ensures.dims at c.in-Err.ensures))

pub returns-in-Based : goal.returns-in-Based
returns-in-Based c = λ base. rw c.in-Based.is refl

pub returns-in-Batch : goal.returns-in-Batch
returns-in-Batch c = rw (c.in-Batch.is, c.refuse_line-in-Batch.ensures) (λ base. refl)

pub returns-in-Other : goal.returns-in-Other
returns-in-Other c = rw (c.in-Other.is, c.refuse_line-in-Other.ensures) (λ base. refl)

use Rattle.fact_records.proofs.Leveling.{first_past, second_past}
use Rattle.fact_records.proofs.level.level.Goals as goal

pub returns-else-half-there-clause-front : goal.returns-else-half-there-clause-front
returns-else-half-there-clause-front c =
    first_past c.args.front.now c.args.back.now c.len-there.result c.len.result c.len-there.ensures.count c.len.ensures.count c.if-half-there.false _ c.take_front.ensures.front

pub returns-else-half-there-clause-back : goal.returns-else-half-there-clause-back
returns-else-half-there-clause-back c =
    second_past c.args.front.now c.args.back.now c.len-there.result c.len.result c.len-there.ensures.count c.len.ensures.count c.if-half-there.false _ c.take_front.ensures.back

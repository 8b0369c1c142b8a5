use Rattle.fact_records.proofs.Leveling.{leveled_by}
use Rattle.fact_records.proofs.level.level_at.Goals as goal

pub returns : goal.returns
returns c =
    leveled_by c.args.used.now c.split_at_mut-front.result.0.now c.split_at_mut-front.result.1.now c.args.block _ _ c.level.new.front c.level.new.back c.requires.place c.split_at_mut-front.ensures.front c.split_at_mut-front.ensures.back
    c.level.ensures.front c.level.ensures.back

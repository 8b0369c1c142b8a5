use Rattle.fact_records.proofs.Edits.{had_in_all, replaced}
use Rattle.fact_records.proofs.blocks.Blocks.replace.Goals as goal

pub returns : goal.returns
returns c =
    let old = c.args.self.now in
    let done = replaced old c.args.place.block c.args.place.at c.requires.place c.requires.filled c.replace_within.new.self c.args.fact c.replace_within.ensures.used c.replace_within.ensures.stock in
    record { had = had_in_all old c.args.place.block c.args.place.at c.requires.place c.requires.filled _ c.replace_within.ensures.had; facts = done.facts; filled = done.filled; spare = done.spare }

-- The list had room, and the pattern did not stand in it.
use Rattle.std.proofs.Common.{◌∙◌, sym}
use Rattle.region_index.proofs.Noting.{IsListed-added}
use Rattle.region_index.proofs.patterns.DepthPatterns.add.Goals as goal

pub invariant_of-self-else-is_full : goal.invariant_of-self-else-is_full
invariant_of-self-else-is_full c = IsListed-added _ _ _ c.args.pattern c.self.view_is c.requires _ c.self.invariant (sym c.is_full.ensures.value ∙ c.if-is_full.false) c.push.ensures.items

-- There is an entry for each code that the changes name.
use Rattle.std.proofs.Common.{rules}
use Rattle.region_index.proofs.Changing.{IsStaging-made}
use Rattle.region_index.proofs.region_index.RegionIndex.stage_at_codes.Goals as goal

pub invariant_of-result : goal.invariant_of-result
invariant_of-result c = IsStaging-made c.args.self.now c.args.codes.now c.args.puts.now c.args.drops.now _ (search rules) c.requires

-- There is an entry for each code that the changes name.
use Rattle.std.proofs.Common.{rules}
use Rattle.std.specs.Option.{option_to_list}
use Rattle.region_index.proofs.Changing.{IsStaging-made}
use Rattle.region_index.proofs.region_index.RegionIndex.few_at_codes.Goals as goal

pub invariant_of-result : goal.invariant_of-result
invariant_of-result c = IsStaging-made c.args.self.now c.args.codes.now (option_to_list c.args.put) (option_to_list c.args.dropped) _ (search rules) c.requires

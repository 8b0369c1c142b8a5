-- What is left at the code is what the changes make.
use Rattle.std.specs.Option.{option_to_list}
use Rattle.region_index.proofs.Changing.{entry-of}
use Rattle.region_index.proofs.region_index.RegionIndex.entry_of_few.Goals as goal

pub returns : goal.returns
returns c =
    entry-of c.args.self.now _ c.in_ok-ids.ids.items (option_to_list c.id_at.result) (option_to_list c.id_at-2.result) c.some_ids.result (option_to_list c.args.put) (option_to_list c.args.dropped) c.id_at.ensures c.id_at-2.ensures
    c.in_ok-ids.ensures.before c.in_ok-ids.ensures.ascending c.in_ok-ids.ensures.members c.some_ids.ensures

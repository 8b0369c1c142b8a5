-- The id stands where it was found, and is nowhere else.
use Rattle.region_index.proofs.OneId.{not-taken, taken-out}
use Rattle.region_index.proofs.changes.take_out_one.Goals as goal

pub returns-in-Ok : goal.returns-in-Ok
returns-in-Ok c = taken-out c.args.ids.now.items _ _ c.args.id c.in-Ok.at c.as_slice.ensures.value c.requires c.in-Ok.ensures.bound c.in-Ok.ensures.position c.remove.ensures.items

-- one that was not found is not there
pub returns-in-Err : goal.returns-in-Err
returns-in-Err c = not-taken c.args.ids.now.items _ c.args.id c.in-Err.field-0 c.as_slice.ensures.value c.requires c.in-Err.ensures.bound c.in-Err.ensures.position

-- The id goes where it has a gap.
use Rattle.region_index.proofs.OneId.{not-put, put-in}
use Rattle.region_index.proofs.changes.put_in_one.Goals as goal

pub returns-in_ok-insert-in-Err : goal.returns-in_ok-insert-in-Err
returns-in_ok-insert-in-Err c =
    put-in c.args.ids.now.items _ _ c.args.id c.in-Err.at c.as_slice.ensures.value c.requires c.in-Err.ensures.bound c.in-Err.ensures.position c.in_ok-insert-in-Err.ensures.items

-- one that was found stays
pub returns-in-Ok : goal.returns-in-Ok
returns-in-Ok c = not-put c.args.ids.now.items _ c.args.id c.in-Ok.field-0 c.as_slice.ensures.value c.requires c.in-Ok.ensures.bound c.in-Ok.ensures.position

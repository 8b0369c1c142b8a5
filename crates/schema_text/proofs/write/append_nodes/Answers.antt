-- A node more.
use Rattle.schema_text.proofs.Writing.{appended, nodes-more}
use Rattle.schema_text.proofs.write.append_nodes.Goals as goal

pub loop-place-preserved : goal.loop-place-preserved
loop-place-preserved c =
    let more = nodes-more c.args.version c.args.dim.now c.loop-place.place c.at.result c.loop-place.out.items c.append_node.new.out.items c.len-place-end.ensures.tree c.at.ensures.number c.in_ok-append_node.ensures in
    appended _ _ _ _ _ _ c.loop-place.invariant more.1 more.2

-- Each field names a node of the next dimension, or the fields name no region.
use Rattle.std.proofs.Common.{refl, sym}
use Rattle.region_algebra.proofs.Spaces.{accepted-few}
use Rattle.fact_records.proofs.NodeFields.{HasNodes-next, HasNodes-none}
use Rattle.fact_records.proofs.fact_reader.read_region.Goals as goal

pub returns-in_default-clause-region : goal.returns-in_default-clause-region
returns-in_default-clause-region g c =
    let left = g.F.Fields.left in
    rw (HasNodes-none c.args.space.now (left c.args.fields.now) c.loop-d.d c.loop-d.nodes (left c.loop-d.fields) c.next_field.result.now (left c.next_field.new.self) c.dim.result.now c.loop-d.invariant c.next_field.ensures c.dim.ensures c.requires (sym c.in_default.ensures.found)) refl

pub loop-d-preserved : goal.loop-d-preserved
loop-d-preserved g c =
    let left = g.F.Fields.left in
    HasNodes-next c.args.space.now (left c.args.fields.now) c.loop-d.d c.loop-d.nodes (left c.loop-d.fields) c.next_field.result.now (left c.next_field.new.self) c.dim.result.now c.in-Some.node c.loop-d.invariant c.next_field.ensures c.dim.ensures
    (accepted-few c.args.space.now c.dims-count.ensures.accepted).1 c.requires (sym c.in-Some.ensures.found) c.in-Some.ensures.within

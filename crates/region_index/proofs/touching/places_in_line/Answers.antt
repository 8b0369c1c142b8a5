-- The nodes in line are those above, and then the run of those under the node.
use Rattle.std.proofs.Common.{◌++◌, ap, ◌∙◌}
use Rattle.region_index.proofs.NodesInLine.{in_line-many, in_line-whole}
use Rattle.region_index.specs.Walk.{places_over}
use Rattle.region_index.proofs.touching.places_in_line.Goals as goal

pub returns-then-len-from : goal.returns-then-len-from
returns-then-len-from c =
    in_line-many c.args.dim.now c.len.ensures.tree c.args.node c.place-place.result c.requires c.place-place.ensures.place c.end_of-end.result c.end_of-end.ensures _
    (c.in_ok-push_above.ensures ∙ ap (λ zs. zs ++ places_over c.args.dim.now c.args.node) c.new-places.ensures.items) _ _ _ (c.len-2.ensures ∙ c.push_above.new.places.ok.0) c.from.ensures c.if-len-from.true

pub returns : goal.returns
returns c =
    in_line-whole c.args.dim.now c.len.ensures.tree c.args.node c.place-place.result c.requires c.place-place.ensures.place c.end_of-end.result c.end_of-end.ensures _
    (c.in_ok-push_above.ensures ∙ ap (λ zs. zs ++ places_over c.args.dim.now c.args.node) c.new-places.ensures.items) _ c.in_ok-push_run.ensures

use Rattle.std.proofs.Common.{get_or, refl, arith, ◌≡◌, ◌≤◌, ◌-◌}
use Rattle.cube_model.specs.Limits.{MAX_DEPTH}
use Rattle.dim_tree.proofs.Passes.{HasParents_more, parent_found, shallow_at}
use Rattle.dim_tree.proofs.places.parents_of.Goals as goal
use Rattle.dim_tree.proofs.places.parents_of.Goals.{then-depth-eq0, else-depth-eq0}

pub loop-place-preserved : goal.loop-place-preserved
loop-place-preserved c =
    let depth = get_or c.args.depths.now c.loop-place.place 0 in
    let shallow : depth ≤ MAX_DEPTH = shallow_at c.args.depths.now c.loop-place.place c.requires.shallow c.loop-place-test.true in
    let root : depth ≡ 0 → c.if-depth-eq0.parent ≡ 0 = elim c.if-depth-eq0.branch [ then-depth-eq0 w ↦ λ _. w.parent-is | else-depth-eq0 w ↦ λ here. grind (arith, w.if-depth-eq0.false) ] in
    let other : 1 ≤ depth → c.if-depth-eq0.parent ≡ get_or c.loop-place.last (depth - 1) 0 = elim c.if-depth-eq0.branch [ then-depth-eq0 w ↦ λ deep. grind (arith, w.if-depth-eq0.true) | else-depth-eq0 w ↦ λ _. w.parent-is ] in
    rw c.in_ok-push.ensures.items (HasParents_more c.args.depths.now c.loop-place.place c.loop-place.last c.loop-place.parents.items depth c.if-depth-eq0.parent c.loop-place.invariant c.loop-place-test.true refl shallow (parent_found c.args.depths.now c.loop-place.place c.loop-place.last c.loop-place.parents.items depth c.if-depth-eq0.parent c.loop-place.invariant shallow root other))

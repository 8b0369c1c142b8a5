use Rattle.std.proofs.Common.{arith, length, sym, ◌∙◌, ◌≡◌, ◌≤◌}
use Rattle.dim_tree.proofs.Passes.{HasLeaves_leaf, HasLeaves_other, HasLeaves_all}
use Rattle.dim_tree.proofs.places.leaves_of.Goals as goal
use Rattle.dim_tree.proofs.places.leaves_of.Goals.{then-is_childless+in_ok-push-2, else-is_childless}

pub loop-place-preserved : goal.loop-place-preserved
loop-place-preserved c =
    let counted : c.len.result ≡ length c.loop-place.leaves.items = grind arith in
    rw (c.in_ok-push.ensures.items, counted) (elim c.if-is_childless.branch [
      | then-is_childless+in_ok-push-2 w ↦
          rw (w.leaves-is, w.in_ok-push-2.ensures.items) (HasLeaves_leaf c.args.depths.now c.loop-place.place c.loop-place.before.items c.loop-place.leaves.items c.loop-place.invariant c.loop-place-test.true (sym c.is_childless.ensures ∙ w.if-is_childless.true))
      | else-is_childless w ↦
          rw w.leaves-is (HasLeaves_other c.args.depths.now c.loop-place.place c.loop-place.before.items c.loop-place.leaves.items c.loop-place.invariant c.loop-place-test.true (sym c.is_childless.ensures ∙ w.if-is_childless.false))
    ])

pub returns-clause-before : goal.returns-clause-before
returns-clause-before c =
    let counted : c.len-2.result ≡ length c.loop-place.leaves.items = grind arith in
    let all : length c.args.depths.now ≤ c.loop-place.place = grind arith in
    rw (c.in_ok-push-3.ensures.items, counted) (HasLeaves_all c.args.depths.now c.loop-place.place c.loop-place.before.items c.loop-place.leaves.items c.loop-place.invariant all).0

pub returns-clause-leaves : goal.returns-clause-leaves
returns-clause-leaves c =
    let all : length c.args.depths.now ≤ c.loop-place.place = grind arith in
    (HasLeaves_all c.args.depths.now c.loop-place.place c.loop-place.before.items c.loop-place.leaves.items c.loop-place.invariant all).1

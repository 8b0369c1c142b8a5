-- One root more.
use Rattle.iter_alloc.proofs.forest.roots.Goals as goal
use Rattle.iter_alloc.proofs.forest.roots.Goals.{then-parent-i, else-parent-i}
use Rattle.iter_alloc.proofs.Roots.{Rooting, rooting-next, root-then, root-else}
use Rattle.iter_alloc.specs.Forest.{at}
use Rattle.std.proofs.Common.{◌≡◌, ℕ, ◌+◌, List, sym, ◌∙◌, subst, arith}
use Rattle.std.proofs.lemmas.List.{get_or_default}
use Rattle.std.specs.Prelude.{◌==◌, if◌then◌else◌}

pub loop-i-preserved : goal.loop-i-preserved
loop-i-preserved c =
    let is : c.if-parent-i.root ≡ (if at c.args.parents.now c.loop-i.i == c.loop-i.i then c.loop-i.i else at c.loop-i.roots.items (at c.args.parents.now c.loop-i.i))
    = elim c.if-parent-i.branch [
      | then-parent-i w ↦ root-then c.loop-i.i (at c.args.parents.now c.loop-i.i) c.if-parent-i.root c.loop-i.roots.items w.if-parent-i.true w.root-is
      | else-parent-i w ↦ root-else c.loop-i.i (at c.args.parents.now c.loop-i.i) c.if-parent-i.root c.loop-i.roots.items w.if-parent-i.false
          (w.root-is ∙ w.index.ensures ∙ get_or_default c.loop-i.roots.items (at c.args.parents.now c.loop-i.i) w.index.result.now 0 (omega (arith, c.requires.low c.loop-i.i c.loop-i-test.true, c.loop-i.invariant.long, w.if-parent-i.false)))
    ]
    in
    subst (λ (found : List ℕ). Rooting c.args.parents.now (c.loop-i.i + 1) found) (sym c.in_ok-push.ensures.items)
    (rooting-next c.args.parents.now c.loop-i.i c.loop-i.roots.items c.loop-i-test.true c.loop-i.invariant c.if-parent-i.root c.requires is)

-- All are marked by their roots.
use Rattle.iter_alloc.proofs.marks.marks_of.Goals as goal
use Rattle.iter_alloc.proofs.Marking.{root-marks}
use Rattle.iter_alloc.specs.Marks.{is_marked}
use Rattle.std.proofs.Common.{ℕ, List, map, ap, ◌∙◌}
use Rattle.std.proofs.lemmas.List.{take_all}

pub returns : goal.returns
returns c =
    root-marks c.args.space.now c.args.firsts.now c.args.roots.now c.args.r c.in_ok-touched.touched.items c.loop-root.marks.items c.requires.as_many c.in_ok-touched.ensures
    (c.loop-root.invariant ∙ ap (λ (ns : List ℕ). map (λ root. is_marked c.in_ok-touched.touched.items root) ns) (take_all c.loop-root.root-index c.args.roots.now c.loop-root-test.false))

-- A root more is touched, or its spot shares no cell with the region.
use Rattle.iter_alloc.proofs.marks.touched_roots.Goals as goal
use Rattle.iter_alloc.proofs.marks.touched_roots.Goals.{then-is_some, else-is_some}
use Rattle.iter_alloc.proofs.Marking.{touched-apart, touched-more, touched-start}
use Rattle.iter_alloc.specs.declared.spots.First.{First}
use Rattle.iter_alloc.specs.Forest.{at}
use Rattle.iter_alloc.specs.Marks.{AreTouched}
use Rattle.region_algebra.specs.Space.{common_cells}
use Rattle.std.proofs.Common.{ℕ, ◌+◌, ◌<◌, Bool, false, List, [], length, ap, sym, subst, ◌∙◌, arith, Global, Vec}
use Rattle.std.proofs.lemmas.List.{get_or-map, length-replicate}

pub loop-i-init : goal.loop-i-init
loop-i-init c =
    let is = c.in_ok-touched.ensures.items_if_clones_equal (λ y same. same) in
    touched-start c.args.space.now c.args.firsts.now c.args.roots.now c.args.r c.in_ok-touched.touched.items (ap (λ (bs : List Bool). length bs) is ∙ length-replicate (length c.args.firsts.now) false)

pub loop-i-preserved : goal.loop-i-preserved
loop-i-preserved c =
    let dims = c.args.space.now in
    let firsts = c.args.firsts.now in
    let roots = c.args.roots.now in
    let i = c.loop-i.i in
    let touched = c.loop-i.touched.items in
    elim c.if-is_some.branch [
      | then-is_some w ↦
          let root : at roots i < length firsts = c.requires.roots i 0 (omega (arith, c.loop-i-test.true, c.requires.as_many)) in
          subst (λ (bs : List Bool). AreTouched dims firsts roots c.args.r (i + 1) bs) (sym (ap (λ (v : Vec Bool Global). v.items) w.touched-is))
          (touched-more dims firsts roots c.args.r i touched c.loop-i.invariant root)
      | else-is_some w ↦
          let region = get_or-map (λ (h : First). h.region) firsts i c.index-firsts-i.result [] c.loop-i-test.true in
          let none = c.meet.ensures.none.0 (sym c.is_some.ensures ∙ w.if-is_some.false) in
          subst (λ (bs : List Bool). AreTouched dims firsts roots c.args.r (i + 1) bs) (sym (ap (λ (v : Vec Bool Global). v.items) w.touched-is))
          (touched-apart dims firsts roots c.args.r i touched c.loop-i.invariant (ap (λ (ns : List ℕ). common_cells dims ns c.args.r) region ∙ none))
    ]

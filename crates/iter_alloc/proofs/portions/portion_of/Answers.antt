-- The share of a place more, if its cell is inside.
use Rattle.iter_alloc.proofs.portions.portion_of.Goals as goal
use Rattle.iter_alloc.proofs.portions.portion_of.Goals.{then-holds, else-holds}
use Rattle.iter_alloc.proofs.PlaceLists.{level-low, share-at}
use Rattle.iter_alloc.proofs.PortionSteps.{find-fits, find-next, find-skip, find-start, Finding, term_in}
use Rattle.iter_alloc.specs.Forest.{at}
use Rattle.cube_model.specs.Cells.{is_among}
use Rattle.iter_alloc.specs.Places.{levels_in}
use Rattle.std.proofs.lemmas.Option.{get_or_from_slice_get}
use Rattle.std.proofs.Common.{◌≡◌, ◌+◌, true, get_or, ap, sym, subst, ◌∙◌, arith}

pub loop-i-init : goal.loop-i-init
loop-i-init c = find-start c.args.inside.now c.args.cells.now.keys (levels_in c.args.places.now) c.args.own.now c.requires.few

pub share-portion-requires-clause-level : goal.share-portion-requires-clause-level
share-portion-requires-clause-level c = level-low c.args.places.now c.requires.levels (get_or c.args.own.now c.loop-i.i-index 0) (c.requires.within c.loop-i.i-index 0 c.loop-i-test.true)

pub overflow_add-portion : goal.overflow_add-portion
overflow_add-portion c =
    let x = get_or c.args.own.now c.loop-i.i-index 0 in
    let share = share-at c.args.places.now c.args.own.now x (c.requires.within c.loop-i.i-index 0 c.loop-i-test.true) _ _ _ c.share-portion.ensures c.mass_of-mass.ensures.sum c.mass_of-mass.ensures.count in
    let inside : is_among c.args.inside.now (at c.args.cells.now.keys x) ≡ true
    = ap (is_among c.args.inside.now) (get_or_from_slice_get c.args.cells.now.keys x c.index.result.now 0 c.index.ensures) ∙ sym c.holds.ensures ∙ c.if-holds.true in
    omega (arith, share, find-fits c.args.inside.now c.args.cells.now.keys (levels_in c.args.places.now) c.args.own.now c.loop-i.i-index c.loop-i.portion c.loop-i.invariant c.loop-i-test.true 0 inside)

pub loop-i-preserved : goal.loop-i-preserved
loop-i-preserved c =
    let x = get_or c.args.own.now c.loop-i.i-index 0 in
    let term = term_in c.args.inside.now c.args.cells.now.keys (levels_in c.args.places.now) c.args.own.now in
    let holds = ap (is_among c.args.inside.now) (get_or_from_slice_get c.args.cells.now.keys x c.index.result.now 0 c.index.ensures) ∙ sym c.holds.ensures in
    elim c.if-holds.branch [
      | then-holds w ↦
          let share = share-at c.args.places.now c.args.own.now x (c.requires.within c.loop-i.i-index 0 c.loop-i-test.true) _ _ _ w.share-portion.ensures c.mass_of-mass.ensures.sum c.mass_of-mass.ensures.count in
          subst (λ n. Finding term c.args.own.now (c.loop-i.i-index + 1) n) (sym (w.portion-is ∙ ap (λ n. c.loop-i.portion + n) share))
          (find-next c.args.inside.now c.args.cells.now.keys (levels_in c.args.places.now) c.args.own.now c.loop-i.i-index c.loop-i.portion c.loop-i.invariant c.loop-i-test.true 0 (holds ∙ w.if-holds.true))
      | else-holds w ↦
          subst (λ n. Finding term c.args.own.now (c.loop-i.i-index + 1) n) (sym w.portion-is)
          (find-skip c.args.inside.now c.args.cells.now.keys (levels_in c.args.places.now) c.args.own.now c.loop-i.i-index c.loop-i.portion c.loop-i.invariant c.loop-i-test.true 0 (holds ∙ w.if-holds.false))
    ]

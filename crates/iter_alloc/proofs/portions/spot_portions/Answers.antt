-- Marks by roots are those of whole components.
use Rattle.iter_alloc.proofs.portions.spot_portions.Goals as goal
use Rattle.iter_alloc.specs.declared.spots.First.{First}
use Rattle.iter_alloc.proofs.Marking.{component-marks}
use Rattle.iter_alloc.proofs.SpotFacts.{first-regions, roots-below, roots-long}
use Rattle.iter_alloc.specs.Claims.{roots_of}
use Rattle.iter_alloc.specs.Marks.{AreMarks, AreRootMarks}
use Rattle.iter_alloc.specs.Spotting.{regions_of}
use Rattle.region_algebra.specs.Space.{IsRegion}
use Rattle.std.proofs.Common.{ℕ, Bool, ◌<◌, List, length, ap, sym, ◌∙◌, subst}
use Rattle.std.specs.Prelude.{All}

pub roots_of_spots-requires : goal.roots_of_spots-requires
roots_of_spots-requires c = record {
  regions =
      subst (λ (fs : List First). All (λ first. IsRegion c.args.space.now first.region) fs) (sym c.deref.ensures.value)
      (first-regions c.args.space.now c.args.facts.now.facts c.args.all.now.firsts.items c.args.all.now.spots.items c.requires.facts c.requires.spots);
}

pub marks_of-requires-clause-regions : goal.marks_of-requires-clause-regions
marks_of-requires-clause-regions c =
    subst (λ (fs : List First). All (λ first. IsRegion c.args.space.now first.region) fs) (sym c.deref-2.ensures.value)
    (first-regions c.args.space.now c.args.facts.now.facts c.args.all.now.firsts.items c.args.all.now.spots.items c.requires.facts c.requires.spots)

pub marks_of-requires-clause-as_many : goal.marks_of-requires-clause-as_many
marks_of-requires-clause-as_many c =
    let is = ap (λ (fs : List First). roots_of c.args.space.now (regions_of fs)) c.deref.ensures.value in
    ap (λ (rs : List ℕ). length rs) c.deref-3.ensures.value
    ∙ roots-long c.args.space.now c.args.facts.now.facts c.args.all.now.firsts.items c.args.all.now.spots.items c.requires.facts c.requires.spots c.in_ok-roots.roots.items (c.in_ok-roots.ensures.roots ∙ is) c.in_ok-roots.ensures.own
    ∙ sym (ap (λ (fs : List First). length fs) c.deref-2.ensures.value)

pub marks_of-requires-clause-roots : goal.marks_of-requires-clause-roots
marks_of-requires-clause-roots c =
    let is = ap (λ (fs : List First). roots_of c.args.space.now (regions_of fs)) c.deref.ensures.value in
    subst (λ (rs : List ℕ). All (λ root. root < length c.deref-2.result.now) rs) (sym c.deref-3.ensures.value)
    (subst (λ (fs : List First). All (λ root. root < length fs) c.in_ok-roots.roots.items) (sym c.deref-2.ensures.value)
    (roots-below c.args.space.now c.args.facts.now.facts c.args.all.now.firsts.items c.args.all.now.spots.items c.requires.facts c.requires.spots c.in_ok-roots.roots.items (c.in_ok-roots.ensures.roots ∙ is) c.in_ok-roots.ensures.own))

pub marked_portions-requires-clause-marks : goal.marked_portions-requires-clause-marks
marked_portions-requires-clause-marks c =
    let is = ap (λ (fs : List First). roots_of c.args.space.now (regions_of fs)) c.deref.ensures.value in
    let by_roots = subst (λ (rs : List ℕ). AreRootMarks c.args.space.now c.args.all.now.firsts.items rs c.args.r c.in_ok-marks.marks.items) c.deref-3.ensures.value
    (subst (λ (fs : List First). AreRootMarks c.args.space.now fs c.deref-3.result.now c.args.r c.in_ok-marks.marks.items) c.deref-2.ensures.value c.in_ok-marks.ensures) in
    subst (λ (bs : List Bool). AreMarks c.args.space.now c.args.facts.now.facts c.args.all.now.firsts.items c.args.r bs) (sym c.deref-4.ensures.value)
    (component-marks c.args.space.now c.args.facts.now.facts c.args.all.now.firsts.items c.args.all.now.spots.items c.in_ok-roots.roots.items c.args.r c.in_ok-marks.marks.items c.dims.ensures.trees c.requires.facts c.requires.spots
    (c.in_ok-roots.ensures.roots ∙ is) c.in_ok-roots.ensures.own by_roots)

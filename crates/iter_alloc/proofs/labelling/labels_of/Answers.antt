-- The roots of the spots label the facts.
use Rattle.iter_alloc.proofs.labelling.labels_of.Goals as goal
use Rattle.iter_alloc.proofs.SpotFacts.{first-regions, spots-long, roots-below, spots-rooted, all-labels}
use Rattle.iter_alloc.specs.Claims.{roots_of}
use Rattle.iter_alloc.specs.Spotting.{regions_of, labels_by}
use Rattle.iter_alloc.specs.declared.spots.First.{First}
use Rattle.region_algebra.specs.Space.{IsRegion}
use Rattle.std.proofs.Common.{◌≡◌, ℕ, ◌<◌, List, length, ap, sym, ◌∙◌, subst}
use Rattle.std.specs.Prelude.{All, IfSome, IfOk}

pub roots_of_spots-requires : goal.roots_of_spots-requires
roots_of_spots-requires c = record {
  regions =
      subst (λ (fs : List First). All (λ first. IsRegion c.args.space.now first.region) fs) (sym c.deref.ensures.value)
      (first-regions c.args.space.now c.args.facts.now.facts c.in_ok-all.all.firsts.items c.in_ok-all.all.spots.items c.requires c.in_ok-all.ensures);
}

pub label_facts-requires-clause-as_many : goal.label_facts-requires-clause-as_many
label_facts-requires-clause-as_many c = spots-long c.args.space.now c.args.facts.now.facts c.in_ok-all.all.firsts.items c.in_ok-all.all.spots.items c.requires c.in_ok-all.ensures

pub label_facts-requires-clause-spots : goal.label_facts-requires-clause-spots
label_facts-requires-clause-spots c =
    let is = ap (λ (fs : List First). roots_of c.args.space.now (regions_of fs)) c.deref.ensures.value in
    subst (λ (rs : List ℕ). All (λ spot. IfSome spot (λ s. s < length rs)) c.in_ok-all.all.spots.items) (sym c.deref-2.ensures.value)
    (spots-rooted c.args.space.now c.args.facts.now.facts c.in_ok-all.all.firsts.items c.in_ok-all.all.spots.items c.requires c.in_ok-all.ensures c.in_ok-roots.roots.items (c.in_ok-roots.ensures.roots ∙ is) c.in_ok-roots.ensures.own)

pub label_facts-requires-clause-roots : goal.label_facts-requires-clause-roots
label_facts-requires-clause-roots c =
    let is = ap (λ (fs : List First). roots_of c.args.space.now (regions_of fs)) c.deref.ensures.value in
    subst (λ (rs : List ℕ). All (λ root. root < length c.in_ok-all.all.firsts.items) rs) (sym c.deref-2.ensures.value)
    (roots-below c.args.space.now c.args.facts.now.facts c.in_ok-all.all.firsts.items c.in_ok-all.all.spots.items c.requires c.in_ok-all.ensures c.in_ok-roots.roots.items (c.in_ok-roots.ensures.roots ∙ is) c.in_ok-roots.ensures.own)

pub returns : goal.returns
returns c =
    let is = ap (λ (fs : List First). roots_of c.args.space.now (regions_of fs)) c.deref.ensures.value in
    let all =
    all-labels c.args.space.now c.args.facts.now.facts c.in_ok-all.all.firsts.items c.in_ok-all.all.spots.items c.requires c.in_ok-all.ensures c.in_ok-roots.roots.items (c.in_ok-roots.ensures.roots ∙ is)
    c.in_ok-roots.ensures.own c.dims.ensures.trees
    in
    subst (λ (ls : List ℕ). IfOk c.label_facts.result (λ (ids : List ℕ). ids ≡ ls))
    (ap (λ (rs : List ℕ). labels_by c.in_ok-all.all.firsts.items rs c.args.facts.now.facts c.in_ok-all.all.spots.items) c.deref-2.ensures.value ∙ all) c.label_facts.ensures

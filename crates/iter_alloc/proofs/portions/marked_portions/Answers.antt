-- What is laid out are the spots that are marked.
use Rattle.iter_alloc.proofs.portions.marked_portions.Goals as goal
use Rattle.iter_alloc.specs.declared.rounds.Span.{Span}
use Rattle.iter_alloc.specs.declared.spots.First.{First}
use Rattle.cube_model.specs.Cells.{cells_of}
use Rattle.cube_model.specs.Limits.{MAX_CELLS}
use Rattle.cube_model.specs.Tree.{Dimension}
use Rattle.iter_alloc.proofs.SpotFacts.{first-regions, spots-long, spots-within}
use Rattle.iter_alloc.proofs.Transfer.{first-sizes, levels-low, portions-same}
use Rattle.iter_alloc.specs.LaidOut.{AreLaidOut}
use Rattle.iter_alloc.specs.Marks.{AreMembers}
use Rattle.iter_alloc.specs.Portions.{ArePortions}
use Rattle.region_algebra.specs.Space.{IsRegion}
use Rattle.std.proofs.Common.{◌≡◌, ℕ, Bool, ◌<◌, ◌≤◌, List, length, ap, sym, subst, arith}
use Rattle.std.proofs.lemmas.Result.{IfOk-weaker}
use Rattle.std.specs.Prelude.{All, Option, IfSome}

pub members_of-requires-clause-few : goal.members_of-requires-clause-few
members_of-requires-clause-few c =
    omega (
      arith,
      ap (λ (os : List (Option ℕ)). length os) c.deref.ensures.value,
      spots-long c.args.space.now c.args.facts.now.facts c.args.all.now.firsts.items c.args.all.now.spots.items c.requires.facts c.requires.spots,
      c.requires.facts.few,
    )

pub members_of-requires-clause-within : goal.members_of-requires-clause-within
members_of-requires-clause-within c =
    subst (λ (os : List (Option ℕ)). All (λ spot. IfSome spot (λ s. s < c.len.result)) os) (sym c.deref.ensures.value)
    (spots-within c.args.space.now c.args.facts.now.facts c.args.all.now.firsts.items c.args.all.now.spots.items c.requires.facts c.requires.spots c.len.result (omega (arith, c.len.ensures, c.args.all.now.firsts.ok.0)))

pub lay_out-requires-clause-regions : goal.lay_out-requires-clause-regions
lay_out-requires-clause-regions c =
    subst (λ (fs : List First). All (λ first. IsRegion c.args.space.now first.region) fs) (sym c.deref-2.ensures.value)
    (first-regions c.args.space.now c.args.facts.now.facts c.args.all.now.firsts.items c.args.all.now.spots.items c.requires.facts c.requires.spots)

pub lay_out-requires-clause-sizes : goal.lay_out-requires-clause-sizes
lay_out-requires-clause-sizes c =
    subst (λ (fs : List First). All (λ first. length (cells_of c.args.space.now first.region) ≤ MAX_CELLS) fs) (sym c.deref-2.ensures.value)
    (first-sizes c.args.space.now c.args.facts.now.facts c.args.all.now.firsts.items c.args.all.now.spots.items c.args.marks.now c.requires.trees c.requires.facts c.requires.spots)

-- what was read of the spots and their members is these
members-read : (spots os : List (Option ℕ)) (firsts : List First) (count : ℕ) (members : List ℕ) → count ≡ length firsts → os ≡ spots → AreMembers os count members → AreMembers spots (length firsts) members
members-read spots os firsts count members long is are = subst (λ n. AreMembers spots n members) long (subst (λ (ss : List (Option ℕ)). AreMembers ss count members) is are)

laid-read : (dims : List Dimension) (firsts fs : List First) (marks : List Bool) (members ms keys flat : List ℕ) (spans : List Span) → fs ≡ firsts → ms ≡ members → AreLaidOut dims fs marks ms (length fs) keys flat spans
    → AreLaidOut dims firsts marks members (length firsts) keys flat spans
laid-read dims firsts fs marks members ms keys flat spans same is laid =
    subst (λ (ns : List ℕ). AreLaidOut dims firsts marks ns (length firsts) keys flat spans) is (subst (λ (hs : List First). AreLaidOut dims hs marks ms (length hs) keys flat spans) same laid)

pub laid_portions-requires-clause-low : goal.laid_portions-requires-clause-low
laid_portions-requires-clause-low c =
    levels-low c.args.space.now c.args.facts.now.facts c.args.all.now.firsts.items c.args.all.now.spots.items c.args.marks.now c.requires.trees c.requires.facts c.requires.spots
    c.in_ok-members.members.items c.in_ok-layout.layout.cells.keys c.in_ok-layout.layout.flat.items c.in_ok-layout.layout.spans.items
    (members-read _ _ _ _ _ (omega (arith, c.len.ensures, c.args.all.now.firsts.ok.0)) c.deref.ensures.value c.in_ok-members.ensures)
    (laid-read _ _ _ _ _ _ _ _ _ c.deref-2.ensures.value c.deref-3.ensures.value c.in_ok-layout.ensures)

pub returns : goal.returns
returns c =
    IfOk-weaker c.laid_portions.result _ (λ portions. ArePortions c.args.space.now c.args.facts.now.facts c.args.rounds c.args.r c.args.all.now.firsts.items portions.items)
    (λ portions are.
    portions-same c.args.space.now c.args.facts.now.facts c.args.all.now.firsts.items c.args.all.now.spots.items c.args.marks.now c.requires.trees c.requires.facts c.requires.spots
    c.in_ok-members.members.items c.in_ok-layout.layout.cells.keys c.in_ok-layout.layout.flat.items c.in_ok-layout.layout.spans.items
    (members-read _ _ _ _ _ (omega (arith, c.len.ensures, c.args.all.now.firsts.ok.0)) c.deref.ensures.value c.in_ok-members.ensures)
    (laid-read _ _ _ _ _ _ _ _ _ c.deref-2.ensures.value c.deref-3.ensures.value c.in_ok-layout.ensures)
    c.args.rounds c.args.r c.requires.marks portions.items are)
    c.laid_portions.ensures

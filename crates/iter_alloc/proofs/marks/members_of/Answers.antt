-- A fact more is counted.
use Rattle.iter_alloc.proofs.marks.members_of.Goals as goal
use Rattle.iter_alloc.proofs.marks.members_of.Goals.{in-Some, in_default}
use Rattle.iter_alloc.proofs.Marking.{members-fit, members-next, members-skip, members-start, Membering}
use Rattle.iter_alloc.specs.Forest.{at}
use Rattle.std.proofs.Common.{◌≡◌, ℕ, List, ◌+◌, ◌<◌, get_or, set, drop, length, ap, sym, subst, ◌∙◌, arith, Global, None, Option, Some, Vec}
use Rattle.std.proofs.lemmas.List.{get_or_default, get_or-replicate, length-replicate}
use Rattle.std.specs.Prelude.{All, IfSome}

pub loop-spot-init : goal.loop-spot-init
loop-spot-init c =
    let is = c.in_ok-members.ensures.items_if_clones_equal (λ y same. same) in
    members-start c.args.spots.now c.args.count c.in_ok-members.members.items (ap (λ (ns : List ℕ). length ns) is ∙ length-replicate c.args.count 0)
    (λ s within. ap (λ (ns : List ℕ). at ns s) is ∙ get_or-replicate c.args.count s 0 0 within)

-- the spot of a fact is one of those that are counted
spot-within : (spots : List (Option ℕ)) (count k s : ℕ) → All (λ spot. IfSome spot (λ n. n < count)) spots → k < length spots → get_or spots k None ≡ Some s → s < count
spot-within spots count k s within more is = subst (λ (o : Option ℕ). IfSome o (λ n. n < count)) is (within k None more)

counted-is : (members : List ℕ) (s now : ℕ) → s < length members → now ≡ get_or members s now → now ≡ at members s
counted-is members s now within is = is ∙ get_or_default members s now 0 within

pub overflow_add-index_mut : goal.overflow_add-index_mut
overflow_add-index_mut c =
    let members = c.loop-spot.members.items in
    let inside = spot-within c.args.spots.now c.args.count c.loop-spot.spot-index c.in-Some.spot c.requires.within c.loop-spot-test.true c.in-Some.is in
    omega (
      arith,
      counted-is members c.in-Some.spot c.index_mut.result.now (omega (arith, inside, c.loop-spot.invariant.as_many)) c.index_mut.ensures.value,
      members-fit c.args.spots.now c.args.count c.loop-spot.spot-index members c.loop-spot.invariant c.loop-spot-test.true None c.in-Some.spot inside,
      c.requires.few,
    )

pub loop-spot-preserved : goal.loop-spot-preserved
loop-spot-preserved c =
    let spots = c.args.spots.now in
    let count = c.args.count in
    let k = c.loop-spot.spot-index in
    let members = c.loop-spot.members.items in
    elim c.match-spot.branch [
      | in-Some w ↦
          let s = w.in-Some.spot in
          let inside = spot-within spots count k s c.requires.within c.loop-spot-test.true w.in-Some.is in
          let value = counted-is members s w.index_mut.result.now (omega (arith, inside, c.loop-spot.invariant.as_many)) w.index_mut.ensures.value in
          subst (λ (ns : List ℕ). Membering spots count (drop (k + 1) spots) ns) (sym (ap (λ (v : Vec ℕ Global). v.items) w.members-is ∙ ap (λ n. set members s (n + 1)) value))
          (members-next spots count k members c.loop-spot.invariant c.loop-spot-test.true None s inside w.in-Some.is)
      | in_default w ↦
          subst (λ (ns : List ℕ). Membering spots count (drop (k + 1) spots) ns) (sym (ap (λ (v : Vec ℕ Global). v.items) w.members-is))
          (members-skip spots count k members c.loop-spot.invariant c.loop-spot-test.true None w.in_default.is)
    ]

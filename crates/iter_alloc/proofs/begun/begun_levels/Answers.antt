-- A fact more is added.
use Rattle.iter_alloc.proofs.begun.begun_levels.Goals as goal
use Rattle.iter_alloc.proofs.Beginning.{begin-all, begin-next, begin-region, begin-start, Beginning}
use Rattle.cube_model.specs.Facts.{lies_at}
use Rattle.iter_alloc.specs.Forest.{at}
use Rattle.iter_alloc.specs.Places.{IsRaised}
use Rattle.iter_alloc.specs.Rounds.{WHOLE_FACT}
use Rattle.std.specs.Prelude.{if◌then◌else◌}
use Rattle.std.proofs.Common.{◌≡◌, ℕ, List, ◌∙◌, length, arith, ap, sym, subst}
use Rattle.std.proofs.lemmas.List.{get_or-replicate, length-replicate, with_items_is}

pub add_precise-requires-clause-region : goal.add_precise-requires-clause-region
add_precise-requires-clause-region c = begin-region c.args.space.now c.args.cells.now.keys c.args.facts.now.facts _ _ c.loop-fact.invariant _ _ c.in-Some.ensures.steps

pub returns : goal.returns
returns c = begin-all c.args.space.now c.args.cells.now.keys c.args.facts.now.facts _ _ c.loop-fact.invariant c.in-None.ensures.steps.0

pub loop-fact-init : goal.loop-fact-init
loop-fact-init c =
    let is = c.in_ok-begun.ensures.items_if_clones_equal (λ y same. same) in
    let long = ap (λ (ns : List ℕ). length ns) is ∙ length-replicate c.len.result 0 ∙ c.len.ensures.len in
    begin-start c.args.space.now c.args.cells.now.keys c.args.facts.now.facts _ c.in_ok-begun.begun.items c.requires.facts (c.into_iter-fact-iterator.ensures.into_iter_gives ∙ c.iter-fact-items.ensures) long
    (λ i within. ap (λ (ns : List ℕ). at ns i) is ∙ get_or-replicate c.len.result i 0 0 (omega (arith, within, c.len.ensures.len)))

pub loop-fact-preserved : goal.loop-fact-preserved
loop-fact-preserved c =
    let dims = c.args.space.now in
    let keys = c.args.cells.now.keys in
    let adds = subst (λ (ns : List ℕ). IsRaised (λ i. if lies_at dims (at keys i) c.in-Some.fact then WHOLE_FACT else 0) ns c.add_precise.new.begun) c.deref_mut.ensures.value c.add_precise.ensures in
    let next = begin-next dims keys c.args.facts.now.facts c.loop-fact.fact-iterator c.loop-fact.begun.items c.loop-fact.invariant c.in-Some.fact c.next.new.self c.in-Some.ensures.steps c.add_precise.new.begun adds in
    let long : length c.add_precise.new.begun ≡ c.loop-fact.begun.len = omega (arith, adds.as_many, c.loop-fact.begun.ok.0) in
    subst (λ (ns : List ℕ). Beginning dims keys c.args.facts.now.facts c.next.new.self ns) (sym (with_items_is c.loop-fact.begun c.add_precise.new.begun long)) next

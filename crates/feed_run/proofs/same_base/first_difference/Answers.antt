use Rattle.std.proofs.Common.{◌≡◌, ◌<◌, length, map, Some, sym, ap, ◌∙◌, subst, arith}
use Rattle.std.specs.Prelude.{min}
use Rattle.cube_model.specs.declared.edit.Fact.{Fact}
use Rattle.region_algebra.specs.Space.{IsRegion}
use Rattle.store_audit.specs.Sound.{fact_told}
use Rattle.feed_run.proofs.SameBase.{other-end, other-here, same-all, same-next, told-at, told-count}
use Rattle.feed_run.proofs.same_base.first_difference.Goals as goal

pub are_same-requires : goal.are_same-requires
are_same-requires c =
    let within : c.loop-place.place < length c.args.facts.now = omega (arith, c.loop-place-test.true, c.min-count.ensures) in
    subst (λ (f : Fact). IsRegion c.args.space.now f.region) (sym c.index-facts-place.is) (c.requires c.loop-place.place c.index-facts-place.result within)

pub returns-then-not-are_same : goal.returns-then-not-are_same
returns-then-not-are_same c =
    let x = c.index-kept-place.result in
    let y = c.index-facts-place.result in
    let place = c.loop-place.place in
    other-here (map fact_told c.args.kept.now) c.args.facts.now place c.loop-place.invariant (fact_told x) y (fact_told x) y (omega (arith, c.loop-place-test.true, c.min-count.ensures, told-count c.args.kept.now))
    (omega (arith, c.loop-place-test.true, c.min-count.ensures)) (told-at c.args.kept.now place x c.index-kept-place.is) (sym c.index-facts-place.is) (sym c.are_same.ensures ∙ c.if-not-are_same.true)

pub loop-place-preserved : goal.loop-place-preserved
loop-place-preserved c =
    let x = c.index-kept-place.result in
    let y = c.index-facts-place.result in
    let place = c.loop-place.place in
    same-next (map fact_told c.args.kept.now) c.args.facts.now place c.loop-place.invariant (fact_told x) y (fact_told x) y (omega (arith, c.loop-place-test.true, c.min-count.ensures, told-count c.args.kept.now))
    (omega (arith, c.loop-place-test.true, c.min-count.ensures)) (told-at c.args.kept.now place x c.index-kept-place.is) (sym c.index-facts-place.is) (sym c.are_same.ensures ∙ c.if-not-are_same.false)

pub returns-then-kept-facts : goal.returns-then-kept-facts
returns-then-kept-facts c =
    same-all (map fact_told c.args.kept.now) c.args.facts.now c.loop-place.place c.loop-place.invariant
    (omega (arith, c.loop-place-test.false, c.loop-place.auto.place-end, c.min-count.ensures, c.if-kept-facts.true, told-count c.args.kept.now))
    (omega (arith, c.loop-place-test.false, c.loop-place.auto.place-end, c.min-count.ensures, c.if-kept-facts.true))

pub returns-else-kept-facts : goal.returns-else-kept-facts
returns-else-kept-facts c =
    let at_end : c.loop-place.place ≡ c.min-count.result = omega (arith, c.loop-place-test.false, c.loop-place.auto.place-end) in
    let least : min (length (map fact_told c.args.kept.now)) (length c.args.facts.now) ≡ c.loop-place.place = ap (λ n. min n (length c.args.facts.now)) (told-count c.args.kept.now) ∙ sym c.min-count.ensures ∙ sym at_end in
    ap Some (sym at_end) ∙ other-end (map fact_told c.args.kept.now) c.args.facts.now c.loop-place.place c.loop-place.invariant least (λ same. c.if-kept-facts.false (sym (told-count c.args.kept.now) ∙ same))

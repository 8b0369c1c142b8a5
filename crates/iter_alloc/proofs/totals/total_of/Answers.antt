-- A fact more is added.
use Rattle.iter_alloc.proofs.totals.total_of.Goals as goal
use Rattle.iter_alloc.proofs.Totalling.{total-all, total-fits, total-next, total-start, total-width, total-within, Totalling}
use Rattle.std.proofs.Common.{◌+◌, ◌^◌, ◌≤◌, get_or, ap, sym, subst, ◌∙◌, arith, pos, ◌+ℤ◌, ◌*ℤ◌, to_z, to_z-of_z}
use Rattle.std.specs.Int.{w64, w128}
use Rattle.std.specs.Prelude.{nat_abs}

pub loop-fact-init : goal.loop-fact-init
loop-fact-init c =
    total-start c.args.column c.args.columns c.args.facts.now.facts c.args.portions.now c.requires.column c.requires.few c.requires.as_many c.requires.low _ (c.into_iter-fact-iterator.ensures.into_iter_gives ∙ c.iter-fact-items.ensures) c.requires.values

pub value-requires : goal.value-requires
value-requires c =
    omega (
      arith,
      c.requires.column,
      total-width c.args.column c.args.columns c.args.facts.now.facts c.args.portions.now c.requires.column c.requires.few c.requires.as_many c.requires.low _ _ _ c.loop-fact.invariant _ _ c.in-Some.ensures.steps,
    )

pub bounds-portions-i : goal.bounds-portions-i
bounds-portions-i c =
    omega (
      arith,
      total-within c.args.column c.args.columns c.args.facts.now.facts c.args.portions.now c.requires.column c.requires.few c.requires.as_many c.requires.low _ _ _ c.loop-fact.invariant _ _ c.in-Some.ensures.steps,
    )

pub plus_product-total-requires : goal.plus_product-total-requires
plus_product-total-requires c =
    let read = to_z-of_z {w = w64} (record { sfits = c.value.type_inv }) ∙ c.value.ensures in
    subst (λ z. nat_abs (to_z w128 c.loop-fact.total-bits +ℤ z *ℤ pos (get_or c.args.portions.now c.loop-fact.i 0)) ≤ 2 ^ 126) (sym read)
    (total-fits c.args.column c.args.columns c.args.facts.now.facts c.args.portions.now c.requires.column c.requires.few c.requires.as_many c.requires.low _ _ _ c.loop-fact.invariant _ _ c.in-Some.ensures.steps)

pub loop-fact-preserved : goal.loop-fact-preserved
loop-fact-preserved c =
    let total = to_z w128 c.loop-fact.total-bits in
    let read = to_z-of_z {w = w64} (record { sfits = c.value.type_inv }) ∙ c.value.ensures in
    let sum = to_z-of_z {w = w128} (record { sfits = c.plus_product-total.type_inv }) ∙ c.plus_product-total.ensures ∙ ap (λ z. total +ℤ z *ℤ pos (get_or c.args.portions.now c.loop-fact.i 0)) read in
    subst (λ z. Totalling c.args.column c.args.columns c.args.facts.now.facts c.args.portions.now c.next.new.self (c.loop-fact.i + 1) z) (sym sum)
    (total-next c.args.column c.args.columns c.args.facts.now.facts c.args.portions.now c.requires.column c.requires.few c.requires.as_many c.requires.low _ _ _ c.loop-fact.invariant _ _ c.in-Some.ensures.steps)

pub returns : goal.returns
returns c = total-all c.args.column c.args.columns c.args.facts.now.facts c.args.portions.now _ _ _ c.in-None.ensures.steps.0 c.loop-fact.invariant

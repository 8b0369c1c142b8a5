use Rattle.std.proofs.Common.{◌+◌, ◌++◌, ◌∷◌, ap, sym, ◌∙◌, arith, drop, suc, length, ◌≡◌}
use Rattle.std.proofs.lemmas.Bool.Decides.{nat_tests}
use Rattle.std.proofs.lemmas.List.Elements.{All-rest}
use Rattle.fact_records.specs.BlockList.{IsFilled, all_facts}
use Rattle.fact_records.proofs.Walking.{drop-front, drop-whole, next-start}
use Rattle.fact_records.proofs.fact_walk.FactWalkIterator.next.Goals as goal
use Rattle.fact_records.proofs.fact_walk.FactWalkIterator.next.Goals.{then-self-len, else-self-len}

pub invariant_of-self : goal.invariant_of-self
invariant_of-self c = next-start _ (All-rest IsFilled c.in_ok-block.block.now c.in_ok-block.others.now c.self.inside.blocks.now c.in_ok-block.ensures.cases.0 c.self.invariant.filled)

pub returns-clause-steps : goal.returns-clause-steps
returns-clause-steps c =
    let at = c.self.inside.at in
    let rest = all_facts c.in_ok-block.others.now in
    let here = drop-front c.in_ok-block.block.now rest at c.get-fact.result c.get-fact.ensures in
    let old = sym c.self.view_is ∙ ap (λ blocks. drop at (all_facts blocks)) c.in_ok-block.ensures.cases.0 in
    elim c.if-self-len.branch [
      | then-self-len w ↦
          let whole : suc at ≡ length c.in_ok-block.block.now = grind (arith, nat_tests, w.if-self-len.true, c.len.ensures.count) in
          old ∙ here ∙ ap (λ facts. c.get-fact.result ∷ facts) (ap (λ n. drop n (c.in_ok-block.block.now ++ rest)) whole ∙ drop-whole c.in_ok-block.block.now rest ∙ sym w.self-is)
      | else-self-len w ↦
          let one : suc at ≡ at + 1 = omega arith in
          old ∙ here
          ∙ ap (λ facts. c.get-fact.result ∷ facts) (ap (λ n. drop n (c.in_ok-block.block.now ++ rest)) one ∙ sym (ap (λ blocks. drop (at + 1) (all_facts blocks)) c.in_ok-block.ensures.cases.0) ∙ sym w.self-is)
    ]

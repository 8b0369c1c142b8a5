-- The regions in line with a region are those that have a cell in common with it.
use Rattle.std.proofs.Common.{◌∙◌, ap, length, refl, sym, true≢false, arith}
use Rattle.region_index.proofs.NodesInLine.{matched-none, matched-some}
use Rattle.region_index.proofs.RegionsInLine.{touching-in_line}
use Rattle.region_index.proofs.touching.codes_touching.Goals as goal

pub returns-in_default-clause-most : goal.returns-in_default-clause-most
returns-in_default-clause-most c =
    let same = ap length (touching-in_line c.args.space.now c.args.r c.dims.ensures.trees c.requires) in
    let more = matched-none _ _ _ c.in_default.is c.in_ok-codes.ensures in
    (λ _. omega (arith, same, more), λ _. refl)

pub returns-then-len-most-clause-most : goal.returns-then-len-most-clause-most
returns-then-len-most-clause-most c =
    let same = touching-in_line c.args.space.now c.args.r c.dims.ensures.trees c.requires in
    let counted = c.len.ensures ∙ c.in-Some.codes.ok.0 ∙ ap length (matched-some _ _ _ _ c.in-Some.is c.in_ok-codes.ensures ∙ sym same) in
    (λ _. omega (arith, counted, c.if-len-most.true), λ _. refl)

pub returns-clause-codes : goal.returns-clause-codes
returns-clause-codes c = c.from.ensures ∙ matched-some _ _ _ _ c.in-Some.is c.in_ok-codes.ensures ∙ sym (touching-in_line c.args.space.now c.args.r c.dims.ensures.trees c.requires)

pub returns-clause-most : goal.returns-clause-most
returns-clause-most c =
    let same = touching-in_line c.args.space.now c.args.r c.dims.ensures.trees c.requires in
    let counted = c.len.ensures ∙ c.in-Some.codes.ok.0 ∙ ap length (matched-some _ _ _ _ c.in-Some.is c.in_ok-codes.ensures ∙ sym same) in
    (λ none. absurd (true≢false none), λ more. absurd (omega (arith, counted, more, c.if-len-most.false)))

use Rattle.std.proofs.Common.{take}
use Rattle.group_sum.specs.Merge.{Subtracts}
use Rattle.group_sum.specs.Terms.{AreTerms}
use Rattle.group_sum.proofs.difference.take_all.Given as goal

-- the part's terms so far are taken away
abbrev pub invariant-loop-j : goal.invariant-loop-j
invariant-loop-j l = record {
  taken : Subtracts l.initial.left (record { columns = l.part.columns; terms = take l.j l.part.terms }) l.left;
  terms : AreTerms l.left;
}

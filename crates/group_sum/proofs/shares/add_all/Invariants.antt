use Rattle.std.proofs.Common.{take}
use Rattle.group_sum.specs.Shares.{AddUpTo}
use Rattle.group_sum.specs.Terms.{AreTerms}
use Rattle.group_sum.proofs.shares.add_all.Given as goal

-- the shares so far are added up
abbrev pub invariant-loop-share : goal.invariant-loop-share
invariant-loop-share l = record { up : AddUpTo l.fn.terms.columns (take l.share-index l.shares) l.terms; terms : AreTerms l.terms }

use Rattle.library_tests.specs.Small.{AreSmallLists}
use Rattle.library_tests.proofs.terms.terms_of.Given as goal

-- each share so far adds 1 to a count and less than 2^32 to a sum
abbrev pub invariant-loop-den : goal.invariant-loop-den
invariant-loop-den l = AreSmallLists l.den-index l.terms

-- Weights that are equal at each cell spread equally.
use Rattle.std.proofs.Common.{ap, sym}
use Rattle.alloc_rows.proofs.Changes.{among-itself, stat_after-among, stat_after-twice}
use Rattle.alloc_rows.proofs.Spreading.{spread-same}
use Rattle.alloc_rows.proofs.laws.steps_compose.Goals as goal

pub returns-clause-twice : goal.returns-clause-twice
returns-clause-twice c = stat_after-twice

pub returns-clause-inside : goal.returns-clause-inside
returns-clause-inside c weigh stats changes cells = spread-same _ _ cells (λ k d within. ap weigh (stat_after-among stats cells changes _ (among-itself cells k d within)))

pub returns-clause-installed : goal.returns-clause-installed
returns-clause-installed c weigh old new changes cells installs = spread-same _ _ cells (λ k d within. ap weigh (sym (installs.stats _)))

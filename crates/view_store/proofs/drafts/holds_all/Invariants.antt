-- The region of the code holds all cells of those before this one.
use Rattle.std.proofs.Common.{take}
use Rattle.std.specs.Prelude.{All}
use Rattle.view_store.specs.Cuts.{HoldsCells}
use Rattle.view_store.proofs.drafts.holds_all.Given as goal

abbrev pub invariant-loop-change : goal.invariant-loop-change
invariant-loop-change l = All (λ change. HoldsCells l.cuts.dims l.cuts.depths change.region l.code) (take l.change-index l.changes)

-- The region over that of the first holds those of the others.
use Rattle.std.proofs.Common.{refl}
use Rattle.std.proofs.lemmas.List.Elements.{All-rest}
use Rattle.region_algebra.specs.Space.{IsRegion}
use Rattle.view_store.specs.declared.change.ViewChange.{ViewChange}
use Rattle.view_store.proofs.Alone.{held-changes}
use Rattle.view_store.proofs.drafts.one_code.Goals as goal

pub holds_all-requires : goal.holds_all-requires
holds_all-requires c = All-rest (λ (change : ViewChange). IsRegion c.args.cuts.now.dims change.region) c.in_ok-first.first.now c.in_ok-first.others.now c.args.changes.now c.in_ok-first.ensures.cases.0 c.requires

pub returns-then-holds_all : goal.returns-then-holds_all
returns-then-holds_all c =
    held-changes c.args.cuts.now.dims c.args.cuts.now.depths c.args.changes.now c.in_ok-first.first.now c.in_ok-first.others.now c.in_ok-code.code c.in_ok-first.ensures.cases.0 c.in_ok-code.ensures.over (c.if-holds_all.ensures refl)

-- What is staged is kept of the drafts.
use Rattle.std.proofs.lemmas.List.Elements.{All-weaker}
use Rattle.region_algebra.specs.Space.{IsRegion}
use Rattle.view_store.specs.declared.change.ViewChange.{ViewChange}
use Rattle.view_store.specs.Changes.{IsChange}
use Rattle.view_store.proofs.Making.{made-for, whole-made}
use Rattle.view_store.proofs.drafts.make_entries.Goals as goal

pub one_code-requires : goal.one_code-requires
one_code-requires c = All-weaker (IsChange c.args.cuts.now.dims c.args.columns) (λ (change : ViewChange). IsRegion c.args.cuts.now.dims change.region) (λ change is. is.region) c.args.changes.now c.requires.changes.changes_fit

pub returns : goal.returns
returns c =
    let drafts = c.in_ok-drafts.drafts in
    let items = c.in_ok-made.made.items in
    let are = c.in_ok-made.ensures.each in
    let distinct = c.in_ok-made.ensures.distinct in
    record {
      made = made-for c.args.columns drafts items are c.args.cuts.now.dims c.args.cuts.now.depths c.args.entries.now c.args.changes.now c.in_ok-drafts.ensures;
      distinct = distinct;
      whole = whole-made c.args.columns drafts items are distinct c.in_ok-drafts.ensures.over;
    }

-- What is taken away is the share in the region of the code.
use Rattle.std.proofs.Common.{◌≡◌, Option, arith, length, subst, sym, unwrap_or}
use Rattle.std.specs.Prelude.{IfOk}
use Rattle.group_sum.specs.Merge.{FitsDifference, HasDifference, IsDifference}
use Rattle.group_sum.specs.Terms.{TermList}
use Rattle.view_store.specs.Changes.{facts_taken_away}
use Rattle.view_store.specs.Drafts.{HasShares}
use Rattle.view_store.specs.Views.{IsOver, no_terms}
use Rattle.view_store.proofs.Alone.{left-found, part-can, whole-found}
use Rattle.view_store.proofs.Staging.{facts_taken_away-fits}
use Rattle.view_store.proofs.drafts.rest_of.Goals as goal

pub raise_by_all-requires-clause-within : goal.raise_by_all-requires-clause-within
raise_by_all-requires-clause-within c =
    rw c.empty-part.ensures (facts_taken_away-fits c.args.cuts.now.dims c.args.cuts.now.depths c.args.columns c.args.entries.now c.args.changes.now c.requires.entries c.requires.changes c.args.code c.requires.holds.in_view)

pub returns-then-len-eq0 : goal.returns-then-len-eq0
returns-then-len-eq0 c =
    let part = c.raise_by_all.new.terms in
    let has : HasShares c.args.columns c.args.cuts.now.dims (facts_taken_away c.args.changes.now) c.args.code (no_terms c.args.columns) part = rw c.empty-part.ensures at c.in_ok-raise_by_all.ensures.shares in
    let over : IsOver c.args.columns part = rw c.empty-part.ensures at c.in_ok-raise_by_all.ensures.over in
    let nothing : length part.terms ≡ 0 = omega (arith, c.len.ensures.count, c.if-len-eq0.true) in
    whole-found c.args.cuts.now.dims c.args.cuts.now.depths c.args.columns c.args.entries.now c.args.changes.now c.requires.entries c.requires.changes c.args.code c.requires.holds part has over nothing c.copy_or_none.result
    (subst (λ (o : Option TermList). IfOk c.copy_or_none.result (λ list. list ≡ unwrap_or o (no_terms c.args.columns))) c.get-entry.ensures c.copy_or_none.ensures.copy)

pub take_away-requires-clause-there : goal.take_away-requires-clause-there
take_away-requires-clause-there c =
    let part = c.raise_by_all.new.terms in
    let has : HasShares c.args.columns c.args.cuts.now.dims (facts_taken_away c.args.changes.now) c.args.code (no_terms c.args.columns) part = rw c.empty-part.ensures at c.in_ok-raise_by_all.ensures.shares in
    let over : IsOver c.args.columns part = rw c.empty-part.ensures at c.in_ok-raise_by_all.ensures.over in
    subst (λ (o : Option TermList). HasDifference (unwrap_or o (no_terms c.args.columns)) part) (sym c.get-entry.ensures)
    (part-can c.args.cuts.now.dims c.args.cuts.now.depths c.args.columns c.args.entries.now c.args.changes.now c.requires.entries c.requires.changes c.args.code c.requires.holds part has over).0

pub take_away-requires-clause-within : goal.take_away-requires-clause-within
take_away-requires-clause-within c =
    let part = c.raise_by_all.new.terms in
    let has : HasShares c.args.columns c.args.cuts.now.dims (facts_taken_away c.args.changes.now) c.args.code (no_terms c.args.columns) part = rw c.empty-part.ensures at c.in_ok-raise_by_all.ensures.shares in
    let over : IsOver c.args.columns part = rw c.empty-part.ensures at c.in_ok-raise_by_all.ensures.over in
    subst (λ (o : Option TermList). FitsDifference (unwrap_or o (no_terms c.args.columns)) part) (sym c.get-entry.ensures)
    (part-can c.args.cuts.now.dims c.args.cuts.now.depths c.args.columns c.args.entries.now c.args.changes.now c.requires.entries c.requires.changes c.args.code c.requires.holds part has over).1

pub returns : goal.returns
returns c =
    let part = c.raise_by_all.new.terms in
    let has : HasShares c.args.columns c.args.cuts.now.dims (facts_taken_away c.args.changes.now) c.args.code (no_terms c.args.columns) part = rw c.empty-part.ensures at c.in_ok-raise_by_all.ensures.shares in
    let over : IsOver c.args.columns part = rw c.empty-part.ensures at c.in_ok-raise_by_all.ensures.over in
    left-found c.args.cuts.now.dims c.args.cuts.now.depths c.args.columns c.args.entries.now c.args.changes.now c.requires.entries c.requires.changes c.args.code c.requires.holds part has over c.take_away.result
    (subst (λ (o : Option TermList). IfOk c.take_away.result (IsDifference (unwrap_or o (no_terms c.args.columns)) part)) c.get-entry.ensures c.take_away.ensures.left) c.take_away.ensures.over

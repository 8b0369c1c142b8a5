-- What stands in the place can be taken from its entry, and what is left is put there.
use Rattle.std.proofs.Common.{Option, subst, sym, unwrap_or}
use Rattle.group_sum.specs.Merge.{FitsDifference, HasDifference, IsDifference}
use Rattle.group_sum.specs.Terms.{TermList}
use Rattle.view_store.specs.Views.{no_terms}
use Rattle.view_store.proofs.TakingAway.{met-can, met-leaves, met-over, nothing-leaves}
use Rattle.view_store.proofs.drafts.leave_at.Goals as goal

pub take_away-requires-clause-width : goal.take_away-requires-clause-width
take_away-requires-clause-width c =
    (met-over c.args.columns c.args.entries.now c.args.parts.now c.args.i c.requires.distinct c.in-Some.code c.in-Some.part.now c.in-Some.ensures.entry c.requires.parts).columns_are

pub take_away-requires-clause-there : goal.take_away-requires-clause-there
take_away-requires-clause-there c =
    subst (λ (o : Option TermList). HasDifference (unwrap_or o (no_terms c.args.columns)) c.in-Some.part.now) (sym c.get.ensures)
    (met-can c.args.columns c.args.entries.now c.args.parts.now c.args.i c.requires.distinct c.in-Some.code c.in-Some.part.now c.in-Some.ensures.entry c.requires.there).0

pub take_away-requires-clause-within : goal.take_away-requires-clause-within
take_away-requires-clause-within c =
    subst (λ (o : Option TermList). FitsDifference (unwrap_or o (no_terms c.args.columns)) c.in-Some.part.now) (sym c.get.ensures)
    (met-can c.args.columns c.args.entries.now c.args.parts.now c.args.i c.requires.distinct c.in-Some.code c.in-Some.part.now c.in-Some.ensures.entry c.requires.there).1

pub returns-in_ok-rest : goal.returns-in_ok-rest
returns-in_ok-rest c =
    let difference = subst (λ (o : Option TermList). IsDifference (unwrap_or o (no_terms c.args.columns)) c.in-Some.part.now c.in_ok-rest.rest) c.get.ensures c.in_ok-rest.ensures.left in
    met-leaves c.args.columns c.args.entries.now c.args.parts.now c.args.i c.requires.distinct c.in-Some.code c.in-Some.part.now c.in-Some.ensures.entry
    c.set_at.new.self c.in_ok-rest.rest difference c.in_ok-rest.ensures.over c.requires.parts c.set_at.ensures.sets c.set_at.ensures.keys

pub returns-in_default : goal.returns-in_default
returns-in_default c = nothing-leaves c.args.columns c.args.entries.now c.args.parts.now c.args.i c.requires.distinct c.requires.place c.in_default.ensures.entry c.requires.parts

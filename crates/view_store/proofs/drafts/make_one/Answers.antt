-- What is put fits what is left, and what is kept of both is the one entry.
use Rattle.std.proofs.Common.{[], ◌≡◌, ◌∷◌, ◌++◌, Option, Some, ap, ◌∙◌}
use Rattle.group_sum.specs.Terms.{TermList}
use Rattle.staged_map.specs.Staged.{Entries}
use Rattle.view_store.specs.Drafts.{kept}
use Rattle.view_store.proofs.Alone.{distinct-one, one-made, rest-fits}
use Rattle.view_store.proofs.drafts.make_one.Goals as goal

pub raise_by_all-requires-clause-within : goal.raise_by_all-requires-clause-within
raise_by_all-requires-clause-within c =
    rest-fits c.args.cuts.now.dims c.args.cuts.now.depths c.args.columns c.args.entries.now c.args.changes.now c.requires.entries c.requires.changes c.args.code c.requires.holds c.in_ok-terms.terms c.in_ok-terms.ensures

pub returns-clause-made : goal.returns-clause-made
returns-clause-made c =
    let is : c.push.new.self.items ≡ (c.args.code, kept (Some c.raise_by_all.new.terms)) ∷ [] =
    c.in_ok-push.ensures.items ∙ ap (λ (items : Entries TermList). items ++ (c.args.code, c.entry_of.result) ∷ []) c.in_ok-made.ensures.items ∙ ap (λ (entry : Option TermList). (c.args.code, entry) ∷ []) c.entry_of.ensures in
    one-made c.args.cuts.now.dims c.args.cuts.now.depths c.args.columns c.args.entries.now c.args.changes.now c.requires.entries c.requires.changes c.args.code c.requires.holds c.in_ok-terms.terms c.in_ok-terms.ensures
    c.raise_by_all.new.terms c.in_ok-raise_by_all.ensures.shares c.in_ok-raise_by_all.ensures.over c.push.new.self.items is

pub returns-clause-distinct : goal.returns-clause-distinct
returns-clause-distinct c =
    distinct-one c.args.code c.entry_of.result c.push.new.self.items (c.in_ok-push.ensures.items ∙ ap (λ (items : Entries TermList). items ++ (c.args.code, c.entry_of.result) ∷ []) c.in_ok-made.ensures.items)

use Rattle.std.proofs.Common.{ℕ, take, sym, ap, subst, ◌∙◌}
use Rattle.std.proofs.lemmas.List.{take_at}
use Rattle.group_sum.specs.Merge.{Merges}
use Rattle.group_sum.specs.Terms.{TermList}
use Rattle.group_sum.proofs.Ascending.{ascends}
use Rattle.group_sum.proofs.Merged.{is_merge_of}
use Rattle.group_sum.proofs.terms.Terms.add.Goals as goal

-- terms ascend
pub count_missing-requires-clause-own : goal.count_missing-requires-clause-own
count_missing-requires-clause-own c = record { each = ascends _ 1 _ c.self.invariant.terms }

pub count_missing-requires-clause-other : goal.count_missing-requires-clause-other
count_missing-requires-clause-other c = record { each = ascends _ 1 _ c.other.invariant.terms }

-- terms that have the numerators of both are both merged
pub returns-clause-ok : goal.returns-clause-ok
returns-clause-ok c =
    let grown = c.in_ok-grow.ensures.ok in
    let kept = ap (λ (list : TermList). take c.len-own.result list.terms) grown ∙ take_at c.self.inside.rows.terms _ c.len-own.result (sym c.len-own.ensures) in
    let columns = ap (λ (list : TermList). list.columns) grown in
    let merges = subst (λ (n : ℕ). Merges (record { columns = n; terms = take c.len-own.result c.grow.new.self.terms }) c.other.inside.rows c.merge.new.rows) columns c.merge.ensures.merges in
    rw (← c.self.view_is, ← c.other.view_is) (is_merge_of c.self.inside.rows c.other.inside.rows c.merge.new.rows _ kept c.self.invariant c.merge.ensures.terms merges)

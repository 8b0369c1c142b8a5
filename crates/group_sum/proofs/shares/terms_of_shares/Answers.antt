use Rattle.std.proofs.Common.{ℕ, ap, subst}
use Rattle.std.proofs.lemmas.List.Sorted.{All-permutation}
use Rattle.group_sum.specs.Shares.{AddUpTo, IsShare}
use Rattle.group_sum.specs.Terms.{TermList}
use Rattle.group_sum.proofs.Gathered.{add_up_in_order, fit_in_order}
use Rattle.group_sum.proofs.shares.terms_of_shares.Goals as goal

-- sorted they are the same shares
pub add_all-requires-clause-shares : goal.add_all-requires-clause-shares
add_all-requires-clause-shares c =
    let columns = ap (λ (list : TermList). list.columns) c.empty-terms.ensures in
    rw columns (All-permutation (IsShare c.args.columns) c.args.shares.now c.sort_unstable_by_key.new.self c.sort_unstable_by_key.ensures.permutation c.requires.shares)

pub add_all-requires-clause-within : goal.add_all-requires-clause-within
add_all-requires-clause-within c =
    let columns = ap (λ (list : TermList). list.columns) c.empty-terms.ensures in
    rw columns (fit_in_order c.args.columns c.args.shares.now c.sort_unstable_by_key.new.self c.sort_unstable_by_key.ensures.permutation c.requires.within)

-- and add up to the same
pub returns-clause-ok : goal.returns-clause-ok
returns-clause-ok c =
    let columns = ap (λ (list : TermList). list.columns) c.empty-terms.ensures in
    let sorted = subst (λ (n : ℕ). AddUpTo n c.sort_unstable_by_key.new.self c.add_all.new.terms) columns c.in_ok-add_all.ensures.ok in
    add_up_in_order c.args.columns c.args.shares.now c.sort_unstable_by_key.new.self c.add_all.new.terms c.sort_unstable_by_key.ensures.permutation sorted

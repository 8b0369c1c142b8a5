use Rattle.std.proofs.Common.{◌≡◌, ◌+◌, ◌≤◌, List, set, ap, arith, rules, vec_len}
use Rattle.std.specs.List.{copy_within}
use Rattle.cube_model.specs.declared.term.Term.{Term}
use Rattle.group_sum.specs.Place.{term_at}
use Rattle.group_sum.specs.Rows.{IsFlat, row_terms}
use Rattle.group_sum.specs.Terms.{TermList}
use Rattle.group_sum.proofs.Flat.{flat-copy, flat_in, den_read, row_fits, terms_are}
use Rattle.group_sum.proofs.rows.Rows.copy.Goals as goal

-- both rows end among the numerators
pub start-from-requires : goal.start-from-requires
start-from-requires c =
    let place = rw (← c.self.view_is) at c.requires.at in
    rw c.deref.ensures.value (row_fits _ _ _ _ c.self.invariant c.args.at place)

pub start-dest-requires : goal.start-dest-requires
start-dest-requires c =
    let place = rw (← c.self.view_is) at c.requires.to in
    rw c.deref-2.ensures.value (row_fits _ _ _ _ c.self.invariant c.args.to place)

pub copy_within-requires-clause-dest_in_bounds : goal.copy_within-requires-clause-dest_in_bounds
copy_within-requires-clause-dest_in_bounds c = let ends : c.start-dest.result + c.self.inside.columns ≤ vec_len c.self.inside.nums = omega arith in search rules

-- the term is copied
copied : (c : goal.After-copy_within) → IsFlat c.self.inside.columns (set (row_terms c.self.inside.columns c.self.inside.dens.items c.self.inside.nums.items) c.args.to (term_at (row_terms c.self.inside.columns c.self.inside.dens.items c.self.inside.nums.items) c.args.at))
    (set c.self.inside.dens.items c.args.to c.index.result.now) c.copy_within.new.self.items
copied c =
    let from = rw (← c.self.view_is) at c.requires.at in
    let to = rw (← c.self.view_is) at c.requires.to in
    let den = den_read _ _ _ _ c.self.invariant c.args.at from c.index.result.now c.index.ensures in
    let items : c.copy_within.new.self.items ≡ copy_within c.self.inside.nums.items c.start-from.result (c.start-from.result + c.self.inside.columns) c.start-dest.result = c.copy_within.ensures.items in
    rw (den, items, c.start-from.ensures.start, c.start-dest.ensures.start) (flat-copy _ _ _ _ c.self.invariant c.args.at c.args.to from to)

pub invariant_of-self : goal.invariant_of-self
invariant_of-self c = flat_in _ _ _ _ (copied c)

pub returns : goal.returns
returns c =
    rw (← c.self.view_is) (ap (λ (ts : List Term). let list : TermList = record { columns = c.self.inside.columns; terms = ts } in list) (terms_are _ _ _ _ (copied c)))

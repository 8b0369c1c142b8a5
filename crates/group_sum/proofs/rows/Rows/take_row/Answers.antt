use Rattle.std.proofs.Common.{◌≡◌, ◌+◌, ◌-◌, ◌∙◌, List, ℤ, Some, length, sym, ap, rules}
use Rattle.std.specs.Vec.{with_items}
use Rattle.std.proofs.lemmas.List.{with_items_is}
use borrow.Rule.Slice.PartMut.{put_mid}
use Rattle.cube_model.specs.declared.term.Term.{Term}
use Rattle.group_sum.specs.Rows.{row_term, row_terms}
use Rattle.group_sum.specs.Terms.{TermList}
use Rattle.group_sum.specs.Place.{term_at}
use Rattle.group_sum.specs.Heads.{remainder_in}
use Rattle.group_sum.proofs.Flat.{IsLent, IsWritten, length_lent, row_fits, row_lent, invariant_written, only_written, row_of_lent, there_written}
use Rattle.group_sum.proofs.RowSums.{IsRowOf, difference_fits_row, difference_of_row}
use Rattle.group_sum.proofs.rows.Rows.take_row.Goals as goal

-- the row ends among the numerators
pub start-from-requires : goal.start-from-requires
start-from-requires c =
    let place = rw (← c.self.view_is) at c.requires.place in
    rw c.deref.ensures.value (row_fits _ _ _ _ c.self.invariant c.args.at place)

-- it is lent
lent : (c : goal.After-take_away-arg-1) → IsLent c.self.inside.columns (row_terms c.self.inside.columns c.self.inside.dens.items c.self.inside.nums.items) c.self.inside.dens.items c.self.inside.nums.items c.args.at c.start-from.result c.deref_mut.result.now
lent c = record { flat = c.self.invariant; place = rw (← c.self.view_is) at c.requires.place; start_is = c.start-from.ensures.start; lent_is = c.deref_mut.ensures.value }

pub take_away-requires-clause-columns : goal.take_away-requires-clause-columns
take_away-requires-clause-columns c = (rw (← c.self.view_is) at c.requires.columns) ∙ sym (length_lent _ _ _ _ _ _ _ (lent c))

-- so the numerators fit it
pub take_away-requires-clause-within : goal.take_away-requires-clause-within
take_away-requires-clause-within c =
    let count = rw (← c.self.view_is) at c.requires.count in
    let most = rw (← c.self.view_is) at c.requires.most in
    let sums = rw (← c.self.view_is) at c.requires.sums in
    difference_fits_row _ (term_at (row_terms c.self.inside.columns c.self.inside.dens.items c.self.inside.nums.items) c.args.at) _ _ (record { of_term = row_lent _ _ _ _ _ _ _ (lent c); len = row_of_lent _ _ _ _ _ _ _ (lent c); is_row = c.requires.row }) count most sums

-- it is written over
len : (c : goal.After-self-1) → length c.take_away.new.row ≡ c.self.inside.columns
len c = search rules

abbrev items : (c : goal.After-self-1) → List ℤ
items c = (with_items c.self.inside.nums (put_mid c.start-from.result (c.start-from.result + c.self.inside.columns - c.start-from.result) c.deref_mut.result.now c.take_away.new.row)).items

items_are : (c : goal.After-self-1) → items c ≡ put_mid c.start-from.result (c.start-from.result + c.self.inside.columns - c.start-from.result) c.deref_mut.result.now c.take_away.new.row
items_are c = with_items_is c.self.inside.nums _ (search rules)

is_lent : (c : goal.After-self-1) → IsLent c.self.inside.columns (row_terms c.self.inside.columns c.self.inside.dens.items c.self.inside.nums.items) c.self.inside.dens.items c.self.inside.nums.items c.args.at c.start-from.result c.deref_mut.result.now
is_lent c = record { flat = c.self.invariant; place = rw (← c.self.view_is) at c.requires.place; start_is = c.start-from.ensures.start; lent_is = c.deref_mut.ensures.value }

abbrev here : (c : goal.After-self-1) → Term
here c = term_at (row_terms c.self.inside.columns c.self.inside.dens.items c.self.inside.nums.items) c.args.at

becomes : (c : goal.After-self-1) → IsRowOf (here c).den (c.self.inside.columns - 1) ((here c).count - (row_term 0 c.args.row.now).count) (remainder_in (Some (here c)) (Some (row_term 0 c.args.row.now))) c.take_away.new.row
becomes c =
    difference_of_row _ _ _ _ (record { of_term = row_lent _ _ _ _ _ _ _ (is_lent c); len = row_of_lent _ _ _ _ _ _ _ (is_lent c); is_row = c.requires.row }) c.take_away.new.row (len c) (rw (← c.self.view_is) at c.requires.count) c.take_away.ensures

abbrev written : (c : goal.After-self-1) → IsWritten c.self.inside.columns (row_terms c.self.inside.columns c.self.inside.dens.items c.self.inside.nums.items) c.self.inside.dens.items c.self.inside.nums.items c.args.at c.take_away.new.row (items c)
written c = record {
  start = c.start-from.result;
  lent = c.deref_mut.result.now;
  is_lent = record { flat = c.self.invariant; place = rw (← c.self.view_is) at c.requires.place; start_is = c.start-from.ensures.start; lent_is = c.deref_mut.ensures.value };
  len = len c;
  is_row = (becomes c).is_row;
  now_is = items_are c;
}

pub invariant_of-self : goal.invariant_of-self
invariant_of-self c = invariant_written _ _ _ _ _ _ _ (written c)

-- that term alone is another
pub returns-clause-only : goal.returns-clause-only
returns-clause-only c =
    let only = only_written _ _ _ _ _ _ _ (written c) in
    rw (← c.self.view_is) (ap (λ (ts : List Term). let list : TermList = record { columns = c.self.inside.columns; terms = ts } in list) only)

-- and it has the numerators
pub returns-clause-left : goal.returns-clause-left
returns-clause-left c =
    let there = there_written _ _ _ _ _ _ _ (written c) in
    let of = (becomes c).term in
    rw (← c.self.view_is, there) (record { has_den = of.has_den; count = of.count; columns = of.columns; sums = of.sums })

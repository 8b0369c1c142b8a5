use Rattle.std.proofs.Common.{◌≡◌, ◌+◌, ◌-◌, List, ℤ, length, sym, ap, subst, refl, rules}
use Rattle.std.specs.Vec.{with_items}
use Rattle.std.proofs.lemmas.List.{with_items_is}
use borrow.Rule.Slice.PartMut.{put_mid}
use Rattle.cube_model.specs.declared.term.Term.{Term}
use Rattle.group_sum.specs.Rows.{row_term, row_terms}
use Rattle.group_sum.specs.Terms.{TermList}
use Rattle.group_sum.specs.Rows.{IsRow}
use Rattle.group_sum.specs.Share.{RaisesTerm, TermFits}
use Rattle.group_sum.proofs.Flat.{IsLent, IsWritten, row_fits, row_lent, invariant_written, only_written, there_written}
use Rattle.group_sum.proofs.rows.Rows.raise.Goals as goal

-- the row ends among the numerators
pub start-from-requires : goal.start-from-requires
start-from-requires c =
    let place = rw (← c.self.view_is) at c.requires.place in
    rw c.deref.ensures.value (row_fits _ _ _ _ c.self.invariant c.args.at place)

-- it is lent
lent : (c : goal.After-raise-arg-1) → IsLent c.self.inside.columns (row_terms c.self.inside.columns c.self.inside.dens.items c.self.inside.nums.items) c.self.inside.dens.items c.self.inside.nums.items c.args.at c.start-from.result c.deref_mut.result.now
lent c = record { flat = c.self.invariant; place = rw (← c.self.view_is) at c.requires.place; start_is = c.start-from.ensures.start; lent_is = c.deref_mut.ensures.value }

pub raise-requires-clause-row : goal.raise-requires-clause-row
raise-requires-clause-row c = subst (λ (r : List ℤ). IsRow r) (sym (row_lent _ _ _ _ _ _ _ (lent c))) refl

-- so the share fits it
pub raise-requires-clause-within : goal.raise-requires-clause-within
raise-requires-clause-within c =
    let within = rw (← c.self.view_is) at c.requires.within in
    subst (λ (r : List ℤ). TermFits (row_term 0 r) c.args.units c.args.weight c.args.cols) (sym (row_lent _ _ _ _ _ _ _ (lent c))) (record { count = within.count; sums = within.sums })

-- it is written over
len : (c : goal.After-self-1) → length c.raise.new.row ≡ c.self.inside.columns
len c = search rules

abbrev items : (c : goal.After-self-1) → List ℤ
items c = (with_items c.self.inside.nums (put_mid c.start-from.result (c.start-from.result + c.self.inside.columns - c.start-from.result) c.deref_mut.result.now c.raise.new.row)).items

items_are : (c : goal.After-self-1) → items c ≡ put_mid c.start-from.result (c.start-from.result + c.self.inside.columns - c.start-from.result) c.deref_mut.result.now c.raise.new.row
items_are c = with_items_is c.self.inside.nums _ (search rules)

abbrev written : (c : goal.After-self-1) → IsWritten c.self.inside.columns (row_terms c.self.inside.columns c.self.inside.dens.items c.self.inside.nums.items) c.self.inside.dens.items c.self.inside.nums.items c.args.at c.raise.new.row (items c)
written c = record {
  start = c.start-from.result;
  lent = c.deref_mut.result.now;
  is_lent = record { flat = c.self.invariant; place = rw (← c.self.view_is) at c.requires.place; start_is = c.start-from.ensures.start; lent_is = c.deref_mut.ensures.value };
  len = len c;
  is_row = c.raise.ensures.row;
  now_is = items_are c;
}

pub invariant_of-self : goal.invariant_of-self
invariant_of-self c = invariant_written _ _ _ _ _ _ _ (written c)

-- that term alone is another
pub returns-clause-only : goal.returns-clause-only
returns-clause-only c =
    let only = only_written _ _ _ _ _ _ _ (written c) in
    rw (← c.self.view_is) (ap (λ (ts : List Term). let list : TermList = record { columns = c.self.inside.columns; terms = ts } in list) only)

-- and it has the share
pub returns-clause-raised : goal.returns-clause-raised
returns-clause-raised c =
    let there = there_written _ _ _ _ _ _ _ (written c) in
    let row = row_lent _ _ _ _ _ _ _ ((written c).is_lent) in
    let raised = subst (λ (r : List ℤ). RaisesTerm (row_term 0 r) (row_term 0 c.raise.new.row) c.args.units c.args.weight c.args.cols) row c.raise.ensures.raised in
    rw (← c.self.view_is, there) (record { den = refl; count = raised.count; sums = raised.sums })

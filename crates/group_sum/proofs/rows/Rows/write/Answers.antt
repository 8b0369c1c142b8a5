use Rattle.std.proofs.Common.{◌≡◌, ◌+◌, ◌-◌, List, ℤ, length, set, sym, ap, ◌∙◌, arith, rules}
use Rattle.std.specs.Vec.{with_items}
use Rattle.std.proofs.lemmas.List.{with_items_is}
use borrow.Rule.Slice.PartMut.{put_mid}
use Rattle.cube_model.specs.declared.term.Term.{Term}
use Rattle.group_sum.specs.Rows.{IsFlat, row_of, row_term, row_terms}
use Rattle.group_sum.specs.Terms.{TermList}
use Rattle.group_sum.proofs.Flat.{flat-set, flat_in, row_fits, terms_are}
use Rattle.group_sum.proofs.rows.Rows.write.Goals as goal

-- the row ends among the numerators
pub start-from-requires : goal.start-from-requires
start-from-requires c =
    let place = rw (← c.self.view_is) at c.requires.place in
    rw c.deref.ensures.value (row_fits _ _ _ _ c.self.invariant c.args.at place)

-- the term is written over
written : (c : goal.After-self-2-1) → IsFlat c.self.inside.columns (set (row_terms c.self.inside.columns c.self.inside.dens.items c.self.inside.nums.items) c.args.at (row_term c.args.den c.args.row.now))
    (set c.self.inside.dens.items c.args.at c.args.den) (with_items c.self.inside.nums (put_mid c.start-from.result (c.start-from.result + c.self.inside.columns - c.start-from.result) c.deref_mut.result.now c.copy_from_slice.new.self)).items
written c =
    let place = rw (← c.self.view_is) at c.requires.place in
    let columns = rw (← c.self.view_is) at c.requires.columns in
    let wide : c.start-from.result + c.self.inside.columns - c.start-from.result ≡ c.self.inside.columns = omega arith in
    let items = with_items_is c.self.inside.nums (put_mid c.start-from.result (c.start-from.result + c.self.inside.columns - c.start-from.result) c.deref_mut.result.now c.copy_from_slice.new.self) (search rules) in
    let row : c.copy_from_slice.new.self ≡ row_of (row_term c.args.den c.args.row.now) = c.copy_from_slice.ensures.after ∙ sym c.requires.row in
    rw (items, wide, c.start-from.ensures.start, c.deref_mut.ensures.value, row)
    (flat-set _ _ _ _ c.self.invariant c.args.at place (row_term c.args.den c.args.row.now) (ap (λ (r : List ℤ). length r) c.requires.row ∙ columns))

pub invariant_of-self : goal.invariant_of-self
invariant_of-self c = flat_in _ _ _ _ (written c)

pub returns : goal.returns
returns c =
    rw (← c.self.view_is) (ap (λ (ts : List Term). let list : TermList = record { columns = c.self.inside.columns; terms = ts } in list) (terms_are _ _ _ _ (written c)))

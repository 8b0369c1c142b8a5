use Rattle.std.proofs.Common.{◌≡◌, ◌+◌, ◌-◌, ◌≤◌, ◌++◌, List, ℤ, length, pos, replicate, ap, ◌∙◌, arith, rules, vec_len}
use Rattle.std.specs.List.{copy_within, insert}
use Rattle.std.specs.Vec.{with_items}
use Rattle.std.proofs.lemmas.List.{with_items_is, length-replicate}
use borrow.Rule.Slice.PartMut.{put_mid}
use Rattle.cube_model.specs.declared.term.Term.{Term}
use Rattle.group_sum.specs.Rows.{IsFlat, row_terms}
use Rattle.group_sum.specs.Share.{bare_term}
use Rattle.group_sum.specs.Terms.{TermList}
use Rattle.group_sum.proofs.Flat.{flat-insert, flat_in, gap_fits, resized, row_of-bare, moved_up, terms_are}
use Rattle.group_sum.proofs.rows.Rows.insert_bare.Goals as goal

-- a row of zeros is behind the others
pub start-from-requires : goal.start-from-requires
start-from-requires c =
    let gap = gap_fits _ _ _ _ c.self.invariant c.args.at (rw (← c.self.view_is) at c.requires) in
    let len : length c.resize.new.self.items ≡ length c.self.inside.nums.items + c.self.inside.columns = search rules in
    rw c.deref.ensures.value (omega (arith, gap, len))

-- the term is put in between
put_in : (c : goal.After-self-1) → IsFlat c.self.inside.columns (insert (row_terms c.self.inside.columns c.self.inside.dens.items c.self.inside.nums.items) c.args.at (bare_term c.args.den (c.self.inside.columns - 1)))
    c.insert.new.self.items (with_items c.copy_within.new.self (put_mid c.start-from.result (c.start-from.result + c.self.inside.columns - c.start-from.result) c.deref_mut.result.now c.clear.new.row)).items
put_in c =
    let at = rw (← c.self.view_is) at c.requires in
    let some = c.self.invariant.some in
    let start : c.start-from.result ≤ length c.self.inside.nums.items = rw c.start-from.ensures.start (gap_fits _ _ _ _ c.self.invariant c.args.at at) in
    let len : length c.self.inside.nums.items ≡ c.len-len.result = search rules in
    let grown : c.resize.new.self.items ≡ c.self.inside.nums.items ++ replicate c.self.inside.columns (pos 0) =
    c.in_ok-resize.ensures.items ∙ resized c.self.inside.nums.items (vec_len c.self.inside.nums) (c.len-len.result + c.self.inside.columns) c.self.inside.columns (pos 0) (search rules) (search rules) in
    let zeros : c.clear.new.row ≡ replicate c.self.inside.columns (pos 0) = search rules in
    let moved : c.deref_mut.result.now ≡ copy_within c.resize.new.self.items c.start-from.result c.len-len.result (c.start-from.result + c.self.inside.columns) = c.deref_mut.ensures.value ∙ c.copy_within.ensures.items in
    let put = moved_up c.self.inside.nums.items (replicate c.self.inside.columns (pos 0)) c.clear.new.row c.start-from.result c.self.inside.columns start (length-replicate c.self.inside.columns (pos 0))
    c.resize.new.self.items c.deref_mut.result.now grown (rw len moved) in
    let items = with_items_is c.copy_within.new.self (put_mid c.start-from.result (c.start-from.result + c.self.inside.columns - c.start-from.result) c.deref_mut.result.now c.clear.new.row) (search rules) in
    let dens : c.insert.new.self.items ≡ insert c.self.inside.dens.items c.args.at c.args.den = search rules in
    let row = row_of-bare c.args.den c.self.inside.columns some in
    let flat = flat-insert _ _ _ _ c.self.invariant c.args.at at (bare_term c.args.den (c.self.inside.columns - 1)) (ap (λ (r : List ℤ). length r) row ∙ length-replicate c.self.inside.columns (pos 0)) in
    rw (dens, items, put, zeros, c.start-from.ensures.start, ← row) flat

pub invariant_of-self-2 : goal.invariant_of-self-2
invariant_of-self-2 c = flat_in _ _ _ _ (put_in c)

pub returns-clause-ok : goal.returns-clause-ok
returns-clause-ok c =
    rw (← c.self.view_is) (ap (λ (ts : List Term). let list : TermList = record { columns = c.self.inside.columns; terms = ts } in list) (terms_are _ _ _ _ (put_in c)))

use Rattle.std.proofs.Common.{◌≡◌, ◌+◌, ◌-◌, List, length, take, ap, ◌∙◌, rules}
use Rattle.std.specs.List.{copy_within, remove}
use Rattle.cube_model.specs.declared.term.Term.{Term}
use Rattle.group_sum.specs.Rows.{IsFlat, row_terms}
use Rattle.group_sum.specs.Terms.{TermList}
use Rattle.group_sum.proofs.Flat.{flat-remove, flat_in, moved_down, row_fits, terms_are}
use Rattle.group_sum.proofs.rows.Rows.remove.Goals as goal

-- the row ends among the numerators
pub start-from-requires : goal.start-from-requires
start-from-requires c =
    let place = rw (← c.self.view_is) at c.requires in
    rw c.deref.ensures.value (row_fits _ _ _ _ c.self.invariant c.args.at place)

-- the term is gone
removed : (c : goal.After-remove) → IsFlat c.self.inside.columns (remove (row_terms c.self.inside.columns c.self.inside.dens.items c.self.inside.nums.items) c.args.at)
    c.remove.new.self.items c.truncate.new.self.items
removed c =
    let place = rw (← c.self.view_is) at c.requires in
    let fits = row_fits _ _ _ _ c.self.invariant c.args.at place in
    let dens : c.remove.new.self.items ≡ remove c.self.inside.dens.items c.args.at = c.remove.ensures.items in
    let len : c.len-len.result ≡ length c.self.inside.nums.items = search rules in
    let moved : c.copy_within.new.self.items ≡ copy_within c.self.inside.nums.items (c.start-from.result + c.self.inside.columns) c.len-len.result c.start-from.result = c.copy_within.ensures.items in
    let kept : c.truncate.new.self.items ≡ take (c.len-len.result - c.self.inside.columns) c.copy_within.new.self.items = c.truncate.ensures.items in
    let start = c.start-from.ensures.start in
    let nums = kept ∙ rw (moved, len, start) (moved_down c.self.inside.nums.items _ c.self.inside.columns fits) in
    rw (dens, nums) (flat-remove _ _ _ _ c.self.invariant c.args.at place)

pub invariant_of-self : goal.invariant_of-self
invariant_of-self c = flat_in _ _ _ _ (removed c)

pub returns : goal.returns
returns c =
    rw (← c.self.view_is) (ap (λ (ts : List Term). let list : TermList = record { columns = c.self.inside.columns; terms = ts } in list) (terms_are _ _ _ _ (removed c)))

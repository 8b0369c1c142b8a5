use Rattle.std.proofs.Common.{◌≡◌, ◌+◌, ◌-◌, ◌*◌, ◌++◌, List, length, pos, replicate, take, ap, ◌∙◌, arith, rules, vec_len}
use Rattle.cube_model.specs.declared.term.Term.{Term}
use Rattle.group_sum.specs.Rows.{IsFlat, row_terms}
use Rattle.group_sum.specs.Share.{bare_term}
use Rattle.group_sum.specs.Terms.{TermList}
use Rattle.group_sum.proofs.Flat.{flat-grow, flat_in, resized, rows_more, terms_are}
use Rattle.group_sum.proofs.rows.Rows.grow.Goals as goal

-- the numerators of so many rows of zeros behind the others
nums_grown : (c : goal.Else-is_err) → c.resize-2.new.self.items ≡ c.self.inside.nums.items ++ replicate (c.args.more * c.self.inside.columns) (pos 0)
nums_grown c =
    let dens : c.in_ok-dens.dens ≡ vec_len c.self.inside.dens + c.args.more = search rules in
    let nums : c.in_ok-nums.nums ≡ c.in_ok-dens.dens * c.self.inside.columns = search rules in
    let many : c.in_ok-nums.nums ≡ length c.self.inside.nums.items + c.args.more * c.self.inside.columns =
    rows_more _ _ _ _ c.self.invariant (vec_len c.self.inside.dens) c.args.more c.in_ok-nums.nums (search rules) (nums ∙ ap (λ n. n * c.self.inside.columns) dens) in
    let len : vec_len c.self.inside.nums ≡ length c.self.inside.nums.items = search rules in
    let items : c.resize-2.new.self.items ≡ take c.in_ok-nums.nums c.self.inside.nums.items ++ replicate (c.in_ok-nums.nums - vec_len c.self.inside.nums) (pos 0) = search rules in
    items ∙ resized c.self.inside.nums.items (vec_len c.self.inside.nums) c.in_ok-nums.nums (c.args.more * c.self.inside.columns) (pos 0) len (omega (arith, many, len))

dens_grown : (c : goal.Else-is_err) → c.resize.new.self.items ≡ c.self.inside.dens.items ++ replicate c.args.more 0
dens_grown c =
    let dens : c.in_ok-dens.dens ≡ vec_len c.self.inside.dens + c.args.more = search rules in
    let len : vec_len c.self.inside.dens ≡ length c.self.inside.dens.items = search rules in
    let items : c.resize.new.self.items ≡ take c.in_ok-dens.dens c.self.inside.dens.items ++ replicate (c.in_ok-dens.dens - vec_len c.self.inside.dens) 0 = search rules in
    items ∙ resized c.self.inside.dens.items (vec_len c.self.inside.dens) c.in_ok-dens.dens c.args.more 0 len dens

-- the terms with the new ones behind them
grown : (c : goal.Else-is_err) → IsFlat c.self.inside.columns (row_terms c.self.inside.columns c.self.inside.dens.items c.self.inside.nums.items ++ replicate c.args.more (bare_term 0 (c.self.inside.columns - 1))) c.resize.new.self.items c.resize-2.new.self.items
grown c = rw (dens_grown c, nums_grown c) (flat-grow _ _ _ _ c.self.invariant c.args.more)

pub invariant_of-self-else-is_err : goal.invariant_of-self-else-is_err
invariant_of-self-else-is_err c = flat_in _ _ _ _ (grown c)

pub returns-clause-ok : goal.returns-clause-ok
returns-clause-ok c =
    rw (← c.self.view_is) (ap (λ (ts : List Term). let list : TermList = record { columns = c.self.inside.columns; terms = ts } in list) (terms_are _ _ _ _ (grown c)))

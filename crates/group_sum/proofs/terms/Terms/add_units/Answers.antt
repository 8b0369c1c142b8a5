use Rattle.std.proofs.Common.{◌≤◌, arith, rules}
use Rattle.group_sum.specs.Terms.{NeedsTerm}
use Rattle.group_sum.proofs.Ascending.{term_of_gap}
use Rattle.group_sum.proofs.Raised.{IsGrown, fits_bare, fits_there, grown_bare, grown_there}
use Rattle.group_sum.proofs.terms.Terms.add_units.Goals as goal

-- the denominator has a term, which is raised in its place
pub raise-requires-clause-within : goal.raise-requires-clause-within
raise-requires-clause-within c =
    let columns = rw (← c.self.view_is) at c.requires.columns in
    let within = rw (← c.self.view_is) at c.requires.within in
    let place = rw (← c.self.view_is) at c.in-Ok.ensures.found in
    fits_there _ c.self.invariant c.args.den _ _ _ columns within _ place

raised : (c : goal.After-raise) → IsGrown c.self.inside.rows c.raise.new.self c.args.den c.args.units c.args.weight c.args.cols
raised c =
    let columns = rw (← c.self.view_is) at c.requires.columns in
    let within = rw (← c.self.view_is) at c.requires.within in
    let place = rw (← c.self.view_is) at c.in-Ok.ensures.found in
    let some : 1 ≤ c.args.units = omega arith in
    grown_there _ c.self.invariant c.args.den _ _ _ columns within _ place some _ c.raise.ensures.only c.raise.ensures.raised

pub invariant_of-self : goal.invariant_of-self
invariant_of-self c = (raised c).terms

pub returns-in-Ok-clause-ok : goal.returns-in-Ok-clause-ok
returns-in-Ok-clause-ok c = rw (← c.self.view_is) (raised c).adds

pub returns-in-Ok-clause-terms : goal.returns-in-Ok-clause-terms
returns-in-Ok-clause-terms c = (raised c).terms

-- the denominator has none, and a new one in its gap is raised
pub raise-requires-in-Err-clause-within : goal.raise-requires-in-Err-clause-within
raise-requires-in-Err-clause-within c =
    let columns = rw (← c.self.view_is) at c.requires.columns in
    let within = rw (← c.self.view_is) at c.requires.within in
    let gap = rw (← c.self.view_is) at c.in-Err.ensures.absent in
    fits_bare _ c.self.invariant c.args.den _ _ _ columns within _ gap _ c.in_ok-insert_bare-in-Err.ensures.ok

inserted : (c : goal.After-raise-in-Err) → IsGrown c.self.inside.rows c.raise-in-Err.new.self c.args.den c.args.units c.args.weight c.args.cols
inserted c =
    let columns = rw (← c.self.view_is) at c.requires.columns in
    let within = rw (← c.self.view_is) at c.requires.within in
    let gap = rw (← c.self.view_is) at c.in-Err.ensures.absent in
    let some : 1 ≤ c.args.units = omega arith in
    grown_bare _ c.self.invariant c.args.den _ _ _ columns within _ gap _ c.in_ok-insert_bare-in-Err.ensures.ok c.requires.den some _ c.raise-in-Err.ensures.only c.raise-in-Err.ensures.raised

pub invariant_of-self-in-Err : goal.invariant_of-self-in-Err
invariant_of-self-in-Err c = (inserted c).terms

pub returns-in_ok-insert_bare-in-Err-clause-ok : goal.returns-in_ok-insert_bare-in-Err-clause-ok
returns-in_ok-insert_bare-in-Err-clause-ok c = rw (← c.self.view_is) (inserted c).adds

pub returns-in_ok-insert_bare-in-Err-clause-terms : goal.returns-in_ok-insert_bare-in-Err-clause-terms
returns-in_ok-insert_bare-in-Err-clause-terms c = (inserted c).terms

-- it takes memory, since the denominator has none
pub returns-in_err-insert_bare-in-Err-clause-memory : goal.returns-in_err-insert_bare-in-Err-clause-memory
returns-in_err-insert_bare-in-Err-clause-memory c =
    let needs : NeedsTerm c.args.self.now.terms c.args.den c.args.units = record { some = omega arith; absent = term_of_gap _ _ _ c.in-Err.ensures.absent } in
    search (rules, needs)

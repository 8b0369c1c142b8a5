use Rattle.std.proofs.Common.{◌≡◌, ◌≤◌, IfErr, sym, ◌∙◌, arith}
use Rattle.group_sum.specs.Place.{IsGapFor, term_at}
use Rattle.group_sum.specs.Rows.{row_term}
use Rattle.group_sum.proofs.Ascending.{ascends, term_of_gap}
use Rattle.group_sum.proofs.Subtracting.{less_there, IsTaken, most_there, not_missing, taken_away, taken_from, within_there}
use Rattle.group_sum.proofs.difference.take_term.Goals as goal

-- terms ascend
pub search-requires : goal.search-requires
search-requires c = record { each = ascends _ 1 _ c.requires.terms.terms }

-- the numerators fit the term of their denominator
pub take_row-requires-clause-count : goal.take_row-requires-clause-count
take_row-requires-clause-count c = less_there c.args.left.now c.requires.terms (row_term c.args.den c.args.row.now) c.requires.possible c.in-Ok.at c.in-Ok.ensures.found

pub take_row-requires-clause-most : goal.take_row-requires-clause-most
take_row-requires-clause-most c = most_there c.args.left.now c.requires.terms (row_term c.args.den c.args.row.now) c.requires.possible c.in-Ok.at c.in-Ok.ensures.found

pub take_row-requires-clause-sums : goal.take_row-requires-clause-sums
take_row-requires-clause-sums c =
    let within = within_there c.args.left.now c.requires.terms (row_term c.args.den c.args.row.now) c.requires.possible c.in-Ok.at c.in-Ok.ensures.found c.requires.within in
    record { each = λ k lt. within.each k lt }

-- there is one
pub returns-in_default-clause-difference : goal.returns-in_default-clause-difference
returns-in_default-clause-difference c =
    let missing : IfErr c.search.result (IsGapFor c.args.left.now.terms c.args.den) = c.search.ensures.absent in
    let gap : IsGapFor c.args.left.now.terms c.args.den c.in_default.field-0 = rw c.in_default.is at missing in
    absurd (not_missing c.args.left.now c.requires.terms (row_term c.args.den c.args.row.now) c.requires.possible c.requires.some (term_of_gap _ _ _ gap))

-- with all taken it goes
whole_taken : (c : goal.After-remove) → IsTaken c.args.left.now c.requires.terms (row_term c.args.den c.args.row.now) c.requires.possible c.in-Ok.at c.in-Ok.ensures.found c.remove.new.self
whole_taken c =
    let none : (term_at c.take_row.new.self.terms c.in-Ok.at).count ≡ 0 = sym (rw c.row.ensures.row at c.count.ensures) ∙ c.if-count-eq0.true in
    taken_away c.args.left.now c.requires.terms (row_term c.args.den c.args.row.now) c.requires.possible c.in-Ok.at c.in-Ok.ensures.found c.take_row.new.self c.take_row.ensures.only c.take_row.ensures.left none c.remove.new.self c.remove.ensures

pub returns-then-count-eq0-clause-difference : goal.returns-then-count-eq0-clause-difference
returns-then-count-eq0-clause-difference c = (whole_taken c).difference

pub returns-then-count-eq0-clause-terms : goal.returns-then-count-eq0-clause-terms
returns-then-count-eq0-clause-terms c = (whole_taken c).terms

-- with less it is another
part_taken : (c : goal.Else-count-eq0) → IsTaken c.args.left.now c.requires.terms (row_term c.args.den c.args.row.now) c.requires.possible c.in-Ok.at c.in-Ok.ensures.found c.take_row.new.self
part_taken c =
    let some : 1 ≤ (term_at c.take_row.new.self.terms c.in-Ok.at).count = omega (arith, rw c.row.ensures.row at c.count.ensures, c.if-count-eq0.false) in
    taken_from c.args.left.now c.requires.terms (row_term c.args.den c.args.row.now) c.requires.possible c.in-Ok.at c.in-Ok.ensures.found c.take_row.new.self c.take_row.ensures.only c.take_row.ensures.left some c.requires.within

pub returns-else-count-eq0-clause-difference : goal.returns-else-count-eq0-clause-difference
returns-else-count-eq0-clause-difference c = (part_taken c).difference

pub returns-else-count-eq0-clause-terms : goal.returns-else-count-eq0-clause-terms
returns-else-count-eq0-clause-terms c = (part_taken c).terms

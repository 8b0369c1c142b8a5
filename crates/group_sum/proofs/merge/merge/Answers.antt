use Rattle.std.proofs.Common.{◌≡◌, ℕ, take, subst, refl, arith}
use Rattle.group_sum.proofs.Backwards.{IsBack, back_first, back_last, merges_of}
use Rattle.group_sum.proofs.Steps.{steps_back, some_place, fits_level}
use Rattle.group_sum.proofs.merge.merge.Goals as goal

-- at first all are ahead
pub back-init : goal.back-init
back-init c =
    let other_ok = rw (← c.requires.columns) at c.requires.other.terms in
    record {
      columns = refl;
      back = rw (c.len.ensures, c.len-2.ensures) (back_first c.args.rows.now.columns (take c.args.own c.args.rows.now.terms) c.args.other.now.terms c.requires.own.terms other_ok c.args.rows.now.terms c.args.own (omega (arith, c.requires.room)) refl c.requires.room);
    }

pub step-ahead-requires-clause-some_place : goal.step-ahead-requires-clause-some_place
step-ahead-requires-clause-some_place c =
    let other_ok = rw (← c.requires.columns) at c.requires.other.terms in
    some_place c.args.rows.now.columns (take c.args.own c.args.rows.now.terms) c.args.other.now.terms c.requires.own.terms other_ok c.back.rows.terms c.back.ahead c.back.invariant.back (omega arith)

pub step-ahead-requires-clause-within : goal.step-ahead-requires-clause-within
step-ahead-requires-clause-within c =
    let other_ok = rw (← c.requires.columns) at c.requires.other.terms in
    let fits = fits_level c.args.rows.now.columns (take c.args.own c.args.rows.now.terms) c.args.other.now.terms c.requires.own.terms other_ok c.back.rows.terms c.back.ahead c.back.invariant.back (omega arith)
    c.requires.own.some (record { counts = c.requires.within.counts; sums = c.requires.within.sums }) in
    record { count = fits.count; sums = λ level. rw c.back.invariant.columns (fits.sums level) }

-- each step takes one
pub back-smaller : goal.back-smaller
back-smaller c =
    let other_ok = rw (← c.requires.columns) at c.requires.other.terms in
    (steps_back c.args.rows.now.columns (take c.args.own c.args.rows.now.terms) c.args.other.now.terms c.requires.own.terms other_ok c.back.rows.terms c.back.ahead c.back.invariant.back (omega arith)
    c.requires.own.some (record { counts = c.requires.within.counts; sums = c.requires.within.sums }) c.step-ahead.new.rows.terms c.step-ahead.result c.step-ahead.ensures.steps).fewer

pub back-preserved : goal.back-preserved
back-preserved c =
    let other_ok = rw (← c.requires.columns) at c.requires.other.terms in
    let next = steps_back c.args.rows.now.columns (take c.args.own c.args.rows.now.terms) c.args.other.now.terms c.requires.own.terms other_ok c.back.rows.terms c.back.ahead c.back.invariant.back (omega arith)
    c.requires.own.some (record { counts = c.requires.within.counts; sums = c.requires.within.sums }) c.step-ahead.new.rows.terms c.step-ahead.result c.step-ahead.ensures.steps in
    record { columns = omega (arith, c.step-ahead.ensures.columns, c.back.invariant.columns); back = next.back }

-- in the end none of the others is ahead
pub returns : goal.returns
returns c =
    let other_ok = rw (← c.requires.columns) at c.requires.other.terms in
    let none : c.back.ahead.other ≡ 0 = omega arith in
    let back = subst (λ (n : ℕ). IsBack c.args.rows.now.columns (take c.args.own c.args.rows.now.terms) c.args.other.now.terms c.back.rows.terms c.back.ahead.own n c.back.ahead.place) none c.back.invariant.back in
    let merged = back_last c.args.rows.now.columns (take c.args.own c.args.rows.now.terms) c.args.other.now.terms c.requires.own.terms other_ok c.back.rows.terms c.back.ahead.own c.back.ahead.place back in
    let merges = merges_of _ _ _ _ c.requires.own.some merged in
    record {
      merges = record { columns = c.back.invariant.columns; counts = merges.counts; sums = merges.sums };
      terms = record { some = rw c.back.invariant.columns c.requires.own.some; most = rw c.back.invariant.columns c.requires.own.most; terms = rw c.back.invariant.columns merged.terms };
    }

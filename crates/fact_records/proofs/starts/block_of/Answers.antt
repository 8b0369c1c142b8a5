use Rattle.std.proofs.Common.{◌-◌, inl, inr, length, arith}
use Rattle.std.specs.Prelude.{Ok, Err}
use Rattle.std.proofs.lemmas.Bool.{cases_lt}
use Rattle.std.proofs.lemmas.List.Sorted.{searched}
use Rattle.fact_records.proofs.BlockStarts.{rising_non_decreasing}
use Rattle.fact_records.proofs.starts.block_of.Goals as goal

pub returns-in-Ok-clause-found : goal.returns-in-Ok-clause-found
returns-in-Ok-clause-found c =
    let found = searched c.args.starts.now c.args.i (Ok c.in-Ok.block) c.in-Ok.ensures.position (rising_non_decreasing c.args.starts.now c.requires) in
    record { in_range = found.0; begun = omega (arith, found.1); last = λ later behind within. omega (arith, found.1, c.requires.rise c.in-Ok.block later behind within) }

pub returns-in-Err-eq0-clause-none : goal.returns-in-Err-eq0-clause-none
returns-in-Err-eq0-clause-none c = λ _.
    let gap = searched c.args.starts.now c.args.i (Err c.in-Err-eq0.field-0) c.in-Err-eq0.ensures.position (rising_non_decreasing c.args.starts.now c.requires) in
    elim (cases_lt 0 (length c.args.starts.now)) [
      | inl some ↦ absurd (omega (arith, gap.2 0 (omega (arith, c.in-Err-eq0.field-0-test)) some, c.requires.first))
      | inr none ↦ omega (arith, none)
    ]

pub returns-in-Err-clause-found : goal.returns-in-Err-clause-found
returns-in-Err-clause-found c =
    let gap = searched c.args.starts.now c.args.i (Err c.in-Err.next) c.in-Err.ensures.position (rising_non_decreasing c.args.starts.now c.requires) in
    record {
      in_range = omega (arith, gap.0, c.in-Err.next-test);
      begun = omega (arith, gap.1 (c.in-Err.next - 1) (omega (arith, c.in-Err.next-test)));
      last = λ later behind within. gap.2 later (omega (arith, behind)) within;
    }

use Rattle.std.proofs.Common.{◌-◌, [], length, get_or, refl, ap, arith}
use Rattle.std.proofs.lemmas.List.{get_or_read}
use Rattle.fact_records.proofs.BlockStarts.{length-counted, starts-last}
use Rattle.fact_records.proofs.Fronts.{some_from_test}
use Rattle.fact_records.proofs.starts.count_all.Goals as goal

pub bounds-starts-last : goal.bounds-starts-last
bounds-starts-last c =
    let some = some_from_test c.args.used.now c.args.used.now _ c.is_empty.ensures c.if-is_empty.false refl in
    omega (arith, length-counted c.args.used.now c.args.starts.now c.requires.counted, some)

pub overflow_add-result : goal.overflow_add-result
overflow_add-result c =
    let some = some_from_test c.args.used.now c.args.used.now _ c.is_empty.ensures c.if-is_empty.false refl in
    let last = get_or_read c.args.used.now (length c.args.used.now - 1) _ (omega arith) c.index-used-last.is [] in
    let all = ap (λ l. get_or l (length c.args.used.now - 1) 0) c.requires.counted in
    omega (arith, all, ap length last, starts-last c.args.used.now (length c.args.used.now - 1) (omega arith), c.requires.few)

pub returns : goal.returns
returns c =
    let some = some_from_test c.args.used.now c.args.used.now _ c.is_empty.ensures c.if-is_empty.false refl in
    let last = get_or_read c.args.used.now (length c.args.used.now - 1) _ (omega arith) c.index-used-last.is [] in
    let all = ap (λ l. get_or l (length c.args.used.now - 1) 0) c.requires.counted in
    omega (arith, all, ap length last, starts-last c.args.used.now (length c.args.used.now - 1) (omega arith))

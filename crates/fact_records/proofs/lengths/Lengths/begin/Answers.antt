use Rattle.std.proofs.Common.{sym, ap, ◌*◌, ◌∙◌, arith}
use Rattle.std.proofs.lemmas.List.Sums.{sum_by-take-le}
use Rattle.fact_records.proofs.ShortLists.{sum-given}
use Rattle.fact_records.proofs.lengths.Lengths.begin.Goals as goal

pub overflow_mul-result : goal.overflow_mul-result
overflow_mul-result c =
    let same = sum-given c.self.inside.all c.in-Some.all c.self.inside.each.items c.args.self.now c.args.at c.self.invariant.1 c.in-Some.is c.self.view_is c.requires.place in
    let product = ap (λ n. c.args.at * n) c.from.ensures in
    omega (arith, same, product, sum_by-take-le (λ n. n) c.args.self.now c.args.at)

pub returns-in-Some : goal.returns-in-Some
returns-in-Some c =
    ap (λ n. c.args.at * n) c.from.ensures ∙ sym (sum-given c.self.inside.all c.in-Some.all c.self.inside.each.items c.args.self.now c.args.at c.self.invariant.1 c.in-Some.is c.self.view_is c.requires.place)

use Rattle.std.proofs.Common.{◌≡◌, ◌-◌, ◌+◌, length, take, drop, Some, ap, sym, ◌∙◌, arith}
use Rattle.std.specs.List.{slice_get}
use Rattle.std.specs.Vec.{vec_capacity}
use Rattle.std.proofs.lemmas.List.{length-take}
use Rattle.fact_records.proofs.LaidOut.{end-within, length-get, length-seen}
use Rattle.fact_records.proofs.ShortLists.{lists-get}
use Rattle.fact_records.proofs.short_lists.ShortLists.get.Goals as goal

pub begin-begin-requires-clause-place : goal.begin-begin-requires-clause-place
begin-begin-requires-clause-place g c = omega (arith, length-seen c.self.inside.lengths c.self.inside.items.items c.args.self.now c.self.view_is, c.requires)

pub get-requires : goal.get-requires
get-requires g c = omega (arith, length-seen c.self.inside.lengths c.self.inside.items.items c.args.self.now c.self.view_is, c.requires)

pub overflow_add-result : goal.overflow_add-result
overflow_add-result g c =
    let end = end-within g.row.MOST c.self.inside.lengths c.self.inside.items.items _ c.args.at c.begin-begin.result c.get.result c.self.invariant c.begin-begin.ensures c.get.ensures in
    omega (arith, end, ap length c.deref.ensures.value, c.deref.type_inv.0)

pub slice_bounds-result-end : goal.slice_bounds-result-end
slice_bounds-result-end g c =
    let end = end-within g.row.MOST c.self.inside.lengths c.self.inside.items.items _ c.args.at c.begin-begin.result c.get.result c.self.invariant c.begin-begin.ensures c.get.ensures in
    omega (arith, end, ap length c.deref.ensures.value)

pub returns-clause-list : goal.returns-clause-list
returns-clause-list g c =
    let shift : c.begin-begin.result + c.get.result - c.begin-begin.result ≡ c.get.result = omega arith in
    let part = ap (λ l. Some (take (c.begin-begin.result + c.get.result - c.begin-begin.result) (drop c.begin-begin.result l))) c.deref.ensures.value ∙ ap (λ n. Some (take n (drop c.begin-begin.result c.self.inside.items.items))) shift in
    ap (λ l. slice_get l c.args.at) (sym c.self.view_is) ∙ lists-get c.self.inside.lengths c.self.inside.items.items c.args.at c.begin-begin.result c.get.result c.begin-begin.ensures c.get.ensures ∙ sym part

pub returns-clause-short : goal.returns-clause-short
returns-clause-short g c =
    let short = length-get g.row.MOST c.self.inside.lengths (length c.self.inside.items.items) (vec_capacity c.self.inside.items) c.args.at c.get.result c.self.invariant c.get.ensures in
    omega (arith, short, length-take (c.begin-begin.result + c.get.result - c.begin-begin.result) (drop c.begin-begin.result c.deref.result.now))

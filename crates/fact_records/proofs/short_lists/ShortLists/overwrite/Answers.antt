use Rattle.std.proofs.Common.{◌+◌, ◌++◌, drop, length, take, set, sym, ap, ◌∙◌, arith}
use Rattle.std.specs.Vec.{vec_capacity}
use Rattle.fact_records.specs.ShortLists.{lists_of}
use Rattle.fact_records.proofs.LaidOut.{end-within, laid-over, length-alike, length-seen}
use Rattle.fact_records.proofs.ShortLists.{lists-over}
use Rattle.fact_records.proofs.short_lists.ShortLists.overwrite.Goals as goal

pub begin-begin-requires-clause-place : goal.begin-begin-requires-clause-place
begin-begin-requires-clause-place g c = omega (arith, length-seen c.self.inside.lengths c.self.inside.items.items c.args.self.now c.self.view_is, c.requires.place)

pub get-requires : goal.get-requires
get-requires g c = omega (arith, length-seen c.self.inside.lengths c.self.inside.items.items c.args.self.now c.self.view_is, c.requires.place)

pub write_over-requires : goal.write_over-requires
write_over-requires g c =
    let same = length-alike g.row.MOST c.self.inside.lengths c.self.inside.items.items (vec_capacity c.self.inside.items) c.args.at c.begin-begin.result c.get.result (length c.args.list.now) c.args.self.now c.self.invariant c.self.view_is c.begin-begin.ensures c.get.ensures c.requires.alike in
    omega (arith, same, end-within g.row.MOST c.self.inside.lengths c.self.inside.items.items (vec_capacity c.self.inside.items) c.args.at c.begin-begin.result c.get.result c.self.invariant c.begin-begin.ensures c.get.ensures)

pub invariant_of-self : goal.invariant_of-self
invariant_of-self g c =
    let same = length-alike g.row.MOST c.self.inside.lengths c.self.inside.items.items (vec_capacity c.self.inside.items) c.args.at c.begin-begin.result c.get.result (length c.args.list.now) c.args.self.now c.self.invariant c.self.view_is c.begin-begin.ensures c.get.ensures c.requires.alike in
    let within = end-within g.row.MOST c.self.inside.lengths c.self.inside.items.items (vec_capacity c.self.inside.items) c.args.at c.begin-begin.result c.get.result c.self.invariant c.begin-begin.ensures c.get.ensures in
    let items = c.write_over.ensures.items ∙ ap (λ n. take c.begin-begin.result c.self.inside.items.items ++ (c.args.list.now ++ drop (c.begin-begin.result + n) c.self.inside.items.items)) (sym same) in
    laid-over g.row.MOST c.self.inside.lengths c.self.inside.items.items c.args.list.now c.write_over.new.list.items (vec_capacity c.self.inside.items) (vec_capacity c.write_over.new.list) c.begin-begin.result c.get.result c.self.invariant within same items c.write_over.ensures.room

pub returns : goal.returns
returns g c =
    let same = length-alike g.row.MOST c.self.inside.lengths c.self.inside.items.items (vec_capacity c.self.inside.items) c.args.at c.begin-begin.result c.get.result (length c.args.list.now) c.args.self.now c.self.invariant c.self.view_is c.begin-begin.ensures c.get.ensures c.requires.alike in
    let items = c.write_over.ensures.items ∙ ap (λ n. take c.begin-begin.result c.self.inside.items.items ++ (c.args.list.now ++ drop (c.begin-begin.result + n) c.self.inside.items.items)) (sym same) in
    ap (λ l. lists_of c.self.inside.lengths l) items ∙ lists-over c.self.inside.lengths c.self.inside.items.items c.args.list.now c.args.at c.begin-begin.result c.get.result c.self.invariant.whole c.begin-begin.ensures c.get.ensures same ∙ ap (λ l. set l c.args.at c.args.list.now) c.self.view_is

use Rattle.std.proofs.Common.{length, ap, ◌∙◌, arith}
use Rattle.std.specs.List.{remove}
use Rattle.std.specs.Vec.{vec_capacity}
use Rattle.std.proofs.lemmas.List.Edits.{length-remove}
use Rattle.std.proofs.lemmas.Option.{slice_get_within}
use Rattle.fact_records.specs.ShortLists.{lists_of}
use Rattle.fact_records.proofs.LaidOut.{end-within, laid-remove, length-seen}
use Rattle.fact_records.proofs.ShortLists.{length-lists_of, lists-remove}
use Rattle.fact_records.proofs.short_lists.ShortLists.remove.Goals as goal

pub begin-begin-requires-clause-place : goal.begin-begin-requires-clause-place
begin-begin-requires-clause-place g c = omega (arith, length-seen c.self.inside.lengths c.self.inside.items.items c.args.self.now c.self.view_is, c.requires)

pub get-requires : goal.get-requires
get-requires g c = omega (arith, length-seen c.self.inside.lengths c.self.inside.items.items c.args.self.now c.self.view_is, c.requires)

pub take_out-requires : goal.take_out-requires
take_out-requires g c = end-within g.row.MOST c.self.inside.lengths c.self.inside.items.items (vec_capacity c.self.inside.items) c.args.at c.begin-begin.result c.get.result c.self.invariant c.begin-begin.ensures c.get.ensures

pub remove-requires : goal.remove-requires
remove-requires g c = omega (arith, length-seen c.self.inside.lengths c.self.inside.items.items c.args.self.now c.self.view_is, c.requires)

pub invariant_of-self : goal.invariant_of-self
invariant_of-self g c = laid-remove g.row.MOST c.self.inside.lengths c.remove.new.self c.self.inside.items.items c.take_out.new.list.items (vec_capacity c.self.inside.items) (vec_capacity c.take_out.new.list) c.args.at c.begin-begin.result c.get.result c.self.invariant c.get.ensures c.begin-begin.ensures c.remove.ensures c.take_out.ensures.items c.take_out.ensures.room

pub returns-clause-lists : goal.returns-clause-lists
returns-clause-lists g c =
    ap (λ l. lists_of l c.take_out.new.list.items) c.remove.ensures ∙ ap (λ l. lists_of (remove c.self.inside.lengths c.args.at) l) c.take_out.ensures.items ∙ lists-remove c.self.inside.lengths c.self.inside.items.items c.args.at c.begin-begin.result c.get.result c.self.invariant.whole c.begin-begin.ensures c.get.ensures ∙ ap (λ l. remove l c.args.at) c.self.view_is

pub returns-clause-room : goal.returns-clause-room
returns-clause-room g c = omega (arith, length-lists_of c.remove.new.self c.take_out.new.list.items, ap length c.remove.ensures, length-remove c.self.inside.lengths c.args.at (slice_get_within c.self.inside.lengths c.args.at c.get.result c.get.ensures), c.self.invariant.few)

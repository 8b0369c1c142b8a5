-- A spot more is laid out.
use Rattle.iter_alloc.proofs.layout.lay_out.Goals as goal
use Rattle.iter_alloc.proofs.Numbering.{laid-next, marked-few, marked-is}
use Rattle.iter_alloc.specs.LaidOut.{AreNumbered}
use Rattle.std.proofs.lemmas.List.{get_or_default}
use Rattle.std.proofs.Common.{ℕ, List, get_or, length, refl, ap, sym, subst, ◌∙◌}

pub loop-i-preserved : goal.loop-i-preserved
loop-i-preserved c =
    let said = c.in_ok-len.ensures in
    let dims = c.args.space.now in
    let firsts = c.args.firsts.now in
    let marks = c.args.marks.now in
    let i = c.loop-i.i in
    let first = get_or firsts i c.index-firsts-i.result in
    let is = get_or_default firsts i c.index-firsts-i.result first c.loop-i-test.true in
    let same = marked-is dims firsts marks i first c.loop-i-test.true is in
    let few = marked-few dims firsts marks i first c.loop-i-test.true is c.requires.sizes in
    let keys = c.loop-i.cells.keys in
    let flat = c.loop-i.flat.items in
    let now = c.add_spot.new.cells.keys in
    let longer = c.add_spot.new.flat.items in
    laid-next dims firsts marks c.args.members.now i keys flat c.loop-i.spans.items c.loop-i.invariant now longer (subst (λ (cs : List ℕ). AreNumbered keys now flat longer cs) (sym same) said.numbered) _ c.push.new.self.items
    (said.len ∙ ap (λ (cs : List ℕ). length cs) (sym same)) refl few c.in_ok-push.ensures.items

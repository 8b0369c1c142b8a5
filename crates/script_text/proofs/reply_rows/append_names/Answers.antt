-- Each dimension appends the name of its node.
use Rattle.std.proofs.Common.{arith}
use Rattle.region_algebra.proofs.Turns.{is_region-length, node-within}
use Rattle.script_text.proofs.Appending.{Keeps-front, always}
use Rattle.script_text.proofs.RowNames.{names-all, names-more}
use Rattle.script_text.proofs.reply_rows.append_names.Goals as goal

pub node-requires : goal.node-requires
node-requires c = omega (arith, is_region-length c.args.space.now c.args.region c.requires)

pub name_of-requires : goal.name_of-requires
name_of-requires c = node-within c.args.space.now c.args.region c.loop-d.d c.dim.result.now c.node.result c.requires c.dim.ensures c.node.ensures

pub returns-in_err-append_field-clause-err : goal.returns-in_err-append_field-clause-err
returns-in_err-append_field-clause-err c = always _ (Keeps-front _ _ _ _ c.loop-d.invariant c.in_err-append_field.ensures.err)

pub loop-d-preserved : goal.loop-d-preserved
loop-d-preserved c =
    names-more c.args.space.now c.args.region c.loop-d.d c.dim.result.now c.node.result c.name_of.result.now c.args.text.now.items c.loop-d.text.items c.append_field.new.text.items c.dim.ensures c.node.ensures
    c.name_of.ensures c.loop-d.invariant (rw c.as_bytes.ensures.value at c.in_ok-append_field.ensures.ok)

pub returns-clause-ok : goal.returns-clause-ok
returns-clause-ok c = names-all c.args.space.now c.args.region c.loop-d.d c.args.text.now.items c.loop-d.text.items (omega arith) c.loop-d.invariant

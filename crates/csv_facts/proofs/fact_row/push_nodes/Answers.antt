-- The name of a node more is appended.
use Rattle.std.proofs.Common.{◌∙◌, ap, arith, List, ℕ, ◌++◌, ◌∷◌, [], take}
use Rattle.std.proofs.lemmas.List.{take_all}
use Rattle.cube_model.specs.Tree.{entry_of}
use Rattle.region_algebra.proofs.Turns.{is_region-length}
use Rattle.script_text.specs.Reply.{names_of}
use Rattle.fact_fields.proofs.NodesAgain.{length-names_of}
use Rattle.csv_facts.proofs.FieldsLeft.{IsLonger-more, IsLonger-start}
use Rattle.csv_facts.proofs.RowsWritten.{IsLonger-same, name-there, names_of-next, node-within}
use Rattle.csv_facts.proofs.fact_row.push_nodes.Goals as goal

pub loop-d-init : goal.loop-d-init
loop-d-init c = IsLonger-start c.args.row.now c.requires.whole

pub node-requires : goal.node-requires
node-requires c = omega (arith, c.loop-d-test.true, c.dims-d-end.ensures.count, is_region-length c.args.space.now c.args.region c.requires.region)

pub name_of-requires : goal.name_of-requires
name_of-requires c = node-within c.args.space.now c.args.region c.loop-d.d c.dim.result.now c.node.result c.requires.region c.dim.ensures c.node.ensures

pub loop-d-preserved : goal.loop-d-preserved
loop-d-preserved c =
    let e = c.in_ok-push_field.ensures in
    let names = names_of c.args.space.now c.args.region in
    IsLonger-more _ _ _ _ _ _ c.name_of.result.now c.loop-d.invariant e.fields e.partial c.as_bytes.ensures.value
    (names_of-next c.args.space.now c.args.region c.loop-d.d c.dim.result.now c.node.result c.dim.ensures c.node.ensures
    ∙ ap (λ (n : List ℕ). take c.loop-d.d names ++ n ∷ []) (name-there (entry_of c.dim.result.now c.node.result) c.name_of.result.now c.name_of.ensures))

pub returns : goal.returns
returns c =
    let count = length-names_of c.args.space.now c.args.region c.requires.region in
    IsLonger-same _ _ _ _ (take_all c.loop-d.d (names_of c.args.space.now c.args.region) (omega (arith, c.loop-d-test.false, c.dims-d-end.ensures.count, count))) c.loop-d.invariant

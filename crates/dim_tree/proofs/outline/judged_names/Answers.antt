use Rattle.std.proofs.Common.{map, string_bytes, ◌≡◌, ◌<◌, [], Some, length, sym, ap, ◌∙◌, arith}
use Rattle.std.specs.Option.{option_or}
use Rattle.std.proofs.lemmas.List.{length-map}
use Rattle.std.proofs.lemmas.Result.{err_from_is_err_and}
use Rattle.cube_base.specs.Name.{is_name}
use Rattle.cube_model.specs.declared.tree.DimFault.{DimFault}
use Rattle.cube_model.specs.Tree.{first_fault}
use Rattle.dim_tree.specs.Outline.{depth_fault, name_fault}
use Rattle.dim_tree.proofs.Judging.{IsJudged_more, judged_fault, line_read, IsCause_of}
use Rattle.dim_tree.proofs.outline.judged_names.Goals as goal

pub loop-place-preserved : goal.loop-place-preserved
loop-place-preserved g c =
    let line = g.L.Outlined.line in
    let names = map string_bytes c.loop-place.names.keys in
    let within : c.loop-place.place < length (map line c.args.nodes.now) = omega (arith, length-map c.args.nodes.now line) in
    rw (c.in_ok-judge_line.ensures.added, c.name.ensures, c.depth-depth.ensures) (IsJudged_more (map line c.args.nodes.now) c.loop-place.place (line c.index-nodes-place.result) c.loop-place.before names c.loop-place.invariant within (line_read line c.args.nodes.now c.loop-place.place c.index-nodes-place.result c.loop-place-test.true c.index-nodes-place.is)
    (ap (depth_fault c.loop-place.before c.loop-place.place) (sym c.depth-depth.ensures) ∙ c.in_ok-judge_line.ensures.depth) (ap (name_fault names c.loop-place.place) (sym c.name.ensures) ∙ c.in_ok-judge_line.ensures.name) (ap is_name (sym c.name.ensures) ∙ c.in_ok-judge_line.ensures.is_name))

pub returns-in_err-judge_line-clause-refused : goal.returns-in_err-judge_line-clause-refused
returns-in_err-judge_line-clause-refused g c =
    let line = g.L.Outlined.line in
    let names = map string_bytes c.loop-place.names.keys in
    let within : c.loop-place.place < length (map line c.args.nodes.now) = omega (arith, length-map c.args.nodes.now line) in
    let given = err_from_is_err_and c.from_residual-in_err-judge_line.result c.from_residual-in_err-judge_line.ensures.1 in
    let told : (fault : DimFault) → option_or (depth_fault c.loop-place.before c.loop-place.place c.depth-depth.result) (name_fault names c.loop-place.place c.name.result.now) ≡ Some fault → first_fault [] 0 (map line c.args.nodes.now) ≡ Some fault = λ fault is.
    judged_fault (map line c.args.nodes.now) c.loop-place.place (line c.index-nodes-place.result) c.loop-place.before names c.loop-place.invariant within (line_read line c.args.nodes.now c.loop-place.place c.index-nodes-place.result c.loop-place-test.true c.index-nodes-place.is) fault
    (ap (λ d. option_or (depth_fault c.loop-place.before c.loop-place.place d) (name_fault names c.loop-place.place (line c.index-nodes-place.result).name)) (sym c.depth-depth.ensures) ∙ ap (λ n. option_or (depth_fault c.loop-place.before c.loop-place.place c.depth-depth.result) (name_fault names c.loop-place.place n)) (sym c.name.ensures) ∙ is) in
    rw (given.1, given.2) (IsCause_of _ _ told _ c.in_err-judge_line.ensures.refused)

-- A dimension more.
use Rattle.std.proofs.Common.{◌≡◌, ◌<◌, ◌++◌, ◌∷◌, [], ◌∙◌, ap, sym, length, Some, arith, append_assoc}
use Rattle.std.specs.Prelude.{codes, slice_get}
use Rattle.std.specs.List.{flat_map}
use Rattle.std.proofs.lemmas.Option.{slice_get-get_or}
use Rattle.text_lines.specs.Text.{line_text}
use Rattle.schema_text.specs.SchemaText.{node_line}
use Rattle.schema_text.proofs.Writing.{appended, dims_text-more}
use Rattle.schema_text.proofs.write.append_dims.Goals as goal

pub loop-d-preserved : goal.loop-d-preserved
loop-d-preserved c =
    let within : c.loop-d.d < length c.args.names.now = omega arith in
    let name_at : slice_get c.args.names.now c.loop-d.d ≡ Some c.index-names-d.result = slice_get-get_or c.args.names.now c.loop-d.d c.index-names-d.result within ∙ ap (λ n. Some n) (sym c.index-names-d.is) in
    appended _ _ _ _ _ _ c.loop-d.invariant
    (c.in_ok-append_nodes.ensures
    ∙ ap (λ l. l ++ flat_map (node_line c.args.version) c.dim.result.now) (c.in_ok-append_line.ensures ∙ ap (λ name. c.loop-d.out.items ++ line_text (codes "dimension") (name ∷ [])) (c.as_bytes.ensures.value ∙ c.text.ensures.same))
    ∙ append_assoc c.loop-d.out.items (line_text (codes "dimension") (c.index-names-d.result ∷ [])) (flat_map (node_line c.args.version) c.dim.result.now))
    (dims_text-more c.args.version c.args.names.now c.args.space.now c.loop-d.d c.index-names-d.result c.dim.result.now name_at c.dim.ensures)

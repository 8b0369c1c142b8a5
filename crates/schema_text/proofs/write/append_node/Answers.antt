-- The line of a node, piece by piece.
use Rattle.std.proofs.Common.{◌≡◌, [], ◌∷◌, ◌++◌}
use Rattle.std.proofs.lemmas.Result.{on_ok_weaker}
use Rattle.schema_text.proofs.Writing.{node-appended}
use Rattle.schema_text.proofs.write.append_node.Goals as goal

pub returns : goal.returns
returns c = on_ok_weaker c.append_bytes-2.result (λ (ended : c.append_bytes-2.new.out.items ≡ c.append_number_of.new.out.items ++ 10 ∷ []).
    rw (ended, c.in_ok-append_number_of.ensures, c.in_ok-append_field.ensures, c.as_bytes.ensures.value, c.in_ok-append_number.ensures, c.from.ensures, c.in_ok-append_bytes.ensures)
    (node-appended c.args.version c.args.out.now.items c.args.dim.now c.args.node c.depth.result c.name_of.result.now c.depth.ensures.depth c.name_of.ensures)) c.append_bytes-2.ensures

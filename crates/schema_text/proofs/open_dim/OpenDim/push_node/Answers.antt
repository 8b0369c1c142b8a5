-- The node stands behind those before it.
use Rattle.std.proofs.Common.{◌≡◌, [], ◌∷◌, ◌++◌}
use Rattle.std.proofs.lemmas.Result.{on_ok_weaker}
use Rattle.cube_model.specs.Tree.{Entry}
use Rattle.schema_text.proofs.Drafts.{is_name-right, not_among}
use Rattle.schema_text.proofs.NodesMore.{AreTaken-push, IsFree-next, names-push}
use Rattle.schema_text.proofs.open_dim.OpenDim.push_node.Goals as goal

pub add_known-requires-clause-named : goal.add_known-requires-clause-named
add_known-requires-clause-named c = is_name-right c.args.name.now _ c.requires.name

pub add_known-requires-clause-new : goal.add_known-requires-clause-new
add_known-requires-clause-new c = rw c.requires.kept.known (not_among c.args.name.now _ c.requires.name)

pub add_taken-requires : goal.add_taken-requires
add_taken-requires c = IsFree-next c.args.self.now.version c.args.self.now.nodes.items c.args.number c.args.self.now.taken.keys c.requires.kept.taken c.requires.number

pub add_node-requires : goal.add_node-requires
add_node-requires c = is_name-right c.args.name.now _ c.requires.name

pub returns-clause-kept : goal.returns-clause-kept
returns-clause-kept c =
    let node : Entry = record { depth = c.args.depth; name = c.args.name.now; number = c.args.number } in
    let nodes = c.args.self.now.nodes.items in
    on_ok_weaker c.add_node.result
    (λ (put : c.add_node.new.nodes.items ≡ nodes ++ node ∷ []).
    record {
      known = names-push nodes c.add_node.new.nodes.items node _ _ c.requires.kept.known c.in_ok-add_known.ensures put;
      taken = rw (put, c.in_ok-add_taken.ensures) (AreTaken-push c.args.self.now.version nodes node c.args.self.now.taken.keys c.requires.kept.taken c.requires.number);
    })
    c.add_node.ensures

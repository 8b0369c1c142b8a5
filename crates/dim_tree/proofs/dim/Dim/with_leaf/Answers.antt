use Rattle.std.proofs.Common.{◌≡◌, IfOk, length, string_bytes, ap, subst, ◌∙◌, arith}
use Rattle.std.proofs.lemmas.List.{length-map}
use Rattle.dim_tree.proofs.Kept.{kept}
use Rattle.dim_tree.proofs.NewLeaf.{has_more_as, name_new}
use Rattle.dim_tree.proofs.dim.Dim.with_leaf.Goals as goal

pub names_with-requires-clause-within : goal.names_with-requires-clause-within
names_with-requires-clause-within c = omega (arith, c.new_child-place.ensures.within, (kept c.self.invariant c.self.view_is).room_names, length-map c.self.inside.names.keys string_bytes)

pub names_with-requires-clause-new : goal.names_with-requires-clause-new
names_with-requires-clause-new c = name_new c.self.invariant c.self.view_is c.args.name.now c.requires.new

pub depths_with-requires : goal.depths_with-requires
depths_with-requires c = omega (arith, c.new_child-place.ensures.within, (kept c.self.invariant c.self.view_is).room_nodes, ap length c.deref.ensures.value)

pub numbers_with-requires-clause-within : goal.numbers_with-requires-clause-within
numbers_with-requires-clause-within c = omega (arith, c.new_child-place.ensures.within, (kept c.self.invariant c.self.view_is).room_nodes, ap length c.deref-2.ensures.value)

pub numbers_with-requires-clause-few : goal.numbers_with-requires-clause-few
numbers_with-requires-clause-few c = let its = kept c.self.invariant c.self.view_is in omega (arith, its.few, its.room_nodes, ap length c.deref-2.ensures.value)

pub of_tree-requires : goal.of_tree-requires
of_tree-requires c = (has_more_as c.self.invariant c.self.view_is c.args.parent c.new_child-place.result.0 c.new_child-place.result.1 c.args.name.now c.requires.parent c.requires.depth c.requires.few c.requires.new c.in_ok-names.ensures.is_name c.new_child-place.ensures.within (c.new_child-place.ensures.grown c.args.name.now) c.deref.ensures.value c.deref-2.ensures.value (c.deref-3.ensures.value ∙ c.in_ok-depths.ensures) c.in_ok-names.ensures.added (c.deref-4.ensures.value ∙ c.in_ok-numbers.ensures)).outline

pub returns : goal.returns
returns c = subst (λ d. IfOk c.of_tree.result (λ dim. dim ≡ d)) (has_more_as c.self.invariant c.self.view_is c.args.parent c.new_child-place.result.0 c.new_child-place.result.1 c.args.name.now c.requires.parent c.requires.depth c.requires.few c.requires.new c.in_ok-names.ensures.is_name c.new_child-place.ensures.within (c.new_child-place.ensures.grown c.args.name.now) c.deref.ensures.value c.deref-2.ensures.value (c.deref-3.ensures.value ∙ c.in_ok-depths.ensures) c.in_ok-names.ensures.added (c.deref-4.ensures.value ∙ c.in_ok-numbers.ensures)).made c.of_tree.ensures

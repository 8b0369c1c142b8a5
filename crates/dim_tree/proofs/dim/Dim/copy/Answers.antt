-- Each copied list is the same.
use Rattle.std.proofs.Common.{◌≡◌, ℕ, List}
use Rattle.std.specs.List.{AllZip}
use Rattle.std.proofs.lemmas.List.Elements.{same_from_all_zip}
use Rattle.dim_tree.specs.declared.node.Node.{Node}
use Rattle.dim_tree.proofs.Outlines.{names-copied}
use Rattle.dim_tree.proofs.dim.Dim.copy.Goals as goal

same : {X : Type 0} {xs ys : List X} → AllZip (λ x y. y ≡ x) xs ys → ys ≡ xs
same {X} {xs} {ys} each = same_from_all_zip (λ x y. y ≡ x) xs ys each (λ x y is. is)

pub invariant_of-result : goal.invariant_of-result
invariant_of-result c =
    rw (names-copied _ _ c.in_ok-clone.ensures.cases, same {X = Node} c.in_ok-clone-2.ensures.cases.0, same {X = ℕ} c.in_ok-clone-3.ensures.cases.0, same {X = ℕ} c.in_ok-clone-4.ensures.cases.0) c.self.invariant

pub returns : goal.returns
returns c = rw (names-copied _ _ c.in_ok-clone.ensures.cases, same {X = Node} c.in_ok-clone-2.ensures.cases.0) c.self.view_is

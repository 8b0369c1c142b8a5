use Rattle.dim_tree.proofs.NewLeaf.{grown-end}
use Rattle.dim_tree.proofs.dim.Dim.new_child.Goals as goal

pub returns-clause-grown : goal.returns-clause-grown
returns-clause-grown c = λ name.
    let its = c.node-above.ensures c.args.parent c.place.ensures.place in
    grown-end c.args.self.now its.of_tree c.args.parent c.place.result c.place.ensures.place c.node-above.result.now its name

-- The picks of the state are those of the cube.
use Rattle.cube_core.proofs.EndsTold.{cells-same, end-same, picks-same, told-same}
use Rattle.cube_core.proofs.cube.Cube.picks.Goals as goal

pub returns-clause-sum : goal.returns-clause-sum
returns-clause-sum g c =
    told-same (λ picked. picked.sum) _ _ (end-same g.P.WeightPolicy.weigh c.self.inside.schema c.self.inside.state c.self.invariant c.args.self.now c.self.view_is c.args.r c.args.column c.args.extreme) c.picks_of.result c.picks_of.ensures.sum

pub returns-clause-picks : goal.returns-clause-picks
returns-clause-picks g c =
    told-same (λ picked. picked.picks) _ _ (picks-same g.P.WeightPolicy.weigh c.self.inside.schema c.self.inside.state c.self.invariant c.args.self.now c.self.view_is c.args.r c.args.column c.args.extreme) c.picks_of.result c.picks_of.ensures.picks

pub returns-clause-cells : goal.returns-clause-cells
returns-clause-cells g c =
    cells-same g.P.WeightPolicy.weigh c.self.inside.schema c.self.inside.state c.self.invariant c.args.self.now c.self.view_is c.args.r c.args.column (λ picked. picked.picks) c.picks_of.result c.picks_of.ensures.cells

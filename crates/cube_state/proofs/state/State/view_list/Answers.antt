-- The list is that of the view of the facts, in the order of its cuts.
use Rattle.std.proofs.Common.{◌≡◌}
use Rattle.std.specs.Prelude.{All}
use Rattle.std.proofs.lemmas.Result.{IfOk-weaker}
use Rattle.region_algebra.specs.Space.{IsRegion}
use Rattle.cube_state.specs.State.{view_at}
use Rattle.cube_state.proofs.Listing.{IsListed, listed-ok}
use Rattle.cube_state.proofs.state.State.view_list.Goals as goal

pub returns-clause-entries : goal.returns-clause-entries
returns-clause-entries g c =
    IfOk-weaker c.list.result (IsListed g.P.WeightPolicy.weigh c.args.self.now _ c.self.view_is c.self.invariant.state c.self.invariant.state.trees _ c.columns.ensures.columns c.columns.ensures.each c.args.view) (λ list. list ≡ view_at g.P.WeightPolicy.weigh c.args.self.now c.args.view) (λ list is. is.entries)
    (listed-ok g.P.WeightPolicy.weigh _ _ c.self.view_is c.self.invariant.state c.self.invariant.state.trees _ c.columns.ensures.columns c.columns.ensures.each c.args.view c.list.result c.requires c.list.ensures.entries c.list.ensures.whole)

pub returns-clause-regions : goal.returns-clause-regions
returns-clause-regions g c =
    IfOk-weaker c.list.result (IsListed g.P.WeightPolicy.weigh c.args.self.now _ c.self.view_is c.self.invariant.state c.self.invariant.state.trees _ c.columns.ensures.columns c.columns.ensures.each c.args.view) (λ list. All (λ entry. IsRegion c.args.self.now.dims entry.0) list) (λ list is. is.regions)
    (listed-ok g.P.WeightPolicy.weigh _ _ c.self.view_is c.self.invariant.state c.self.invariant.state.trees _ c.columns.ensures.columns c.columns.ensures.each c.args.view c.list.result c.requires c.list.ensures.entries c.list.ensures.whole)

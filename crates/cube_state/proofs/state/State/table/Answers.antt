-- What a view of the cuts lists under the region is the table.
use Rattle.std.proofs.Common.{◌≡◌, map}
use Rattle.std.specs.Prelude.{All}
use Rattle.std.proofs.lemmas.Result.{IfOk-weaker}
use Rattle.cube_model.specs.Answer.{merge_all}
use Rattle.fact_records.specs.Shape.{width_of_all}
use Rattle.region_algebra.specs.Space.{IsRegion}
use Rattle.cube_state.specs.State.{terms_in}
use Rattle.cube_state.specs.Tables.{table_at}
use Rattle.cube_state.proofs.TableViews.{IsTable, cuts-deep, table-seen}
use Rattle.cube_state.proofs.state.State.table.Goals as goal

pub list_of_cuts-requires-clause-depths : goal.list_of_cuts-requires-clause-depths
list_of_cuts-requires-clause-depths g c = cuts-deep g.P.WeightPolicy.weigh _ _ c.self.view_is c.self.invariant.state.trees c.args.r c.requires.region c.args.depths.now c.requires.depths _ c.in_ok-cuts.ensures

pub returns-clause-entries : goal.returns-clause-entries
returns-clause-entries g c =
    IfOk-weaker c.list_of_cuts.result (IsTable g.P.WeightPolicy.weigh c.args.self.now c.args.depths.now c.args.r) (λ list. list ≡ table_at g.P.WeightPolicy.weigh c.args.self.now c.args.depths.now c.args.r) (λ list is. is.entries)
    (table-seen g.P.WeightPolicy.weigh _ _ c.self.view_is c.self.invariant.state.trees c.args.r c.requires.region c.args.depths.now c.requires.depths _ c.in_ok-cuts.ensures c.list_of_cuts.result c.list_of_cuts.ensures)

pub returns-clause-regions : goal.returns-clause-regions
returns-clause-regions g c =
    IfOk-weaker c.list_of_cuts.result (IsTable g.P.WeightPolicy.weigh c.args.self.now c.args.depths.now c.args.r) (λ list. All (λ entry. IsRegion c.args.self.now.dims entry.0) list) (λ list is. is.regions)
    (table-seen g.P.WeightPolicy.weigh _ _ c.self.view_is c.self.invariant.state.trees c.args.r c.requires.region c.args.depths.now c.requires.depths _ c.in_ok-cuts.ensures c.list_of_cuts.result c.list_of_cuts.ensures)

pub returns-clause-merged : goal.returns-clause-merged
returns-clause-merged g c =
    IfOk-weaker c.list_of_cuts.result (IsTable g.P.WeightPolicy.weigh c.args.self.now c.args.depths.now c.args.r) (λ list. merge_all (width_of_all c.args.self.now.shape.measures) (map (λ entry. entry.1.terms) list) ≡ (terms_in g.P.WeightPolicy.weigh c.args.self.now c.args.r).terms) (λ list is. is.merged)
    (table-seen g.P.WeightPolicy.weigh _ _ c.self.view_is c.self.invariant.state.trees c.args.r c.requires.region c.args.depths.now c.requires.depths _ c.in_ok-cuts.ensures c.list_of_cuts.result c.list_of_cuts.ensures)

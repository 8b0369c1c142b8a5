-- What was found is the ids at the regions over the cell.
use Rattle.std.proofs.Common.{sym, subst, rules}
use Rattle.region_index.specs.Content.{AreIdsAt}
use Rattle.region_index.specs.Over.{codes_over}
use Rattle.region_index.proofs.Walking.{AreIdsAt-found}
use Rattle.region_index.proofs.region_index.RegionIndex.covering.Goals as goal

pub returns-clause-ids : goal.returns-clause-ids
returns-clause-ids g c =
    let ids = AreIdsAt-found c.args.self.now (codes_over c.args.space.now c.args.cell) _ _ _ c.in_ok-codes.ensures.codes (search rules) c.sort_distinct-ids.ensures.ascending c.sort_distinct-ids.ensures.same in
    subst (AreIdsAt c.args.self.now (codes_over c.args.space.now c.args.cell)) (sym c.from.ensures) ids

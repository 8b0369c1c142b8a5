-- The codes that the changes name got places.
use Rattle.region_index.proofs.Changing.{IsStagedFor-made, IsStagedFor-nothing}
use Rattle.region_index.proofs.region_index.RegionIndex.stage.Goals as goal

pub returns-clause-staged : goal.returns-clause-staged
returns-clause-staged c =
    IsStagedFor-made _ _ _ _ _ _ _ _ _ c.self.view_is c.deref.ensures.value c.deref-2.ensures.value c.in_ok-stage.ensures c.in_ok-codes.ensures.ascending c.in_ok-codes.ensures.named c.in_ok-reserve.ensures.ok

-- no changes make nothing
pub returns-then-is_empty-2-clause-staged : goal.returns-then-is_empty-2-clause-staged
returns-then-is_empty-2-clause-staged c = IsStagedFor-nothing _ _ c.nothing.ensures

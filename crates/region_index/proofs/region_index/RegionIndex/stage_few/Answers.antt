-- The codes that the changes name got places.
use Rattle.region_index.proofs.Changing.{IsStagedFor-made}
use Rattle.region_index.proofs.region_index.RegionIndex.stage_few.Goals as goal

pub returns-clause-staged : goal.returns-clause-staged
returns-clause-staged c =
    IsStagedFor-made _ _ _ _ _ _ _ _ _ c.self.view_is c.as_slice.ensures.value c.as_slice-2.ensures.value c.in_ok-stage.ensures c.codes_of_two-codes.ensures.ascending c.codes_of_two-codes.ensures.named c.in_ok-reserve.ensures.ok

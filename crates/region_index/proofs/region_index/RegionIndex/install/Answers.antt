-- The ids ascend as they did, and what is set are ids.
use Rattle.std.proofs.Common.{subst, ap}
use Rattle.region_index.specs.Changes.{IsStaging}
use Rattle.region_index.proofs.Changing.{HavePlacesForIds-installed, IsContent-installed}
use Rattle.region_index.proofs.region_index.RegionIndex.install.Goals as goal

pub invariant_of-self : goal.invariant_of-self
invariant_of-self c =
    IsContent-installed _ _ _ _ _ c.self.view_is (ap (λ stage. stage.entries) c.stage.view_is) c.self.invariant (subst IsStaging c.stage.view_is c.stage.invariant) c.requires c.put_all.ensures

pub returns-clause-places : goal.returns-clause-places
returns-clause-places c =
    HavePlacesForIds-installed _ _ _ _ (ap (λ stage. stage.entries) c.stage.view_is) (subst IsStaging c.stage.view_is c.stage.invariant) c.put_all.ensures

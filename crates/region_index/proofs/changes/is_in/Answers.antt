-- A binary search finds an id that is there.
use Rattle.std.proofs.Common.{◌∙◌}
use Rattle.region_index.proofs.Ascent.{is_among-searched}
use Rattle.region_index.proofs.changes.is_in.Goals as goal

pub returns : goal.returns
returns c = c.is_ok.ensures.value ∙ is_among-searched _ _ _ c.requires c.binary_search.ensures.bound c.binary_search.ensures.position

use Rattle.fact_groups.proofs.Refreshing.{among-refreshed, ascends-refreshed}
use Rattle.fact_groups.proofs.laws.edits_refresh_what_covers_reweighed_cells.Goals as goal

pub returns : goal.returns
returns c = record { members = among-refreshed; ascending = ascends-refreshed }

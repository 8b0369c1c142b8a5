use Rattle.fact_groups.proofs.Respreading.{among-respread, edited-refreshed, imprecise-refreshed, others-refreshed}
use Rattle.fact_groups.proofs.laws.edits_refresh_the_groups_that_are_respread.Goals as goal

pub returns : goal.returns
returns c = record {
  edited = edited-refreshed;
  others = λ policy columns dims edit facts codes up. others-refreshed policy dims edit facts up columns codes;
  imprecise = λ policy columns dims edit facts codes up. imprecise-refreshed policy dims edit facts up columns codes;
  ids = λ policy columns dims edit facts codes up. among-respread policy dims edit facts up columns codes;
}

use Rattle.view_store.proofs.CutListing.{entries-regions, listed-in_order}
use Rattle.view_store.proofs.laws.views_list_in_the_order_of_their_cuts.Goals as goal

-- each is a lemma
pub returns : goal.returns
returns c = record {
  order = λ dims facts view trees over of each. listed-in_order dims facts view of trees over each;
  regions = λ terms_of dims depths trees deep. entries-regions terms_of dims depths trees deep;
}

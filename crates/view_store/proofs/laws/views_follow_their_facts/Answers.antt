use Rattle.view_store.proofs.OfFacts.{view-after, view-of_none}
use Rattle.view_store.proofs.laws.views_follow_their_facts.Goals as goal

-- each is a lemma
pub returns : goal.returns
returns c = record { none = view-of_none; kept = view-after }

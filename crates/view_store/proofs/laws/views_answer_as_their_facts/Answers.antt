use Rattle.view_store.proofs.Answering.{answer-of_facts}
use Rattle.view_store.proofs.laws.views_answer_as_their_facts.Goals as goal

-- by the lemma
pub returns : goal.returns
returns c = λ dims facts view region trees of named served. answer-of_facts dims facts view region of trees named served

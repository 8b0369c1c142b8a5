use Rattle.feed_law.proofs.Feeds.{follows-none, makes-sound, makes-store, stays-canonical}
use Rattle.feed_law.proofs.laws.a_feed_makes_its_leaders_store.Goals as goal

pub returns : goal.returns
returns c = record {
  follows = λ schema content lines n tells few. follows-none schema content tells lines n few;
  makes = λ schema content lines n tells few. makes-store schema content tells lines n few;
  sound = λ schema content lines n tells few. makes-sound schema content tells lines n few;
  same = λ schema content lines tells text. stays-canonical schema content tells lines text;
}

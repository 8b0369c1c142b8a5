use Rattle.feed_law.proofs.Feeds.{follows-some, makes-there, same-there}
use Rattle.feed_law.proofs.laws.a_feed_goes_on_over_its_base.Goals as goal

pub returns : goal.returns
returns c = record {
  follows = λ schema content there lines n tells other told few. follows-some schema content tells there other told lines n few;
  makes = λ schema content there lines n tells other told few. makes-there schema content tells there other told lines n few;
  same = λ schema content there lines tells other told. same-there schema content tells there other told lines;
}

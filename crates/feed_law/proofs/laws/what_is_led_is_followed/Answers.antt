use Rattle.feed_law.proofs.Runs.{followed-none, followed-some, has-led, unended}
use Rattle.feed_law.proofs.laws.what_is_led_is_followed.Goals as goal

pub returns : goal.returns
returns c = record {
  leads = has-led;
  begins = λ schema content lines n text seen end tells few same holds reads says. followed-none schema content tells lines n few text same seen end holds reads says;
  goes_on = λ schema content there lines n text seen end tells other told few same holds reads says. followed-some schema content tells lines n few text same seen end there other told holds reads says;
  unended = unended;
}

use Rattle.feed_run.proofs.LeadTexts.{texts-front}
use Rattle.feed_run.proofs.lead_laws.lines_are_told_as_their_fronts_are.Goals as goal

pub returns : goal.returns
returns c = texts-front

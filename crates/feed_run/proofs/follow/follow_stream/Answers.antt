use Rattle.feed_run.proofs.follow.follow_stream.Goals as goal

pub follow_feed-followed-requires-clause-fresh : goal.follow_feed-followed-requires-clause-fresh
follow_feed-followed-requires-clause-fresh g c = rw c.new-feed.ensures.input c.requires.fresh

pub returns-clause-ends : goal.returns-clause-ends
returns-clause-ends g c = c.follow_feed-followed.ensures.ends.ends

pub returns-clause-ended : goal.returns-clause-ended
returns-clause-ended g c = c.follow_feed-followed.ensures.ends.once

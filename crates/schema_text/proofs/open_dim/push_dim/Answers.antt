-- Nodes that were accepted one by one are a dimension where their numbers are right.
use Rattle.schema_text.proofs.NodesMore.{IsCause-numbers, is_numbered-accepted}
use Rattle.schema_text.proofs.open_dim.push_dim.Goals as goal

pub returns-in_ok-push-in-Ok-clause-accepted : goal.returns-in_ok-push-in-Ok-clause-accepted
returns-in_ok-push-in-Ok-clause-accepted c = is_numbered-accepted c.args.nodes.now c.requires.nodes c.requires.some c.in-Ok.ensures.accepted

pub returns-in-Err-clause-refused : goal.returns-in-Err-clause-refused
returns-in-Err-clause-refused c = rw c.of_numbers.ensures (IsCause-numbers c.args.nodes.now c.requires.nodes c.requires.some c.in-Err.fault c.in-Err.ensures.refused)

-- The key gets its place by the insertion, and its note before.
use Rattle.std.proofs.Common.{None, ◌∙◌}
use Rattle.staged_map.proofs.Changes.{Reserves-added}
use Rattle.staged_map.proofs.Noting.{AreNoted-added}
use Rattle.staged_map.proofs.staged.Staged.add_place.Goals as goal

pub returns-clause-ok : goal.returns-clause-ok
returns-clause-ok g c = Reserves-added c.args.self.now c.self.inside.places.entries c.insert_full.new.self.entries c.args.key (c.self.view_is ∙ c.widen_hints.ensures) c.requires c.in_ok-insert_full.ensures.updates.0

pub invariant_of-self-2 : goal.invariant_of-self-2
invariant_of-self-2 g c = AreNoted-added c.self.inside.hints c.note.new.self c.self.inside.places.entries c.insert_full.new.self.entries c.args.key None c.in_ok-insert_full.ensures.updates.0 c.note.ensures.keeps c.note.ensures.noted c.self.invariant

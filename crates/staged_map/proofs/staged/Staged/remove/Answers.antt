-- The keys that are left are noted as before.
use Rattle.staged_map.proofs.Noting.{AreNoted-kept, AreNoted-removed}
use Rattle.staged_map.proofs.staged.Staged.remove.Goals as goal

pub invariant_of-self-in-Some : goal.invariant_of-self-in-Some
invariant_of-self-in-Some g c =
    let left = AreNoted-removed c.self.inside.hints c.self.inside.places.entries c.swap_remove_full.new.self.entries c.args.key c.in_ok-i.ensures.updates.0 c.self.invariant in
    AreNoted-kept c.self.inside.hints c.note.new.self c.swap_remove_full.new.self.entries c.note.ensures.keeps left

pub invariant_of-self-in_default : goal.invariant_of-self-in_default
invariant_of-self-in_default g c = AreNoted-removed c.self.inside.hints c.self.inside.places.entries c.swap_remove_full.new.self.entries c.args.key c.in_ok-i.ensures.updates.0 c.self.invariant

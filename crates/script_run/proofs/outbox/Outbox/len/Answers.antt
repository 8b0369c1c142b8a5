use Rattle.std.proofs.Common.{length, ap, arith}
use Rattle.script_run.proofs.ReplyEnds.{length_cut}
use Rattle.script_run.proofs.outbox.Outbox.len.Goals as goal

pub returns : goal.returns
returns c =
    let inside = c.self.inside in
    omega (arith, c.len.ensures, length_cut inside.ends.items inside.text.items c.self.invariant, ap length c.self.view_is)

use Rattle.std.proofs.Common.{◌≡◌, ◌∙◌, length, ap, arith}
use Rattle.std.specs.List.{concat}
use Rattle.std.proofs.lemmas.Bool.{leb-false}
use Rattle.script_run.proofs.ReplyEnds.{length_cut}
use Rattle.script_run.proofs.outbox.Outbox.is_full.Goals as goal

pub returns-else-len-ge-GATHERED : goal.returns-else-len-ge-GATHERED
returns-else-len-ge-GATHERED c = λ few.
    let inside = c.self.inside in
    let text : length inside.text.items ≡ length (concat c.args.self.now) = ap length c.self.invariant.text_is ∙ ap (λ l. length (concat l)) c.self.view_is in
    let lines : length inside.ends.items ≡ length c.args.self.now = length_cut inside.ends.items inside.text.items c.self.invariant ∙ ap length c.self.view_is in
    record {
      bytes = omega (arith, text, c.len.ensures);
      lines = omega (arith, lines, leb-false 4096 c.len-else-len-ge-GATHERED.result few, c.len-else-len-ge-GATHERED.ensures);
    }

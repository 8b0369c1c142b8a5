use Rattle.std.proofs.Common.{◌≡◌, ◌<◌, length, take, ap, ◌∙◌, subst}
use Rattle.std.specs.List.{concat}
use Rattle.std.specs.Io.KnownBytes.{Appends}
use Rattle.script_run.proofs.ReplyEnds.{whole-lt}
use Rattle.script_run.proofs.Writing.{wrote_part}
use Rattle.script_run.proofs.outbox.Outbox.send.Goals as goal

pub returns-in-Err-clause-within : goal.returns-in-Err-clause-within
returns-in-Err-clause-within g c =
    let texts = c.args.self.now in
    let all : c.deref.result.now ≡ concat texts = c.deref.ensures.value ∙ c.self.invariant.text_is ∙ ap concat c.self.view_is in
    whole-lt texts c.write_from.new.sent c.whole.result (subst (λ t. c.write_from.new.sent < length t) all c.in-Err.ensures.err) c.whole.ensures

pub returns-in-Err-clause-cut : goal.returns-in-Err-clause-cut
returns-in-Err-clause-cut g c =
    let texts = c.args.self.now in
    let p = c.write_from.new.sent in
    let before = (g.K.Sink.tells c.args.out.now).taken in
    let after = (g.K.Sink.tells c.write_from.new.out).taken in
    let all : c.deref.result.now ≡ concat texts = c.deref.ensures.value ∙ c.self.invariant.text_is ∙ ap concat c.self.view_is in
    wrote_part texts before after p c.whole.result (subst (λ t. p < length t) all c.in-Err.ensures.err) (subst (λ t. Appends before after (take p t)) all c.in-Err.ensures.bytes) c.whole.ensures

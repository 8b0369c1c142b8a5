-- The replies are gathered, and with that to the line sent where they are enough.
use Rattle.std.proofs.Common.{◌≡◌, ◌++◌, ◌∷◌, [], refl, sym, ap, ◌∙◌, subst, rules, arith, length-append}
use Rattle.schema_text.specs.Schema.{SchemaValue}
use Rattle.script_run.specs.Run.{text_of}
use Rattle.script_run.specs.Progress.{HasGathered}
use Rattle.script_run.proofs.Doing.{on_ok_both}
use Rattle.script_run.proofs.Writing.{all_taken, gathered-push}
use Rattle.script_run.proofs.script_run.ScriptRun.answer.Goals as goal

pub returns-then-is_full-clause-gathered : goal.returns-then-is_full-clause-gathered
returns-then-is_full-clause-gathered g c = λ replies start has.
    let taken = (g.K.Sink.tells c.args.out.now).taken in
    let old = c.args.self.now in
    let text = text_of old.cube.schema.dims c.args.reply.now in
    let kept : c.gather.new.self ≡ c.self.inside.outbox ++ text_of c.schema.result.now.dims c.args.reply.now ∷ [] = search rules in
    let more = kept ∙ ap (λ (s : SchemaValue). c.self.inside.outbox ++ text_of s.dims c.args.reply.now ∷ []) c.schema.ensures ∙ ap (λ w. w.gathered ++ text_of w.cube.schema.dims c.args.reply.now ∷ []) c.self.view_is in
    let with_line = subst (HasGathered (replies ++ text ∷ []) start taken) (sym more) (gathered-push replies old.gathered text start taken has) in
    on_ok_both c.send.result (λ bytes empty. all_taken (replies ++ text ∷ []) c.send.new.self.gathered start (g.K.Sink.tells c.send.new.out).taken (ap (λ w. w.gathered) empty) bytes)
    (c.send.ensures.all (replies ++ text ∷ []) start with_line) c.send.ensures.empty

pub returns-then-is_full-clause-broken : goal.returns-then-is_full-clause-broken
returns-then-is_full-clause-broken g c = λ replies start has count.
    let taken = (g.K.Sink.tells c.args.out.now).taken in
    let old = c.args.self.now in
    let text = text_of old.cube.schema.dims c.args.reply.now in
    let kept : c.gather.new.self ≡ c.self.inside.outbox ++ text_of c.schema.result.now.dims c.args.reply.now ∷ [] = search rules in
    let more = kept ∙ ap (λ (s : SchemaValue). c.self.inside.outbox ++ text_of s.dims c.args.reply.now ∷ []) c.schema.ensures ∙ ap (λ w. w.gathered ++ text_of w.cube.schema.dims c.args.reply.now ∷ []) c.self.view_is in
    let with_line = subst (HasGathered (replies ++ text ∷ []) start taken) (sym more) (gathered-push replies old.gathered text start taken has) in
    c.send.ensures.broken (replies ++ text ∷ []) start with_line (omega (arith, count, ap (λ w. w.done) c.self.view_is, length-append replies (text ∷ [])))

pub returns-clause-gathered : goal.returns-clause-gathered
returns-clause-gathered g c = λ replies start has.
    let taken = (g.K.Sink.tells c.args.out.now).taken in
    let old = c.args.self.now in
    let text = text_of old.cube.schema.dims c.args.reply.now in
    let kept : c.gather.new.self ≡ c.self.inside.outbox ++ text_of c.schema.result.now.dims c.args.reply.now ∷ [] = search rules in
    let more = kept ∙ ap (λ (s : SchemaValue). c.self.inside.outbox ++ text_of s.dims c.args.reply.now ∷ []) c.schema.ensures ∙ ap (λ w. w.gathered ++ text_of w.cube.schema.dims c.args.reply.now ∷ []) c.self.view_is in
    subst (HasGathered (replies ++ text ∷ []) start taken) (sym more) (gathered-push replies old.gathered text start taken has)

pub returns-then-is_err-clause-broken : goal.returns-then-is_err-clause-broken
returns-then-is_err-clause-broken g c = λ replies start has count.
    let text = text_of c.args.self.now.cube.schema.dims c.args.reply.now in
    let same : c.gather.new.self ≡ c.self.inside.outbox = search rules in
    let here = subst (HasGathered replies start (g.K.Sink.tells c.args.out.now).taken) (sym (same ∙ ap (λ w. w.gathered) c.self.view_is)) has in
    c.give_up.ensures.broken replies (text ∷ []) start here (ap (λ w. w.done) c.self.view_is ∙ count) (omega arith) refl

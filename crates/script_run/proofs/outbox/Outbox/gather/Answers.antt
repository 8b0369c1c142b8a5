use Rattle.std.proofs.Common.{◌≡◌, ◌++◌, ◌∷◌, [], length, ap, ◌∙◌, rules}
use Rattle.script_run.specs.Run.{text_of}
use Rattle.script_run.proofs.ReplyEnds.{cut-push, is_cut-push}
use Rattle.script_run.proofs.outbox.Outbox.gather.Goals as goal

pub invariant_of-self-2 : goal.invariant_of-self-2
invariant_of-self-2 c =
    let inside = c.self.inside in
    let more : c.append_some.new.text.items ≡ inside.text.items ++ text_of c.args.schema.now.dims c.args.reply.now = search rules in
    let ends : c.push_reserved.new.self.items ≡ inside.ends.items ++ length c.append_some.new.text.items ∷ [] = search rules in
    is_cut-push inside.ends.items inside.text.items c.push_reserved.new.self.items c.append_some.new.text.items _ c.self.invariant more ends

pub returns-clause-gathered : goal.returns-clause-gathered
returns-clause-gathered c =
    let inside = c.self.inside in
    let text = text_of c.args.schema.now.dims c.args.reply.now in
    let more : c.append_some.new.text.items ≡ inside.text.items ++ text = search rules in
    let ends : c.push_reserved.new.self.items ≡ inside.ends.items ++ length c.append_some.new.text.items ∷ [] = search rules in
    cut-push inside.ends.items inside.text.items c.push_reserved.new.self.items c.append_some.new.text.items text c.self.invariant more ends ∙ ap (λ l. l ++ text ∷ []) c.self.view_is

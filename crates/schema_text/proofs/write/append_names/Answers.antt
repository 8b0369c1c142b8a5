-- A name more.
use Rattle.std.proofs.Common.{◌≡◌, ◌<◌, ◌+◌, ◌∷◌, ◌++◌, ◌∙◌, ap, get_or, length, subst, sym, take}
use Rattle.std.specs.List.{flat_map}
use Rattle.schema_text.proofs.Writing.{appended, texts-next}
use Rattle.schema_text.proofs.write.append_names.Goals as goal

pub loop-name-preserved : goal.loop-name-preserved
loop-name-preserved c =
    let i = c.loop-name.name-index in
    let name = c.name-item.result in
    let within = subst (λ names. i < length names) c.as_slice-name-items.ensures c.loop-name-test.true in
    let at = subst (λ names. get_or names i name ≡ name) c.as_slice-name-items.ensures (sym c.name-item.is) in
    let added = c.in_ok-append_field.ensures ∙ ap (λ bytes. c.loop-name.out.items ++ 9 ∷ bytes) (c.as_bytes.ensures.value ∙ c.text.ensures.same) in
    appended c.args.out.now.items c.loop-name.out.items c.append_field.new.out.items (flat_map (λ name. 9 ∷ name) (take i c.args.names.now)) (9 ∷ name) (flat_map (λ name. 9 ∷ name) (take (i + 1) c.args.names.now)) c.loop-name.invariant added (texts-next (λ name. 9 ∷ name) c.args.names.now i name within at)

-- The version, the schema, the facts and the last line are the base.
use Rattle.std.proofs.Common.{◌++◌, ◌∙◌, List, ℕ, ap}
use Rattle.row_feed.proofs.Appended.{base-appended}
use Rattle.row_feed.proofs.base.write_base.Goals as goal

pub returns : goal.returns
returns c =
    let of_schema = c.as_slice-2.ensures ∙ c.in_ok-write_schema.ensures.text in
    c.from.ensures
    ∙ base-appended c.args.schema.now c.args.facts.now.facts c.new-text.result.items c.extend_from_slice.new.self.items c.extend_from_slice-2.new.self.items c.append_facts.new.text.items c.extend_from_slice-3.new.self.items
    c.new-text.ensures.items c.in_ok-extend_from_slice.ensures.items (c.in_ok-extend_from_slice-2.ensures.items ∙ ap (λ (t : List ℕ). c.extend_from_slice.new.self.items ++ t) of_schema) c.in_ok-append_facts.ensures
    c.in_ok-extend_from_slice-3.ensures.items

-- The fields of the line, one after the other.
use Rattle.std.proofs.Common.{◌∷◌, ◌++◌, ◌∙◌, ap}
use Rattle.std.specs.List.{flat_map}
use Rattle.std.specs.Prelude.{codes}
use Rattle.drill_run.specs.Summary.{count_fields, terms_of, total_fields}
use Rattle.drill_run.proofs.Texting.{line-appended}
use Rattle.drill_run.proofs.summary.summary.Goals as goal

pub returns : goal.returns
returns c =
    line-appended (codes "drill") (count_fields c.args.n c.args.drill.now) (total_fields (terms_of c.args.drill.now.facts)) _ _ _ _
    (c.in_ok-extend_from_slice.ensures.items ∙ ap (λ xs. xs ++ codes "drill") c.new-text.ensures.items)
    c.in_ok-append_counts.ensures
    (c.in_ok-append_total.ensures ∙ ap (λ terms. c.append_counts.new.text.items ++ flat_map (λ f. 9 ∷ f) (total_fields terms)) c.in_ok-terms.ensures.terms)
    (c.from.ensures ∙ c.in_ok-push.ensures.items)

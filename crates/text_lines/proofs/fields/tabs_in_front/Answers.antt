use Rattle.std.proofs.Common.{eqb, ap, map, take, ◌∙◌, arith}
use Rattle.std.proofs.lemmas.List.{take_min}
use lib.Lanes.{mask_l}
use Rattle.text_lines.specs.FieldsLeft.{MARKED}
use Rattle.text_lines.proofs.fields.tabs_in_front.Goals as goal

pub returns : goal.returns
returns c =
    c.marks_in.ensures
    ∙ ap (λ l. mask_l (map (λ b. eqb b 9) l)) (ap (λ n. take n c.args.line.now) (omega (arith, c.min.ensures)) ∙ take_min MARKED c.args.line.now)

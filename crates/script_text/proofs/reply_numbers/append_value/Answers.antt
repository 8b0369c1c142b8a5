-- The two bounds and the fraction, one behind the other.
use Rattle.std.proofs.Common.{◌++◌, ◌∷◌, ◌∙◌, ap, rules}
use Rattle.std.specs.Int.{w128}
use Rattle.std.proofs.lemmas.Int.{to_z-of_z}
use Rattle.std.proofs.lemmas.Result.{on_ok_weaker}
use Rattle.script_text.specs.Decimals.{exact_text, units_text}
use Rattle.script_text.proofs.Appending.{fields_text-three}
use Rattle.script_text.proofs.reply_numbers.append_value.Goals as goal

pub returns-clause-ok : goal.returns-clause-ok
returns-clause-ok c =
    let value = c.args.value.now in
    let lo = c.in_ok-append_units.ensures.ok ∙ ap (λ z. c.args.text.now.items ++ 9 ∷ units_text z) (to_z-of_z w128 value.lo (search rules)) in
    let hi = c.in_ok-append_units-2.ensures.ok ∙ ap (λ z. c.append_units.new.text.items ++ 9 ∷ units_text z) (to_z-of_z w128 value.hi (search rules)) in
    on_ok_weaker c.append_exact.result (λ exact. fields_text-three (units_text value.lo) (units_text value.hi) (exact_text value.exact) _ _ _ _ lo hi exact) c.append_exact.ensures.ok

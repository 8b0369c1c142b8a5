-- All codes are appended.
use Rattle.std.proofs.Common.{◌+◌, ◌++◌, ◌∙◌, ap, map}
use Rattle.std.proofs.lemmas.List.{take_all}
use Rattle.region_index.proofs.touching.push_codes.Goals as goal

pub returns : goal.returns
returns c =
    c.loop-code.invariant ∙ ap (λ codes. c.args.next.now.items ++ map (λ code. c.args.first + code) codes) (take_all c.loop-code.code-index c.args.codes.now c.loop-code-test.false)

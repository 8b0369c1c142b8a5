use Rattle.std.proofs.Common.{◌≡◌, arith, sym, ◌∙◌}
use Rattle.std.proofs.lemmas.Grind.{common_steps}
use Rattle.cube_base.specs.Name.{has_name_bytes}
use Rattle.cube_base.proofs.Names.{is_name-text}
use Rattle.cube_base.proofs.name.is_name.Goals as goal

pub returns-then-bytes-le-MAX_NAME_LEN-clause-name : goal.returns-then-bytes-le-MAX_NAME_LEN-clause-name
returns-then-bytes-le-MAX_NAME_LEN-clause-name c =
    let bytes : c.are_name_bytes.result ≡ has_name_bytes c.args.text.now = grind (arith, common_steps) in
    bytes ∙ sym (is_name-text c.args.text.now c.utf8.text)

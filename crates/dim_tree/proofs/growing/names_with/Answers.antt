use Rattle.std.proofs.Common.{◌≡◌, ◌≤◌, false, [], ◌∷◌, ◌++◌, if◌then◌else◌, sym, ap, ◌∙◌, map, string_bytes, insert, length, arith}
use Rattle.std.specs.List.{list_any, position_or_len}
use Rattle.std.specs.Str.{bytes_eq}
use Rattle.std.proofs.lemmas.List.{length-map}
use Rattle.indexmap.specs.IndexMap.{move_index}
use Rattle.dim_tree.proofs.Judging.{list_any-names}
use Rattle.dim_tree.proofs.NewKey.{key_put, name_put}
use Rattle.dim_tree.proofs.Outlines.{names-copied}
use Rattle.dim_tree.proofs.growing.names_with.Goals as goal

pub returns-clause-added : goal.returns-clause-added
returns-clause-added c =
    let keys = c.in_ok-more.more.keys in
    let text = c.in_ok-text.text in
    let copied : map string_bytes keys ≡ map string_bytes c.args.names.now.keys = names-copied _ _ c.in_ok-more.ensures.cases in
    let bytes : string_bytes text ≡ c.args.name.now = grind arith in
    let absent : list_any (λ key. bytes_eq (string_bytes text) (string_bytes key)) keys ≡ false = sym (list_any-names (string_bytes text) keys) ∙ ap (λ ns. list_any (λ earlier. bytes_eq earlier (string_bytes text)) ns) copied ∙ ap (λ n. list_any (λ earlier. bytes_eq earlier n) (map string_bytes c.args.names.now.keys)) bytes ∙ c.requires.new in
    let within : c.args.place ≤ length keys = omega (arith, c.requires.within, length-map keys string_bytes, length-map c.args.names.now.keys string_bytes, ap length copied) in
    let put : c.insert_before.new.self.keys ≡ insert keys c.args.place text = c.in_ok-insert_before.ensures.keys ∙ ap (λ j. move_index (if list_any (λ key. bytes_eq (string_bytes text) (string_bytes key)) keys then keys else keys ++ text ∷ []) (position_or_len (λ key. bytes_eq (string_bytes text) (string_bytes key)) keys) j) c.in_ok-insert_before.ensures.index ∙ key_put (λ key. bytes_eq (string_bytes text) (string_bytes key)) keys text c.args.place absent within in
    ap (map string_bytes) put ∙ name_put keys text c.args.place ∙ ap (λ ns. insert ns c.args.place (string_bytes text)) copied ∙ ap (insert (map string_bytes c.args.names.now.keys) c.args.place) bytes

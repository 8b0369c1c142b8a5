use Rattle.std.proofs.Common.{◌≡◌, ◌∷◌, ◌++◌, map, string_bytes, take}
use Rattle.std.specs.List.{flat_map}
use Rattle.cube_cli.proofs.asking.append_fields.Given as goal

-- the words before this one are appended
abbrev pub invariant-loop-word : goal.invariant-loop-word
invariant-loop-word l = l.line.items ≡ l.fn.line.items ++ flat_map (λ word. 9 ∷ word) (map string_bytes (take l.word-index l.words))

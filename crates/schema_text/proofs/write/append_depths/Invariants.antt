use Rattle.std.proofs.Common.{◌≡◌, ◌∷◌, ◌++◌, map, take}
use Rattle.std.specs.Fmt.{decimal}
use Rattle.std.specs.List.{flat_map}
use Rattle.schema_text.proofs.write.append_depths.Given as goal

-- the depths before this one are appended
abbrev pub invariant-loop-depth : goal.invariant-loop-depth
invariant-loop-depth l = l.out.items ≡ l.initial.out.items ++ flat_map (λ field. 9 ∷ field) (map decimal (take l.depth-index l.depths))

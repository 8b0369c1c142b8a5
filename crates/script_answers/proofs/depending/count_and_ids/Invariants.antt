use Rattle.std.proofs.Common.{◌≡◌, ◌∷◌, length, map, pos, take}
use Rattle.script_answers.proofs.depending.count_and_ids.Given as goal

-- the number of the ids and the ids before this one are told
abbrev pub invariant-loop-id : goal.invariant-loop-id
invariant-loop-id l = l.numbers ≡ pos (length l.ids) ∷ map (λ id. pos id) (take l.id-index l.ids)

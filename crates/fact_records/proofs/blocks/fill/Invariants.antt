use Rattle.std.proofs.Common.{◌≡◌, ◌≤◌, [], All}
use Rattle.std.specs.Vec.{vec_capacity, vec_len}
use Rattle.fact_records.proofs.blocks.fill.Given as goal

-- the blocks are empty, they are as many as were counted, and none was lost
abbrev pub invariant-loop : goal.invariant-loop
invariant-loop l =
    All (λ block. block ≡ []) l.stock.items × (vec_len l.stock ≡ l.counter) × (vec_len l.initial.stock ≤ vec_len l.stock) × (vec_capacity l.initial.stock ≤ vec_capacity l.stock)

-- What a catcher gives of the batches of one line.
use Rattle.std.proofs.Common.{◌≡◌, ◌≤◌, List, [], ◌∷◌, ◌++◌, length, Option, Some, None, sym, ap, ◌∙◌, arith, length-append}
use Rattle.std.specs.Prelude.{IfNone, option_map}
use Rattle.std.specs.Option.{option_to_list}
use Rattle.fact_keeper.specs.declared.content.Batch.{Batch}
use Rattle.script_run.specs.Kept.{Commits}
use Rattle.script_run.specs.Seen.{Told}

-- the one batch, if there is one
pub caught_one : (committed caught rest : List Batch) (given : Option Batch) (before after : Told) → length committed ≤ 1 → before.journal ≡ Some [] → after.journal ≡ Some caught → Commits committed before after
    → caught ≡ rest ++ option_to_list given → IfNone given (caught ≡ []) → option_to_list given ≡ committed
caught_one committed caught rest given before after few none some commits taken empty = by_rest rest given taken empty
  where
    are : caught ≡ committed
    are = let both : Some caught ≡ Some committed = sym some ∙ commits.journal ∙ ap (λ journal. option_map (λ earlier. earlier ++ committed) journal) none in cc both

    by_rest : (rest : List Batch) (given : Option Batch) → caught ≡ rest ++ option_to_list given → IfNone given (caught ≡ []) → option_to_list given ≡ committed
    by_rest rest None taken empty = sym empty ∙ are
    by_rest [] (Some batch) taken empty = sym taken ∙ are
    by_rest (first ∷ rest) (Some batch) taken empty = absurd (omega (arith, few, ap length are, ap length taken, length-append rest (batch ∷ [])))

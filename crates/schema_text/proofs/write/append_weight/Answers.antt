-- The line of the policy, piece by piece.
use Rattle.std.proofs.Common.{◌≡◌, [], ◌∷◌, ◌++◌, ℕ, List, append_assoc}
use Rattle.std.specs.Prelude.{codes}
use Rattle.std.proofs.lemmas.Result.{on_ok_weaker}
use Rattle.schema_text.proofs.write.append_weight.Goals as goal

pieces : (old word first name : List ℕ) → ((old ++ word ++ 9 ∷ first) ++ 9 ∷ name) ++ 10 ∷ [] ≡ old ++ (word ++ ((9 ∷ first) ++ ((9 ∷ name) ++ [])) ++ 10 ∷ [])
pieces old word first name = simp append_assoc

pub returns : goal.returns
returns c = on_ok_weaker c.append_bytes.result (λ (ended : c.append_bytes.new.out.items ≡ c.append_field.new.out.items ++ 10 ∷ []).
    rw (ended, c.in_ok-append_field.ensures, c.as_bytes.ensures.value, c.text.ensures.same, c.in_ok-append_start.ensures) (pieces c.args.out.now.items (codes "policy") (codes "weight") c.args.measure.now.name)) c.append_bytes.ensures

-- The outcomes of a distribution, read one after another.
use Rattle.std.proofs.Common.{◌≡◌, ℕ, ◌+◌, ◌<◌, ◌≤◌, true, false, List, [], ◌∷◌, ◌++◌, length, drop, refl, sym, ap, ◌∙◌, arith, append_assoc, append-nil}
use Rattle.std.proofs.lemmas.Bool.{or_parts}
use Rattle.std.proofs.lemmas.List.Elements.{All-nil}
use Rattle.cube_base.specs.Name.{is_name}
use Rattle.schema_text.specs.Schema.{AreNames, AreOutcomes}
use Rattle.schema_text.proofs.Drafts.{AreNames-push}
use Rattle.std.proofs.lemmas.List.{drop_all, drop_more}
use Rattle.text_lines.specs.LineText.{field_at}
use Rattle.schema_text.specs.SchemaText.{has_wrong_names, is_wrong_name, outcomes_of}

-- the outcomes in the fields before a place are read, and none of them is wrong
pub record IsReadTo (fields outcomes : List (List ℕ)) (place : ℕ) : Type 0 where
  pub read : outcomes_of fields ≡ outcomes ++ drop place fields
  pub right : has_wrong_names [] (outcomes_of fields) ≡ has_wrong_names outcomes (drop place fields)

pub IsReadTo-start : (fields : List (List ℕ)) → IsReadTo fields [] 3
IsReadTo-start fields = record { read = refl; right = refl }

module _ (fields outcomes : List (List ℕ)) (place : ℕ) (is : IsReadTo fields outcomes place) (within : place < length fields) where
  next : drop place fields ≡ field_at fields place ∷ drop (place + 1) fields
  next = drop_more fields place [] within

  -- the next is wrong
  pub wrong-next : is_wrong_name (field_at fields place) outcomes ≡ true → has_wrong_names [] (outcomes_of fields) ≡ true
  wrong-next wrong = is.right ∙ ap (has_wrong_names outcomes) next ∙ rw wrong refl

  -- it is right, and read too
  pub IsReadTo-more : is_wrong_name (field_at fields place) outcomes ≡ false → IsReadTo fields (outcomes ++ field_at fields place ∷ []) (place + 1)
  IsReadTo-more right = record {
    read = is.read ∙ ap (λ l. outcomes ++ l) next ∙ sym (append_assoc outcomes (field_at fields place ∷ []) (drop (place + 1) fields));
    right = is.right ∙ ap (has_wrong_names outcomes) next ∙ rw right refl;
  }

-- all are read
pub IsReadTo-end : (fields outcomes : List (List ℕ)) (place : ℕ) → IsReadTo fields outcomes place → length fields ≤ place → (has_wrong_names [] (outcomes_of fields) ≡ false) × (outcomes_of fields ≡ outcomes)
IsReadTo-end fields outcomes place is all =
    let none : drop place fields ≡ [] = drop_all place fields all in
    (is.right ∙ ap (has_wrong_names outcomes) none, is.read ∙ ap (λ l. outcomes ++ l) none ∙ append-nil outcomes)

-- names of which none is wrong are distinct names
AreNames-more : (taken names : List (List ℕ)) → AreNames taken → has_wrong_names taken names ≡ false → AreNames (taken ++ names)
AreNames-more taken [] are right = rw (append-nil taken) are
AreNames-more taken (name ∷ names) are right =
    let parts = or_parts (is_wrong_name name taken) (has_wrong_names (taken ++ name ∷ []) names) right in
    rw (← append_assoc taken (name ∷ []) names) (AreNames-more (taken ++ name ∷ []) names (AreNames-push taken name are parts.0) parts.1)

AreNames-none : AreNames []
AreNames-none = record { each = All-nil (λ n. is_name n ≡ true); distinct = λ i j d before within. absurd (omega arith) }

-- so they are the outcomes of a distribution, where they are two or more
pub AreOutcomes-names : (outcomes : List (List ℕ)) → 2 ≤ length outcomes → has_wrong_names [] outcomes ≡ false → AreOutcomes outcomes
AreOutcomes-names outcomes some right = record { some = some; names = AreNames-more [] outcomes AreNames-none right }

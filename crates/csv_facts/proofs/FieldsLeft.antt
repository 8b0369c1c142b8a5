-- The fields of a record, one after the other.
use Rattle.std.proofs.Common.{◌≡◌, ℕ, ◌<◌, ◌≤◌, List, [], ◌∷◌, ◌++◌, length, drop, get_or, Option, Some, None, refl, sym, ap, subst, ◌∙◌, arith, Bor}
use Rattle.std.specs.Prelude.{IsSome, option_map}
use Rattle.std.proofs.lemmas.List.{append-nil, append_assoc, length-drop}
use Rattle.csv.specs.Records.{Row, field_at, fields_of, partial_of}
use Rattle.csv.proofs.RecordFacts.{field-get, field-there}
use Rattle.csv_facts.specs.RecordList.{IsLonger, IsRecordRow}

-- a field that is there
pub field-some : (fields : List (List ℕ)) (i : ℕ) (found : Option (Bor (List ℕ))) → option_map (λ f. f.now) found ≡ field_at fields i → i < length fields → IsSome found
field-some fields i None e within = absurd (field-there fields i within (sym e))
field-some fields i (Some f) e within = refl

pub field-is : (fields : List (List ℕ)) (i : ℕ) (found : Option (Bor (List ℕ))) (f : Bor (List ℕ)) → option_map (λ f. f.now) found ≡ field_at fields i → found ≡ Some f → f.now ≡ get_or fields i []
field-is fields i found f e is = sym (field-get fields i f.now (sym e ∙ ap (option_map (λ f. f.now)) is))

-- a field behind those of a row
pub IsLonger-start : (row : Row) → partial_of row ≡ [] → IsLonger row [] row
IsLonger-start row whole = record { fields_are = sym (append-nil (fields_of row)); whole = whole }

IsLonger-next : (before row after : Row) (fields : List (List ℕ)) (field : List ℕ) → IsLonger before fields row
    → fields_of after ≡ fields_of row ++ ((partial_of row ++ field) ∷ []) → partial_of after ≡ [] → IsLonger before (fields ++ field ∷ []) after
IsLonger-next before row after fields field longer added whole = record {
  fields_are =
      added ∙ ap (λ p. fields_of row ++ ((p ++ field) ∷ [])) longer.whole ∙ ap (λ l. l ++ (field ∷ [])) longer.fields_are
      ∙ append_assoc (fields_of before) fields (field ∷ []);
  whole = whole;
}

-- and the same where the field and the fields are said in other words
pub IsLonger-more : (before row after : Row) (fields more : List (List ℕ)) (field name : List ℕ) → IsLonger before fields row
    → fields_of after ≡ fields_of row ++ ((partial_of row ++ field) ∷ []) → partial_of after ≡ [] → field ≡ name → more ≡ fields ++ name ∷ [] → IsLonger before more after
IsLonger-more before row after fields more field name longer added whole is same =
    subst (λ l. IsLonger before l after) (sym same) (IsLonger-next before row after fields name longer (added ∙ ap (λ f. fields_of row ++ ((partial_of row ++ f) ∷ [])) is) whole)

-- a row of fields, and those behind them
pub IsRecordRow-none : (row : Row) → fields_of row ≡ [] → partial_of row ≡ [] → IsRecordRow [] row
IsRecordRow-none row none whole = record { fields_are = none; whole = whole }

pub IsRecordRow-longer : (row after : Row) (fields more : List (List ℕ)) → IsRecordRow fields row → IsLonger row more after → IsRecordRow (fields ++ more) after
IsRecordRow-longer row after fields more is longer = record { fields_are = longer.fields_are ∙ ap (λ l. l ++ more) is.fields_are; whole = longer.whole }

-- one field alone behind those of a row
pub IsLonger-one : (row after : Row) (field name : List ℕ) → partial_of row ≡ [] → fields_of after ≡ fields_of row ++ ((partial_of row ++ field) ∷ []) → partial_of after ≡ [] → field ≡ name
    → IsLonger row (name ∷ []) after
IsLonger-one row after field name row_whole added whole is = IsLonger-more row row after [] (name ∷ []) field name (IsLonger-start row row_whole) added whole is refl

-- a field that is left stands at the place of the first
pub field-left : (fields : List (List ℕ)) (i : ℕ) (left : List (List ℕ)) → drop i fields ≡ left → 1 ≤ length left → i < length fields
field-left fields i left is some = let many : length (drop i fields) ≡ length left = ap length is in omega (arith, length-drop i fields, many)

-- The fields of a fact, and the values of a measure, appended one after the other.
use Rattle.std.proofs.Common.{◌≡◌, ℕ, zero, suc, ◌+◌, ◌-◌, ◌<◌, ◌≤◌, List, [], ◌∷◌, ◌++◌, length, map, take, drop, get_or, Some, refl, sym, ap, subst, ◌∙◌, arith, append_assoc, ℤ}
use Rattle.std.specs.Prelude.{All, slice_get}
use Rattle.std.specs.Fmt.{decimal, signed_decimal}
use Rattle.std.specs.List.{flat_map}
use Rattle.std.proofs.lemmas.List.{append-nil, get_or-drop, get_or-take, length-drop, length-take-le, take_more}
use Rattle.std.proofs.lemmas.List.Elements.{All-get_or}
use Rattle.std.proofs.lemmas.Option.{get_or_from_slice_get, slice_get_within}
use Rattle.cube_model.specs.declared.edit.Fact.{Fact}
use Rattle.fact_records.specs.declared.shape.Measure.{Measure}
use Rattle.fact_records.specs.Shape.{IsWithin, values_of, width_of}
use Rattle.schema_text.specs.Schema.{SchemaValue}
use Rattle.script_text.specs.Reply.{names_of}
use Rattle.script_text.specs.ReplySteps.{fields_text}
use Rattle.script_text.proofs.Appending.{appended}
use Rattle.fact_fields.specs.FactRow.{record_of, value_fields, value_text}

-- one value more
value_text-next : (values : List ℤ) (value : ℤ) → 1 ≤ length values → value_text (values ++ value ∷ []) ≡ value_text values ++ 58 ∷ signed_decimal value
value_text-next [] value some = absurd (omega arith)
value_text-next (v ∷ values) value some = ap (λ l. signed_decimal v ++ l) (more values) ∙ sym (append_assoc (signed_decimal v) (flat_map (λ w. 58 ∷ signed_decimal w) values) (58 ∷ signed_decimal value))
  where
    more : (vs : List ℤ) → flat_map (λ w. 58 ∷ signed_decimal w) (vs ++ value ∷ []) ≡ flat_map (λ w. 58 ∷ signed_decimal w) vs ++ 58 ∷ signed_decimal value
    more [] = append-nil (58 ∷ signed_decimal value)
    more (w ∷ vs) = ap (λ l. (58 ∷ signed_decimal w) ++ l) (more vs) ∙ sym (append_assoc (58 ∷ signed_decimal w) (flat_map (λ x. 58 ∷ signed_decimal x) vs) (58 ∷ signed_decimal value))

-- the values of a measure among those of a fact
pub length-values_of : (m : Measure) (cols : List ℤ) → IsWithin (length cols) m → length (values_of m cols) ≡ width_of m.kind
length-values_of m cols within = length-take-le (width_of m.kind) (drop (m.first_col - 1) cols) (omega (arith, length-drop (m.first_col - 1) cols, within.first, within.last))

values-next : (m : Measure) (cols : List ℤ) (i k : ℕ) (value : ℤ) → IsWithin (length cols) m → i < width_of m.kind → slice_get cols k ≡ Some value → k + 1 ≡ m.first_col + i
    → take (i + 1) (values_of m cols) ≡ take i (values_of m cols) ++ value ∷ []
values-next m cols i k value within some there place =
    let column : m.first_col - 1 + i ≡ k = omega (arith, within.first, place) in
    let at : get_or (values_of m cols) i value ≡ value =
    get_or-take (width_of m.kind) (drop (m.first_col - 1) cols) i value some ∙ get_or-drop (m.first_col - 1) cols i value ∙ ap (λ n. get_or cols n value) column ∙ get_or_from_slice_get cols k value value there in
    take_more (values_of m cols) i value (omega (arith, some, length-values_of m cols within)) ∙ ap (λ v. take i (values_of m cols) ++ v ∷ []) at

-- and their text
pub text-first : (m : Measure) (cols : List ℤ) (old new : List ℕ) (value : ℤ) (k : ℕ) → IsWithin (length cols) m → 1 ≤ width_of m.kind → slice_get cols k ≡ Some value → k + 1 ≡ m.first_col
    → new ≡ old ++ signed_decimal value → new ≡ old ++ value_text (take 1 (values_of m cols))
text-first m cols old new value k within some there place added =
    added ∙ ap (λ t. old ++ t) (sym (append-nil (signed_decimal value))) ∙ ap (λ values. old ++ value_text values) (sym (values-next m cols 0 k value within (omega (arith, some)) there (omega (arith, place))))

pub text-next : (m : Measure) (cols : List ℤ) (i k : ℕ) (old before colon new : List ℕ) (value : ℤ) → IsWithin (length cols) m → 1 ≤ i → i < width_of m.kind → slice_get cols k ≡ Some value
    → k + 1 ≡ m.first_col + i → before ≡ old ++ value_text (take i (values_of m cols)) → colon ≡ before ++ 58 ∷ [] → new ≡ colon ++ signed_decimal value
    → new ≡ old ++ value_text (take (i + 1) (values_of m cols))
text-next m cols i k old before colon new value within later some there place text added more =
    let values = take i (values_of m cols) in
    let many : length values ≡ i = length-take-le i (values_of m cols) (omega (arith, some, length-values_of m cols within)) in
    more ∙ ap (λ t. t ++ signed_decimal value) (added ∙ ap (λ t. t ++ 58 ∷ []) text)
    ∙ append_assoc (old ++ value_text values) (58 ∷ []) (signed_decimal value)
    ∙ append_assoc old (value_text values) (58 ∷ signed_decimal value)
    ∙ ap (λ t. old ++ t) (sym (value_text-next values value (omega (arith, many, later))))
    ∙ ap (λ vs. old ++ value_text vs) (sym (values-next m cols i k value within some there place))

-- one item more of a list that is taken field by field
pub taken-next : {A : Type 0} (f : A → List ℕ) (xs : List A) (i : ℕ) (x : A) → slice_get xs i ≡ Some x → map f (take (i + 1) xs) ≡ map f (take i xs) ++ f x ∷ []
taken-next f [] i x e = cc
taken-next f (y ∷ xs) zero x e = let same : y ≡ x = cc in rw same refl
taken-next f (y ∷ xs) (suc i) x e =
    let next : suc i + 1 ≡ suc (i + 1) = omega arith in
    rw next (ap (λ l. f y ∷ l) (taken-next f xs i x e))

-- what holds of each item holds of the one at a place
pub All-at : {X : Type 0} (P : X → Type 0) (xs : List X) (i : ℕ) (x : X) → All P xs → slice_get xs i ≡ Some x → P x
All-at P xs i x all at = subst P (get_or_from_slice_get xs i x x at) (All-get_or P xs i x (slice_get_within xs i x at) all)

-- the field of a measure more
pub measures-more : (measures : List Measure) (cols : List ℤ) (i : ℕ) (m : Measure) (old before tab new : List ℕ) → slice_get measures i ≡ Some m → before ≡ old ++ fields_text (value_fields (take i measures) cols)
    → tab ≡ before ++ 9 ∷ [] → new ≡ tab ++ value_text (values_of m cols) → new ≡ old ++ fields_text (value_fields (take (i + 1) measures) cols)
measures-more measures cols i m old before tab new at parts added more =
    let text = value_text (values_of m cols) in
    let field : new ≡ before ++ fields_text (text ∷ []) = more ∙ ap (λ t. t ++ text) added ∙ append_assoc before (9 ∷ []) text ∙ ap (λ t. before ++ t) (sym (append-nil (9 ∷ text))) in
    appended (value_fields (take i measures) cols) (text ∷ []) (value_fields (take (i + 1) measures) cols) old before new parts field (taken-next (λ (n : Measure). value_text (values_of n cols)) measures i m at)

-- the id, the names and the values are the record of a fact
pub fact-appended : (schema : SchemaValue) (fact : Fact) (old first second new : List ℕ) → first ≡ old ++ 9 ∷ decimal fact.id → second ≡ first ++ fields_text (names_of schema.dims fact.region)
    → new ≡ second ++ fields_text (value_fields schema.measures fact.cols) → new ≡ old ++ fields_text (record_of schema fact)
fact-appended schema fact old first second new id names values =
    let front : List (List ℕ) = decimal fact.id ∷ names_of schema.dims fact.region in
    let id_text : first ≡ old ++ fields_text (decimal fact.id ∷ []) = id ∙ ap (λ t. old ++ t) (sym (append-nil (9 ∷ decimal fact.id))) in
    let front_text = appended (decimal fact.id ∷ []) (names_of schema.dims fact.region) front old first second id_text names refl in
    appended front (value_fields schema.measures fact.cols) (record_of schema fact) old second new front_text values refl

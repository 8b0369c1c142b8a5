-- The values that fields give measures, one after another.
use Rattle.std.proofs.Common.{◌≡◌, ℕ, zero, suc, ◌+◌, ◌<◌, ◌≤◌, Bool, true, false, List, [], ◌∷◌, ◌++◌, length, drop, refl, sym, ap, ◌∙◌, arith, append_assoc, append-nil, length-append, length-drop, Option, Some, None, Result, Ok, Err, ℤ, IfSome}
use Rattle.std.specs.Prelude.{◌&&◌, ◌||◌, if◌then◌else◌, is_none, unwrap_or, slice_get, IsSomeAnd}
use Rattle.std.proofs.lemmas.List.{drop_all}
use Rattle.cube_base.specs.declared.code.Code.{Code}
use Rattle.cube_base.specs.declared.code.Code.TheVariants as code
use Rattle.fact_records.specs.declared.shape.Kind.{Kind}
use Rattle.fact_records.specs.declared.shape.Kind.TheVariants.{Number, Parts}
use Rattle.fact_records.specs.declared.shape.Measure.{Measure}
use Rattle.fact_records.specs.Fields.{cols_given, is_number_measure, is_parts_measure, some_wrong, values_given}
use Rattle.fact_records.specs.Shape.{AreInOrder, ShapeValue, width_of}
use Rattle.fact_records.specs.Values.{field_code, values_for}
use Rattle.region_algebra.proofs.Turns.{drop-at}
use Rattle.fact_records.proofs.GivenValues.{values_for-given}

-- what is said of the fields that are left, behind these values
abbrev cols_after : ShapeValue → List ℤ → List Measure → List (List ℕ) → Result (List ℤ) Code
cols_after shape cols measures fields =
    if some_wrong is_number_measure shape measures fields then Err code.Value
    else (if some_wrong is_parts_measure shape measures fields then Err code.Parts else Ok (cols ++ values_given shape measures fields))

-- an item stands at each place within a list
none_within : (measures : List Measure) (i : ℕ) → i < length measures → slice_get measures i ≡ None → ⊥
none_within [] i within at = omega arith
none_within (m ∷ measures) zero within at = cc
none_within (m ∷ measures) (suc i) within at = none_within measures i (omega arith) at

-- the fields before this one are read
pub record ReadsValues (shape : ShapeValue) (fields : List (List ℕ)) (i : ℕ) (left : List (List ℕ)) (cols : List ℤ) : Type 0 where
  pub given : cols_given shape fields ≡ cols_after shape cols (drop i shape.measures) left
  pub count : length left ≡ length (drop i shape.measures)
  pub order : AreInOrder (length cols + 1) (drop i shape.measures)

pub ReadsValues-start : (shape : ShapeValue) (fields : List (List ℕ)) (cols : List ℤ) → length fields ≡ length shape.measures → AreInOrder 1 shape.measures → length cols ≡ 0 → ReadsValues shape fields 0 fields cols
ReadsValues-start shape fields [] count order none = record { given = refl; count = count; order = order }
ReadsValues-start shape fields (c ∷ cols) count order none = absurd (omega arith)

-- the column of a measure follows the values before it
pub ReadsValues-place : (shape : ShapeValue) (fields : List (List ℕ)) (i : ℕ) (left : List (List ℕ)) (cols : List ℤ) → ReadsValues shape fields i left cols → IfSome (slice_get shape.measures i) (λ m. length cols + 1 ≡ m.first_col)
ReadsValues-place shape fields i left cols before = place (slice_get shape.measures i) refl
  where
    place : (found : Option Measure) → slice_get shape.measures i ≡ found → IfSome found (λ m. length cols + 1 ≡ m.first_col)
    place None at = tt
    place (Some m) at = sym (rw (drop-at shape.measures i m at) at before.order).0

-- and there is a field of it
pub ReadsValues-some : (shape : ShapeValue) (fields : List (List ℕ)) (i : ℕ) (left : List (List ℕ)) (cols : List ℤ) → ReadsValues shape fields i left cols → i < length shape.measures → 1 ≤ length left
ReadsValues-some shape fields i left cols before within = omega (arith, before.count, length-drop i shape.measures)

-- a field that gives values is not wrong
is_right : (test : Bool) (found : Option (List ℤ)) (values : List ℤ) → found ≡ Some values → (test && is_none found) ≡ false
is_right true found values e = ap is_none e
is_right false found values e = refl

cols_after-right : (shape : ShapeValue) (cols : List ℤ) (m : Measure) (measures : List Measure) (field : List ℕ) (fields : List (List ℕ)) (values : List ℤ) → values_for shape m field ≡ Some values
    → cols_after shape cols (m ∷ measures) (field ∷ fields) ≡ cols_after shape (cols ++ values) measures fields
cols_after-right shape cols m measures field fields values e =
    let number = is_right (is_number_measure m.kind) (values_for shape m field) values e in
    let parts = is_right (is_parts_measure m.kind) (values_for shape m field) values e in
    let given : unwrap_or (values_for shape m field) [] ≡ values = ap (λ o. unwrap_or o []) e in
    rw (number, parts, given, append_assoc cols values (values_given shape measures fields)) refl

-- one field more is read
pub ReadsValues-next : (shape : ShapeValue) (fields : List (List ℕ)) (i : ℕ) (left : List (List ℕ)) (cols : List ℤ) (field : List ℕ) (more : List (List ℕ)) (new : List ℤ) → ReadsValues shape fields i left cols → left ≡ field ∷ more
    → i < length shape.measures → IfSome (slice_get shape.measures i) (λ m. IsSomeAnd (values_for shape m field) (λ values. new ≡ cols ++ values)) → ReadsValues shape fields (i + 1) more new
ReadsValues-next shape fields i left cols field more new before cut within read = next (slice_get shape.measures i) refl read
  where
    grown : (m : Measure) (values : Option (List ℤ)) → slice_get shape.measures i ≡ Some m → values_for shape m field ≡ values → IsSomeAnd values (λ values. new ≡ cols ++ values) → ReadsValues shape fields (i + 1) more new
    grown m None at given added = absurd added
    grown m (Some values) at given added =
        let here = drop-at shape.measures i m at in
        let width = (values_for-given shape m field values given).many in
        let order = (rw here at before.order).1 in
        let end : length cols + 1 + width_of m.kind ≡ length new + 1 = omega (arith, ap length added, length-append cols values) in
        record {
          given = before.given ∙ rw (here, cut, added) (cols_after-right shape cols m (drop (i + 1) shape.measures) field more values given);
          count = omega (arith, ap length cut, before.count, length-drop i shape.measures, length-drop (i + 1) shape.measures);
          order = rw end at order;
        }

    next : (found : Option Measure) → slice_get shape.measures i ≡ found → IfSome found (λ m. IsSomeAnd (values_for shape m field) (λ values. new ≡ cols ++ values)) → ReadsValues shape fields (i + 1) more new
    next None at read = absurd (none_within shape.measures i within at)
    next (Some m) at read = grown m (values_for shape m field) at refl read

-- all fields are read
pub ReadsValues-all : (shape : ShapeValue) (fields : List (List ℕ)) (i : ℕ) (left : List (List ℕ)) (cols : List ℤ) → ReadsValues shape fields i left cols → length shape.measures ≤ i → Ok cols ≡ cols_given shape fields
ReadsValues-all shape fields i left cols before end =
    let none : length left ≡ 0 = omega (arith, before.count, length-drop i shape.measures) in
    sym (before.given ∙ rw (drop_all i shape.measures end) (ap (λ l. Ok l) (append-nil cols)))

-- a field gives no values: it is wrong by the kind of its measure
by_kind : (kind : Kind) (found : Option (List ℤ)) (later parts : Bool) (cols : List ℤ) → found ≡ None
    → (if is_number_measure kind && is_none found || later then Err code.Value else (if is_parts_measure kind && is_none found || parts then Err code.Parts else Ok cols)) ≡ Err (if later then code.Value else field_code kind)
by_kind Number found true parts cols none = rw none refl
by_kind Number found false parts cols none = rw none refl
by_kind (Parts scale outcomes) found true parts cols none = refl
by_kind (Parts scale outcomes) found false parts cols none = rw none refl

refused-here : (shape : ShapeValue) (cols : List ℤ) (m : Measure) (measures : List Measure) (field : List ℕ) (fields : List (List ℕ)) → values_for shape m field ≡ None
    → cols_after shape cols (m ∷ measures) (field ∷ fields) ≡ Err (if some_wrong is_number_measure shape measures fields then code.Value else field_code m.kind)
refused-here shape cols m measures field fields none =
    by_kind m.kind (values_for shape m field) (some_wrong is_number_measure shape measures fields) (some_wrong is_parts_measure shape measures fields) (cols ++ values_given shape (m ∷ measures) (field ∷ fields)) none

pub ReadsValues-refused : (shape : ShapeValue) (fields : List (List ℕ)) (i : ℕ) (left : List (List ℕ)) (cols : List ℤ) (field : List ℕ) (more : List (List ℕ)) (refusal : Code) (later : Bool) → ReadsValues shape fields i left cols → left ≡ field ∷ more
    → i < length shape.measures → IfSome (slice_get shape.measures i) (λ m. (values_for shape m field ≡ None) × (refusal ≡ field_code m.kind)) → later ≡ some_wrong is_number_measure shape (drop (i + 1) shape.measures) more
    → Err (if later then code.Value else refusal) ≡ cols_given shape fields
ReadsValues-refused shape fields i left cols field more refusal later before cut within refused e = found (slice_get shape.measures i) refl refused
  where
    found : (found : Option Measure) → slice_get shape.measures i ≡ found → IfSome found (λ m. (values_for shape m field ≡ None) × (refusal ≡ field_code m.kind)) → Err (if later then code.Value else refusal) ≡ cols_given shape fields
    found None at refused = absurd (none_within shape.measures i within at)
    found (Some m) at refused =
        sym (before.given ∙ rw (drop-at shape.measures i m at, cut, refused.1, e) (refused-here shape cols m (drop (i + 1) shape.measures) field more refused.0))

-- whether a later number is wrong: the fields before this one are not
pub record Searches (shape : ShapeValue) (first : ℕ) (fields : List (List ℕ)) (i : ℕ) (left : List (List ℕ)) : Type 0 where
  pub same : some_wrong is_number_measure shape (drop first shape.measures) fields ≡ some_wrong is_number_measure shape (drop i shape.measures) left
  pub count : length left ≡ length (drop i shape.measures)

pub Searches-some : (shape : ShapeValue) (first : ℕ) (fields : List (List ℕ)) (i : ℕ) (left : List (List ℕ)) → Searches shape first fields i left → i < length shape.measures → 1 ≤ length left
Searches-some shape first fields i left before within = omega (arith, before.count, length-drop i shape.measures)

-- what one field more says
pub Searches-step : (shape : ShapeValue) (first : ℕ) (fields : List (List ℕ)) (i : ℕ) (left : List (List ℕ)) (m : Measure) (field : List ℕ) (more : List (List ℕ)) → Searches shape first fields i left → left ≡ field ∷ more → slice_get shape.measures i ≡ Some m
    → some_wrong is_number_measure shape (drop first shape.measures) fields ≡ (is_number_measure m.kind && is_none (values_for shape m field) || some_wrong is_number_measure shape (drop (i + 1) shape.measures) more)
Searches-step shape first fields i left m field more before cut at = before.same ∙ rw (drop-at shape.measures i m at, cut) refl

pub Searches-next : (shape : ShapeValue) (first : ℕ) (fields : List (List ℕ)) (i : ℕ) (left : List (List ℕ)) (m : Measure) (field : List ℕ) (more : List (List ℕ)) → Searches shape first fields i left → left ≡ field ∷ more → i < length shape.measures → slice_get shape.measures i ≡ Some m
    → (is_number_measure m.kind && is_none (values_for shape m field)) ≡ false → Searches shape first fields (i + 1) more
Searches-next shape first fields i left m field more before cut within at right = record {
  same = rw right at (Searches-step shape first fields i left m field more before cut at);
  count = omega (arith, ap length cut, before.count, length-drop i shape.measures, length-drop (i + 1) shape.measures);
}

pub Searches-all : (shape : ShapeValue) (first : ℕ) (fields : List (List ℕ)) (i : ℕ) (left : List (List ℕ)) → Searches shape first fields i left → length shape.measures ≤ i → false ≡ some_wrong is_number_measure shape (drop first shape.measures) fields
Searches-all shape first fields i left before end = sym (before.same ∙ rw (drop_all i shape.measures end) refl)

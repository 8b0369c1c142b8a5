-- Values that fields give are such as a fact may have.
use Rattle.std.proofs.Common.{◌≡◌, ℕ, ◌+◌, ◌-◌, Bool, true, false, List, [], ◌∷◌, ◌++◌, length, take, refl, ap, ◌∙◌, arith, append_assoc, eq-eqb, length-append, Option, Some, None, Ok, Err, ℤ}
use Rattle.std.specs.Prelude.{◌&&◌, if◌then◌else◌, is_none, unwrap_or}
use Rattle.std.specs.List.{list_any}
use Rattle.std.proofs.lemmas.Bool.{or_parts}
use Rattle.std.proofs.lemmas.List.{drop_at, take_at}
use Rattle.cube_base.specs.declared.code.Code.TheVariants as code
use Rattle.fact_records.specs.declared.shape.Kind.{Kind}
use Rattle.fact_records.specs.declared.shape.Kind.TheVariants.{Number, Parts}
use Rattle.fact_records.specs.declared.shape.Measure.{Measure}
use Rattle.fact_records.specs.Accepted.{cols_refusal, has_wrong_parts, is_wrong_number}
use Rattle.fact_records.specs.Fields.{cols_given, has_wrong_parts_field, has_wrong_value, is_number_measure, is_parts_measure, some_wrong, values_given}
use Rattle.fact_records.specs.Shape.{AreInOrder, ShapeValue, values_of, width_of, width_of_all}
use Rattle.fact_records.specs.Values.{values_for}
use Rattle.fact_records.proofs.GivenValues.{values_for-given}

-- some measure among these has a wrong number among the values of a fact
abbrev some_number : ShapeValue → List Measure → List ℤ → Bool
some_number shape measures values = list_any (λ m. is_wrong_number shape m (values_of m values)) measures

-- a field that is not wrong gives values
record HasValues (shape : ShapeValue) (measure : Measure) (field : List ℕ) : Type 0 where
  values : List ℤ
  given : values_for shape measure field ≡ Some values

there : (shape : ShapeValue) (measure : Measure) (field : List ℕ) (found : Option (List ℤ)) → values_for shape measure field ≡ found → is_none found ≡ false → HasValues shape measure field
there shape measure field None e some = cc
there shape measure field (Some values) e some = record { values = values; given = e }

one_kind : (kind : Kind) (none : Bool) → (is_number_measure kind && none) ≡ false → (is_parts_measure kind && none) ≡ false → none ≡ false
one_kind Number none number parts = number
one_kind (Parts scale outcomes) none number parts = parts

not_wrong : (shape : ShapeValue) (measure : Measure) (field : List ℕ) → (is_number_measure measure.kind && is_none (values_for shape measure field)) ≡ false
    → (is_parts_measure measure.kind && is_none (values_for shape measure field)) ≡ false → HasValues shape measure field
not_wrong shape measure field number parts =
    there shape measure field (values_for shape measure field) refl (one_kind measure.kind (is_none (values_for shape measure field)) number parts)

-- the values of a measure stand behind those of the measures before it
here : (m : Measure) (before values later : List ℤ) → m.first_col ≡ length before + 1 → length values ≡ width_of m.kind → values_of m (before ++ (values ++ later)) ≡ values
here m before values later column width =
    let place : length before ≡ m.first_col - 1 = omega arith in
    ap (take (width_of m.kind)) (drop_at before (values ++ later) (m.first_col - 1) place) ∙ take_at values later (width_of m.kind) width

-- the values of these measures, behind others, are accepted
record AreAccepted (shape : ShapeValue) (measures : List Measure) (before values : List ℤ) : Type 0 where
  width : length values ≡ width_of_all measures
  small : some_number shape measures (before ++ values) ≡ false
  whole : has_wrong_parts measures (before ++ values) ≡ false

accepted : (shape : ShapeValue) (first : ℕ) (measures : List Measure) (fields : List (List ℕ)) (before : List ℤ) → AreInOrder first measures → first ≡ length before + 1 → length fields ≡ length measures
    → some_wrong is_number_measure shape measures fields ≡ false → some_wrong is_parts_measure shape measures fields ≡ false → AreAccepted shape measures before (values_given shape measures fields)
accepted shape first [] fields before order column count numbers parts = record { width = refl; small = refl; whole = refl }
accepted shape first (m ∷ measures) [] before order column count numbers parts = absurd (omega arith)
accepted shape first (m ∷ measures) (field ∷ fields) before order column count numbers parts =
    let none = is_none (values_for shape m field) in
    let number = or_parts (is_number_measure m.kind && none) (some_wrong is_number_measure shape measures fields) numbers in
    let part = or_parts (is_parts_measure m.kind && none) (some_wrong is_parts_measure shape measures fields) parts in
    let has = not_wrong shape m field number.0 part.0 in
    let given = values_for-given shape m field has.values has.given in
    let later = values_given shape measures fields in
    let next : first + width_of m.kind ≡ length (before ++ has.values) + 1 = omega (arith, given.many, length-append before has.values) in
    let rest = accepted shape (first + width_of m.kind) measures fields (before ++ has.values) order.1 next (omega arith) number.1 part.1 in
    let at = here m before has.values later (order.0 ∙ column) given.many in
    let same : values_given shape (m ∷ measures) (field ∷ fields) ≡ has.values ++ later = ap (λ o. unwrap_or o [] ++ later) has.given in
    let small : some_number shape measures (before ++ (has.values ++ later)) ≡ false = rw append_assoc at rest.small in
    let whole : has_wrong_parts measures (before ++ (has.values ++ later)) ≡ false = rw append_assoc at rest.whole in
    rw same (record {
      width = omega (arith, length-append has.values later, given.many, rest.width);
      small = rw (at, given.within) small;
      whole = rw (at, given.whole) whole;
    })

-- where no field is wrong, the values are accepted
pub cols_given-accepted : (shape : ShapeValue) (fields : List (List ℕ)) (cols : List ℤ) → AreInOrder 1 shape.measures → length fields ≡ length shape.measures → Ok cols ≡ cols_given shape fields → cols_refusal shape cols ≡ None
cols_given-accepted shape fields cols order count e = by_tests (has_wrong_value shape fields) (has_wrong_parts_field shape fields) refl refl e
  where
    by_tests : (number parts : Bool) → has_wrong_value shape fields ≡ number → has_wrong_parts_field shape fields ≡ parts
        → Ok cols ≡ (if number then Err code.Value else (if parts then Err code.Parts else Ok (values_given shape shape.measures fields))) → cols_refusal shape cols ≡ None
    by_tests true parts number_is parts_is e = cc
    by_tests false true number_is parts_is e = cc
    by_tests false false number_is parts_is e =
        let same : cols ≡ values_given shape shape.measures fields = cc in
        let all = accepted shape 1 shape.measures fields [] order refl count number_is parts_is in
        rw (same, eq-eqb (length (values_given shape shape.measures fields)) (width_of_all shape.measures) all.width, all.small, all.whole) refl

-- A measure more.
use Rattle.std.proofs.Common.{◌≡◌, ◌≢◌, ℕ, ◌+◌, ◌≤◌, Bool, true, false, List, [], ◌∷◌, ◌++◌, length, map, refl, ap, ◌∙◌, arith, Some, None}
use Rattle.std.specs.Prelude.{◌||◌, if◌then◌else◌, is_none, nat_lt}
use Rattle.std.specs.List.{list_any}
use Rattle.std.specs.Str.{bytes_eq}
use Rattle.std.proofs.lemmas.List.{get_or-map, length-map}
use Rattle.std.proofs.lemmas.List.Elements.{All-push}
use Rattle.std.proofs.lemmas.List.Quantifiers.{all_pairs_push}
use Rattle.fact_records.specs.declared.shape.Measure.{Measure}
use Rattle.fact_records.specs.Shape.{AreInOrder, AreMeasures, HasScale, width_of, width_of_all}
use Rattle.cube_base.specs.declared.code.Code.TheVariants as code
use Rattle.cube_model.specs.Limits.{MAX_COLS}
use Rattle.text_lines.specs.LineText.{field_at}
use Rattle.schema_text.specs.declared.fault.LineFault.{LineFault}
use Rattle.schema_text.specs.declared.fault.LineFault.TheVariants.{Refused, Memory}
use Rattle.schema_text.specs.Draft.{IsNextMeasure, kind_fault, parts_fault}
use Rattle.schema_text.specs.Fault.{IsCause}
use Rattle.schema_text.specs.SchemaText.{has_wrong_names, is_among_names, is_wrong_name, outcomes_of, read_scale}
use Rattle.schema_text.proofs.Drafts.{differs}

pub is_among_names-measures : (name : List ℕ) (measures : List Measure) → is_among_names name (map (λ m. m.name) measures) ≡ list_any (λ m. bytes_eq m.name name) measures
is_among_names-measures name [] = refl
is_among_names-measures name (m ∷ measures) = ap (λ b. bytes_eq m.name name || b) (is_among_names-measures name measures)

pub width_of_all-push : (measures : List Measure) (m : Measure) → width_of_all (measures ++ m ∷ []) ≡ width_of_all measures + width_of m.kind
width_of_all-push [] m = omega arith
width_of_all-push (first ∷ measures) m = omega (arith, width_of_all-push measures m)

-- the columns with a measure more
pub width_of_all-next : (measures longer : List Measure) (m : Measure) (columns : ℕ) → columns ≡ width_of_all measures → longer ≡ measures ++ m ∷ [] → columns + width_of m.kind ≡ width_of_all longer
width_of_all-next measures longer m columns width more = rw more (omega (arith, width, width_of_all-push measures m))

AreInOrder-push : (column : ℕ) (measures : List Measure) (m : Measure) → AreInOrder column measures → m.first_col ≡ column + width_of_all measures → AreInOrder column (measures ++ m ∷ [])
AreInOrder-push column [] m order first = (omega (arith, first), tt)
AreInOrder-push column (front ∷ measures) m order first = (order.0, AreInOrder-push (column + width_of front.kind) measures m order.1 (omega (arith, first)))

-- a measure that may come next does
pub AreMeasures-push : (measures : List Measure) (next : Measure) → AreMeasures measures → IsNextMeasure measures next → AreMeasures (measures ++ next ∷ [])
AreMeasures-push measures next is may =
    let count = length-map measures (λ (m : Measure). m.name) in
    record {
      distinct = all_pairs_push (λ a b. a.name ≢ b.name) measures next is.distinct (λ k d within same.
          differs next.name (map (λ (m : Measure). m.name) measures) k d.name may.name (omega (arith, within, count)) (get_or-map (λ (m : Measure). m.name) measures k d d.name within ∙ same));
      some = All-push (λ (m : Measure). 1 ≤ width_of m.kind) measures next is.some may.some;
      most = omega (arith, width_of_all-push measures next, may.room);
      order = AreInOrder-push 1 measures next is.order may.order;
      scales = All-push (λ (m : Measure). HasScale m.kind) measures next is.scales may.scale;
    }

-- where the name is right, a distribution is refused for its kind
pub IsCause-kind : (measures : List Measure) (fields : List (List ℕ)) (fault : LineFault) → is_wrong_name (field_at fields 1) (map (λ m. m.name) measures) ≡ false → IsCause (kind_fault fields) fault → IsCause (parts_fault measures fields) fault
IsCause-kind measures fields Memory right cause = tt
IsCause-kind measures fields (Refused reason) right cause =
    rw right (first (has_wrong_names [] (outcomes_of fields)) (is_none (read_scale fields)) (nat_lt MAX_COLS (width_of_all measures + length (outcomes_of fields))) cause)
  where
    first : (names scale room : Bool) → (if names then Some code.Name else (if scale then Some code.Number else None)) ≡ Some reason
        → (if names then Some code.Name else (if scale then Some code.Number else (if room then Some code.Limit else None))) ≡ Some reason
    first true scale room e = e
    first false true room e = e
    first false false room e = cc

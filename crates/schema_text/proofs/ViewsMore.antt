-- The views of a schema, read one after another.
use Rattle.std.proofs.Common.{◌≡◌, ℕ, ◌+◌, ◌<◌, ◌≤◌, Bool, true, false, List, [], ◌∷◌, ◌++◌, length, map, drop, refl, sym, ap, ◌∙◌, arith, Some, None, Ok, Err, Result, append_assoc, append-nil, length-append, length-drop}
use Rattle.std.specs.Prelude.{All, ◌||◌, IfErr, OnOk, if◌then◌else◌, is_none, nat_le, not, unwrap_or}
use Rattle.std.specs.List.{list_all, list_any}
use Rattle.std.specs.Str.{bytes_eq}
use Rattle.std.proofs.lemmas.Bool.{or_parts}
use Rattle.std.proofs.lemmas.List.{drop_all, drop_more, length-map, map_push}
use Rattle.std.proofs.lemmas.List.Elements.{All-cons, All-nil, All-push}
use Rattle.cube_base.specs.Name.{is_name}
use Rattle.cube_base.specs.declared.code.Code.TheVariants as code
use Rattle.cube_model.specs.Limits.{MAX_DEPTH}
use Rattle.cube_model.specs.Tree.{Dimension, is_numbered}
use Rattle.text_lines.specs.LineText.{field_at}
use Rattle.region_algebra.specs.declared.view_def.ViewDef.{ViewDef}
use Rattle.schema_text.specs.declared.fault.LineFault.{LineFault}
use Rattle.schema_text.specs.declared.fault.LineFault.TheVariants.{Refused, Memory}
use Rattle.schema_text.specs.Draft.{ended_fault, room_fault, view_fault, view_fields_fault}
use Rattle.schema_text.specs.Fault.{IsCause}
use Rattle.schema_text.specs.Schema.{AreViews, MAX_VIEWS}
use Rattle.schema_text.specs.SchemaText.{depth_fields, depth_in, depths_in, ended, has_wrong_depths, is_among_names, is_wrong_name}
use Rattle.schema_text.proofs.Drafts.{AreNames-push}
use Rattle.schema_text.proofs.NumbersRead.{number_in-range}

pub is_among_names-views : (name : List ℕ) (views : List ViewDef) → is_among_names name (map (λ v. v.name) views) ≡ list_any (λ v. bytes_eq v.name name) views
is_among_names-views name [] = refl
is_among_names-views name (v ∷ views) = ap (λ b. bytes_eq v.name name || b) (is_among_names-views name views)

-- the depths in the fields before a place are read, and each of these fields spells one
pub record AreReadTo (fields : List (List ℕ)) (depths : List ℕ) (place : ℕ) : Type 0 where
  pub read : depths_in (depth_fields fields) ≡ depths ++ depths_in (drop place fields)
  pub right : has_wrong_depths (depth_fields fields) ≡ has_wrong_depths (drop place fields)

pub AreReadTo-start : (fields : List (List ℕ)) → AreReadTo fields [] 2
AreReadTo-start fields = record { read = refl; right = refl }

module _ (fields : List (List ℕ)) (depths : List ℕ) (place : ℕ) (are : AreReadTo fields depths place) (within : place < length fields) where
  next : drop place fields ≡ field_at fields place ∷ drop (place + 1) fields
  next = drop_more fields place [] within

  -- the next spells none
  pub wrong-depth : depth_in (field_at fields place) ≡ None → has_wrong_depths (depth_fields fields) ≡ true
  wrong-depth wrong = are.right ∙ ap has_wrong_depths next ∙ rw wrong refl

  -- it spells one, which is read too
  pub AreReadTo-more : (depth : ℕ) → depth_in (field_at fields place) ≡ Some depth → AreReadTo fields (depths ++ depth ∷ []) (place + 1)
  AreReadTo-more depth right = record {
    read = are.read ∙ ap (λ l. depths ++ depths_in l) next ∙ rw right (sym (append_assoc depths (depth ∷ []) (depths_in (drop (place + 1) fields))));
    right = are.right ∙ ap has_wrong_depths next ∙ rw right refl;
  }

-- all are read
pub AreReadTo-end : (fields : List (List ℕ)) (depths : List ℕ) (place : ℕ) → AreReadTo fields depths place → length fields ≤ place
    → (has_wrong_depths (depth_fields fields) ≡ false) × (depths_in (depth_fields fields) ≡ depths)
AreReadTo-end fields depths place are all =
    let none : drop place fields ≡ [] = drop_all place fields all in
    (are.right ∙ ap has_wrong_depths none, are.read ∙ ap (λ l. depths ++ depths_in l) none ∙ append-nil depths)

-- there is a depth for each field behind the name
pub length-depths : (fields : List (List ℕ)) (count : ℕ) → length fields ≡ count + 2 → length (depths_in (depth_fields fields)) ≡ count
length-depths fields count all = length-map (depth_fields fields) (λ field. unwrap_or (depth_in field) 0) ∙ omega (arith, all, length-drop 2 fields)

-- and none of them is too deep
pub depths-shallow : (fields : List (List ℕ)) → has_wrong_depths fields ≡ false → All (λ depth. depth ≤ MAX_DEPTH) (depths_in fields)
depths-shallow [] right = All-nil (λ depth. depth ≤ MAX_DEPTH)
depths-shallow (field ∷ fields) right =
    let parts = or_parts (is_none (depth_in field)) (has_wrong_depths fields) right in
    All-cons (λ depth. depth ≤ MAX_DEPTH) (unwrap_or (depth_in field) 0) (depths_in fields) (number_in-range 0 MAX_DEPTH field parts.0).1 (depths-shallow fields parts.1)

pub AreViews-none : (count : ℕ) → AreViews count []
AreViews-none count = record {
  few = omega arith;
  names = record { each = All-nil (λ n. is_name n ≡ true); distinct = λ i j d before within. absurd (omega arith) };
  depths = All-nil (λ (v : ViewDef). length v.depths ≡ count);
  shallow = All-nil (λ (v : ViewDef). All (λ depth. depth ≤ MAX_DEPTH) v.depths);
}

-- a view more
pub AreViews-push : (count : ℕ) (views : List ViewDef) (next : ViewDef) → AreViews count views → is_wrong_name next.name (map (λ v. v.name) views) ≡ false → length views < MAX_VIEWS
    → length next.depths ≡ count → All (λ depth. depth ≤ MAX_DEPTH) next.depths → AreViews count (views ++ next ∷ [])
AreViews-push count views next are right room depths shallow = record {
  few = omega (arith, room, length-append views (next ∷ []));
  names = rw (map_push (λ (v : ViewDef). v.name) views next) (AreNames-push (map (λ (v : ViewDef). v.name) views) next.name are.names right);
  depths = All-push (λ (v : ViewDef). length v.depths ≡ count) views next are.depths depths;
  shallow = All-push (λ (v : ViewDef). All (λ depth. depth ≤ MAX_DEPTH) v.depths) views next are.shallow shallow;
}

-- A view that is refused for its fields is refused, and so is one that is not, where the numbers of the dimension that ends are wrong.
module _ (views : List ViewDef) (nodes : Dimension) (fields : List (List ℕ)) where
  pub IsCause-fields : (fault : LineFault) → IsCause (view_fields_fault views fields) fault → IsCause (view_fault views nodes fields) fault
  IsCause-fields Memory cause = tt
  IsCause-fields (Refused reason) cause = first (is_wrong_name (field_at fields 1) (map (λ v. v.name) views)) (has_wrong_depths (depth_fields fields)) (list_all is_numbered (ended nodes)) (nat_le MAX_VIEWS (length views)) cause
    where
      first : (n d k r : Bool) → (if n then Some code.Name else (if d then Some code.Number else None)) ≡ Some reason
          → (if n then Some code.Name else (if d || not k then Some code.Number else (if r then Some code.Limit else None))) ≡ Some reason
      first true d k r e = e
      first false true k r e = e
      first false false k r e = cc

  pub IsCause-ended : (fault : LineFault) → view_fields_fault views fields ≡ None → IsCause (ended_fault nodes) fault → IsCause (view_fault views nodes fields) fault
  IsCause-ended Memory right cause = tt
  IsCause-ended (Refused reason) right cause = next (is_wrong_name (field_at fields 1) (map (λ v. v.name) views)) (has_wrong_depths (depth_fields fields)) (list_all is_numbered (ended nodes)) (nat_le MAX_VIEWS (length views)) right cause
    where
      next : (n d k r : Bool) → (if n then Some code.Name else (if d then Some code.Number else None)) ≡ None → (if k then None else Some code.Number) ≡ Some reason
          → (if n then Some code.Name else (if d || not k then Some code.Number else (if r then Some code.Limit else None))) ≡ Some reason
      next true d k r right e = cc
      next false true k r right e = cc
      next false false true r right e = cc
      next false false false r right e = e

  -- else the views that are there refuse it, or nothing does
  module _ (right : view_fields_fault views fields ≡ None) (ends : ended_fault nodes ≡ None) where
    same : (n d k r : Bool) → (if n then Some code.Name else (if d then Some code.Number else None)) ≡ None → (if k then None else Some code.Number) ≡ None
        → (if n then Some code.Name else (if d || not k then Some code.Number else (if r then Some code.Limit else None))) ≡ (if r then Some code.Limit else None)
    same true d k r right ends = cc
    same false true k r right ends = cc
    same false false true r right ends = refl
    same false false false r right ends = cc

    by_room : view_fault views nodes fields ≡ room_fault views
    by_room = same (is_wrong_name (field_at fields 1) (map (λ v. v.name) views)) (has_wrong_depths (depth_fields fields)) (list_all is_numbered (ended nodes)) (nat_le MAX_VIEWS (length views)) right ends

    pub OnOk-room : {T : Type 0} (result : Result T LineFault) → OnOk result (room_fault views ≡ None) → OnOk result (view_fault views nodes fields ≡ None)
    OnOk-room (Ok taken) accepted = by_room ∙ accepted
    OnOk-room (Err fault) accepted = tt

    pub IfErr-room : {T : Type 0} (result : Result T LineFault) → IfErr result (IsCause (room_fault views)) → IfErr result (IsCause (view_fault views nodes fields))
    IfErr-room (Ok taken) cause = tt
    IfErr-room (Err Memory) cause = tt
    IfErr-room (Err (Refused reason)) cause = by_room ∙ cause

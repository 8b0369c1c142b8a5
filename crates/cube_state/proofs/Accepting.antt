-- What an edit that is not refused fulfils, and what it and new facts leave.
use Rattle.std.proofs.Common.{◌≡◌, ℕ, ◌+◌, ◌<◌, ◌≤◌, Bool, true, false, List, [], ◌∷◌, length, refl, sym, ◌∙◌, arith}
use Rattle.std.specs.Prelude.{IfSome, find, not, ◌==◌, Option, Some, None, is_some}
use Rattle.std.specs.Option.{option_map_or}
use Rattle.std.proofs.lemmas.Bool.Decides.{nat_tests}
use Rattle.cube_base.specs.declared.code.Code.{Code}
use Rattle.cube_base.specs.declared.code.Code.TheVariants as code
use Rattle.cube_model.specs.declared.edit.Fact.{Fact}
use Rattle.cube_model.specs.declared.edit.Edit.{Edit}
use Rattle.cube_model.specs.declared.edit.Edit.TheVariants.{Put, Change, Withdraw}
use Rattle.cube_model.specs.Accepted.{first_refusal, first_that_holds, has_many_rows, is_missing, is_over, is_repeat}
use Rattle.cube_model.specs.Allocation.{Policy, extended, row_count}
use Rattle.cube_model.specs.Facts.{after, has_id, put}
use Rattle.cube_model.specs.Limits.{MAX_FACTS, MAX_ROWS}
use Rattle.cube_model.specs.Tree.{Dimension}
use Rattle.fact_groups.specs.Edits.{given, taken}
use Rattle.fact_groups.proofs.Edits.{All-after, length-after, pairs-after}
use Rattle.fact_records.specs.Judge.{edit_cols_refusal, edit_region_refusal, fact_refusal, judge}
use Rattle.fact_records.specs.New.{AreNew, put_all}
use Rattle.fact_records.specs.Shape.{ShapeValue}
use Rattle.fact_records.specs.Valid.{AreValid, IsEditOver, IsValid}

-- none of the refusals is there
first_refusal-none : (first : Option Code) (refusals : List (Option Code)) → first_refusal (first ∷ refusals) ≡ None → (first ≡ None) × (first_refusal refusals ≡ None)
first_refusal-none None refusals none = (refl, none)
first_refusal-none (Some refusal) refusals none = cc

-- nor does any of the conditions hold
first_that_holds-none : (holds : Bool) (refusal : Code) (rest : List (Bool × Code)) → first_that_holds ((holds, refusal) ∷ rest) ≡ None → (holds ≡ false) × (first_that_holds rest ≡ None)
first_that_holds-none true refusal rest none = cc
first_that_holds-none false refusal rest none = (refl, none)

-- what an edit that is not refused fulfils
pub record IsAllowed (shape : ShapeValue) (dims : List Dimension) (edit : Edit) (facts : List Fact) : Type 0 where
  pub cols : edit_cols_refusal shape edit ≡ None
  pub repeat : is_repeat edit facts ≡ false
  pub missing : is_missing edit facts ≡ false
  pub region : edit_region_refusal dims edit ≡ None
  pub over : is_over edit facts ≡ false

pub allowed : (shape : ShapeValue) (dims : List Dimension) (edit : Edit) (facts : List Fact) → fact_refusal shape dims edit facts ≡ None → IsAllowed shape dims edit facts
allowed shape dims edit facts none =
    let past_cols = first_refusal-none (edit_cols_refusal shape edit) _ none in
    let past_id = first_refusal-none (first_that_holds ((is_repeat edit facts, code.Exists) ∷ (is_missing edit facts, code.Missing) ∷ [])) _ past_cols.1 in
    let past_repeat = first_that_holds-none (is_repeat edit facts) code.Exists ((is_missing edit facts, code.Missing) ∷ []) past_id.0 in
    let past_missing = first_that_holds-none (is_missing edit facts) code.Missing [] past_repeat.1 in
    let past_region = first_refusal-none (edit_region_refusal dims edit) _ past_id.1 in
    let past_facts = first_refusal-none (first_that_holds ((is_over edit facts, code.Facts) ∷ [])) _ past_region.1 in
    record {
      cols = past_cols.0;
      repeat = past_repeat.0;
      missing = past_missing.0;
      region = past_region.0;
      over = (first_that_holds-none (is_over edit facts) code.Facts [] past_facts.0).0;
    }

-- an edit that is judged is refused neither for its fact nor for its rows
pub judged : (policy : Policy) (shape : ShapeValue) (dims : List Dimension) (edit : Edit) (facts : List Fact) → judge policy shape dims edit facts ≡ None
    → (fact_refusal shape dims edit facts ≡ None) × (row_count (extended policy dims (after edit facts)) ≤ MAX_ROWS)
judged policy shape dims edit facts none =
    let past = first_refusal-none (fact_refusal shape dims edit facts) _ none in
    let rows = first_refusal-none (first_that_holds ((has_many_rows (extended policy dims (after edit facts)), code.Rows) ∷ [])) _ past.1 in
    let few = first_that_holds-none (has_many_rows (extended policy dims (after edit facts))) code.Rows [] rows.0 in
    (past.0, grind (arith, nat_tests, few.0))

-- the fact that an edit gives is a valid one
pub given-valid : (shape : ShapeValue) (dims : List Dimension) (edit : Edit) (facts : List Fact) → IsEditOver dims edit → IsAllowed shape dims edit facts → IfSome (given edit) (IsValid shape dims)
given-valid shape dims (Put fact) facts over can = record { accepted = record { placed = over; values = can.cols }; size = can.region }
given-valid shape dims (Change fact) facts over can = record { accepted = record { placed = over; values = can.cols }; size = can.region }
given-valid shape dims (Withdraw id) facts over can = tt

-- a fact of an id that is there is found
pub found-there : (id : ℕ) (facts : List Fact) → has_id id facts ≡ is_some (find (λ f. f.id == id) facts)
found-there id [] = refl
found-there id (fact ∷ facts) = either (fact.id == id) refl (found-there id facts)
  where
    either : (b : Bool) → (fact.id == id) ≡ b → has_id id facts ≡ is_some (find (λ f. f.id == id) facts) → has_id id (fact ∷ facts) ≡ is_some (find (λ f. f.id == id) (fact ∷ facts))
    either true is rest = rw is refl
    either false is rest = rw is rest

some-worth : {X : Type 0} (found : Option X) → is_some found ≡ true → option_map_or {U = ℕ} (λ x. 1) found 0 ≡ 1
some-worth None none = cc
some-worth (Some x) some = refl

unmissing : (b : Bool) → not b ≡ false → b ≡ true
unmissing true is = refl
unmissing false is = sym is

room-after : (shape : ShapeValue) (dims : List Dimension) (edit : Edit) (facts : List Fact) → IsAllowed shape dims edit facts → length facts ≤ MAX_FACTS
    → length facts + option_map_or (λ f. 1) (given edit) 0 ≤ MAX_FACTS + option_map_or (λ f. 1) (taken edit facts) 0
room-after shape dims (Put fact) facts can few = let room : length facts < MAX_FACTS = grind (arith, nat_tests, can.over) in omega (arith, room)
room-after shape dims (Change fact) facts can few =
    let there : has_id fact.id facts ≡ true = unmissing (has_id fact.id facts) can.missing in
    omega (arith, few, some-worth (find (λ f. f.id == fact.id) facts) (sym (found-there fact.id facts) ∙ there))
room-after shape dims (Withdraw id) facts can few = omega (arith, few)

-- an edit that is not refused leaves facts that a cube may have
pub AreValid-after : (shape : ShapeValue) (dims : List Dimension) (edit : Edit) (facts : List Fact) → IsEditOver dims edit → IsAllowed shape dims edit facts → AreValid shape dims facts → AreValid shape dims (after edit facts)
AreValid-after shape dims edit facts over can valid = record {
  ascending = pairs-after edit facts valid.ascending;
  few = omega (arith, length-after edit facts valid.ascending, room-after shape dims edit facts can valid.few);
  each = All-after (IsValid shape dims) edit facts valid.each (given-valid shape dims edit facts over can);
}

-- and facts that are new in turn leave such too
pub AreValid-new : (shape : ShapeValue) (dims : List Dimension) (new facts : List Fact) → AreNew shape dims facts new → AreValid shape dims facts → AreValid shape dims (put_all new facts)
AreValid-new shape dims [] facts are valid = valid
AreValid-new shape dims (fact ∷ new) facts are valid =
    AreValid-new shape dims new (put fact facts) are.1 (AreValid-after shape dims (Put fact) facts are.0.placed (allowed shape dims (Put fact) facts are.0.accepted) valid)

-- New facts that are judged and put one after another.
use Rattle.std.proofs.Common.{◌≡◌, ℕ, ◌+◌, ◌<◌, ◌≤◌, Bool, true, false, List, [], ◌∷◌, length, refl, ap, sym, subst, ◌∙◌, arith}
use Rattle.std.specs.Prelude.{nat_lt, ◌||◌, Some, None}
use Rattle.std.proofs.lemmas.Bool.Decides.{nat_tests}
use Rattle.cube_base.specs.declared.code.Code.{Code}
use Rattle.cube_model.specs.declared.edit.Edit.TheVariants.{Put}
use Rattle.cube_model.specs.declared.edit.Fact.{Fact}
use Rattle.cube_model.specs.Facts.{has_id, put}
use Rattle.cube_model.specs.Tree.{Dimension}
use Rattle.fact_records.specs.Judge.{fact_refusal}
use Rattle.fact_records.specs.New.{AreNew}
use Rattle.fact_records.specs.Shape.{ShapeValue}
use Rattle.fact_records.specs.Valid.{IsPlaced}
use Rattle.fact_records.specs.RefusedRecord.{refused_among, refused_or}

-- So many of the new facts were put over the old ones, and some are left: what is refused of all is what is refused of those that are
-- left, all are new where these are, and there is room for them.
pub record AreJudged (shape : ShapeValue) (dims : List Dimension) (old new now left : List Fact) (place spare : ℕ) : Type 0 where
  pub refused : refused_among shape dims (place + 1) now left ≡ refused_among shape dims 1 old new
  pub new_too : AreNew shape dims now left → AreNew shape dims old new
  pub room : length left ≤ spare

module _ (shape : ShapeValue) (dims : List Dimension) {old new now left : List Fact} {place spare : ℕ} (are : AreJudged shape dims old new now left place spare) (fact : Fact) (rest : List Fact) (is : left ≡ fact ∷ rest) where
  -- there is room for the next
  pub judged-room : (has_id fact.id now || nat_lt 0 spare) ≡ true
  judged-room =
      let some : 0 < spare = omega (arith, are.room, ap length is) in
      either (has_id fact.id now) some
    where
      either : (b : Bool) → 0 < spare → (b || nat_lt 0 spare) ≡ true
      either true some = refl
      either false some = grind (arith, nat_tests, some)

  -- where it is not refused, it is put, and so many and one are
  pub judged-next : fact_refusal shape dims (Put fact) now ≡ None → IsPlaced dims fact → (now' : List Fact) (spare' : ℕ) → now' ≡ put fact now → spare ≤ spare' + 1 → AreJudged shape dims old new now' rest (place + 1) spare'
  judged-next accepted placed now' spare' put_is less = record {
    refused = ap (λ facts. refused_among shape dims (place + 1 + 1) facts rest) put_is ∙ sym (passed is) ∙ are.refused;
    new_too = λ rest_new. are.new_too (subst (AreNew shape dims now) (sym is) (record { placed = placed; accepted = accepted }, subst (λ facts. AreNew shape dims facts rest) put_is rest_new));
    room = omega (arith, are.room, ap length is, less);
  }
    where
      passed : left ≡ fact ∷ rest → refused_among shape dims (place + 1) now left ≡ refused_among shape dims (place + 1 + 1) (put fact now) rest
      passed is = ap (refused_among shape dims (place + 1) now) is ∙ ap (λ refusal. refused_or (place + 1) refusal (refused_among shape dims (place + 1 + 1) (put fact now) rest)) accepted

  -- where it is, that is what is refused first
  pub judged-refused : (refusal : Code) → fact_refusal shape dims (Put fact) now ≡ Some refusal → Some (record { index = place + 1; code = refusal }) ≡ refused_among shape dims 1 old new
  judged-refused refusal refused =
      sym (ap (refused_among shape dims (place + 1) now) is ∙ ap (λ refusal. refused_or (place + 1) refusal (refused_among shape dims (place + 1 + 1) (put fact now) rest)) refused) ∙ are.refused

module _ (shape : ShapeValue) (dims : List Dimension) {old new now left : List Fact} {place spare : ℕ} (are : AreJudged shape dims old new now left place spare) (none : left ≡ []) where
  -- where none is left, none is refused, and all are new
  pub none-refused : None ≡ refused_among shape dims 1 old new
  none-refused = ap (refused_among shape dims (place + 1) now) (sym none) ∙ are.refused

  pub all-new : AreNew shape dims old new
  all-new = are.new_too (subst (AreNew shape dims now) (sym none) tt)

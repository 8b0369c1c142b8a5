-- Facts that are put over other dimensions, all in order.
use Rattle.std.proofs.Common.{◌≡◌, ◌+◌, ◌-◌, ◌<◌, ◌≤◌, true, false, List, [], ◌∷◌, ◌++◌, length, refl, ap, sym, ◌∙◌, subst, arith, length-append}
use Rattle.std.specs.Prelude.{All, AllPairs, Err, Ok, Option, Result, is_none, nat_le, not, ◌==◌, ◌||◌}
use Rattle.std.specs.Result.{is_err, result_err}
use Rattle.std.proofs.lemmas.Bool.Decides.{nat_tests}
use Rattle.std.proofs.lemmas.List.{append-nil, append_assoc}
use Rattle.std.proofs.lemmas.List.Elements.{All-cons, All-head, All-nil, All-tail, All-weaker}
use Rattle.std.proofs.lemmas.List.Folds.{list_any_none}
use Rattle.cube_base.specs.declared.code.Code.{Code}
use Rattle.cube_model.specs.declared.edit.Fact.{Fact}
use Rattle.cube_model.specs.Facts.{has_id, put}
use Rattle.cube_model.specs.Limits.{MAX_FACTS}
use Rattle.cube_model.specs.Tree.{Dimension}
use Rattle.fact_groups.proofs.Ascending.{pairs-first, pairs-rest}
use Rattle.fact_records.specs.Accepted.{region_refusal}
use Rattle.fact_records.specs.New.{AreNew, IsNew, put_all}
use Rattle.fact_records.specs.Shape.{ShapeValue}
use Rattle.fact_records.specs.Valid.{IsValid}
use Rattle.store_audit.proofs.Reading.{put-last}
use Rattle.cube_core.specs.Growth.{has_large_region}

-- of facts in order, those before one have smaller ids
before-below : (done : List Fact) (fact : Fact) (rest : List Fact) → AllPairs (λ f g. f.id < g.id) (done ++ fact ∷ rest) → All (λ f. f.id < fact.id) done
before-below [] fact rest up = All-nil (λ f. f.id < fact.id)
before-below (first ∷ done) fact rest up =
    All-cons (λ f. f.id < fact.id) first done (smaller done (pairs-first (λ (f g : Fact). f.id < g.id) first (done ++ fact ∷ rest) up))
    (before-below done fact rest (pairs-rest (λ (f g : Fact). f.id < g.id) first (done ++ fact ∷ rest) up))
  where
    smaller : (xs : List Fact) → All (λ f. first.id < f.id) (xs ++ fact ∷ rest) → first.id < fact.id
    smaller [] all = All-head (λ f. first.id < f.id) fact rest all
    smaller (x ∷ xs) all = smaller xs (All-tail (λ f. first.id < f.id) x (xs ++ fact ∷ rest) all)

-- so none of them has its id, and it is put behind them
id-apart : (done : List Fact) (fact : Fact) → All (λ f. f.id < fact.id) done → has_id fact.id done ≡ false
id-apart done fact below = list_any_none (λ f. f.id == fact.id) done (All-weaker (λ f. f.id < fact.id) (λ f. (f.id == fact.id) ≡ false) (λ f less. grind (arith, nat_tests)) done below)

put-behind : (done : List Fact) (fact : Fact) → All (λ f. f.id < fact.id) done → put fact done ≡ done ++ fact ∷ []
put-behind [] fact below = refl
put-behind (first ∷ done) fact below =
    let less : first.id < fact.id = All-head (λ f. f.id < fact.id) first done below in
    put-last fact (fact.id - 1) (first ∷ done) (All-weaker (λ f. f.id < fact.id) (λ f. f.id ≤ fact.id - 1) (λ f smaller. omega arith) (first ∷ done) below) (omega arith)

-- A fact is too large, or none of those before the ones that are left is.
module _ (dims : List Dimension) (facts left rest : List Fact) (fact : Fact) (same : has_large_region dims left ≡ has_large_region dims facts) (is : left ≡ fact ∷ rest) where
  turned : has_large_region dims facts ≡ (not (is_none (region_refusal dims fact.region)) || has_large_region dims rest)
  turned = sym same ∙ ap (has_large_region dims) is

  pub large-found : is_none (region_refusal dims fact.region) ≡ false → true ≡ has_large_region dims facts
  large-found large = sym (turned ∙ ap (λ b. not b || has_large_region dims rest) large)

  pub large-passed : is_none (region_refusal dims fact.region) ≡ true → has_large_region dims rest ≡ has_large_region dims facts
  large-passed small = sym (turned ∙ ap (λ b. not b || has_large_region dims rest) small)

-- what is told of a refusal
pub told-none : {T : Type 0} (result : Result T Code) (refusal : Option Code) → result_err result ≡ refusal → is_none refusal ≡ not (is_err result)
told-none (Ok x) refusal is = ap is_none (sym is)
told-none (Err why) refusal is = ap is_none (sym is)

-- Some facts of a list in order were put, and the others are left.
module _ (all : List Fact) (up : AllPairs (λ f g. f.id < g.id) all) where
  below : (done : List Fact) (fact : Fact) (left : List Fact) → done ++ fact ∷ left ≡ all → All (λ f. f.id < fact.id) done
  below done fact left parts = before-below done fact left (subst (AllPairs (λ f g. f.id < g.id)) (sym parts) up)

  put-next : (done : List Fact) (fact : Fact) (left : List Fact) → done ++ fact ∷ left ≡ all → put fact done ++ left ≡ all
  put-next done fact left parts = ap (λ fs. fs ++ left) (put-behind done fact (below done fact left parts)) ∙ append_assoc done (fact ∷ []) left ∙ parts

  put-rest : (done left : List Fact) → done ++ left ≡ all → put_all left done ≡ all
  put-rest done [] parts = sym (append-nil done) ∙ parts
  put-rest done (fact ∷ left) parts = put-rest (put fact done) left (put-next done fact left parts)

  pub put-anew : put_all all [] ≡ all
  put-anew = put-rest [] all refl

  -- each is accepted, where it is valid and all are few
  module _ (shape : ShapeValue) (dims : List Dimension) (few : length all ≤ MAX_FACTS) where
    one-new : (done : List Fact) (fact : Fact) → has_id fact.id done ≡ false → nat_le MAX_FACTS (length done) ≡ false → IsValid shape dims fact → IsNew shape dims done fact
    one-new done fact apart room valid = record { placed = valid.accepted.placed; accepted = rw (valid.accepted.values, apart, valid.size, room) refl }

    rest-new : (done left : List Fact) → done ++ left ≡ all → All (IsValid shape dims) left → AreNew shape dims done left
    rest-new done [] parts valid = tt
    rest-new done (fact ∷ left) parts valid =
        let counted : length done + length (fact ∷ left) ≡ length all = sym (length-append done (fact ∷ left)) ∙ ap length parts in
        let less : length done < MAX_FACTS = omega (arith, counted, few) in (
          one-new done fact (id-apart done fact (below done fact left parts)) (grind (arith, nat_tests)) (All-head (IsValid shape dims) fact left valid),
          rest-new (put fact done) left (put-next done fact left parts) (All-tail (IsValid shape dims) fact left valid),
        )

    pub new-anew : All (IsValid shape dims) all → AreNew shape dims [] all
    new-anew valid = rest-new [] all refl valid

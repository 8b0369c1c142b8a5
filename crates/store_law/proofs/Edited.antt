-- A content with the batch of an accepted edit.
use Rattle.std.proofs.Common.{◌≡◌, ℕ, ◌<◌, Bool, true, false, cond, List, [], ◌∷◌, map, refl, ap, sym, ◌∙◌, arith}
use Rattle.std.specs.Prelude.{AllPairs, Option, Some, None, ◌==◌, if◌then◌else◌}
use Rattle.std.specs.List.{list_any}
use Rattle.std.specs.Option.{option_map, option_or, option_to_list}
use Rattle.cube_model.specs.declared.edit.Edit.{Edit}
use Rattle.cube_model.specs.declared.edit.Edit.TheVariants.{Put, Change, Withdraw}
use Rattle.cube_model.specs.declared.edit.Fact.{Fact}
use Rattle.cube_model.specs.Allocation.{Policy}
use Rattle.cube_model.specs.Facts.{after}
use Rattle.cube_model.specs.Tree.{Dimension}
use Rattle.fact_groups.specs.Edits.{edited_id, given}
use Rattle.fact_groups.proofs.Edits.{find-after, pairs-after}
use Rattle.fact_keeper.specs.declared.content.Stored.{Stored}
use Rattle.fact_keeper.specs.Batch.{apply_batch, fact_id, rows_id, updated}
use Rattle.fact_keeper.specs.Order.{AscendsBy}
use Rattle.fact_keeper.proofs.Found.{entry_of}
use Rattle.fact_records.specs.FactList.{fact_of}
use Rattle.fact_records.specs.Judge.{judge}
use Rattle.fact_records.specs.Shape.{ShapeValue}
use Rattle.fact_records.specs.Valid.{AreValid, IsEditOf, IsEditOver}
use Rattle.edit_plan.specs.Plan.{difference, kept_fact}
use Rattle.cube_state.specs.State.{withdrawn}
use Rattle.cube_state.proofs.Accepting.{AreValid-after, allowed, judged}
use Rattle.store_audit.specs.Sound.{IsSound, facts_told}
use Rattle.cube_cli.proofs.KeptFacts.{pairs-map}
use Rattle.store_law.specs.Holds.{HoldsState}
use Rattle.store_law.proofs.Refreshed.{rows-refreshed}
use Rattle.store_law.proofs.Told.{good-valid, holds-these, told-kept}
use Rattle.store_law.proofs.Updated.{find-map, updated-is}

-- whether an edit withdraws an id
abbrev withdraws : Edit → ℕ → Bool
withdraws edit n = list_any (λ g. g == n) (option_to_list (withdrawn edit))

module _ (edit : Edit) (facts : List Fact) (n : ℕ) where
  -- the fact of an id after an edit: the one that is given, else the one before unless it is withdrawn
  edit-found : option_or (fact_of n (option_to_list (given edit))) (cond (withdraws edit n) None (fact_of n facts)) ≡ fact_of n (after edit facts)
  edit-found = by_edit edit ∙ sym (find-after edit facts n)
    where
      gives : (fact : Fact) (b : Bool) → (fact.id == n) ≡ b → option_or (fact_of n (fact ∷ [])) (fact_of n facts) ≡ (if b then Some fact else fact_of n facts)
      gives fact true is = rw is refl
      gives fact false is = rw is refl

      drops : (id : ℕ) (b : Bool) → (id == n) ≡ b → cond (withdraws (Withdraw id) n) None (fact_of n facts) ≡ (if b then None else fact_of n facts)
      drops id true is = rw is refl
      drops id false is = rw is refl

      by_edit : (edit : Edit) → option_or (fact_of n (option_to_list (given edit))) (cond (withdraws edit n) None (fact_of n facts)) ≡ (if edited_id edit == n then given edit else fact_of n facts)
      by_edit (Put fact) = gives fact (fact.id == n) refl
      by_edit (Change fact) = gives fact (fact.id == n) refl
      by_edit (Withdraw id) = drops id (id == n) refl

  lost-found : fact_of n (after edit facts) ≡ None → cond (withdraws edit n) None (fact_of n facts) ≡ None
  lost-found none = second (fact_of n (option_to_list (given edit))) (cond (withdraws edit n) None (fact_of n facts)) (edit-found ∙ none)
    where
      second : (a b : Option Fact) → option_or a b ≡ None → b ≡ None
      second None b none = none
      second (Some f) b none = cc

  -- an id that is withdrawn is not there
  withdrawn-lost : withdraws edit n ≡ true → fact_of n (after edit facts) ≡ None
  withdrawn-lost so = find-after edit facts n ∙ by_edit edit so
    where
      by_id : (id : ℕ) (b : Bool) → (id == n) ≡ b → withdraws (Withdraw id) n ≡ true → (if b then None else fact_of n facts) ≡ None
      by_id id true is so = refl
      by_id id false is so = let no : false ≡ true = rw is at so in cc

      by_edit : (edit : Edit) → withdraws edit n ≡ true → (if edited_id edit == n then given edit else fact_of n facts) ≡ None
      by_edit (Put fact) so = cc
      by_edit (Change fact) so = cc
      by_edit (Withdraw id) so = by_id id (id == n) refl so

-- the kept facts after it
given-ascends : (o : Option Fact) → AscendsBy fact_id (map kept_fact (option_to_list o))
given-ascends None = λ i j d before within. absurd (omega (arith, within))
given-ascends (Some fact) = λ i j d before within. absurd (omega (arith, before, within))

facts-edited : (edit : Edit) (facts : List Fact) → AllPairs (λ f g. f.id < g.id) facts
    → updated fact_id (option_to_list (withdrawn edit)) (map kept_fact (option_to_list (given edit))) (map kept_fact facts) ≡ map kept_fact (after edit facts)
facts-edited edit facts up =
    updated-is fact_id (option_to_list (withdrawn edit)) (map kept_fact (option_to_list (given edit))) (map kept_fact facts) (map kept_fact (after edit facts))
    (given-ascends (given edit)) (pairs-map kept_fact fact_id facts up) (pairs-map kept_fact fact_id (after edit facts) (pairs-after edit facts up))
    (λ n.
    let kept = λ (fs : List Fact). find-map kept_fact (λ k. fact_id k == n) fs in
    ap (λ o. option_or o (cond (withdraws edit n) None (entry_of fact_id n (map kept_fact facts)))) (kept (option_to_list (given edit)))
    ∙ ap (λ o. option_or (option_map kept_fact (fact_of n (option_to_list (given edit)))) (cond (withdraws edit n) None o)) (kept facts)
    ∙ mapped (fact_of n (option_to_list (given edit))) (withdraws edit n) (fact_of n facts)
    ∙ ap (option_map kept_fact) (edit-found edit facts n)
    ∙ sym (kept (after edit facts)))
  where
    mapped : (a : Option Fact) (b : Bool) (c : Option Fact) → option_or (option_map kept_fact a) (cond b None (option_map kept_fact c)) ≡ option_map kept_fact (option_or a (cond b None c))
    mapped (Some f) b c = refl
    mapped None true c = refl
    mapped None false c = refl

is-over : (shape : ShapeValue) (dims : List Dimension) (edit : Edit) → IsEditOf shape dims edit → IsEditOver dims edit
is-over shape dims (Put fact) of = of.placed
is-over shape dims (Change fact) of = of.placed
is-over shape dims (Withdraw id) of = of

pub edited-holds : (policy : Policy) (shape : ShapeValue) (dims : List Dimension) (content : Stored) (edit : Edit) → IsSound policy shape dims content → IsEditOf shape dims edit
    → judge policy shape dims edit (facts_told content) ≡ None → HoldsState policy shape dims (after edit (facts_told content)) (apply_batch (difference policy dims edit (facts_told content)) content)
edited-holds policy shape dims content edit sound of accepted =
    let facts = facts_told content in
    let valid : AreValid shape dims facts = good-valid shape dims content.facts sound.good in
    let fine = judged policy shape dims edit facts accepted in
    let batch = difference policy dims edit facts in
    holds-these policy shape dims (after edit facts) (apply_batch batch content)
    (AreValid-after shape dims edit facts (is-over shape dims edit of) (allowed shape dims edit facts fine.0) valid) fine.1
    (ap (updated fact_id batch.gone batch.facts) (told-kept content.facts) ∙ facts-edited edit facts valid.ascending)
    (ap (updated rows_id batch.gone batch.rows) sound.rows_are ∙ rows-refreshed policy dims facts (after edit facts) valid.ascending (pairs-after edit facts valid.ascending) batch.gone (lost-found edit facts) (withdrawn-lost edit facts))

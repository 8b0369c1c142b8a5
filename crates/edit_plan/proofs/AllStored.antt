-- Which of all facts are new to a store.
use Rattle.std.proofs.Common.{◌≡◌, ℕ, ◌<◌, Bool, true, false, Bor, List, [], ◌∷◌, ◌++◌, get_or, map, refl, ap, sym, ◌∙◌, arith}
use Rattle.std.specs.Prelude.{All, AllPairs, Option, Some, None, filter, find, is_some, not, ◌||◌, ◌==◌, if◌then◌else◌}
use Rattle.std.specs.Option.{option_copied}
use Rattle.std.proofs.lemmas.Bool.Decides.{nat_tests}
use Rattle.std.proofs.lemmas.List.Elements.{All-head, All-tail}
use Rattle.cube_model.specs.declared.edit.Edit.TheVariants.{Put}
use Rattle.cube_model.specs.declared.edit.Fact.{Fact}
use Rattle.cube_model.specs.Facts.{has_id, put}
use Rattle.cube_model.specs.Tree.{Dimension}
use Rattle.fact_groups.proofs.Edits.{find-after}
use Rattle.fact_keeper.specs.declared.content.KeptFact.{KeptFact}
use Rattle.fact_records.specs.New.{AreNew, put_all}
use Rattle.fact_records.specs.Shape.{ShapeValue}
use Rattle.edit_plan.specs.Plan.{kept_fact}
use Rattle.cube_state.specs.State.{StateValue}
use Rattle.edit_plan.specs.Whole.{new_kept}
use Rattle.cube_state.proofs.Accepting.{allowed, found-there}
use Rattle.cube_state.proofs.Looking.{find-itself}

-- the ids that are there once a fact is put, and once all are
has-put : (id : ℕ) (fact : Fact) (facts : List Fact) → has_id id (put fact facts) ≡ (fact.id == id || has_id id facts)
has-put id fact facts = found-there id (put fact facts) ∙ ap is_some (find-after (Put fact) facts id) ∙ either (fact.id == id) ∙ ap (λ b. fact.id == id || b) (sym (found-there id facts))
  where
    either : (b : Bool) → is_some (if b then Some fact else find (λ f. f.id == id) facts) ≡ (b || is_some (find (λ f. f.id == id) facts))
    either true = refl
    either false = refl

has-all : (id : ℕ) (new facts : List Fact) → has_id id (put_all new facts) ≡ (has_id id new || has_id id facts)
has-all id [] facts = refl
has-all id (fact ∷ new) facts = has-all id new (put fact facts) ∙ ap (λ b. has_id id new || b) (has-put id fact facts) ∙ turned (has_id id new) (fact.id == id) (has_id id facts)
  where
    turned : (a b c : Bool) → (a || (b || c)) ≡ ((b || a) || c)
    turned true true c = refl
    turned true false c = refl
    turned false true c = refl
    turned false false c = refl

-- no id of a new fact is there before
apart : (shape : ShapeValue) (dims : List Dimension) (id : ℕ) (new facts : List Fact) → AreNew shape dims facts new → has_id id new ≡ true → has_id id facts ≡ false
apart shape dims id [] facts are there = cc
apart shape dims id (fact ∷ new) facts are there = either (fact.id == id) refl there (apart shape dims id new (put fact facts) are.1)
  where
    either : (b : Bool) → (fact.id == id) ≡ b → (b || has_id id new) ≡ true → (has_id id new ≡ true → has_id id (put fact facts) ≡ false) → has_id id facts ≡ false
    either true is there later =
        let its : fact.id ≡ id = grind (arith, nat_tests, is) in
        ap (λ i. has_id i facts) (sym its) ∙ (allowed shape dims (Put fact) facts are.0.accepted).repeat
    either false is there later = ap (λ b. b || has_id id facts) (sym is) ∙ sym (has-put id fact facts) ∙ later there

one-new : (a b : Bool) → (a || b) ≡ true → (a ≡ true → b ≡ false) → not b ≡ a
one-new true b some apart = ap not (apart refl)
one-new false true some apart = refl
one-new false false some apart = cc

some-there : (fact : Fact) (found : Option Fact) → found ≡ Some fact → is_some found ≡ true
some-there fact found is = ap is_some is

-- so a fact of all that is not there before is one of the new ones
new-told : (shape : ShapeValue) (dims : List Dimension) (new facts : List Fact) → AreNew shape dims facts new → AllPairs (λ f g. f.id < g.id) (put_all new facts) → All (λ f. not (has_id f.id facts) ≡ has_id f.id new) (put_all new facts)
new-told shape dims new facts are up k d within =
    let fact = get_or (put_all new facts) k d in
    let there : has_id fact.id (put_all new facts) ≡ true = found-there fact.id (put_all new facts) ∙ some-there fact (find (λ f. f.id == fact.id) (put_all new facts)) (find-itself (put_all new facts) up k d within) in
    one-new (has_id fact.id new) (has_id fact.id facts) (sym (has-all fact.id new facts) ∙ there) (apart shape dims fact.id new facts are)

filter-alike : (p q : Fact → Bool) (facts : List Fact) → All (λ f. p f ≡ q f) facts → filter p facts ≡ filter q facts
filter-alike p q [] same = refl
filter-alike p q (fact ∷ facts) same = either (p fact) (q fact) refl refl (All-head (λ f. p f ≡ q f) fact facts same) (filter-alike p q facts (All-tail (λ f. p f ≡ q f) fact facts same))
  where
    either : (a b : Bool) → p fact ≡ a → q fact ≡ b → p fact ≡ q fact → filter p facts ≡ filter q facts → filter p (fact ∷ facts) ≡ filter q (fact ∷ facts)
    either true true is also both rest = rw (is, also) (ap (λ fs. fact ∷ fs) rest)
    either false false is also both rest = rw (is, also) rest
    either true false is also both rest = cc
    either false true is also both rest = cc

pub new-stored : (shape : ShapeValue) (dims : List Dimension) (new facts : List Fact) → AreNew shape dims facts new → AllPairs (λ f g. f.id < g.id) (put_all new facts)
    → new_kept facts (put_all new facts) ≡ map kept_fact (filter (λ f. has_id f.id new) (put_all new facts))
new-stored shape dims new facts are up = ap (map kept_fact) (filter-alike (λ f. not (has_id f.id facts)) (λ f. has_id f.id new) (put_all new facts) (new-told shape dims new facts are up))

-- one fact, as it is looked up
module _ {P : Type 0} (state : StateValue P) (fact : Fact) (found : Option Fact) (is : found ≡ find (λ f. f.id == fact.id) state.facts) where
  has-seen : has_id fact.id state.facts ≡ is_some found
  has-seen = found-there fact.id state.facts ∙ ap is_some (sym is)

  one-kept : (b : Bool) → has_id fact.id state.facts ≡ b → new_kept state.facts (fact ∷ []) ≡ (if b then [] else kept_fact fact ∷ [])
  one-kept true has = rw has refl
  one-kept false has = rw has refl

  append-none : (xs : List KeptFact) → xs ++ [] ≡ xs
  append-none [] = refl
  append-none (x ∷ xs) = ap (λ rest. x ∷ rest) (append-none xs)

  pub passed-over : (kept : List KeptFact) → is_some found ≡ true → kept ≡ kept ++ new_kept state.facts (fact ∷ [])
  passed-over kept some = sym (append-none kept) ∙ ap (λ ks. kept ++ ks) (sym (one-kept true (has-seen ∙ some)))

  pub kept-more : (kept now : List KeptFact) (one : KeptFact) → is_some found ≡ false → one ≡ kept_fact fact → now ≡ kept ++ one ∷ [] → now ≡ kept ++ new_kept state.facts (fact ∷ [])
  kept-more kept now one none one_is more = more ∙ ap (λ k. kept ++ k ∷ []) one_is ∙ ap (λ ks. kept ++ ks) (sym (one-kept false (has-seen ∙ none)))

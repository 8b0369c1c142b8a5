-- Lists that are compared item by item.
use Rattle.std.proofs.Common.{◌≡◌, ◌≢◌, ℕ, zero, suc, ◌+◌, ◌<◌, Bool, true, false, List, [], ◌∷◌, length, get_or, drop, map, Option, Some, None, Err, refl, sym, ap, ◌∙◌, inl, inr, arith, length-drop}
use Rattle.std.specs.Prelude.{◌&&◌, ◌⊎◌, min, not}
use Rattle.std.specs.Option.{option_map}
use Rattle.std.specs.Str.{bytes_eq}
use Rattle.std.specs.Cmp.Lexicographic.{pointwise}
use Rattle.std.proofs.Math.Seq.{drop-cons}
use Rattle.std.proofs.Math.ListN.{drop_of_length-le}
use Rattle.std.proofs.lemmas.Bool.{cases_lt}
use Rattle.cube_model.specs.declared.edit.Fact.{Fact}
use Rattle.fact_keeper.specs.declared.content.KeptFact.{KeptFact}
use Rattle.schema_text.specs.Schema.{SchemaValue}
use Rattle.schema_text.specs.SchemaText.{schema_text}
use Rattle.store_audit.specs.Sound.{fact_told}
use Rattle.feed_run.specs.declared.feed_stop.FeedStop.TheVariants as feed_stop
use Rattle.feed_run.specs.Following.{Base, Between, are_same, based_over, first_difference, moved_to, work_of}

drop-first : {A : Type 0} (xs : List A) (i : ℕ) (d x : A) → i < length xs → get_or xs i d ≡ x → drop i xs ≡ x ∷ drop (i + 1) xs
drop-first xs i d x within is = let next : suc i ≡ i + 1 = omega arith in drop-cons xs i d within ∙ ap (λ v. v ∷ drop (suc i) xs) is ∙ ap (λ n. x ∷ drop n xs) next

module _ {A B : Type 0} (E : A → B → Bool) (xs : List A) (ys : List B) (i : ℕ) (dx x : A) (dy y : B) (in_xs : i < length xs) (in_ys : i < length ys) (is_x : get_or xs i dx ≡ x) (is_y : get_or ys i dy ≡ y)
    (before : pointwise E xs ys ≡ pointwise E (drop i xs) (drop i ys)) where
  here : pointwise E xs ys ≡ (E x y && pointwise E (drop (i + 1) xs) (drop (i + 1) ys))
  here = before ∙ ap (λ l. pointwise E l (drop i ys)) (drop-first xs i dx x in_xs is_x) ∙ ap (λ l. pointwise E (x ∷ drop (i + 1) xs) l) (drop-first ys i dy y in_ys is_y)

  -- two items are alike
  pub alike-next : E x y ≡ true → pointwise E xs ys ≡ pointwise E (drop (i + 1) xs) (drop (i + 1) ys)
  alike-next same = here ∙ ap (λ b. b && pointwise E (drop (i + 1) xs) (drop (i + 1) ys)) same

  -- or not
  pub unlike-here : E x y ≡ false → false ≡ pointwise E xs ys
  unlike-here other = sym (here ∙ ap (λ b. b && pointwise E (drop (i + 1) xs) (drop (i + 1) ys)) other)

module _ {A B : Type 0} (E : A → B → Bool) where
  -- lists of one length, all of whose items are alike
  pub alike-all : (xs : List A) (ys : List B) (i : ℕ) → length xs ≡ i → length ys ≡ i → pointwise E xs ys ≡ pointwise E (drop i xs) (drop i ys) → true ≡ pointwise E xs ys
  alike-all xs ys i in_xs in_ys before =
      sym (before ∙ ap (λ l. pointwise E l (drop i ys)) (drop_of_length-le xs (omega (arith, in_xs))) ∙ ap (λ l. pointwise E [] l) (drop_of_length-le ys (omega (arith, in_ys))))

  -- lists of two lengths
  pub unlike-lengths : (xs : List A) (ys : List B) → length xs ≢ length ys → false ≡ pointwise E xs ys
  unlike-lengths [] [] other = absurd (other refl)
  unlike-lengths [] (y ∷ ys) other = refl
  unlike-lengths (x ∷ xs) [] other = refl
  unlike-lengths (x ∷ xs) (y ∷ ys) other = by_first (E x y) (unlike-lengths xs ys (λ same. other (ap suc same)))
    where
      by_first : (b : Bool) → false ≡ pointwise E xs ys → false ≡ (b && pointwise E xs ys)
      by_first true rest = rest
      by_first false rest = refl

-- two places behind one another
map-map : (i : ℕ) (found : Option ℕ) → option_map (λ p. p + i) (option_map (λ p. p + 1) found) ≡ option_map (λ p. p + (i + 1)) found
map-map i None = refl
map-map i (Some p) = let sum : p + 1 + i ≡ p + (i + 1) = omega arith in ap Some sum

module _ (kept facts : List Fact) (i : ℕ) (before : first_difference kept facts ≡ option_map (λ p. p + i) (first_difference (drop i kept) (drop i facts))) where
  module _ (x y d e : Fact) (in_kept : i < length kept) (in_facts : i < length facts) (is_x : get_or kept i d ≡ x) (is_y : get_or facts i e ≡ y) where
    two : first_difference (drop i kept) (drop i facts) ≡ first_difference (x ∷ drop (i + 1) kept) (y ∷ drop (i + 1) facts)
    two = ap (λ l. first_difference l (drop i facts)) (drop-first kept i d x in_kept is_x) ∙ ap (first_difference (x ∷ drop (i + 1) kept)) (drop-first facts i e y in_facts is_y)

    pub same-next : are_same x y ≡ true → first_difference kept facts ≡ option_map (λ p. p + (i + 1)) (first_difference (drop (i + 1) kept) (drop (i + 1) facts))
    same-next same =
        let next : first_difference (drop i kept) (drop i facts) ≡ option_map (λ p. p + 1) (first_difference (drop (i + 1) kept) (drop (i + 1) facts)) = two ∙ rw same refl in
        before ∙ ap (option_map (λ p. p + i)) next ∙ map-map i (first_difference (drop (i + 1) kept) (drop (i + 1) facts))

    pub other-here : are_same x y ≡ false → Some i ≡ first_difference kept facts
    other-here other =
        let none : first_difference (drop i kept) (drop i facts) ≡ Some 0 = two ∙ rw other refl in
        let place : 0 + i ≡ i = omega arith in
        sym (before ∙ ap (option_map (λ p. p + i)) none ∙ ap Some place)

  -- the end of both
  pub same-all : length kept ≡ i → length facts ≡ i → None ≡ first_difference kept facts
  same-all in_kept in_facts =
      sym (before ∙ ap (λ l. option_map (λ p. p + i) (first_difference l (drop i facts))) (drop_of_length-le kept (omega (arith, in_kept))) ∙ ap (λ l. option_map (λ p. p + i) (first_difference [] l)) (drop_of_length-le facts (omega (arith, in_facts))))

  -- the end of one alone
  pub other-end : min (length kept) (length facts) ≡ i → length kept ≢ length facts → Some i ≡ first_difference kept facts
  other-end is_min other =
      let none : first_difference (drop i kept) (drop i facts) ≡ Some 0 = one_left (drop i kept) (drop i facts) left in
      let place : 0 + i ≡ i = omega arith in
      sym (before ∙ ap (option_map (λ p. p + i)) none ∙ ap Some place)
    where
      one_left : (xs ys : List Fact) → (length xs ≡ 0) × (0 < length ys) ⊎ (0 < length xs) × (length ys ≡ 0) → first_difference xs ys ≡ Some 0
      one_left [] (y ∷ ys) sizes = refl
      one_left (x ∷ xs) [] sizes = refl
      one_left [] [] sizes = elim sizes [ inl none ↦ absurd (omega (arith, none.1)) | inr none ↦ absurd (omega (arith, none.0)) ]
      one_left (x ∷ xs) (y ∷ ys) sizes = elim sizes [ inl none ↦ absurd (omega (arith, none.0)) | inr none ↦ absurd (omega (arith, none.1)) ]

      left : ((length (drop i kept) ≡ 0) × (0 < length (drop i facts))) ⊎ ((0 < length (drop i kept)) × (length (drop i facts) ≡ 0))
      left = elim (cases_lt (length kept) (length facts)) [
        | inl less ↦ inl (omega (arith, is_min, less, length-drop i kept), omega (arith, is_min, less, length-drop i facts))
        | inr more ↦ inr (omega (arith, is_min, more, other, length-drop i kept), omega (arith, is_min, more, length-drop i facts))
      ]

-- a kept fact tells what it is
pub told-at : (kept : List KeptFact) (i : ℕ) (x : KeptFact) → x ≡ get_or kept i x → get_or (map fact_told kept) i (fact_told x) ≡ fact_told x
told-at [] i x is = refl
told-at (first ∷ kept) zero x is = ap fact_told (sym is)
told-at (first ∷ kept) (suc i) x is = told-at kept i x is

pub told-count : (kept : List KeptFact) → length (map fact_told kept) ≡ length kept
told-count [] = refl
told-count (first ∷ kept) = ap suc (told-count kept)

-- a test that is turned
pub not-true : (b : Bool) → true ≡ not b → b ≡ false
not-true true is = cc
not-true false is = refl

pub not-false : (b : Bool) → false ≡ not b → b ≡ true
not-false true is = refl
not-false false is = cc

-- what is said of a base that is compared
module _ (base : Base) (schema : SchemaValue) (facts : List Fact) where
  pub compares-text : bytes_eq base.text (schema_text schema) ≡ false → based_over (Some base) schema facts ≡ Err (feed_stop.Base None)
  compares-text other = rw other refl

  pub compares-same : bytes_eq base.text (schema_text schema) ≡ true → None ≡ first_difference base.facts facts → based_over (Some base) schema facts ≡ moved_to (Between (work_of schema facts))
  compares-same text none = rw (text, sym none) refl

  pub compares-other : (place : Option ℕ) → bytes_eq base.text (schema_text schema) ≡ true → place ≡ first_difference base.facts facts → (place ≡ None → ⊥) → based_over (Some base) schema facts ≡ Err (feed_stop.Base place)
  compares-other None text is some = absurd (some refl)
  compares-other (Some place) text is some = rw (text, sym is) refl

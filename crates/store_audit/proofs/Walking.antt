-- The rows of a state's facts that are to be put, and the ids of kept rows that are gone, gathered one after another.
use Rattle.std.proofs.Common.{◌≡◌, ℕ, ◌+◌, ◌<◌, ◌≤◌, Bool, true, false, Bor, List, [], ◌∷◌, ◌++◌, length, map, take, refl, ap, sym, ◌∙◌, subst}
use Rattle.std.specs.Prelude.{All, AllPairs, Option, Some, None, filter, find, is_some, not, slice_get, ◌==◌}
use Rattle.std.specs.List.{list_any}
use Rattle.std.specs.Option.{option_copied, option_map}
use Rattle.std.proofs.lemmas.List.{map-append, take_all}
use Rattle.std.proofs.lemmas.List.Elements.{filter-append, filter_agree}
use Rattle.cube_model.specs.declared.edit.Fact.{Fact}
use Rattle.cube_model.specs.Allocation.{Allocation, ExtendedFact, Policy, allocation, allocation_of, extended}
use Rattle.cube_model.specs.Facts.{has_id}
use Rattle.cube_model.specs.Tree.{Dimension}
use Rattle.cube_state.proofs.Accepting.{found-there}
use Rattle.cube_state.proofs.Looking.{allocation_of-found, find-itself}
use Rattle.edit_plan.specs.Plan.{kept_rows}
use Rattle.edit_plan.proofs.AllRefreshed.{gathered, gathered-all, gathered-next, gathered-none, left-first}
use Rattle.edit_plan.proofs.Copying.{take-read}
use Rattle.fact_keeper.specs.Batch.{rows_id}
use Rattle.fact_keeper.specs.declared.content.Batch.{Batch}
use Rattle.fact_keeper.specs.declared.content.KeptFact.{KeptFact}
use Rattle.fact_keeper.specs.declared.content.KeptRows.{KeptRows}
use Rattle.fact_keeper.specs.declared.content.Stored.{Stored}
use Rattle.store_audit.specs.Loading.{rows_told}
use Rattle.store_audit.specs.Mending.{batch_beside, gone_beside, is_wanting, mended_batch, strays}
use Rattle.store_audit.specs.Sound.{fact_told, facts_told, rows_anew}
use Rattle.store_audit.proofs.Mended.{any-map, map-map}

-- what is kept of what was made of each item
kept-of : {X Y : Type 0} (w : Y → Bool) (f : X → Y) (xs : List X) → filter w (map f xs) ≡ gathered (λ x. w (f x)) f xs
kept-of w f [] = refl
kept-of w f (x ∷ xs) = either (w (f x)) refl (kept-of w f xs)
  where
    either : (b : Bool) → w (f x) ≡ b → filter w (map f xs) ≡ gathered (λ y. w (f y)) f xs → filter w (map f (x ∷ xs)) ≡ gathered (λ y. w (f y)) f (x ∷ xs)
    either true is rest = rw is (ap (λ ys. f x ∷ ys) rest)
    either false is rest = rw is rest

-- how a fact that is there is spread
module _ (policy : Policy) (dims : List Dimension) (facts : List Fact) (fact : Fact) (there : find (λ f. f.id == fact.id) facts ≡ Some fact) (found : Option (Bor Allocation)) (is : option_copied found ≡ allocation_of fact.id (extended policy dims facts)) where
  spread-is : option_copied found ≡ Some (allocation policy dims facts fact)
  spread-is = is ∙ allocation_of-found policy dims facts fact.id ∙ ap (option_map (allocation policy dims facts)) there

  pub never-missing : found ≡ None → ⊥
  never-missing none = let no : None ≡ Some (allocation policy dims facts fact) = sym (ap option_copied none) ∙ spread-is in cc

  pub spread-found : (spread : Allocation) → option_copied found ≡ Some spread → rows_told fact.id spread ≡ rows_told fact.id (allocation policy dims facts fact)
  spread-found spread some =
      let same : Some spread ≡ Some (allocation policy dims facts fact) = sym some ∙ spread-is in
      let its : spread ≡ allocation policy dims facts fact = cc in
      ap (rows_told fact.id) its

-- rows that are put behind others, or not
module _ (kept rows : List KeptRows) (seen its : KeptRows) (same : seen ≡ its) where
  append-none : (xs : List KeptRows) → xs ++ [] ≡ xs
  append-none [] = refl
  append-none (x ∷ xs) = ap (λ rest. x ∷ rest) (append-none xs)

  pub not-put : is_wanting kept seen ≡ false → rows ≡ rows ++ filter (is_wanting kept) (its ∷ [])
  not-put kept_so = let here : is_wanting kept its ≡ false = ap (is_wanting kept) (sym same) ∙ kept_so in rw here (sym (append-none rows))

  pub is-put : (made : KeptRows) (now : List KeptRows) → is_wanting kept seen ≡ true → made ≡ seen → now ≡ rows ++ made ∷ [] → now ≡ rows ++ filter (is_wanting kept) (its ∷ [])
  is-put made now missing is more = let here : is_wanting kept its ≡ true = ap (is_wanting kept) (sym same) ∙ missing in rw here (more ∙ ap (λ r. rows ++ r ∷ []) (is ∙ same))

module _ (policy : Policy) (dims : List Dimension) (facts : List Fact) (kept : List KeptRows) where
  abbrev pub rows_for : Fact → KeptRows
  rows_for f = rows_told f.id (allocation policy dims facts f)

  abbrev is_put : Fact → Bool
  is_put f = is_wanting kept (rows_for f)

  abbrev whole : Fact → ExtendedFact
  whole f = record { id = f.id; values = f.cols; allocation = allocation policy dims facts f }

  all-told : gathered is_put rows_for facts ≡ filter (is_wanting kept) (map kept_rows (extended policy dims facts))
  unfolding extended
  all-told = sym (kept-of (is_wanting kept) rows_for facts) ∙ ap (filter (is_wanting kept)) (sym (map-map whole kept_rows facts))

  abbrev IsThere : Fact → Type 0
  IsThere f = find (λ g. g.id == f.id) facts ≡ Some f

  -- some facts were looked at, and the others are left
  pub record AreWalked (rows : List KeptRows) (left : List Fact) : Type 0 where
    pub rows_are : rows ++ gathered is_put rows_for left ≡ gathered is_put rows_for facts
    pub there : All IsThere left

  pub walked-none : (rows : List KeptRows) (walk : List Fact) → AllPairs (λ f g. f.id < g.id) facts → rows ≡ [] → walk ≡ facts → AreWalked rows walk
  walked-none rows walk up none is = record { rows_are = gathered-none is_put rows_for facts walk rows none is; there = subst (All IsThere) (sym is) (find-itself facts up) }

  module _ (rows : List KeptRows) (left : List Fact) (are : AreWalked rows left) where
    pub walked-there : (fact : Fact) (rest : List Fact) → left ≡ fact ∷ rest → find (λ f. f.id == fact.id) facts ≡ Some fact
    walked-there fact rest is = (left-first IsThere left fact rest are.there is).0

    pub walked-next : (fact : Fact) (rest : List Fact) (now : List KeptRows) → left ≡ fact ∷ rest → now ≡ rows ++ filter (is_wanting kept) (rows_for fact ∷ []) → AreWalked now rest
    walked-next fact rest now is more = record {
      rows_are = gathered-next is_put rows_for (gathered is_put rows_for facts) rows now left fact rest are.rows_are is (more ∙ ap (λ ys. rows ++ ys) (kept-of (is_wanting kept) rows_for (fact ∷ [])));
      there = (left-first IsThere left fact rest are.there is).1;
    }

    pub walked-all : left ≡ [] → rows ≡ filter (is_wanting kept) (map kept_rows (extended policy dims facts))
    walked-all none = gathered-all is_put rows_for (gathered is_put rows_for facts) rows left are.rows_are none ∙ all-told

-- the ids of kept rows that are gone
module _ (facts : List Fact) (kept : List KeptRows) where
  pub gone-next : (place : ℕ) (rows : KeptRows) (gone now : List ℕ) → slice_get kept place ≡ Some rows → gone ≡ gone_beside facts (take place kept) → now ≡ gone ++ gone_beside facts (rows ∷ []) → now ≡ gone_beside facts (take (place + 1) kept)
  gone-next place rows gone now at is more =
      more
      ∙ ap (λ ids. ids ++ gone_beside facts (rows ∷ [])) is
      ∙ sym (map-append rows_id (filter (λ r. not (has_id r.id facts)) (take place kept)) (filter (λ r. not (has_id r.id facts)) (rows ∷ [])))
      ∙ ap (map rows_id) (sym (filter-append (λ r. not (has_id r.id facts)) (take place kept) (rows ∷ [])))
      ∙ ap (gone_beside facts) (sym (take-read kept place rows at))

  pub gone-all : (place : ℕ) (gone : List ℕ) → length kept ≤ place → gone ≡ gone_beside facts (take place kept) → gone ≡ gone_beside facts kept
  gone-all place gone past is = is ∙ ap (gone_beside facts) (take_all place kept past)

-- beside the facts that kept ones tell they are the strays
pub gone-strays : (facts : List KeptFact) (kept : List KeptRows) → gone_beside (map fact_told facts) kept ≡ strays kept facts
gone-strays facts kept =
    ap (map rows_id) (filter_agree (λ r. not (has_id r.id (map fact_told facts))) (λ r. not (list_any (λ f. f.id == r.id) facts)) (λ r. ap not (any-map fact_told (λ f. f.id == r.id) facts)) kept)

-- so what is made beside them is the batch of mending
abbrev batch_with : List ℕ → List KeptRows → Batch
batch_with gone rows = record { schema = None; gone = gone; facts = []; rows = rows }

pub batch-mended : (policy : Policy) (dims : List Dimension) (content : Stored) (facts : List Fact) (anew kept : List KeptRows) → facts ≡ facts_told content → anew ≡ rows_anew policy dims content → kept ≡ content.rows
    → batch_beside facts anew kept ≡ mended_batch policy dims content
batch-mended policy dims content facts anew kept facts_are anew_are kept_are =
    let gone : gone_beside facts kept ≡ strays content.rows content.facts = ap (λ (fs : List Fact). gone_beside fs kept) facts_are ∙ gone-strays content.facts kept ∙ ap (λ (ks : List KeptRows). strays ks content.facts) kept_are in
    let rows : filter (is_wanting kept) anew ≡ filter (is_wanting content.rows) (rows_anew policy dims content) = ap (λ (ks : List KeptRows). filter (is_wanting ks) anew) kept_are ∙ ap (filter (is_wanting content.rows)) anew_are in
    ap (λ ids. batch_with ids (filter (is_wanting kept) anew)) gone ∙ ap (batch_with (strays content.rows content.facts)) rows

-- an id of kept rows that is gone, or not
module _ (facts : List Fact) (rows : KeptRows) (found : Option Fact) (is : found ≡ find (λ f. f.id == rows.id) facts) (gone : List ℕ) where
  has-seen : has_id rows.id facts ≡ is_some found
  has-seen = found-there rows.id facts ∙ ap is_some (sym is)

  no-more : (xs : List ℕ) → xs ++ [] ≡ xs
  no-more [] = refl
  no-more (x ∷ xs) = ap (λ rest. x ∷ rest) (no-more xs)

  pub not-gone : is_some found ≡ true → gone ≡ gone ++ gone_beside facts (rows ∷ [])
  not-gone some = let here : has_id rows.id facts ≡ true = has-seen ∙ some in rw here (sym (no-more gone))

  pub is-gone : (now : List ℕ) → is_some found ≡ false → now ≡ gone ++ rows.id ∷ [] → now ≡ gone ++ gone_beside facts (rows ∷ [])
  is-gone now none more = let here : has_id rows.id facts ≡ false = has-seen ∙ none in rw here more

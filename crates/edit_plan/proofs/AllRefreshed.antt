-- Which of all facts are new or have another allocation than before.
use Rattle.std.proofs.Common.{◌≡◌, ℕ, ◌+◌, ◌<◌, ◌≤◌, Bool, true, false, List, [], ◌∷◌, ◌++◌, get_or, length, map, refl, ap, sym, ◌∙◌, subst, arith}
use Rattle.std.specs.Prelude.{All, AllPairs, Option, Some, None, filter, find, ◌==◌}
use Rattle.std.specs.Option.{option_map, option_map_or}
use Rattle.std.proofs.lemmas.List.{length-append}
use Rattle.std.proofs.lemmas.List.Elements.{All-head, All-tail}
use Rattle.cube_model.specs.declared.edit.Fact.{Fact}
use Rattle.cube_model.specs.Allocation.{Allocation, Policy, allocation, extended}
use Rattle.cube_model.specs.Ascending.{ascends_from}
use Rattle.cube_model.specs.Cells.{is_among}
use Rattle.cube_model.specs.Difference.{is_same, refreshed}
use Rattle.cube_model.specs.Tree.{Dimension, IsTree}
use Rattle.cube_model.proofs.Ascending.{ascends_filter, ascends_map}
use Rattle.region_algebra.specs.Space.{IsRegion, code_of}
use Rattle.staged_map.specs.Staged.{Places, value_at}
use Rattle.fact_groups.specs.Groups.{Group, group_at}
use Rattle.fact_groups.proofs.Ascending.{ascends-from_pairs}
use Rattle.fact_groups.proofs.Refreshing.{any-found}
use Rattle.fact_records.specs.Shape.{ShapeValue, width_of_all}
use Rattle.fact_indexes.specs.Kept.{IsState, Kept}
use Rattle.edit_plan.specs.Plan.{kept_rows}
use Rattle.edit_plan.specs.Refreshing.{is_same_spread}
use Rattle.edit_plan.specs.Whole.{ids_otherwise, lay_so, lies_otherwise, rows_otherwise}
use Rattle.cube_state.proofs.Looking.{find-itself, group-found}
use Rattle.fact_indexes.proofs.ValidFacts.{valid-regions}
use Rattle.edit_plan.proofs.RowsKept.{among-some, whole}

-- What is made of the facts of a list that pass a test, one fact after another: so far, and of those that are left.
module _ {X Y : Type 0} (p : X → Bool) (f : X → Y) where
  abbrev pub gathered : List X → List Y
  gathered xs = map f (filter p xs)

  append-append : (xs ys zs : List Y) → (xs ++ ys) ++ zs ≡ xs ++ (ys ++ zs)
  append-append [] ys zs = refl
  append-append (x ∷ xs) ys zs = ap (λ rest. x ∷ rest) (append-append xs ys zs)

  append-none : (xs : List Y) → xs ++ [] ≡ xs
  append-none [] = refl
  append-none (x ∷ xs) = ap (λ rest. x ∷ rest) (append-none xs)

  gathered-first : (x : X) (xs : List X) → gathered (x ∷ xs) ≡ gathered (x ∷ []) ++ gathered xs
  gathered-first x xs = either (p x) refl
    where
      either : (b : Bool) → p x ≡ b → gathered (x ∷ xs) ≡ gathered (x ∷ []) ++ gathered xs
      either true is = rw is refl
      either false is = rw is refl

  pub gathered-none : (all walk : List X) (so_far : List Y) → so_far ≡ [] → walk ≡ all → so_far ++ gathered walk ≡ gathered all
  gathered-none all walk so_far none is = ap (λ ys. ys ++ gathered walk) none ∙ ap gathered is

  pub gathered-next : (all : List Y) (so_far now : List Y) (left : List X) (x : X) (rest : List X) → so_far ++ gathered left ≡ all → left ≡ x ∷ rest → now ≡ so_far ++ gathered (x ∷ []) → now ++ gathered rest ≡ all
  gathered-next all so_far now left x rest whole is more =
      ap (λ ys. ys ++ gathered rest) more
      ∙ append-append so_far (gathered (x ∷ [])) (gathered rest)
      ∙ ap (λ ys. so_far ++ ys) (sym (gathered-first x rest))
      ∙ ap (λ xs. so_far ++ gathered xs) (sym is)
      ∙ whole

  pub gathered-all : (all : List Y) (so_far : List Y) (left : List X) → so_far ++ gathered left ≡ all → left ≡ [] → so_far ≡ all
  gathered-all all so_far left whole none = sym (append-none so_far) ∙ sym (ap (λ xs. so_far ++ gathered xs) none) ∙ whole

  -- and how many
  added : (all so_far now one left rest : ℕ) → so_far + left ≡ all → now ≡ so_far + one → left ≡ one + rest → now + rest ≡ all
  added all so_far now one left rest whole more parts = omega (arith, whole, more, parts)

  pub counted-next : (all so_far now : ℕ) (left : List X) (x : X) (rest : List X) → so_far + length (gathered left) ≡ all → left ≡ x ∷ rest → now ≡ so_far + length (gathered (x ∷ [])) → now + length (gathered rest) ≡ all
  counted-next all so_far now left x rest whole is more =
      added all so_far now (length (gathered (x ∷ []))) (length (gathered left)) (length (gathered rest)) whole more
      (ap {B = ℕ} length (ap gathered is ∙ gathered-first x rest) ∙ length-append (gathered (x ∷ [])) (gathered rest))

  pub counted-all : (all so_far : ℕ) (left : List X) → so_far + length (gathered left) ≡ all → left ≡ [] → so_far ≡ all
  counted-all all so_far left whole none = omega (arith, whole, ap {B = ℕ} (λ xs. length (gathered xs)) none)

-- of facts that are left, the first
pub left-first : (Q : Fact → Type 0) (left : List Fact) (fact : Fact) (rest : List Fact) → All Q left → left ≡ fact ∷ rest → Q fact × All Q rest
left-first Q left fact rest all is = let here : All Q (fact ∷ rest) = subst (All Q) is all in (All-head Q fact rest here, All-tail Q fact rest here)

-- a fact of all that are kept: its region is one of the space, and its group is spread as it is
pub record IsKeptFact (policy : Policy) (columns : ℕ) (dims : List Dimension) (later : List Fact) (groups : Places Group) (fact : Fact) : Type 0 where
  pub region : IsRegion dims fact.region
  pub spread : option_map (λ (g : Group). g.spread) (value_at groups (code_of dims fact.region)) ≡ Some (allocation policy dims later fact)

pub kept-each : (policy : Policy) (shape : ShapeValue) (dims : List Dimension) (cuts : List (List ℕ)) (later : List Fact) (kept : Kept) → All IsTree dims → IsState policy shape dims cuts later kept
    → All (IsKeptFact policy (width_of_all shape.measures) dims later kept.groups) later
kept-each policy shape dims cuts later kept trees is k d within =
    let regions = valid-regions shape dims later is.valid in
    let fact = get_or later k d in
    record {
      region = regions k d within;
      spread =
          ap (option_map (λ (g : Group). g.spread)) (is.groups (code_of dims fact.region))
          ∙ group-found policy (width_of_all shape.measures) dims later trees regions fact.id fact (find-itself later is.valid.ascending k d within);
    }

-- whether a fact of an id lay so is told by the fact that is found
module _ (policy : Policy) (columns : ℕ) (dims : List Dimension) (facts : List Fact) (up : AllPairs (λ f g. f.id < g.id) facts) (trees : All IsTree dims) (regions : All (λ f. IsRegion dims f.region) facts) (id : ℕ) (spread : Allocation) where
  lay-found : lay_so policy dims facts id spread ≡ option_map_or (λ f. is_same (allocation policy dims facts f) spread) (find (λ f. f.id == id) facts) false
  lay-found = any-found id (λ f. is_same (allocation policy dims facts f) spread) facts up

  pub lay-none : find (λ f. f.id == id) facts ≡ None → false ≡ lay_so policy dims facts id spread
  lay-none none = sym (lay-found ∙ ap (λ o. option_map_or (λ f. is_same (allocation policy dims facts f) spread) o false) none)

  pub lay-some : (fact : Fact) (code : ℕ) (lay : Bool) (before : Option Allocation) → find (λ f. f.id == id) facts ≡ Some fact → code ≡ code_of dims fact.region
      → before ≡ option_map (λ (g : Group). g.spread) (group_at policy columns dims facts code) → lay ≡ is_same_spread before (Some spread) → lay ≡ lay_so policy dims facts id spread
  lay-some fact code lay before found at before_is lay_is =
      lay_is
      ∙ ap (λ o. is_same_spread o (Some spread)) (before_is ∙ ap (λ c. option_map (λ (g : Group). g.spread) (group_at policy columns dims facts c)) at ∙ group-found policy columns dims facts trees regions id fact found)
      ∙ sym (lay-found ∙ ap (λ o. option_map_or (λ f. is_same (allocation policy dims facts f) spread) o false) found)

module _ (policy : Policy) (dims : List Dimension) (facts later : List Fact) (up : AllPairs (λ f g. f.id < g.id) later) where
  -- the ids that are refreshed
  pub ids-refreshed : ids_otherwise policy dims facts later later ≡ refreshed policy dims facts later
  unfolding refreshed
  ids-refreshed = refl

  rows-among : (some : List Fact) → All (λ f. find (λ g. g.id == f.id) later ≡ Some f) some
      → rows_otherwise policy dims facts later some ≡ map kept_rows (filter (λ e. is_among (ids_otherwise policy dims facts later later) e.id) (map (whole policy dims facts later up) some))
  rows-among [] each = refl
  rows-among (f ∷ some) each =
      let P = λ (f : Fact). find (λ g. g.id == f.id) later ≡ Some f in
      either (lies_otherwise policy dims facts later f) (is_among (ids_otherwise policy dims facts later later) f.id) refl refl (among-some policy dims facts later up (lies_otherwise policy dims facts later) f.id f (All-head P f some each))
      (rows-among some (All-tail P f some each))
    where
      either : (a b : Bool) → lies_otherwise policy dims facts later f ≡ a → is_among (ids_otherwise policy dims facts later later) f.id ≡ b → is_among (ids_otherwise policy dims facts later later) f.id ≡ lies_otherwise policy dims facts later f
          → rows_otherwise policy dims facts later some ≡ map kept_rows (filter (λ e. is_among (ids_otherwise policy dims facts later later) e.id) (map (whole policy dims facts later up) some))
          → rows_otherwise policy dims facts later (f ∷ some) ≡ map kept_rows (filter (λ e. is_among (ids_otherwise policy dims facts later later) e.id) (map (whole policy dims facts later up) (f ∷ some)))
      either true true is among same rest = rw (is, among) (ap (λ rows. kept_rows (whole policy dims facts later up f) ∷ rows) rest)
      either false false is among same rest = rw (is, among) rest
      either true false is among same rest = cc
      either false true is among same rest = cc

  -- and their rows
  pub rows-refreshed : rows_otherwise policy dims facts later later ≡ map kept_rows (filter (λ e. is_among (refreshed policy dims facts later) e.id) (extended policy dims later))
  unfolding extended refreshed
  rows-refreshed = rows-among later (find-itself later up)

  pub ascend-refreshed : All (λ f. 1 ≤ f.id) later → ascends_from (λ id. id) 1 (refreshed policy dims facts later) ≡ true
  unfolding refreshed
  ascend-refreshed from =
      ascends_map (λ (id : ℕ). id) (λ (f : Fact). f.id) 1 (filter (lies_otherwise policy dims facts later) later)
      ∙ ascends_filter (λ (f : Fact). f.id) (lies_otherwise policy dims facts later) 1 later (ascends-from_pairs (λ (f : Fact). f.id) 1 later up from)

-- Portions by spots are the portions of the facts, and their totals what is iterated.
use Rattle.cube_model.specs.declared.edit.Fact.{Fact}
use Rattle.iter_alloc.specs.declared.spots.First.{First}
use Rattle.cube_model.specs.Cells.{cells_of, is_among}
use Rattle.cube_model.specs.Facts.{is_precise}
use Rattle.cube_model.specs.Limits.{MAX_CELLS}
use Rattle.cube_model.specs.Tree.{Dimension}
use Rattle.iter_alloc.proofs.SpotFacts.{spots-are}
use Rattle.iter_alloc.proofs.Totalling.{total-by_facts}
use Rattle.iter_alloc.specs.Counting.{ArePlacedIn}
use Rattle.iter_alloc.specs.Forest.{at}
use Rattle.iter_alloc.specs.Iterated.{portion, iterated, iterated_all}
use Rattle.iter_alloc.specs.Portions.{ArePortions, portion_by, portions_by, PORTION_LIMIT, column_total}
use Rattle.iter_alloc.specs.Rounds.{WHOLE_FACT, share_by, level_from}
use Rattle.iter_alloc.specs.Spotting.{spot_of, spot_in, spotted_all}
use Rattle.region_algebra.specs.Space.{common_cells}
use Rattle.std.proofs.Common.{◌≡◌, ℕ, ◌-◌, ◌*◌, ◌<◌, ◌≤◌, Bool, true, false, List, [], ◌∷◌, get_or, length, map, refl, ap, sym, ◌∙◌, subst, arith, inl, inr, ◌⊎◌, ℤ}
use Rattle.std.proofs.lemmas.Bool.{cases_lt}
use Rattle.std.proofs.lemmas.List.{get_or_past}
use Rattle.std.proofs.lemmas.List.Elements.{All-contains_itself, All-head, All-tail, All-map, Contains-get_or}
use Rattle.std.proofs.lemmas.List.Sums.{length-filter, count_by-le-length}
use Rattle.std.specs.List.{sum_by, range_with_len, Contains}
use Rattle.std.specs.Prelude.{All, Option, Some, None, if◌then◌else◌}

module _ (dims : List Dimension) (facts : List Fact) (firsts : List First) (spots : List (Option ℕ)) (rounds : ℕ) (region portions : List ℕ) (placed : ArePlacedIn dims facts)
    (is : record { firsts = firsts; spots = spots } ≡ spotted_all dims facts) (are : ArePortions dims facts rounds region firsts portions) where
  one : (f : Fact) → Contains facts f → portion_by dims region portions f (spot_in dims firsts f) ≡ portion dims facts rounds region f
  one f among = either (is_precise dims f) refl
    where
      either : (b : Bool) → is_precise dims f ≡ b → portion_by dims region portions f (if b then None else Some (spot_of dims firsts f))
          ≡ (if b then WHOLE_FACT * length (common_cells dims f.region region) else sum_by (share_by (level_from dims facts facts (rounds - 1)) (cells_of dims f.region)) (common_cells dims f.region region))
      either true precise = refl
      either false several =
          are.each f among several
          ∙ ap (λ (b : Bool). if b then WHOLE_FACT * length (common_cells dims f.region region) else sum_by (share_by (level_from dims facts facts (rounds - 1)) (cells_of dims f.region)) (common_cells dims f.region region)) several

  some : (fs : List Fact) → All (Contains facts) fs → portions_by dims region portions fs (map (spot_in dims firsts) fs) ≡ map (portion dims facts rounds region) fs
  some [] among = refl
  some (f ∷ fs) among =
      ap (λ n. n ∷ portions_by dims region portions fs (map (spot_in dims firsts) fs)) (one f (All-head (Contains facts) f fs among))
      ∙ ap (λ (ns : List ℕ). portion dims facts rounds region f ∷ ns) (some fs (All-tail (Contains facts) f fs among))

  pub portions-are : portions_by dims region portions facts spots ≡ map (portion dims facts rounds region) facts
  portions-are = ap (portions_by dims region portions facts) (spots-are dims facts firsts spots placed is).spots ∙ some facts (All-contains_itself facts)

  at-low : (s : ℕ) → (s < length portions) ⊎ (length portions ≤ s) → at portions s ≤ PORTION_LIMIT
  at-low s (inl within) = are.low s 0 within
  at-low s (inr past) = omega (arith, get_or_past portions s 0 past)

  low-one : (f : Fact) → length (cells_of dims f.region) ≤ MAX_CELLS → portion_by dims region portions f (spot_in dims firsts f) ≤ PORTION_LIMIT
  low-one f size = either (is_precise dims f)
    where
      either : (b : Bool) → portion_by dims region portions f (if b then None else Some (spot_of dims firsts f)) ≤ PORTION_LIMIT
      either true = omega (arith, size, length-filter (is_among (cells_of dims region)) (cells_of dims f.region), count_by-le-length (is_among (cells_of dims region)) (cells_of dims f.region))
      either false = at-low (spot_of dims firsts f) (cases_lt (spot_of dims firsts f) (length portions))

  pub portions-low : All (λ n. n ≤ PORTION_LIMIT) (portions_by dims region portions facts spots)
  portions-low =
      subst (λ (ns : List ℕ). All (λ n. n ≤ PORTION_LIMIT) ns) (sym portions-are)
      (All-map (λ n. n ≤ PORTION_LIMIT) (portion dims facts rounds region) facts
      (λ k d within. subst (λ n. n ≤ PORTION_LIMIT) (one (get_or facts k d) (Contains-get_or facts k d within)) (low-one (get_or facts k d) (placed.sizes k d within))))

  -- the totals of all columns are what is iterated
  pub iterated-are : (columns : ℕ) → map (λ column. column_total column facts (portions_by dims region portions facts spots)) (range_with_len 0 columns) ≡ iterated_all dims facts rounds region columns
  iterated-are columns = each (range_with_len 0 columns)
    where
      each : (ks : List ℕ) → map (λ column. column_total column facts (portions_by dims region portions facts spots)) ks ≡ map (iterated dims facts rounds region) ks
      each [] = refl
      each (k ∷ ks) =
          ap (λ z. z ∷ map (λ column. column_total column facts (portions_by dims region portions facts spots)) ks) (ap (column_total k facts) portions-are ∙ total-by_facts k (portion dims facts rounds region) facts)
          ∙ ap (λ (zs : List ℤ). iterated dims facts rounds region k ∷ zs) (each ks)

-- The regions of a table are those of one product of cuts that lie under the asked region, so that a view of these cuts has the table.
use Rattle.std.proofs.Common.{◌≡◌, ℕ, suc, ◌-◌, Bool, true, false, List, [], ◌∷◌, filter, length, map, refl, sym, ap, subst, ◌∙◌, true≢false, arith}
use Rattle.std.specs.Prelude.{All, if◌then◌else◌, nat_le, nat_lt, Option, Some, None}
use Rattle.std.specs.Option.{option_map, option_map_or}
use Rattle.std.proofs.lemmas.Bool.Decides.{nat_tests}
use Rattle.std.proofs.lemmas.List.Elements.{All-filter, All-head, All-tail, filter_passes}
use Rattle.cube_model.specs.Allocation.{ExtendedFact}
use Rattle.cube_model.specs.Answer.{answer, merge_all}
use Rattle.cube_model.specs.Cells.{is_inside}
use Rattle.cube_model.specs.Cut.{cut}
use Rattle.cube_model.specs.Tree.{Dimension, Entry, IsTree, entry_of, is_under}
use Rattle.dim_tree.proofs.Climbing.{both, together}
use Rattle.dim_tree.proofs.Renaming.{map-map}
use Rattle.group_sum.specs.Terms.{TermList}
use Rattle.region_algebra.specs.Space.{IsRegion, is_region}
use Rattle.view_store.specs.Cuts.{cut_regions, entries_of, regions_behind}
use Rattle.view_store.specs.Facts.{IsViewOfFacts}
use Rattle.view_store.specs.Rolling.{entries_under, is_below, listed_under, serves}
use Rattle.view_store.specs.Views.{IsViewOf, ViewMap, codes_of, entry_at, listed, region_at}
use Rattle.view_store.proofs.Answering.{answer-of_facts}
use Rattle.view_store.proofs.CutListing.{HasTerms, cut-regions, entries-regions, listed-in_order, terms_over}
use Rattle.view_store.proofs.CutNodes.{depth_is, depth_of}
use Rattle.view_store.proofs.CutOrder.{filter-map, some-nodes}
use Rattle.view_store.proofs.CutRegions.{inside-self}
use Rattle.cube_state.specs.Tables.{depth_under, depths_under, table_regions}
use Rattle.cube_state.proofs.TableNodes.{depth_under-told, members-under}

pub regions-under : (dims : List Dimension) (depths region : List ℕ) → All IsTree dims → length depths ≡ length dims → IsRegion dims region
    → table_regions dims depths region ≡ filter (is_inside dims region) (cut_regions dims (depths_under dims depths region))
unfolding is_inside
regions-under [] [] [] trees deep named = refl
regions-under [] [] (node ∷ region) trees deep named = absurd (true≢false (sym named))
regions-under [] (depth ∷ depths) region trees deep named = absurd (omega (arith, deep))
regions-under (dim ∷ dims) [] region trees deep named = absurd (omega (arith, deep))
regions-under (dim ∷ dims) (depth ∷ depths) [] trees deep named = absurd (true≢false (sym named))
regions-under (dim ∷ dims) (depth ∷ depths) (node ∷ region) trees deep named =
    let parts = both (nat_lt node (length dim)) (is_region dims region) named in
    let cuts : List (List ℕ) = cut_regions dims (depths_under dims depths region) in
    ap (λ ns. regions_behind ns (table_regions dims depths region)) (members-under dim depth node (All-head IsTree dim dims trees) (grind (arith, nat_tests, parts.0)))
    ∙ ap (regions_behind (filter (λ low. is_under dim low node) (cut dim (depth_under dim depth node)))) (regions-under dims depths region (All-tail IsTree dim dims trees) (omega (arith, deep)) parts.1)
    ∙ sym (some-nodes (λ low. is_under dim low node) (is_inside dims region) (is_inside (dim ∷ dims) (node ∷ region)) (λ n r. refl) (cut dim (depth_under dim depth node)) cuts)

pub length-depths_under : (dims : List Dimension) (depths region : List ℕ) → length depths ≡ length dims → IsRegion dims region → length (depths_under dims depths region) ≡ length dims
length-depths_under [] [] [] deep named = refl
length-depths_under [] [] (node ∷ region) deep named = absurd (true≢false (sym named))
length-depths_under [] (depth ∷ depths) region deep named = absurd (omega (arith, deep))
length-depths_under (dim ∷ dims) [] region deep named = absurd (omega (arith, deep))
length-depths_under (dim ∷ dims) (depth ∷ depths) [] deep named = absurd (true≢false (sym named))
length-depths_under (dim ∷ dims) (depth ∷ depths) (node ∷ region) deep named =
    ap suc (length-depths_under dims depths region (omega (arith, deep)) (both (nat_lt node (length dim)) (is_region dims region) named).1)

-- such cuts serve the asked region
served-node : (found : Option Entry) (depth : ℕ) (deep at : ℕ) → option_map (λ e. e.depth) found ≡ Some deep → at ≡ (if nat_lt depth deep then deep else depth) → option_map_or (λ e. nat_le e.depth at) found false ≡ true
served-node None depth deep at is cuts = absurd (grind arith)
served-node (Some e) depth deep at is cuts = let same : e.depth ≡ deep = grind arith in grind (arith, nat_tests, same, cuts)

pub served-under : (dims : List Dimension) (depths region : List ℕ) → All IsTree dims → length depths ≡ length dims → IsRegion dims region → serves dims (depths_under dims depths region) region ≡ true
served-under [] [] [] trees deep named = refl
served-under [] [] (node ∷ region) trees deep named = absurd (true≢false (sym named))
served-under [] (depth ∷ depths) region trees deep named = absurd (omega (arith, deep))
served-under (dim ∷ dims) [] region trees deep named = absurd (omega (arith, deep))
served-under (dim ∷ dims) (depth ∷ depths) [] trees deep named = absurd (true≢false (sym named))
served-under (dim ∷ dims) (depth ∷ depths) (node ∷ region) trees deep named =
    let parts = both (nat_lt node (length dim)) (is_region dims region) named in
    let lies = depth_is dim (All-head IsTree dim dims trees) node (grind (arith, nat_tests, parts.0)) in
    together (served-node (entry_of dim node) depth (depth_of dim node) (depth_under dim depth node) lies (depth_under-told dim node depth (depth_of dim node) lies))
    (served-under dims depths region (All-tail IsTree dim dims trees) (omega (arith, deep)) parts.1)

-- entries of the regions that pass
entries-passing : (terms_of : List ℕ → TermList) (p : List ℕ → Bool) (regions : List (List ℕ)) → filter (λ entry. p entry.0) (entries_of terms_of regions) ≡ entries_of terms_of (filter p regions)
entries-passing terms_of p [] = refl
entries-passing terms_of p (region ∷ regions) = by (p region) (nat_lt 0 (length (terms_of region).terms)) refl refl (entries-passing terms_of p regions)
  where
    by : (a b : Bool) → p region ≡ a → nat_lt 0 (length (terms_of region).terms) ≡ b → filter (λ entry. p entry.0) (entries_of terms_of regions) ≡ entries_of terms_of (filter p regions)
        → filter (λ entry. p entry.0) (entries_of terms_of (region ∷ regions)) ≡ entries_of terms_of (filter p (region ∷ regions))
    by true true passes some rest = rw (passes, some) (rw (passes, rest) refl)
    by true false passes some rest = rw (passes, some) rest
    by false true passes some rest = rw (passes, some) (rw passes rest)
    by false false passes some rest = rw (passes, some) rest

-- entries of regions where two functions agree
entries-alike : (first second : List ℕ → TermList) (regions : List (List ℕ)) → All (λ region. first region ≡ second region) regions → entries_of first regions ≡ entries_of second regions
entries-alike first second [] same = refl
entries-alike first second (region ∷ regions) same =
    let here : first region ≡ second region = All-head (λ region. first region ≡ second region) region regions same in
    ap (λ terms. filter (λ (entry : List ℕ × TermList). nat_lt 0 (length entry.1.terms)) ((region, terms) ∷ map (λ region. (region, first region)) regions)) here
    ∙ ap (λ rest. if nat_lt 0 (length (second region).terms) then (region, second region) ∷ rest else rest) (entries-alike first second regions (All-tail (λ region. first region ≡ second region) region regions same))

-- what is listed under a region are the entries below it
listed-below : (dims : List Dimension) (view : ViewMap) (region : List ℕ) → map (λ entry. entry.1.terms) (listed_under dims view region) ≡ entries_under dims view region
listed-below dims view region =
    ap (map (λ (entry : List ℕ × TermList). entry.1.terms)) (filter-map (λ (code : ℕ). (region_at dims code, entry_at view code)) (is_below dims region) (λ (entry : List ℕ × TermList). is_inside dims region entry.0) (codes_of dims view) (λ i code at. refl))
    ∙ map-map (λ (entry : List ℕ × TermList). entry.1.terms) (λ (code : ℕ). (region_at dims code, entry_at view code)) (filter (is_below dims region) (codes_of dims view))

-- A view of the cuts, of facts that answer as these in the regions under the asked one.
module _ (dims : List Dimension) (rows others : List ExtendedFact) (view : ViewMap) (depths region : List ℕ) (trees : All IsTree dims) (deep : length depths ≡ length dims) (named : IsRegion dims region)
    (of : IsViewOfFacts dims others view) (over : IsViewOf dims view) (cuts : view.depths ≡ depths_under dims depths region) (whole : All HasTerms (listed dims view))
    (alike : (low : List ℕ) → IsRegion dims low → is_inside dims region low ≡ true → answer (view.columns - 1) dims others low ≡ answer (view.columns - 1) dims rows low) where
  abbrev product : List (List ℕ)
  product = cut_regions dims view.depths

  regions-are : table_regions dims depths region ≡ filter (is_inside dims region) product
  regions-are = regions-under dims depths region trees deep named ∙ ap (λ ds. filter (is_inside dims region) (cut_regions dims ds)) (sym cuts)

  each-named : All (IsRegion dims) (filter (is_inside dims region) product)
  each-named = All-filter (is_inside dims region) (IsRegion dims) product (cut-regions dims view.depths trees over.depths)

  terms-alike : (low : List ℕ) → IsRegion dims low → is_inside dims region low ≡ true → terms_over dims others view.columns low ≡ terms_over dims rows view.columns low
  terms-alike low is under = ap (λ terms. record { columns = view.columns; terms = terms }) (alike low is under)

  pub table-listed : listed_under dims view region ≡ entries_of (terms_over dims rows view.columns) (table_regions dims depths region)
  table-listed =
      ap (filter (λ (entry : List ℕ × TermList). is_inside dims region entry.0)) (listed-in_order dims others view of trees over whole)
      ∙ entries-passing (terms_over dims others view.columns) (is_inside dims region) product
      ∙ entries-alike (terms_over dims others view.columns) (terms_over dims rows view.columns) (filter (is_inside dims region) product)
      (λ k d within. terms-alike _ (each-named k d within) (filter_passes (is_inside dims region) product k d within))
      ∙ ap (entries_of (terms_over dims rows view.columns)) (sym regions-are)

  pub table-merged : merge_all (view.columns - 1) (map (λ entry. entry.1.terms) (listed_under dims view region)) ≡ answer (view.columns - 1) dims rows region
  table-merged =
      ap (merge_all (view.columns - 1)) (listed-below dims view region)
      ∙ answer-of_facts dims others view region of trees named (subst (λ ds. serves dims ds region ≡ true) (sym cuts) (served-under dims depths region trees deep named))
      ∙ alike region named (inside-self dims region trees named)

-- the regions of a table are regions
pub table-named : (terms_of : List ℕ → TermList) (dims : List Dimension) (depths region : List ℕ) → All IsTree dims → length depths ≡ length dims → IsRegion dims region
    → All (λ entry. IsRegion dims entry.0) (entries_of terms_of (table_regions dims depths region))
table-named terms_of dims depths region trees deep named =
    let under = depths_under dims depths region in
    subst (All (λ (entry : List ℕ × TermList). IsRegion dims entry.0))
    (entries-passing terms_of (is_inside dims region) (cut_regions dims under) ∙ ap (entries_of terms_of) (sym (regions-under dims depths region trees deep named)))
    (All-filter (λ (entry : List ℕ × TermList). is_inside dims region entry.0) (λ entry. IsRegion dims entry.0) (entries_of terms_of (cut_regions dims under)) (entries-regions terms_of dims under trees (length-depths_under dims depths region deep named)))

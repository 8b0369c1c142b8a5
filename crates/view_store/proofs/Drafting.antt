-- Drafts of entries: copies of terms, and the shares of rows that are added to them.
use Rattle.std.proofs.Common.{◌≡◌, ℕ, zero, suc, ◌+◌, ◌*◌, ◌<◌, ◌≤◌, Bool, true, false, List, [], ◌∷◌, ◌++◌, filter, length, get_or, refl, ap, sym, ◌∙◌, inl, inr, arith, pos, nat_abs, subst, take, drop, Option, Some, None, is_some, unwrap_or, add-one}
use Rattle.std.specs.Prelude.{All, Err, IfSome, Ok, OnErr, OnOk, Result, if◌then◌else◌, ◌==◌, ◌&&◌, nat_le}
use Rattle.std.specs.List.{list_all, sum_by}
use Rattle.std.proofs.Math.Nat.{mul-le-mul}
use Rattle.std.proofs.lemmas.Bool.{cases_eq}
use Rattle.std.proofs.lemmas.Bool.Decides.{nat_tests}
use Rattle.std.proofs.lemmas.List.{take_more, take-append-drop}
use Rattle.std.proofs.lemmas.List.Elements.{All-head, All-tail, All-weaker, filter-append}
use Rattle.std.proofs.lemmas.List.Sums.{sum_by-append, sum_by-cons}
use Rattle.cube_base.specs.declared.fault.Memory.{Memory}
use Rattle.cube_model.specs.declared.term.Term.{Term}
use Rattle.cube_model.specs.Answer.{count_of, numerator_of}
use Rattle.cube_model.specs.Cells.{cells_of, is_among}
use Rattle.cube_model.specs.Limits.{WIDE}
use Rattle.cube_model.specs.Tree.{Dimension}
use Rattle.group_sum.specs.Terms.{AddsUnits, AreTerms, FitsUnits, TermList, are_terms_from}
use Rattle.group_sum.proofs.Ascending.{first_is}
use Rattle.staged_map.specs.Staged.{Places, Sets, value_at}
use Rattle.view_store.specs.declared.change.Share.{Share}
use Rattle.view_store.specs.declared.change.ViewChange.{ViewChange}
use Rattle.view_store.specs.Changes.{IsChange, IsWithinWide}
use Rattle.view_store.specs.Cuts.{HoldsCells, HoldsRows, IsCodeOver}
use Rattle.view_store.specs.Drafts.{AddsRow, AddsSpread, AreOver, IsSpread, KeepsToView, draft_at, share_of, weight_in}
use Rattle.view_store.specs.Views.{AreEntries, IsEntry, IsOver, held_at, is_in_view, no_terms, region_at}
use Rattle.view_store.proofs.Merges.{AreRegular}
use Rattle.view_store.proofs.Shares.{AddsUnits-more, AddsUnits-none, FitsUnits-part}

-- what is read of items that pass passes, as the default does
get_or-passes : {X : Type 0} (p : X → Bool) (d : X) (xs : List X) (k : ℕ) → list_all p xs ≡ true → p d ≡ true → p (get_or xs k d) ≡ true
get_or-passes p d [] k each default = default
get_or-passes p d (x ∷ xs) zero each default = grind (arith, each)
get_or-passes p d (x ∷ xs) (suc k) each default = get_or-passes p d xs k (grind (arith, each)) default

-- no numerator of terms passes the limit
record IsWithinAt (terms : List Term) (d : ℕ) : Type 0 where
  pub count : count_of terms d ≤ WIDE
  pub sums : (k : ℕ) → nat_abs (numerator_of terms d (k + 1)) ≤ WIDE
  pub none : (k : ℕ) → count_of terms d ≡ 0 → numerator_of terms d (k + 1) ≡ pos 0

terms_within-at : (columns least : ℕ) (terms : List Term) (d : ℕ) → are_terms_from columns least terms ≡ true → IsWithinAt terms d
terms_within-at columns least [] d are = record { count = omega arith; sums = λ k. omega arith; none = λ k zero. refl }
terms_within-at columns least (term ∷ terms) d are =
    let first = first_is columns least term terms are in
    let rest = terms_within-at columns (term.den + 1) terms d first.others in
    elim (cases_eq term.den d) [
      | inl same ↦
          let test : (term.den == d) ≡ true = grind (arith, nat_tests) in
          let whole : (nat_le 1 term.count && nat_le term.count WIDE && length term.sums + 1 == columns && list_all (λ sum. nat_le (nat_abs sum) WIDE) term.sums) ≡ true = first.whole in
          record {
            count = rw test (grind (arith, nat_tests, whole));
            sums = λ k.
                let each : list_all (λ sum. nat_le (nat_abs sum) WIDE) term.sums ≡ true = grind (arith, whole) in
                let here : nat_le (nat_abs (get_or term.sums k (pos 0))) WIDE ≡ true = get_or-passes (λ sum. nat_le (nat_abs sum) WIDE) (pos 0) term.sums k each refl in
                rw (test, add-one) (grind (arith, nat_tests, here));
            none = λ k zero. absurd (grind (arith, nat_tests, rw test at zero, whole));
          }
      | inr other ↦
          let test : (term.den == d) ≡ false = grind (arith, nat_tests) in
          record { count = rw test rest.count; sums = λ k. rw test (rest.sums k); none = λ k zero. rw test (rest.none k (rw test at zero)) }
    ]

pub terms_within : (list : TermList) → AreTerms list → IsWithinWide list.columns list.terms
terms_within list are = record {
  counts = λ d. (terms_within-at list.columns 1 list.terms d are.terms).count;
  sums = λ d k lt. (terms_within-at list.columns 1 list.terms d are.terms).sums k;
}

pub AreRegular-terms : (columns : ℕ) (list : TermList) → AreTerms list → AreRegular columns list.terms
AreRegular-terms columns list are = record { zeros = λ d k lt zero. (terms_within-at list.columns 1 list.terms d are.terms).none k zero }

-- the weight of rows inside cells
abbrev pub weight_of_rows : List ℕ → List (ℕ × ℕ) → ℕ
weight_of_rows cells rows = sum_by (λ row. row.1) (filter (λ row. is_among cells row.0) rows)

weight-append : (cells : List ℕ) (rows more : List (ℕ × ℕ)) → weight_of_rows cells (rows ++ more) ≡ weight_of_rows cells rows + weight_of_rows cells more
weight-append cells rows more =
    ap (sum_by (λ (row : ℕ × ℕ). row.1)) (filter-append (λ (row : ℕ × ℕ). is_among cells row.0) rows more)
    ∙ sum_by-append (λ (row : ℕ × ℕ). row.1) (filter (λ row. is_among cells row.0) rows) (filter (λ row. is_among cells row.0) more)

weight-one : (cells : List ℕ) (row : ℕ × ℕ) → weight_of_rows cells (row ∷ []) ≡ (if is_among cells row.0 then row.1 else 0)
weight-one cells row = by (is_among cells row.0)
  where
    by : (b : Bool) → sum_by (λ (r : ℕ × ℕ). r.1) (if b then row ∷ [] else []) ≡ (if b then row.1 else 0)
    by true = omega arith
    by false = refl

weight-next : (cells : List ℕ) (rows : List (ℕ × ℕ)) (j : ℕ) → j < length rows
    → weight_of_rows cells (take (j + 1) rows) ≡ weight_of_rows cells (take j rows) + (if is_among cells (get_or rows j (0, 0)).0 then (get_or rows j (0, 0)).1 else 0)
weight-next cells rows j within =
    ap (weight_of_rows cells) (take_more rows j (0, 0) within) ∙ weight-append cells (take j rows) (get_or rows j (0, 0) ∷ [])
    ∙ ap (λ n. weight_of_rows cells (take j rows) + n) (weight-one cells (get_or rows j (0, 0)))

weight-most : (cells : List ℕ) (rows : List (ℕ × ℕ)) (j : ℕ) → weight_of_rows cells (take j rows) ≤ weight_of_rows cells rows
weight-most cells rows j = omega (arith, ap (weight_of_rows cells) (take-append-drop j rows), weight-append cells (take j rows) (drop j rows))

-- The shares of the first rows of facts were added to the drafts.
pub record HasRows (dims : List Dimension) (depths : List ℕ) (columns : ℕ) (entries : Places TermList) (share : Share) (rows : List (ℕ × ℕ)) (old now : Places TermList) : Type 0 where
  pub shares : (code : ℕ) → is_in_view dims depths code ≡ true
      → AddsUnits (draft_at columns entries old code) (draft_at columns entries now code) share.den (weight_of_rows (cells_of dims (region_at dims code)) rows * share.facts) (weight_of_rows (cells_of dims (region_at dims code)) rows)
      share.cols
  pub keys : KeepsToView dims depths old now
  pub over : AreOver columns now
  pub whole : AreEntries columns old → AreEntries columns now

pub HasRows-none : (dims : List Dimension) (depths : List ℕ) (columns : ℕ) (entries : Places TermList) (share : Share) (now : Places TermList) → AreOver columns now → HasRows dims depths columns entries share [] now now
HasRows-none dims depths columns entries share now over = record {
  shares = λ code in_view. AddsUnits-none share.den (0 * share.facts) share.cols (draft_at columns entries now code) (omega arith);
  keys = λ code there. grind (arith, there);
  over = over;
  whole = λ are. are;
}

-- where something is held, the draft is that
pub draft-held : (columns : ℕ) (entries drafts : Places TermList) (code : ℕ) → is_some (value_at drafts code) ≡ true → draft_at columns entries drafts code ≡ held_at columns drafts code
draft-held columns entries drafts code there = by (value_at drafts code) there
  where
    by : (o : Option TermList) → is_some o ≡ true → unwrap_or o (held_at columns entries code) ≡ unwrap_or o (no_terms columns)
    by None some = absurd (grind (arith, some))
    by (Some list) some = refl

-- where terms are held at a code, and others are set there
module _ (columns : ℕ) (entries : Places TermList) (code : ℕ) (old new : Places TermList) (held raised : TermList) (is : value_at old code ≡ Some held) (sets : Sets old new code raised) where
  set-there : value_at new code ≡ Some raised
  set-there =
      let same : (code == code) ≡ true = grind (arith, nat_tests) in
      rw same at (sets.values code)

  set-elsewhere : (k : ℕ) → (code == k) ≡ false → value_at new k ≡ value_at old k
  set-elsewhere k apart = rw apart at (sets.values k)

  -- what holds of these terms and of those held elsewhere holds of all
  set-each : (P : TermList → Type 0) → P raised → ((k : ℕ) → IfSome (value_at old k) P) → (k : ℕ) → IfSome (value_at new k) P
  set-each P here each k = elim (cases_eq k code) [
    | inl same ↦ subst (λ (c : ℕ). IfSome (value_at new c) P) (sym same) (rw set-there here)
    | inr other ↦
        let apart : (code == k) ≡ false = grind (arith, nat_tests) in
        rw (set-elsewhere k apart) (each k)
  ]

  module _ (share : Share) (weight : ℕ) (over : AreOver columns old) (are : AreTerms raised) where
    is-over : AddsUnits held raised share.den (weight * share.facts) weight share.cols → IsOver columns raised
    is-over added =
        let was : IsOver columns held = rw is at (over code) in
        record { columns_are = added.columns ∙ was.columns_are; are_terms = are }

    raised-row : AddsUnits held raised share.den (weight * share.facts) weight share.cols → AddsRow columns entries share code weight old new
    raised-row added = record {
      share =
          let before : draft_at columns entries old code ≡ held = ap (λ o. unwrap_or o (held_at columns entries code)) is in
          let behind : draft_at columns entries new code ≡ raised = ap (λ o. unwrap_or o (held_at columns entries code)) set-there in
          rw (before, behind) added;
      others = set-elsewhere;
      over = set-each (IsOver columns) (is-over added) over;
    }

    -- a share that was added leaves a term
    raised-entry : 1 ≤ weight → 1 ≤ share.facts → AddsUnits held raised share.den (weight * share.facts) weight share.cols → IsEntry columns raised
    raised-entry some facts added = record { over = is-over added; some = by raised.terms refl }
      where
        counted : count_of raised.terms share.den ≡ count_of held.terms share.den + weight * share.facts
        counted =
            let same : (share.den == share.den) ≡ true = grind (arith, nat_tests) in
            rw same at (added.counts share.den)

        by : (terms : List Term) → raised.terms ≡ terms → 1 ≤ length raised.terms
        by [] none =
            let least : 1 * 1 ≤ weight * share.facts = mul-le-mul some facts in
            let zero : count_of raised.terms share.den ≡ 0 = ap (λ (ts : List Term). count_of ts share.den) none in
            absurd (omega (arith, counted, zero, least))
        by (t ∷ ts) some = rw some (omega arith)

    -- so where the share of a row was added to them, that is done to the drafts
    pub raised-adds : (result : Result (Unit {0}) Memory) → OnOk result (AddsUnits held raised share.den (weight * share.facts) weight share.cols) → OnOk result (AddsRow columns entries share code weight old new)
    raised-adds (Ok u) added = raised-row added
    raised-adds (Err e) added = tt

    pub raised-whole : (result : Result (Unit {0}) Memory) → OnOk result (AddsUnits held raised share.den (weight * share.facts) weight share.cols) → OnErr result (raised ≡ held)
        → 1 ≤ weight → 1 ≤ share.facts → AreEntries columns old → AreEntries columns new
    raised-whole (Ok u) added same some facts entries = record { least = entries.least; most = entries.most; each = set-each (IsEntry columns) (raised-entry some facts added) entries.each }
    raised-whole (Err e) added same some facts entries =
        let was : IsEntry columns held = rw is at (entries.each code) in
        record { least = entries.least; most = entries.most; each = set-each (IsEntry columns) (rw same was) entries.each }

module _ (dims : List Dimension) (depths : List ℕ) (columns : ℕ) (entries : Places TermList) (share : Share) (rows : List (ℕ × ℕ)) (old now : Places TermList)
    (j code : ℕ) (within : j < length rows) (before : HasRows dims depths columns entries share (take j rows) old now) (over : IsCodeOver dims depths (get_or rows j (0, 0)).0 code) where
  -- the share of the next row fits where that of the change does
  pub row-fits : length share.cols + 1 ≡ columns → IsWithinWide columns (draft_at columns entries old code).terms
      → FitsUnits (draft_at columns entries old code).terms share.den (weight_of_rows (cells_of dims (region_at dims code)) rows * share.facts) (weight_of_rows (cells_of dims (region_at dims code)) rows) share.cols
      → FitsUnits (draft_at columns entries now code).terms share.den ((get_or rows j (0, 0)).1 * share.facts) (get_or rows j (0, 0)).1 share.cols
  row-fits width held fits =
      let cells = cells_of dims (region_at dims code) in
      let inside : is_among cells (get_or rows j (0, 0)).0 ≡ true = over.only code over.in_view ∙ grind (arith, nat_tests) in
      let next = weight-next cells rows j within in
      let le : weight_of_rows cells (take j rows) + (get_or rows j (0, 0)).1 ≤ weight_of_rows cells rows = omega (arith, rw inside at next, weight-most cells rows (j + 1)) in
      FitsUnits-part columns share.den share.facts share.cols (draft_at columns entries old code) (draft_at columns entries now code) (weight_of_rows cells (take j rows)) (get_or rows j (0, 0)).1 (weight_of_rows cells rows) width le held fits (before.shares code over.in_view)

  -- and once it is added, the shares of one row more are
  pub HasRows-next : (new : Places TermList) → AddsRow columns entries share code (get_or rows j (0, 0)).1 now new → (AreEntries columns now → AreEntries columns new) → HasRows dims depths columns entries share (take (j + 1) rows) old new
  HasRows-next new adds whole = record {
    shares = λ k in_view.
        let cells = cells_of dims (region_at dims k) in
        let among : is_among cells (get_or rows j (0, 0)).0 ≡ (k == code) = over.only k in_view in
        let next = weight-next cells rows j within in
        elim (cases_eq k code) [
          | inl same ↦
              let test : (k == code) ≡ true = grind (arith, nat_tests) in
              let inside : is_among cells (get_or rows j (0, 0)).0 ≡ true = among ∙ test in
              let one : AddsUnits (draft_at columns entries now k) (draft_at columns entries new k) share.den ((get_or rows j (0, 0)).1 * share.facts) (get_or rows j (0, 0)).1 share.cols = rw same adds.share in
              let both = AddsUnits-more columns share.den share.facts share.cols (draft_at columns entries old k) (draft_at columns entries now k) (draft_at columns entries new k) (weight_of_rows cells (take j rows)) (get_or rows j (0, 0)).1 (before.shares k in_view) one in
              let sum : weight_of_rows cells (take j rows) + (get_or rows j (0, 0)).1 ≡ weight_of_rows cells (take (j + 1) rows) = sym (rw inside at next) in
              rw sum at both
          | inr other ↦
              let test : (k == code) ≡ false = grind (arith, nat_tests) in
              let apart : (code == k) ≡ false = grind (arith, nat_tests) in
              let outside : is_among cells (get_or rows j (0, 0)).0 ≡ false = among ∙ test in
              let stays : draft_at columns entries new k ≡ draft_at columns entries now k = ap (λ o. unwrap_or o (held_at columns entries k)) (adds.others k apart) in
              let none : weight_of_rows cells (take (j + 1) rows) ≡ weight_of_rows cells (take j rows) = omega (arith, rw outside at next) in
              rw (stays, none) (before.shares k in_view)
        ];
    keys = λ k there. elim (cases_eq k code) [
      | inl same ↦
          let view : is_in_view dims depths k ≡ true = ap (is_in_view dims depths) same ∙ over.in_view in
          rw view (grind (arith, view))
      | inr other ↦
          let apart : (code == k) ≡ false = grind (arith, nat_tests) in
          before.keys k (sym (ap is_some (adds.others k apart)) ∙ there)
    ];
    over = adds.over;
    whole = λ are. whole (before.whole are);
  }

-- rows whose cells are all among these, and rows of which none is
weight-all : (cells : List ℕ) (rows : List (ℕ × ℕ)) → All (λ row. is_among cells row.0 ≡ true) rows → weight_of_rows cells rows ≡ sum_by (λ row. row.1) rows
weight-all cells [] each = refl
weight-all cells (row ∷ rows) each =
    let here : is_among cells row.0 ≡ true = All-head (λ (r : ℕ × ℕ). is_among cells r.0 ≡ true) row rows each in
    let rest = weight-all cells rows (All-tail (λ (r : ℕ × ℕ). is_among cells r.0 ≡ true) row rows each) in
    rw here (omega (arith, rest, sum_by-cons (λ (r : ℕ × ℕ). r.1) row (filter (λ r. is_among cells r.0) rows), sum_by-cons (λ (r : ℕ × ℕ). r.1) row rows))

weight-no : (cells : List ℕ) (rows : List (ℕ × ℕ)) → All (λ row. is_among cells row.0 ≡ false) rows → weight_of_rows cells rows ≡ 0
weight-no cells [] each = refl
weight-no cells (row ∷ rows) each =
    let here : is_among cells row.0 ≡ false = All-head (λ (r : ℕ × ℕ). is_among cells r.0 ≡ false) row rows each in
    rw here (weight-no cells rows (All-tail (λ (r : ℕ × ℕ). is_among cells r.0 ≡ false) row rows each))

-- what follows where a call ended well
on-ok : {P Q : Type 0} → (P → Q) → (result : Result (Unit {0}) Memory) → OnOk result P → OnOk result Q
on-ok f (Ok u) is = f is
on-ok f (Err e) is = tt

-- rows that one region of the product of the cuts holds
module _ (dims : List Dimension) (depths : List ℕ) (columns : ℕ) (entries : Places TermList) (share : Share) (rows : List (ℕ × ℕ)) (is : IsSpread dims columns share rows) (code : ℕ) (holds : HoldsRows dims depths rows code) where
  -- all of it lies there, and nothing elsewhere
  pub weight-whole : weight_in dims share rows code ≡ share.den
  weight-whole =
      let same : (code == code) ≡ true = grind (arith, nat_tests) in
      let there : All (λ row. is_among (cells_of dims (region_at dims code)) row.0 ≡ true) rows =
      All-weaker (λ (row : ℕ × ℕ). IsCodeOver dims depths row.0 code) (λ row. is_among (cells_of dims (region_at dims code)) row.0 ≡ true) (λ row over. over.only code holds.in_view ∙ same) rows holds.each in
      weight-all (cells_of dims (region_at dims code)) rows there ∙ is.whole

  pub weight-elsewhere : (k : ℕ) → is_in_view dims depths k ≡ true → (k == code) ≡ false → weight_in dims share rows k ≡ 0
  weight-elsewhere k in_view other =
      weight-no (cells_of dims (region_at dims k)) rows
      (All-weaker (λ (row : ℕ × ℕ). IsCodeOver dims depths row.0 code) (λ row. is_among (cells_of dims (region_at dims k)) row.0 ≡ false) (λ row over. over.only k in_view ∙ other) rows holds.each)

  -- so the whole of it fits where its share does
  pub whole-fits : (draft : TermList) → FitsUnits draft.terms share.den (weight_in dims share rows code * share.facts) (weight_in dims share rows code) share.cols → FitsUnits draft.terms share.den (share.den * share.facts) share.den share.cols
  whole-fits draft fits = subst (λ (n : ℕ). FitsUnits draft.terms share.den (n * share.facts) n share.cols) weight-whole fits

  module _ (old new : Places TermList) (adds : AddsRow columns entries share code share.den old new) where
    -- and once it was added, its shares in all regions were
    whole-shares : (k : ℕ) → is_in_view dims depths k ≡ true → AddsSpread dims share rows k (draft_at columns entries old k) (draft_at columns entries new k)
    whole-shares k in_view = elim (cases_eq k code) [
      | inl same ↦
          let all = subst (λ (n : ℕ). AddsUnits (draft_at columns entries old code) (draft_at columns entries new code) share.den (n * share.facts) n share.cols) (sym weight-whole) adds.share in
          subst (λ (c : ℕ). AddsSpread dims share rows c (draft_at columns entries old c) (draft_at columns entries new c)) (sym same) all
      | inr other ↦
          let test : (k == code) ≡ false = grind (arith, nat_tests) in
          let apart : (code == k) ≡ false = grind (arith, nat_tests) in
          let stays : draft_at columns entries new k ≡ draft_at columns entries old k = ap (λ o. unwrap_or o (held_at columns entries k)) (adds.others k apart) in
          let none = weight-elsewhere k in_view test in
          subst (λ (n : ℕ). AddsUnits (draft_at columns entries old k) (draft_at columns entries new k) share.den (n * share.facts) n share.cols) (sym none)
          (subst (λ (draft : TermList). AddsUnits (draft_at columns entries old k) draft share.den (0 * share.facts) 0 share.cols) (sym stays) (AddsUnits-none share.den (0 * share.facts) share.cols (draft_at columns entries old k) (omega arith)))
    ]

    whole-keys : KeepsToView dims depths old new
    whole-keys k there = elim (cases_eq k code) [
      | inl same ↦
          let view : is_in_view dims depths k ≡ true = ap (is_in_view dims depths) same ∙ holds.in_view in
          rw view (grind (arith, view))
      | inr other ↦
          let apart : (code == k) ≡ false = grind (arith, nat_tests) in
          let was : is_some (value_at old k) ≡ true = sym (ap is_some (adds.others k apart)) ∙ there in
          grind (arith, was)
    ]

  -- so where adding it ended well
  module _ (old new : Places TermList) (result : Result (Unit {0}) Memory) (adds : OnOk result (AddsRow columns entries share code share.den old new)) where
    pub shares-whole : OnOk result ((k : ℕ) → is_in_view dims depths k ≡ true → AddsSpread dims share rows k (draft_at columns entries old k) (draft_at columns entries new k))
    shares-whole = on-ok (whole-shares old new) result adds

    pub keys-whole : OnOk result (KeepsToView dims depths old new)
    keys-whole = on-ok (whole-keys old new) result adds

    pub over-whole : OnOk result (AreOver columns new)
    over-whole = on-ok (λ (one : AddsRow columns entries share code share.den old new). one.over) result adds

-- a change is of such facts, and where one region holds all cells of its region, it holds its rows
pub spread-of : (dims : List Dimension) (columns : ℕ) (change : ViewChange) → IsChange dims columns change → IsSpread dims columns (share_of change) change.rows
spread-of dims columns change is = record { facts = is.facts; den = is.den; width = is.width; cells = is.cells; whole = is.whole }

pub rows-held : (dims : List Dimension) (depths : List ℕ) (columns : ℕ) (change : ViewChange) (over : Option ℕ) → IsChange dims columns change → IfSome over (HoldsCells dims depths change.region) → IfSome over (HoldsRows dims depths change.rows)
rows-held dims depths columns change None is holds = tt
rows-held dims depths columns change (Some code) is holds = record {
  in_view = holds.in_view;
  each = All-weaker (λ (row : ℕ × ℕ). is_among (cells_of dims change.region) row.0 ≡ true) (λ row. IsCodeOver dims depths row.0 code) (λ row among. holds.each row.0 among) change.rows is.inside;
}

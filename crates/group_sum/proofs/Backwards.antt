-- What merging from the back keeps: the own and the other terms ahead, and the terms behind, add up to both lists.
use Rattle.std.proofs.Common.{◌≡◌, ℕ, zero, suc, ◌+◌, ◌-◌, ◌<◌, ◌≤◌, true, false, List, [], ◌∷◌, ◌++◌, length, take, drop, set, ℤ, pos, ◌+ℤ◌, Option, Some, None, ◌==◌, sym, ap, subst, ◌∙◌, refl, inl, inr, arith}
use Rattle.std.specs.Prelude.{is_none}
use Rattle.std.proofs.lemmas.Bool.{cases_eq, cases_lt}
use Rattle.std.proofs.lemmas.Bool.Decides.{nat_tests}
use Rattle.std.proofs.lemmas.Int.{ints}
use Rattle.std.proofs.lemmas.List.{take_more, drop_more, take-append-drop, length-set, take-take, take_all, drop_all, length-take-le, take-set-le, drop-set-lt, get_or-set_same}
use Rattle.cube_model.specs.declared.term.Term.{Term}
use Rattle.cube_model.specs.Answer.{term_of}
use Rattle.cube_model.specs.Limits.{WIDE}
use Rattle.group_sum.specs.Terms.{are_terms_from, is_term}
use Rattle.group_sum.specs.Place.{no_term, term_at}
use Rattle.group_sum.specs.Heads.{AreWithin, IsTotal, IsTermOf, head_sum, head_count, total_in}
use Rattle.group_sum.specs.Merge.{FitsMerge, Merges}
use Rattle.group_sum.specs.Back.{missing_in}
use Rattle.group_sum.proofs.Ascending.{first_is, first_then, term_of_below, term_of_at}
use Rattle.group_sum.proofs.Missing.{missing_more}
use Rattle.group_sum.proofs.Behind.{next_from, next_from-push, term_of_beyond}
use Rattle.group_sum.proofs.Numerators.{is_term_of, numerator_is}

module _ (columns : ℕ) where
  -- terms from a greater one on are terms from a smaller one on
  pub from_less : (least more : ℕ) (terms : List Term) → least ≤ more → are_terms_from columns more terms ≡ true → are_terms_from columns least terms ≡ true
  from_less least more [] le ok = refl
  from_less least more (term ∷ terms) le ok =
      let first = first_is columns more term terms ok in
      first_then columns least term terms (record { from = omega (arith, first.from); whole = first.whole; others = first.others })

  -- what terms say of the last and of those before it
  pub record LastIs (least : ℕ) (terms : List Term) (term : Term) : Type 0 where
    pub before : next_from least terms ≤ term.den
    pub whole : is_term columns term ≡ true
    pub others : are_terms_from columns least terms ≡ true

  pub last_is : (least : ℕ) (terms : List Term) (term : Term) → are_terms_from columns least (terms ++ term ∷ []) ≡ true → LastIs least terms term
  last_is least [] term ok = let first = first_is columns least term [] ok in record { before = first.from; whole = first.whole; others = refl }
  last_is least (t ∷ terms) term ok =
      let first = first_is columns least t (terms ++ term ∷ []) ok in
      let rest = last_is (t.den + 1) terms term first.others in
      record { before = rest.before; whole = rest.whole; others = first_then columns least t terms (record { from = first.from; whole = first.whole; others = rest.others }) }

  -- terms in front of others that begin behind them
  pub join : (least bound : ℕ) (front back : List Term) → are_terms_from columns least front ≡ true → next_from least front ≤ bound → are_terms_from columns bound back ≡ true → are_terms_from columns least (front ++ back) ≡ true
  join least bound [] back ok le back_ok = from_less least bound back le back_ok
  join least bound (t ∷ front) back ok le back_ok =
      let first = first_is columns least t front ok in
      first_then columns least t (front ++ back) (record { from = first.from; whole = first.whole; others = join (t.den + 1) bound front back first.others le back_ok })

-- what is found in terms in front of others
pub term_of-append : (front back : List Term) (d : ℕ) → term_of front d ≡ None → term_of (front ++ back) d ≡ term_of back d
term_of-append [] back d none = refl
term_of-append (t ∷ front) back d none = elim (cases_eq t.den d) [
  | inl same ↦ let test : (t.den == d) ≡ true = grind (arith, nat_tests) in absurd (some_none (rw test at none))
  | inr other ↦ let test : (t.den == d) ≡ false = grind (arith, nat_tests) in rw test (term_of-append front back d (rw test at none))
]
  where
    some_none : {t : Term} → Some t ≡ None → ⊥
    some_none same = cc

pub term_of-front : (front back : List Term) (d : ℕ) → term_of back d ≡ None → term_of (front ++ back) d ≡ term_of front d
term_of-front [] back d none = none
term_of-front (t ∷ front) back d none = elim (cases_eq t.den d) [
  | inl same ↦ let test : (t.den == d) ≡ true = grind (arith, nat_tests) in rw test refl
  | inr other ↦ let test : (t.den == d) ≡ false = grind (arith, nat_tests) in rw test (term_of-front front back d none)
]

-- a numerator of a term, the count's first; 0 where there is no term
abbrev pub value : ℕ → Option Term → ℤ
value zero term = pos (head_count term)
value (suc k) term = head_sum term k

value_none : (c : ℕ) → value c None ≡ pos 0
value_none zero = refl
value_none (suc k) = refl

module _ (columns : ℕ) where
  front_of : (least : ℕ) (front back : List Term) → are_terms_from columns least (front ++ back) ≡ true → are_terms_from columns least front ≡ true
  front_of least [] back ok = refl
  front_of least (t ∷ front) back ok =
      let first = first_is columns least t (front ++ back) ok in
      first_then columns least t front (record { from = first.from; whole = first.whole; others = front_of (t.den + 1) front back first.others })

  take_ok : (terms : List Term) → are_terms_from columns 1 terms ≡ true → (i : ℕ) → are_terms_from columns 1 (take i terms) ≡ true
  take_ok terms ok i = front_of 1 (take i terms) (drop i terms) (rw take-append-drop ok)

  -- where terms stand in front of others that begin behind them, numerators are those of both
  joined : (least bound : ℕ) (front back : List Term) → are_terms_from columns least front ≡ true → next_from least front ≤ bound → are_terms_from columns bound back ≡ true
      → (c d : ℕ) → value c (term_of (front ++ back) d) ≡ value c (term_of front d) +ℤ value c (term_of back d)
  joined least bound front back ok le back_ok c d = elim (cases_lt d bound) [
    | inl lt ↦
        let none = term_of_below columns bound back back_ok d lt in
        let found = ap (value c) (term_of-front front back d none) in
        let zero = ap (value c) none ∙ value_none c in
        omega (arith, ints, found, zero)
    | inr beyond ↦
        let none = term_of_beyond columns least front ok d (omega arith) in
        let found = ap (value c) (term_of-append front back d none) in
        let zero = ap (value c) none ∙ value_none c in
        omega (arith, ints, found, zero)
  ]

  -- one term alone
  one_ok : (x : Term) → is_term columns x ≡ true → are_terms_from columns x.den (x ∷ []) ≡ true
  one_ok x whole = first_then columns x.den x [] (record { from = omega arith; whole = whole; others = refl })

  before_one : (bound : ℕ) (x : Term) (back : List Term) → is_term columns x ≡ true → x.den < bound → are_terms_from columns bound back ≡ true
      → (c d : ℕ) → value c (term_of (x ∷ back) d) ≡ value c (term_of (x ∷ []) d) +ℤ value c (term_of back d)
  before_one bound x back whole lt ok c d = joined x.den bound (x ∷ []) back (one_ok x whole) (omega arith) ok c d

  behind_one : (front : List Term) (x : Term) → are_terms_from columns 1 (front ++ x ∷ []) ≡ true
      → (c d : ℕ) → value c (term_of (front ++ x ∷ []) d) ≡ value c (term_of front d) +ℤ value c (term_of (x ∷ []) d)
  behind_one front x ok c d =
      let last = last_is columns 1 front x ok in
      joined 1 x.den front (x ∷ []) last.others last.before (one_ok x last.whole) c d

-- a place that is written over, and what is behind it
written_back : (cur : List Term) (w : ℕ) (x : Term) → w < length cur → drop w (set cur w x) ≡ x ∷ drop (w + 1) cur
written_back cur w x lt =
    let first : term_at (set cur w x) w ≡ x = get_or-set_same cur w x no_term lt in
    drop_more (set cur w x) w no_term (rw length-set lt) ∙ rw (first, drop-set-lt (w + 1) cur w x (omega arith)) refl

-- what is the same up to a place is so up to the one before
shorter_front : (now left : List Term) (i : ℕ) → take (i + 1) now ≡ take (i + 1) left → take i now ≡ take i left
shorter_front now left i same = sym (take-take i (i + 1) now (omega arith)) ∙ ap (take i) same ∙ take-take i (i + 1) left (omega arith)

-- the numerators of what two terms add up to
total_adds : (columns : ℕ) (x y t : Term) → length x.sums + 1 ≡ columns → x.den ≡ y.den → IsTotal x y t → (c d : ℕ) → c < columns
    → value c (term_of (t ∷ []) d) ≡ value c (term_of (x ∷ []) d) +ℤ value c (term_of (y ∷ []) d)
total_adds columns x y t len same total c d lt = elim (cases_eq x.den d) [
  | inl here ↦
      let x_test : (x.den == d) ≡ true = grind (arith, nat_tests) in
      let y_test : (y.den == d) ≡ true = grind (arith, nat_tests) in
      let t_test : (t.den == d) ≡ true = grind (arith, nat_tests, total.has_den) in
      rw (x_test, y_test, t_test) (added c lt)
  | inr other ↦
      let x_test : (x.den == d) ≡ false = grind (arith, nat_tests) in
      let y_test : (y.den == d) ≡ false = grind (arith, nat_tests) in
      let t_test : (t.den == d) ≡ false = grind (arith, nat_tests, total.has_den) in
      let zero = value_none c in
      rw (x_test, y_test, t_test) (omega (arith, ints, zero))
]
  where
    added : (c : ℕ) → c < columns → value c (Some t) ≡ value c (Some x) +ℤ value c (Some y)
    added zero lt = ap pos total.count
    added (suc k) lt = total.sums.each k (omega (arith, total.columns))

-- Own terms and others are merged from the back: so many of them are ahead, and the places from one on are filled with the
-- terms of greater denominators.
pub record IsBack (columns : ℕ) (left right now : List Term) (i j w : ℕ) : Type 0 where
  pub own : i ≤ length left
  pub other : j ≤ length right
  pub place : w ≡ i + missing_in left (take j right)
  pub size : w ≤ length now
  pub front : take i now ≡ take i left
  pub bound : ℕ
  pub left_before : next_from 1 (take i left) ≤ bound
  pub right_before : next_from 1 (take j right) ≤ bound
  pub left_behind : are_terms_from columns bound (drop i left) ≡ true
  pub back : are_terms_from columns bound (drop w now) ≡ true
  pub each : (c d : ℕ) → c < columns → value c (term_of (take i left) d) +ℤ value c (term_of (drop w now) d) +ℤ value c (term_of (take j right) d) ≡ value c (term_of left d) +ℤ value c (term_of right d)

-- terms that have the numerators of both lists added up
pub record IsMerged (columns : ℕ) (left right now : List Term) : Type 0 where
  pub terms : are_terms_from columns 1 now ≡ true
  pub values : (c d : ℕ) → c < columns → value c (term_of now d) ≡ value c (term_of left d) +ℤ value c (term_of right d)

pub merges_of : (columns : ℕ) (left right now : List Term) → 1 ≤ columns → IsMerged columns left right now → Merges (record { columns = columns; terms = left }) (record { columns = columns; terms = right }) (record { columns = columns; terms = now })
merges_of columns left right now some merged = record {
  columns = refl;
  counts = λ d. omega (arith, ints, merged.values 0 d (omega arith));
  sums = λ d k lt. rw (numerator_is now d k, numerator_is left d k, numerator_is right d k) (merged.values (suc k) d (omega arith));
}

module _ (columns : ℕ) (left right : List Term) (left_ok : are_terms_from columns 1 left ≡ true) (right_ok : are_terms_from columns 1 right ≡ true) where
  -- the last of the own terms that are ahead
  record IsLast (terms : List Term) (i : ℕ) (bound : ℕ) : Type 0 where
    ends : take (i + 1) terms ≡ take i terms ++ term_at terms i ∷ []
    last : LastIs columns 1 (take i terms) (term_at terms i)
    below : (term_at terms i).den < bound
    adds : (c d : ℕ) → value c (term_of (take (i + 1) terms) d) ≡ value c (term_of (take i terms) d) +ℤ value c (term_of (term_at terms i ∷ []) d)

  last_of : (terms : List Term) → are_terms_from columns 1 terms ≡ true → (i bound : ℕ) → i < length terms → next_from 1 (take (i + 1) terms) ≤ bound → IsLast terms i bound
  last_of terms ok i bound lt before =
      let ends : take (i + 1) terms ≡ take i terms ++ term_at terms i ∷ [] = take_more terms i no_term lt in
      let all : are_terms_from columns 1 (take i terms ++ term_at terms i ∷ []) ≡ true = subst (λ ts. are_terms_from columns 1 ts ≡ true) ends (take_ok columns terms ok (i + 1)) in
      let next : next_from 1 (take (i + 1) terms) ≡ (term_at terms i).den + 1 = ap (next_from 1) ends ∙ next_from-push 1 (take i terms) (term_at terms i) in
      record {
        ends = ends;
        last = last_is columns 1 (take i terms) (term_at terms i) all;
        below = omega (arith, next);
        adds = λ c d. ap (λ ts. value c (term_of ts d)) ends ∙ behind_one columns (take i terms) (term_at terms i) all c d;
      }

  module _ (now : List Term) (i j w : ℕ) where
    -- the last own term goes to the last place
    pub moves : IsBack columns left right now (i + 1) j (w + 1) → next_from 1 (take j right) ≤ (term_at left i).den → IsBack columns left right (set now w (term_at left i)) i j w
    moves is less =
        let x = term_at left i in
        let of_x = last_of left left_ok i is.bound (omega (arith, is.own)) is.left_before in
        let here : w < length now = omega (arith, is.size) in
        let behind = written_back now w x here in
        record {
          own = omega (arith, is.own);
          other = is.other;
          place = omega (arith, is.place);
          size = rw length-set (omega arith);
          front = take-set-le i now w x (omega (arith, is.place)) ∙ shorter_front now left i is.front;
          bound = x.den;
          left_before = of_x.last.before;
          right_before = less;
          left_behind = rw (drop_more left i no_term (omega (arith, is.own))) (first_then columns x.den x (drop (i + 1) left) (record { from = omega arith; whole = of_x.last.whole; others = from_less columns (x.den + 1) is.bound (drop (i + 1) left) (omega (arith, of_x.below)) is.left_behind }));
          back = rw behind (first_then columns x.den x (drop (w + 1) now) (record { from = omega arith; whole = of_x.last.whole; others = from_less columns (x.den + 1) is.bound (drop (w + 1) now) (omega (arith, of_x.below)) is.back }));
          each = λ c d lt. omega (arith, ints, is.each c d lt, of_x.adds c d, ap (λ ts. value c (term_of ts d)) behind, before_one columns is.bound x (drop (w + 1) now) of_x.last.whole of_x.below is.back c d);
        }

    -- the last of the others goes there
    pub copies : IsBack columns left right now i (j + 1) (w + 1) → next_from 1 (take i left) ≤ (term_at right j).den → IsBack columns left right (set now w (term_at right j)) i j w
    copies is less =
        let y = term_at right j in
        let of_y = last_of right right_ok j is.bound (omega (arith, is.other)) is.right_before in
        let here : w < length now = omega (arith, is.size) in
        let behind = written_back now w y here in
        let before : term_of (take i left) y.den ≡ None = term_of_beyond columns 1 (take i left) (take_ok columns left left_ok i) y.den less in
        let after : term_of (drop i left) y.den ≡ None = term_of_below columns is.bound (drop i left) is.left_behind y.den of_y.below in
        let absent : term_of left y.den ≡ None = subst (λ ts. term_of ts y.den ≡ None) (take-append-drop i left) (term_of-append (take i left) (drop i left) y.den before ∙ after) in
        let lacks : true ≡ is_none (term_of left y.den) = rw absent refl in
        let more = missing_more left right j true (omega (arith, is.other)) lacks in
        record {
          own = is.own;
          other = omega (arith, is.other);
          place = omega (arith, is.place, more);
          size = rw length-set (omega arith);
          front = take-set-le i now w y (omega (arith, is.place, more)) ∙ is.front;
          bound = y.den;
          left_before = less;
          right_before = of_y.last.before;
          left_behind = from_less columns y.den is.bound (drop i left) (omega (arith, of_y.below)) is.left_behind;
          back = rw behind (first_then columns y.den y (drop (w + 1) now) (record { from = omega arith; whole = of_y.last.whole; others = from_less columns (y.den + 1) is.bound (drop (w + 1) now) (omega (arith, of_y.below)) is.back }));
          each = λ c d lt. omega (arith, ints, is.each c d lt, of_y.adds c d, ap (λ ts. value c (term_of ts d)) behind, before_one columns is.bound y (drop (w + 1) now) of_y.last.whole of_y.below is.back c d);
        }

    module _ (some : 1 ≤ columns) (fits : FitsMerge (record { columns = columns; terms = left }) (record { columns = columns; terms = right })) where
      -- both last terms are found at their denominator, so they fit added up
      record IsPair : Type 0 where
        found_left : term_of left (term_at left i).den ≡ Some (term_at left i)
        found_right : term_of right (term_at left i).den ≡ Some (term_at right j)
        count : (term_at left i).count + (term_at right j).count ≤ WIDE
        sums : AreWithin (columns - 1) (total_in (Some (term_at left i)) (Some (term_at right j)))

      pair : i < length left → j < length right → (term_at left i).den ≡ (term_at right j).den → IsPair
      pair lt lt_other same =
          let found_left = term_of_at columns 1 left left_ok (term_at left i).den i (record { in_range = lt; has_key = refl }) in
          let found_right = term_of_at columns 1 right right_ok (term_at left i).den j (record { in_range = lt_other; has_key = sym same }) in
          record {
            found_left = found_left;
            found_right = found_right;
            count = rw (found_left, found_right) at (fits.counts (term_at left i).den);
            sums = record {
              each = λ k within.
                  let fit = rw (numerator_is left (term_at left i).den k, numerator_is right (term_at left i).den k) at (fits.sums (term_at left i).den k (omega arith)) in
                  rw (found_left, found_right) at fit;
            };
          }

      pub pair_count : i < length left → j < length right → (term_at left i).den ≡ (term_at right j).den → (term_at left i).count + (term_at right j).count ≤ WIDE
      pair_count lt lt_other same = (pair lt lt_other same).count

      pub pair_sums : i < length left → j < length right → (term_at left i).den ≡ (term_at right j).den → AreWithin (columns - 1) (total_in (Some (term_at left i)) (Some (term_at right j)))
      pair_sums lt lt_other same = (pair lt lt_other same).sums

      -- what they add up to goes there
      pub adds_up : IsBack columns left right now (i + 1) (j + 1) (w + 1) → (term_at left i).den ≡ (term_at right j).den → (t : Term) → IsTotal (term_at left i) (term_at right j) t
          → IsBack columns left right (set now w t) i j w
      adds_up is same t total =
          let x = term_at left i in
          let y = term_at right j in
          let of_x = last_of left left_ok i is.bound (omega (arith, is.own)) is.left_before in
          let of_y = last_of right right_ok j is.bound (omega (arith, is.other)) is.right_before in
          let both = pair (omega (arith, is.own)) (omega (arith, is.other)) same in
          let here : w < length now = omega (arith, is.size) in
          let behind = written_back now w t here in
          let values : length x.sums ≡ columns - 1 = grind (arith, nat_tests, of_x.last.whole) in
          let has : false ≡ is_none (term_of left y.den) = subst (λ d. false ≡ is_none (term_of left d)) same (rw both.found_left refl) in
          let more = missing_more left right j false (omega (arith, is.other)) has in
          let positive : 1 ≤ x.count + y.count = grind (arith, nat_tests, of_x.last.whole) in
          let t_is : IsTermOf x.den (columns - 1) (x.count + y.count) (total_in (Some x) (Some y)) t = record { has_den = total.has_den; count = total.count; columns = total.columns ∙ values; sums = total.sums } in
          let t_whole = is_term_of columns x.den (x.count + y.count) (total_in (Some x) (Some y)) t some positive both.count both.sums t_is in
          let t_below : t.den < is.bound = omega (arith, of_x.below, total.has_den) in
          record {
            own = omega (arith, is.own);
            other = omega (arith, is.other);
            place = omega (arith, is.place, more);
            size = rw length-set (omega arith);
            front = take-set-le i now w t (omega (arith, is.place, more)) ∙ shorter_front now left i is.front;
            bound = x.den;
            left_before = of_x.last.before;
            right_before = omega (arith, of_y.last.before);
            left_behind = rw (drop_more left i no_term (omega (arith, is.own))) (first_then columns x.den x (drop (i + 1) left) (record { from = omega arith; whole = of_x.last.whole; others = from_less columns (x.den + 1) is.bound (drop (i + 1) left) (omega (arith, of_x.below)) is.left_behind }));
            back = rw behind (first_then columns x.den t (drop (w + 1) now) (record { from = omega (arith, total.has_den); whole = t_whole; others = from_less columns (t.den + 1) is.bound (drop (w + 1) now) (omega arith) is.back }));
            each = λ c d lt. omega (arith, ints, is.each c d lt, of_x.adds c d, of_y.adds c d, ap (λ ts. value c (term_of ts d)) behind, before_one columns is.bound t (drop (w + 1) now) t_whole t_below is.back c d, total_adds columns x y t (omega (arith, values)) same total c d lt);
          }

  -- at first all are ahead
  pub back_first : (now : List Term) (own : ℕ) → own ≤ length now → left ≡ take own now → length now ≡ own + missing_in left right → IsBack columns left right now own (length right) (length now)
  back_first now own le is room =
      let len : length left ≡ own = ap length is ∙ length-take-le own now le in
      let whole : take own left ≡ left = take_all own left (omega (arith, len)) in
      let others : take (length right) right ≡ right = take_all (length right) right (omega arith) in
      let none_left : drop own left ≡ [] = drop_all own left (omega (arith, len)) in
      let none_back : drop (length now) now ≡ [] = drop_all (length now) now (omega arith) in
      record {
        own = omega (arith, len);
        other = omega arith;
        place = rw others room;
        size = omega arith;
        front = sym is ∙ sym whole;
        bound = next_from 1 left + next_from 1 right;
        left_before = rw whole (omega arith);
        right_before = rw others (omega arith);
        left_behind = rw none_left refl;
        back = rw none_back refl;
        each = λ c d lt. let zero = value_none c in rw (whole, others, none_back) (omega (arith, ints, zero));
      }

  -- in the end all are merged
  pub back_last : (now : List Term) (i w : ℕ) → IsBack columns left right now i 0 w → IsMerged columns left right now
  back_last now i w is =
      let at_end : w ≡ i = omega (arith, is.place) in
      let parts : now ≡ take i left ++ drop w now = sym (take-append-drop i now) ∙ rw (is.front, at_end) refl in
      let all : are_terms_from columns 1 now ≡ true = rw parts (join columns 1 is.bound (take i left) (drop w now) (take_ok columns left left_ok i) is.left_before is.back) in
      let values : (c d : ℕ) → c < columns → value c (term_of now d) ≡ value c (term_of left d) +ℤ value c (term_of right d) = λ c d lt.
      let both = ap (λ ts. value c (term_of ts d)) parts ∙ joined columns 1 is.bound (take i left) (drop w now) (take_ok columns left left_ok i) is.left_before is.back c d in
      let zero = value_none c in
      omega (arith, ints, both, is.each c d lt, zero) in
      record { terms = all; values = values }

-- Terms that are kept as their denominators and their numerators: where the row of a term stands, and what a write, an
-- insertion and a removal do.
use Rattle.std.proofs.Common.{◌≡◌, ℕ, zero, suc, ◌+◌, ◌-◌, ◌*◌, ◌<◌, ◌≤◌, true, List, [], ◌∷◌, ◌++◌, length, take, drop, set, get_or, replicate, Result, Ok, Err, ℤ, pos, sym, ap, subst, ◌∙◌, refl, arith, append-nil, append_assoc, zero-add, suc-add}
use Rattle.std.specs.List.{copy_within, insert, remove}
use borrow.Rule.Slice.PartMut.{put_mid}
use Rattle.std.proofs.Math.Nat.{suc-mul, zero-mul}
use Rattle.std.proofs.Math.Seq.{take-append-add, drop-append-add}
use Rattle.std.proofs.lemmas.Bool.Decides.{nat_tests}
use Rattle.std.proofs.lemmas.List.{drop-drop, drop_more, length-append, length-take-le, length-map, map-append, map-set, set_split, take_at, drop_at, length-replicate, get_or-set_same, set-get_or, replicate-append-replicate, get_or_default, take_all, take-take, drop_all, drop-append-le, take-append-le, length-drop}
use Rattle.std.proofs.lemmas.List.Edits.{take-paste}
use Rattle.std.proofs.lemmas.List.Concat.{flat_map-append}
use Rattle.cube_model.specs.declared.term.Term.{Term}
use Rattle.cube_base.proofs.Search.{Searched}
use Rattle.group_sum.specs.Place.{term_at, no_term}
use Rattle.group_sum.specs.Rows.{IsFlat, denominators, have_columns, numerators, row_of, row_term, row_terms, IsRow}
use Rattle.group_sum.specs.Share.{bare_term}

-- what the test says of the first and of the others
record FirstHas (columns : ℕ) (term : Term) (terms : List Term) : Type 0 where
  row : length (row_of term) ≡ columns
  others : have_columns columns terms ≡ true

first_has : (columns : ℕ) (term : Term) (terms : List Term) → have_columns columns (term ∷ terms) ≡ true → FirstHas columns term terms
first_has columns term terms ok = record { row = grind (arith, nat_tests); others = grind (arith, nat_tests) }

module _ (columns : ℕ) where
  -- the rows of terms are read as the terms
  row_terms-rows : (terms : List Term) → have_columns columns terms ≡ true → row_terms columns (denominators terms) (numerators terms) ≡ terms
  row_terms-rows [] ok = refl
  row_terms-rows (term ∷ terms) ok =
      let first = first_has columns term terms ok in
      rw (take_at (row_of term) (numerators terms) columns first.row, drop_at (row_of term) (numerators terms) columns first.row)
      (ap (λ ts. term ∷ ts) (row_terms-rows terms first.others))

  pub length-numerators : (terms : List Term) → have_columns columns terms ≡ true → length (numerators terms) ≡ length terms * columns
  length-numerators [] ok = sym (zero-mul columns)
  length-numerators (term ∷ terms) ok =
      let first = first_has columns term terms ok in
      length-append (row_of term) (numerators terms) ∙ omega (arith, first.row, length-numerators terms first.others, suc-mul (length terms) columns)

  -- the rows before a place, and those from it on
  pub take-numerators : (terms : List Term) → have_columns columns terms ≡ true → (i : ℕ) → i ≤ length terms → take (i * columns) (numerators terms) ≡ numerators (take i terms)
  take-numerators terms ok zero le = ap (λ n. take n (numerators terms)) (zero-mul columns)
  take-numerators [] ok (suc i) le = absurd (omega arith)
  take-numerators (term ∷ terms) ok (suc i) le =
      let first = first_has columns term terms ok in
      let more : suc i * columns ≡ length (row_of term) + i * columns = omega (arith, first.row, suc-mul i columns) in
      ap (λ n. take n (row_of term ++ numerators terms)) more ∙ take-append-add (row_of term) (numerators terms) (i * columns)
      ∙ ap (λ ns. row_of term ++ ns) (take-numerators terms first.others i (omega arith))

  pub drop-numerators : (terms : List Term) → have_columns columns terms ≡ true → (i : ℕ) → i ≤ length terms → drop (i * columns) (numerators terms) ≡ numerators (drop i terms)
  drop-numerators terms ok zero le = ap (λ n. drop n (numerators terms)) (zero-mul columns)
  drop-numerators [] ok (suc i) le = absurd (omega arith)
  drop-numerators (term ∷ terms) ok (suc i) le =
      let first = first_has columns term terms ok in
      let more : suc i * columns ≡ length (row_of term) + i * columns = omega (arith, first.row, suc-mul i columns) in
      ap (λ n. drop n (row_of term ++ numerators terms)) more ∙ drop-append-add (row_of term) (numerators terms) (i * columns)
      ∙ drop-numerators terms first.others i (omega arith)

  pub row_length : (terms : List Term) → have_columns columns terms ≡ true → (i : ℕ) → i < length terms → length (row_of (term_at terms i)) ≡ columns
  row_length [] ok i lt = absurd (omega arith)
  row_length (term ∷ terms) ok zero lt = (first_has columns term terms ok).row
  row_length (term ∷ terms) ok (suc i) lt = row_length terms (first_has columns term terms ok).others i (omega arith)

  have-set : (terms : List Term) → have_columns columns terms ≡ true → (i : ℕ) (new : Term) → length (row_of new) ≡ columns → have_columns columns (set terms i new) ≡ true
  have-set [] ok i new row = refl
  have-set (term ∷ terms) ok zero new row = let first = first_has columns term terms ok in grind (arith, nat_tests, first.others)
  have-set (term ∷ terms) ok (suc i) new row = let first = first_has columns term terms ok in grind (arith, nat_tests, first.row, have-set terms first.others i new row)

  have-insert : (terms : List Term) → have_columns columns terms ≡ true → (i : ℕ) (new : Term) → length (row_of new) ≡ columns → have_columns columns (insert terms i new) ≡ true
  have-insert [] ok zero new row = grind (arith, nat_tests)
  have-insert [] ok (suc i) new row = grind (arith, nat_tests)
  have-insert (term ∷ terms) ok zero new row = grind (arith, nat_tests)
  have-insert (term ∷ terms) ok (suc i) new row = let first = first_has columns term terms ok in grind (arith, nat_tests, first.row, have-insert terms first.others i new row)

  have-remove : (terms : List Term) → have_columns columns terms ≡ true → (i : ℕ) → have_columns columns (remove terms i) ≡ true
  have-remove [] ok zero = refl
  have-remove [] ok (suc i) = refl
  have-remove (term ∷ terms) ok zero = (first_has columns term terms ok).others
  have-remove (term ∷ terms) ok (suc i) = let first = first_has columns term terms ok in grind (arith, nat_tests, first.row, have-remove terms first.others i)

have-append : (columns : ℕ) (xs ys : List Term) → have_columns columns xs ≡ true → have_columns columns ys ≡ true → have_columns columns (xs ++ ys) ≡ true
have-append columns [] ys ok oks = oks
have-append columns (x ∷ xs) ys ok oks = let first = first_has columns x xs ok in grind (arith, nat_tests, first.row, have-append columns xs ys first.others oks)

-- a row of zeros is that of a term that has no share
pub row_of-bare : (den columns : ℕ) → 1 ≤ columns → row_of (bare_term den (columns - 1)) ≡ replicate columns (pos 0)
row_of-bare den zero some = absurd (omega arith)
row_of-bare den (suc columns) some = let less : suc columns - 1 ≡ columns = omega arith in rw less refl

bare_rows : (columns : ℕ) → 1 ≤ columns → (more : ℕ) → IsFlat columns (replicate more (bare_term 0 (columns - 1))) (replicate more 0) (replicate (more * columns) (pos 0))
bare_rows columns some zero = record { some = some; whole = refl; dens_are = refl; nums_are = ap (λ n. replicate n (pos 0)) (sym (zero-mul columns)) }
bare_rows columns some (suc more) =
    let others = bare_rows columns some more in
    let row = row_of-bare 0 columns some in
    let row_len : length (row_of (bare_term 0 (columns - 1))) ≡ columns = ap length row ∙ length-replicate columns (pos 0) in
    record {
      some = some;
      whole = grind (arith, nat_tests, row_len, others.whole);
      dens_are = ap (λ ds. 0 ∷ ds) others.dens_are;
      nums_are = ap (λ r. r ++ numerators (replicate more (bare_term 0 (columns - 1)))) row ∙ ap (λ ns. replicate columns (pos 0) ++ ns) others.nums_are
          ∙ (replicate-append-replicate columns (more * columns) (pos 0) ∙ ap (λ n. replicate n (pos 0)) (omega (arith, suc-mul more columns)));
    }

den_at : (terms : List Term) (i : ℕ) → i < length terms → get_or (denominators terms) i 0 ≡ (term_at terms i).den
den_at [] i lt = absurd (omega arith)
den_at (term ∷ terms) zero lt = refl
den_at (term ∷ terms) (suc i) lt = den_at terms i (omega arith)

right_distrib : (a b n : ℕ) → (a + b) * n ≡ a * n + b * n
right_distrib zero b n = omega (arith, zero-mul n, ap (λ m. m * n) (zero-add b))
right_distrib (suc a) b n = ap (λ m. m * n) (suc-add a b) ∙ omega (arith, suc-mul (a + b) n, suc-mul a n, right_distrib a b n)

-- a place in a row is a place among all numerators
pub row_ends : (i n columns : ℕ) → i < n → i * columns + columns ≤ n * columns
row_ends zero (suc n) columns lt = omega (arith, suc-mul n columns, zero-mul columns)
row_ends (suc i) (suc n) columns lt = omega (arith, suc-mul n columns, suc-mul i columns, row_ends i n columns (omega arith))
row_ends i zero columns lt = absurd (omega arith)

pub row_starts : (i n columns : ℕ) → i ≤ n → i * columns ≤ n * columns
row_starts zero n columns le = omega (arith, zero-mul columns)
row_starts (suc i) (suc n) columns le = omega (arith, suc-mul n columns, suc-mul i columns, row_starts i n columns (omega arith))
row_starts (suc i) zero columns le = absurd (omega arith)

-- a list that was made longer, filled up with one item
pub resized : {X : Type 0} (xs : List X) (len n more : ℕ) (x : X) → len ≡ length xs → n ≡ len + more → take n xs ++ replicate (n - len) x ≡ xs ++ replicate more x
resized xs len n more x is_len is_n =
    let rest : n - len ≡ more = omega arith in
    rw (take_all n xs (omega arith), rest) refl

-- A row behind all makes room: what stands from a place on is moved by its length, and another row is written into the gap.
pub moved_up : (nums more row : List ℤ) (start columns : ℕ) → start ≤ length nums → length more ≡ columns → (all moved : List ℤ) → all ≡ nums ++ more
    → moved ≡ copy_within all start (length nums) (start + columns) → put_mid start (start + columns - start) moved row ≡ take start nums ++ (row ++ drop start nums)
moved_up nums more row start columns le len all moved is_all is_moved =
    let whole : length all ≡ length nums + columns = omega (arith, ap length is_all, length-append nums more, len) in
    let n = length nums - start in
    let rest : take n (drop start all) ≡ drop start nums =
    ap (λ xs. take n (drop start xs)) is_all ∙ rw (drop-append-le start nums more le) (take_at (drop start nums) more n (length-drop start nums)) in
    let behind = take n (drop start all) ++ drop (start + columns + n) all in
    let parts : moved ≡ take (start + columns) all ++ behind = is_moved ∙ append_assoc (take (start + columns) all) (take n (drop start all)) (drop (start + columns + n) all) in
    let long : length (take (start + columns) all) ≡ start + columns = length-take-le (start + columns) all (omega (arith, whole)) in
    let front : take start moved ≡ take start nums =
    ap (take start) parts ∙ take-append-le start (take (start + columns) all) behind (omega (arith, long))
    ∙ take-take start (start + columns) all (omega arith) ∙ ap (take start) is_all ∙ take-append-le start nums more le in
    let ends : drop (start + columns + n) all ≡ [] = drop_all (start + columns + n) all (omega (arith, whole)) in
    let back : drop (start + columns) moved ≡ drop start nums =
    ap (drop (start + columns)) parts ∙ drop_at (take (start + columns) all) behind (start + columns) long
    ∙ ap (λ xs. take n (drop start all) ++ xs) ends ∙ append-nil (take n (drop start all)) ∙ rest in
    let wide : start + columns - start ≡ columns = omega arith in
    let after : drop (start + columns - start) (drop start moved) ≡ drop start nums = ap (λ m. drop m (drop start moved)) wide ∙ drop-drop columns start moved ∙ back in
    rw (front, after) refl

-- what stands behind a row is moved over it, and so many fewer are left
pub moved_down : (nums : List ℤ) (start columns : ℕ) → start + columns ≤ length nums → take (length nums - columns) (copy_within nums (start + columns) (length nums) start) ≡ take start nums ++ drop (start + columns) nums
moved_down nums start columns le =
    let n = length nums - (start + columns) in
    let all : length nums - columns ≡ start + n = omega arith in
    let len : length (drop (start + columns) nums) ≡ n = length-drop (start + columns) nums in
    rw all (take-paste nums start (drop (start + columns) nums) n (omega arith) (omega (arith, len)) ∙ ap (λ ns. take start nums ++ ns) (take_all n (drop (start + columns) nums) (omega (arith, len))))

module _ (columns : ℕ) (terms : List Term) (dens : List ℕ) (nums : List ℤ) (flat : IsFlat columns terms dens nums) where
  -- the lists are read as the terms
  pub terms_are : row_terms columns dens nums ≡ terms
  terms_are = rw (← flat.dens_are, ← flat.nums_are) (row_terms-rows columns terms flat.whole)

  pub flat_in : IsFlat columns (row_terms columns dens nums) dens nums
  flat_in = rw terms_are flat

  pub length-dens : length dens ≡ length terms
  length-dens = rw (← flat.dens_are) (length-map terms (λ t. t.den))

  pub length-nums : length nums ≡ length terms * columns
  length-nums = rw (← flat.nums_are) (length-numerators columns terms flat.whole)

  pub den_is : (i : ℕ) → i < length terms → get_or dens i 0 ≡ (term_at terms i).den
  den_is i lt = rw (← flat.dens_are) (den_at terms i lt)

  pub den_read : (i : ℕ) → i < length terms → (den : ℕ) → den ≡ get_or dens i den → den ≡ (term_at terms i).den
  den_read i lt den is = is ∙ get_or_default dens i den 0 (omega (arith, length-dens)) ∙ den_is i lt

  -- the row at a place, and one more behind the last, end among the numerators
  pub row_fits : (i : ℕ) → i < length terms → i * columns + columns ≤ length nums
  row_fits i lt = omega (arith, length-nums, row_ends i (length terms) columns lt)

  pub gap_fits : (i : ℕ) → i ≤ length terms → i * columns ≤ length nums
  gap_fits i le = omega (arith, length-nums, row_starts i (length terms) columns le)

  -- so many more rows take so many more numerators
  pub rows_more : (len more n : ℕ) → len ≡ length dens → n ≡ (len + more) * columns → n ≡ length nums + more * columns
  rows_more len more n is_len is_n = omega (arith, length-nums, length-dens, is_n ∙ ap (λ m. (m + more) * columns) is_len ∙ ap (λ m. (m + more) * columns) length-dens ∙ right_distrib (length terms) more columns)

  -- the row of a term is read at its place
  pub row_is : (i : ℕ) → i < length terms → take columns (drop (i * columns) nums) ≡ row_of (term_at terms i)
  row_is i lt =
      let here : drop (i * columns) nums ≡ row_of (term_at terms i) ++ numerators (drop (i + 1) terms) =
      ap (drop (i * columns)) (sym flat.nums_are) ∙ drop-numerators columns terms flat.whole i (omega arith) ∙ ap numerators (drop_more terms i no_term lt) in
      ap (take columns) here ∙ take_at (row_of (term_at terms i)) (numerators (drop (i + 1) terms)) columns (row_length columns terms flat.whole i lt)

  -- with the row written over, the term is
  pub flat-set : (i : ℕ) → i < length terms → (new : Term) → length (row_of new) ≡ columns → IsFlat columns (set terms i new) (set dens i new.den) (put_mid (i * columns) columns nums (row_of new))
  flat-set i lt new row =
      let front : take (i * columns) nums ≡ numerators (take i terms) = ap (take (i * columns)) (sym flat.nums_are) ∙ take-numerators columns terms flat.whole i (omega arith) in
      let after : (i * columns) + columns ≡ suc i * columns = omega (arith, suc-mul i columns) in
      let back : drop columns (drop (i * columns) nums) ≡ numerators (drop (suc i) terms) =
      drop-drop columns (i * columns) nums ∙ ap (λ n. drop n nums) after ∙ ap (drop (suc i * columns)) (sym flat.nums_are) ∙ drop-numerators columns terms flat.whole (suc i) (omega arith) in
      record {
        some = flat.some;
        whole = have-set columns terms flat.whole i new row;
        dens_are = map-set (λ (t : Term). t.den) terms i new ∙ ap (λ ds. set ds i new.den) flat.dens_are;
        nums_are = ap numerators (set_split terms i new lt) ∙ flat_map-append row_of (take i terms) (new ∷ drop (suc i) terms)
            ∙ rw (front, back) refl;
      }

  -- a row that is copied to another place is a copy of the term
  pub flat-copy : (i j : ℕ) → i < length terms → j < length terms → IsFlat columns (set terms j (term_at terms i)) (set dens j (term_at terms i).den) (copy_within nums (i * columns) (i * columns + columns) (j * columns))
  flat-copy i j lt lt_to =
      let wide : i * columns + columns - i * columns ≡ columns = omega arith in
      let back : drop (j * columns + columns) nums ≡ drop columns (drop (j * columns) nums) = sym (drop-drop columns (j * columns) nums) in
      rw (wide, row_is i lt, back, append_assoc) (flat-set j lt_to (term_at terms i) (row_length columns terms flat.whole i lt))

  -- without the row at a place, the terms are without the term
  pub flat-remove : (i : ℕ) → i < length terms → IsFlat columns (remove terms i) (remove dens i) (take (i * columns) nums ++ drop (i * columns + columns) nums)
  flat-remove i lt =
      let front : take (i * columns) nums ≡ numerators (take i terms) = ap (take (i * columns)) (sym flat.nums_are) ∙ take-numerators columns terms flat.whole i (omega arith) in
      let after : i * columns + columns ≡ suc i * columns = omega (arith, suc-mul i columns) in
      let back : drop (i * columns + columns) nums ≡ numerators (drop (suc i) terms) =
      ap (λ n. drop n nums) after ∙ ap (drop (suc i * columns)) (sym flat.nums_are) ∙ drop-numerators columns terms flat.whole (suc i) (omega arith) in
      record {
        some = flat.some;
        whole = have-remove columns terms flat.whole i;
        dens_are = rw (← flat.dens_are) (denominators-remove terms i);
        nums_are = flat_map-append row_of (take i terms) (drop (suc i) terms) ∙ rw (front, back) refl;
      }
    where
      denominators-remove : (xs : List Term) (i : ℕ) → denominators (remove xs i) ≡ remove (denominators xs) i
      denominators-remove [] zero = refl
      denominators-remove [] (suc i) = refl
      denominators-remove (x ∷ xs) zero = refl
      denominators-remove (x ∷ xs) (suc i) = ap (λ ds. x.den ∷ ds) (denominators-remove xs i)

  -- and with one put in between, the term is too
  pub flat-insert : (i : ℕ) → i ≤ length terms → (new : Term) → length (row_of new) ≡ columns → IsFlat columns (insert terms i new) (insert dens i new.den) (take (i * columns) nums ++ (row_of new ++ drop (i * columns) nums))
  flat-insert i le new row =
      let front : take (i * columns) nums ≡ numerators (take i terms) = ap (take (i * columns)) (sym flat.nums_are) ∙ take-numerators columns terms flat.whole i le in
      let back : drop (i * columns) nums ≡ numerators (drop i terms) = ap (drop (i * columns)) (sym flat.nums_are) ∙ drop-numerators columns terms flat.whole i le in
      record {
        some = flat.some;
        whole = have-insert columns terms flat.whole i new row;
        dens_are = rw (← flat.dens_are) (denominators-insert terms i new);
        nums_are = flat_map-append row_of (take i terms) (new ∷ drop i terms) ∙ rw (front, back) refl;
      }
    where
      denominators-insert : (xs : List Term) (i : ℕ) (new : Term) → denominators (insert xs i new) ≡ insert (denominators xs) i new.den
      denominators-insert [] zero new = refl
      denominators-insert [] (suc i) new = refl
      denominators-insert (x ∷ xs) zero new = refl
      denominators-insert (x ∷ xs) (suc i) new = ap (λ ds. x.den ∷ ds) (denominators-insert xs i new)

  -- with so many behind all that have no share, these are too
  pub flat-grow : (more : ℕ) → IsFlat columns (terms ++ replicate more (bare_term 0 (columns - 1))) (dens ++ replicate more 0) (nums ++ replicate (more * columns) (pos 0))
  flat-grow more =
      let bare = bare_rows columns flat.some more in
      record {
        some = flat.some;
        whole = have-append columns terms (replicate more (bare_term 0 (columns - 1))) flat.whole bare.whole;
        dens_are = map-append (λ (t : Term). t.den) terms (replicate more (bare_term 0 (columns - 1))) ∙ rw (flat.dens_are, bare.dens_are) refl;
        nums_are = flat_map-append row_of terms (replicate more (bare_term 0 (columns - 1))) ∙ rw (flat.nums_are, bare.nums_are) refl;
      }

  -- what is found among the denominators is found among the terms
  pub found_in : (k : ℕ) (r : Result ℕ ℕ) → Searched (λ d. d) 0 dens k r → Searched (λ (t : Term). t.den) no_term terms k r
  found_in k (Ok at) found =
      let in_range : at < length terms = omega (arith, found.found.in_range, length-dens) in
      record { found = record { in_range = in_range; has_key = sym (den_is at in_range) ∙ found.found.has_key }; absent = tt }
  found_in k (Err at) found = record {
    found = tt;
    absent = record {
      in_range = omega (arith, found.absent.in_range, length-dens);
      smaller_before = λ i lt. rw (← den_is i (omega (arith, found.absent.in_range, length-dens))) (found.absent.smaller_before i lt);
      greater_after = λ i le lt. rw (← den_is i lt) (found.absent.greater_after i le (omega (arith, length-dens)));
    };
  }

  -- where the terms ascend, so do the denominators
  pub dens_ascend : ((i j : ℕ) → i < j → j < length terms → (term_at terms i).den < (term_at terms j).den) → (i j : ℕ) → i < j → j < length dens → get_or dens i 0 < get_or dens j 0
  dens_ascend each i j lt in_range =
      let in_terms : j < length terms = omega (arith, length-dens) in
      rw (den_is i (omega arith), den_is j in_terms) (each i j lt in_terms)

-- The row at a place, which starts there, is lent.
pub record IsLent (columns : ℕ) (terms : List Term) (dens : List ℕ) (nums : List ℤ) (i start : ℕ) (lent : List ℤ) : Type 0 where
  pub flat : IsFlat columns terms dens nums
  pub place : i < length terms
  pub start_is : start ≡ i * columns
  pub lent_is : lent ≡ nums

-- it is that of the term
pub row_lent : (columns : ℕ) (terms : List Term) (dens : List ℕ) (nums : List ℤ) (i start : ℕ) (lent : List ℤ) → IsLent columns terms dens nums i start lent → take (start + columns - start) (drop start lent) ≡ row_of (term_at terms i)
row_lent columns terms dens nums i start lent is =
    let wide : start + columns - start ≡ columns = omega arith in
    rw (wide, is.start_is, is.lent_is) (row_is columns terms dens nums is.flat i is.place)

pub row_of_lent : (columns : ℕ) (terms : List Term) (dens : List ℕ) (nums : List ℤ) (i start : ℕ) (lent : List ℤ) → IsLent columns terms dens nums i start lent → length (row_of (term_at terms i)) ≡ columns
row_of_lent columns terms dens nums i start lent is = row_length columns terms is.flat.whole i is.place

pub length_lent : (columns : ℕ) (terms : List Term) (dens : List ℕ) (nums : List ℤ) (i start : ℕ) (lent : List ℤ) → IsLent columns terms dens nums i start lent → length (take (start + columns - start) (drop start lent)) ≡ columns
length_lent columns terms dens nums i start lent is = ap length (row_lent columns terms dens nums i start lent is) ∙ row_of_lent columns terms dens nums i start lent is

-- It was written over, and nothing else.
pub record IsWritten (columns : ℕ) (terms : List Term) (dens : List ℕ) (nums : List ℤ) (i : ℕ) (row now : List ℤ) : Type 0 where
  pub start : ℕ
  pub lent : List ℤ
  pub is_lent : IsLent columns terms dens nums i start lent
  pub len : length row ≡ columns
  pub is_row : IsRow row
  pub now_is : now ≡ put_mid start (start + columns - start) lent row

module _ (columns : ℕ) (terms : List Term) (dens : List ℕ) (nums : List ℤ) (i : ℕ) (row now : List ℤ) (written : IsWritten columns terms dens nums i row now) where
  -- the term that is there now
  abbrev pub written_term : Term
  written_term = row_term (term_at terms i).den row

  pub flat_written : IsFlat columns (set terms i written_term) dens now
  flat_written =
      let row_is : row_of written_term ≡ row = written.is_row in
      let lent = written.is_lent in
      let set_is = flat-set columns terms dens nums lent.flat i lent.place written_term (ap length row_is ∙ written.len) in
      let den_same : set dens i written_term.den ≡ dens = ap (λ d. set dens i d) (sym (den_is columns terms dens nums lent.flat i lent.place)) ∙ set-get_or dens i 0 in
      let wide : written.start + columns - written.start ≡ columns = omega arith in
      let of_dens : IsFlat columns (set terms i written_term) dens (put_mid (i * columns) columns nums (row_of written_term)) = subst (λ ds. IsFlat columns (set terms i written_term) ds (put_mid (i * columns) columns nums (row_of written_term))) den_same set_is in
      rw (written.now_is, wide, lent.start_is, lent.lent_is) (subst (λ r. IsFlat columns (set terms i written_term) dens (put_mid (i * columns) columns nums r)) row_is of_dens)

  pub terms_written : row_terms columns dens now ≡ set terms i written_term
  terms_written = terms_are columns (set terms i written_term) dens now flat_written

  pub invariant_written : IsFlat columns (row_terms columns dens now) dens now
  invariant_written = flat_in columns (set terms i written_term) dens now flat_written

  pub there_written : term_at (row_terms columns dens now) i ≡ written_term
  there_written = ap (λ ts. term_at ts i) terms_written ∙ get_or-set_same terms i written_term no_term written.is_lent.place

  -- only that term is another
  pub only_written : row_terms columns dens now ≡ set terms i (term_at (row_terms columns dens now) i)
  only_written = terms_written ∙ ap (λ t. set terms i t) (sym there_written)

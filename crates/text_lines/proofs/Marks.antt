-- What the marks of a block say of its bytes, and what blocks say of all bytes.
use Rattle.std.proofs.Common.{◌≡◌, ◌≢◌, ℕ, zero, suc, ◌+◌, ◌-◌, ◌*◌, ◌/◌, ◌%◌, ◌^◌, ◌<◌, ◌≤◌, Bool, true, false, not, ◌&&◌, ◌||◌, cond, eqb, ltb, List, [], ◌∷◌, ◌++◌, map, length, replicate, take, drop, refl, ap, ap₂, sym, ◌∙◌, arith}
use Rattle.std.specs.List.{list_all, count_by, prefix_len}
use Rattle.std.proofs.Math.Nat.{div-one, div-div-eq-div-mul, mod-eq_of_lt, pow-succ'}
use Rattle.std.proofs.lemmas.Bool.{and_parts, cond-true, cond-false, eq-eqb, ne_eqb}
use Rattle.std.proofs.lemmas.Bool.Decides.{nat_tests}
use Rattle.std.proofs.lemmas.List.{length-append, length-replicate, drop-drop, drop-map, length-drop, length-map, length-take-le, map-append, take-append-drop, take-take, take_all}
use Rattle.std.proofs.lemmas.List.Folds.{list_all-append, prefix_len-append}
use Rattle.std.proofs.lemmas.List.Sums.{prefix_len-le-length, sum_by-append}
use Rattle.std.proofs.Math.Seq.{take-add}
use Rattle.std.proofs.lemmas.Simd.{chunk-drop, leading_from_mask_l, length-chunk, mask_l-lt, mask_l-mod, ones-mask_l, trailing_mask_l}
use lib.Bits.{bit_and, bit_or}
use lib.Count.{count_trailing_zeros}
use lib.Lanes.{mask_l, top, chunk}
use lib.Pow.{pow_mono}
use Rattle.std.specs.Int.RustNames.{count_ones}
use Rattle.text_lines.specs.LineText.{is_plain}

-- the marks without the first of them
mask_l-rest : (m : Bool) (n : ℕ) → (cond m 1 0 + 2 * n) / 2 ≡ n
mask_l-rest true n = omega arith
mask_l-rest false n = omega arith

-- a shift leaves the marks of the bytes behind
pub mask_l-drop : (ms : List Bool) (i : ℕ) → mask_l ms / 2 ^ i ≡ mask_l (drop i ms)
mask_l-drop ms zero = div-one (mask_l ms)
mask_l-drop [] (suc i) = omega arith
mask_l-drop (m ∷ ms) (suc i) =
    ap (λ n. mask_l (m ∷ ms) / n) (pow-succ' 2 i) ∙ sym (div-div-eq-div-mul (mask_l (m ∷ ms)) 2 (2 ^ i))
    ∙ ap (λ n. n / 2 ^ i) (mask_l-rest m (mask_l ms)) ∙ mask_l-drop ms i

one_mark : (passes : Bool) (n : ℕ) (rest : Bool) → eqb n 0 ≡ rest → eqb (cond (not passes) 1 0 + 2 * n) 0 ≡ (passes && rest)
one_mark true zero rest e = e
one_mark true (suc n) rest e = grind (arith, nat_tests)
one_mark false n rest e = grind (arith, nat_tests)

-- no mark is set exactly where each byte passes
list_all-from_marks : (p : ℕ → Bool) (xs : List ℕ) → eqb (mask_l (map (λ x. not (p x)) xs)) 0 ≡ list_all p xs
list_all-from_marks p [] = refl
list_all-from_marks p (x ∷ xs) = one_mark (p x) (mask_l (map (λ x. not (p x)) xs)) (list_all p xs) (list_all-from_marks p xs)

-- lanes of a comparison, and the lane of a byte that is not plain
abbrev pub below : ℕ → ℕ → ℕ
below a b = cond (ltb a b) 255 0

abbrev pub differs : ℕ → ℕ → ℕ
differs a b = cond (not (eqb a b)) 255 0

abbrev pub other : ℕ → ℕ
other x = bit_or (bit_and (below x 32) (differs x 9)) (below 126 x)

-- the top bit tells what the lanes were made of
top_of : (a b c : Bool) → top 7 (bit_or (bit_and (cond a 255 0) (cond b 255 0)) (cond c 255 0)) ≡ (a && b || c)
top_of true true true = refl
top_of true true false = refl
top_of true false true = refl
top_of true false false = refl
top_of false true true = refl
top_of false true false = refl
top_of false false true = refl
top_of false false false = refl

other-not_plain : (x : ℕ) → top 7 (other x) ≡ not (is_plain x)
other-not_plain x = top_of (ltb x 32) (not (eqb x 9)) (ltb 126 x) ∙ grind (arith, nat_tests)

others : (v : List ℕ) → map (top 7) (map other v) ≡ map (λ x. not (is_plain x)) v
others [] = refl
others (x ∷ v) = ap₂ (λ m ms. m ∷ ms) (other-not_plain x) (others v)

-- no lane is marked exactly where each byte is plain
pub plain-from_lanes : (v lanes : List ℕ) → length v ≤ 64 → lanes ≡ map other v → eqb (mask_l (map (top 7) lanes) % 2 ^ 64) 0 ≡ list_all is_plain v
plain-from_lanes v lanes short is =
    ap (λ ms. eqb (mask_l ms % 2 ^ 64) 0) (ap (map (top 7)) is ∙ others v)
    ∙ ap (λ n. eqb n 0) (mask_l-mod (map (λ x. not (is_plain x)) v) 64 (omega (arith, length-map v (λ x. not (is_plain x)))))
    ∙ list_all-from_marks is_plain v

-- the marks of the last block that are left by a shift are those of the bytes from a place on
pub mask_l-behind : (p : ℕ → Bool) (xs : List ℕ) (last k at : ℕ) → length xs ≤ last + 16 → last + k ≡ at
    → mask_l (map p (chunk last 16 xs)) / 2 ^ k ≡ mask_l (map p (drop at xs))
mask_l-behind p xs last k at rest place =
    mask_l-drop (map p (chunk last 16 xs)) k ∙ ap mask_l (drop-map p k (chunk last 16 xs))
    ∙ ap (λ l. mask_l (map p (drop k l))) (take_all 16 (drop last xs) (omega (arith, length-drop last xs)))
    ∙ ap (λ l. mask_l (map p l)) (drop-drop k last xs ∙ ap (λ n. drop n xs) place)

-- the marks of at most 64 bytes are below 2^64
pub marks_fit : (p : ℕ → Bool) (xs : List ℕ) → length xs ≤ 64 → mask_l (map p xs) < 2 ^ 64
marks_fit p xs few = omega (arith, mask_l-lt (map p xs), ap (λ n. 2 ^ n) (length-map xs p), pow_mono few)

-- the marks of two parts, one behind the other
one_more : (b : Bool) (m n e : ℕ) → cond b 1 0 + 2 * (m + n * e) ≡ cond b 1 0 + 2 * m + n * (2 * e)
one_more b m n e = omega arith

mask_l-append : (ms ns : List Bool) → mask_l (ms ++ ns) ≡ mask_l ms + mask_l ns * 2 ^ length ms
mask_l-append [] ns = omega arith
mask_l-append (m ∷ ms) ns =
    ap (λ k. cond m 1 0 + 2 * k) (mask_l-append ms ns) ∙ one_more m (mask_l ms) (mask_l ns) (2 ^ length ms)
    ∙ ap (λ e. cond m 1 0 + 2 * mask_l ms + mask_l ns * e) (sym (pow-succ' 2 (length ms)))

mask_l-parts : (p : ℕ → Bool) (xs ys : List ℕ) (at : ℕ) → length xs ≡ at → mask_l (map p xs) + mask_l (map p ys) * 2 ^ at ≡ mask_l (map p (xs ++ ys))
mask_l-parts p xs ys at long =
    ap (λ k. mask_l (map p xs) + mask_l (map p ys) * 2 ^ k) (sym long ∙ sym (length-map xs p))
    ∙ sym (ap mask_l (map-append p xs ys) ∙ mask_l-append (map p xs) (map p ys))

-- the marks of few bytes fit a word, those of the second part too
pub parts_fit : (p : ℕ → Bool) (xs ys : List ℕ) (at : ℕ) → length xs ≡ at → length (xs ++ ys) ≤ 64
    → mask_l (map p xs) + mask_l (map p ys) * 2 ^ at % 2 ^ 64 ≡ mask_l (map p (xs ++ ys))
parts_fit p xs ys at long few =
    let whole = mask_l-parts p xs ys at long in
    ap (λ k. mask_l (map p xs) + k) (mod-eq_of_lt (omega (arith, whole, marks_fit p (xs ++ ys) few))) ∙ whole

-- the block at a place behind the bytes before it, and what is left behind them
pub marks-next : (p : ℕ → Bool) (xs : List ℕ) (at : ℕ) → at + 16 ≤ length xs → length xs ≤ 64
    → mask_l (map p (take at xs)) + mask_l (map p (chunk at 16 xs)) * 2 ^ at % 2 ^ 64 ≡ mask_l (map p (take (at + 16) xs))
marks-next p xs at room few =
    let parts = take-add at 16 xs in
    parts_fit p (take at xs) (chunk at 16 xs) at (length-take-le at xs (omega arith)) (omega (arith, ap length parts, length-take-le (at + 16) xs room))
    ∙ ap (λ l. mask_l (map p l)) (sym parts)

pub marks-last : (p : ℕ → Bool) (xs : List ℕ) (at : ℕ) → at ≤ length xs → length xs ≤ 64
    → mask_l (map p (take at xs)) + mask_l (map p (drop at xs)) * 2 ^ at % 2 ^ 64 ≡ mask_l (map p xs)
marks-last p xs at within few =
    let parts = take-append-drop at xs in
    parts_fit p (take at xs) (drop at xs) at (length-take-le at xs within) (omega (arith, ap length parts))
    ∙ ap (λ l. mask_l (map p l)) parts

-- where all bytes come before the first that has a mark, none has one
no_mark : (m : Bool) (n l k : ℕ) → n ≤ l → cond (not m) (1 + n) 0 ≡ 1 + l → (n ≡ l → k ≡ 0) → cond m 1 0 + 2 * k ≡ 0
no_mark true n l k within all rest = absurd (omega (arith, all))
no_mark false n l k within all rest = omega (arith, rest (omega (arith, all)))

pub no_marks : (p : ℕ → Bool) (xs : List ℕ) → prefix_len (λ x. not (p x)) xs ≡ length xs → mask_l (map p xs) ≡ 0
no_marks p [] all = refl
no_marks p (x ∷ xs) all = no_mark (p x) _ (length xs) _ (prefix_len-le-length (λ y. not (p y)) xs) (omega (arith, all)) (no_marks p xs)

-- the first of the bytes from a place on is in the block there, or it is the first behind it
prefix_len-block : (p : ℕ → Bool) (xs : List ℕ) (at : ℕ)
    → prefix_len p (drop at xs) ≡ cond (eqb (prefix_len p (chunk at 16 xs)) (length (chunk at 16 xs))) (length (chunk at 16 xs) + prefix_len p (drop (at + 16) xs)) (prefix_len p (chunk at 16 xs))
prefix_len-block p xs at = ap (prefix_len p) (chunk-drop at 16 xs) ∙ prefix_len-append p (chunk at 16 xs) (drop (at + 16) xs)

pub place-next : (p : ℕ → Bool) (xs : List ℕ) (at : ℕ) → at + 16 ≤ length xs → mask_l (map p (chunk at 16 xs)) ≡ 0
    → prefix_len (λ x. not (p x)) (drop at xs) ≡ 16 + prefix_len (λ x. not (p x)) (drop (at + 16) xs)
place-next p xs at room none =
    let q : ℕ → Bool = λ x. not (p x) in
    prefix_len-block q xs at ∙ cond-true _ _ _ (eq-eqb _ _ (leading_from_mask_l p (chunk at 16 xs) none))
    ∙ ap (λ n. n + prefix_len q (drop (at + 16) xs)) (length-chunk at 16 xs room)

pub place-here : (p : ℕ → Bool) (xs : List ℕ) (at : ℕ) → at + 16 ≤ length xs → mask_l (map p (chunk at 16 xs)) ≢ 0
    → count_trailing_zeros 64 (mask_l (map p (chunk at 16 xs))) ≡ prefix_len (λ x. not (p x)) (drop at xs)
place-here p xs at room some =
    let q : ℕ → Bool = λ x. not (p x) in
    trailing_mask_l p 64 (chunk at 16 xs) (omega (arith, length-chunk at 16 xs room)) (omega (arith, some))
    ∙ sym (prefix_len-block q xs at ∙ cond-false _ _ _ (ne_eqb _ _ (λ all. some (no_marks p (chunk at 16 xs) all))))

-- the bytes before a place and the block at it
pub count_by-marks : (p : ℕ → Bool) (xs : List ℕ) (at count marks : ℕ) → count ≡ count_by p (take at xs) → marks ≡ mask_l (map p (chunk at 16 xs))
    → count + count_ones marks ≡ count_by p (take (at + 16) xs)
count_by-marks p xs at count marks counted are =
    ap₂ (λ a b. a + b) counted (ap count_ones are ∙ ones-mask_l p (chunk at 16 xs))
    ∙ sym (ap (count_by p) (take-add at 16 xs) ∙ sum_by-append (λ x. cond (p x) 1 0) (take at xs) (chunk at 16 xs))

pub list_all-block : (p : ℕ → Bool) (xs : List ℕ) (at : ℕ) → list_all p (take (at + 16) xs) ≡ (list_all p (take at xs) && list_all p (chunk at 16 xs))
list_all-block p xs at = ap (list_all p) (take-add at 16 xs) ∙ list_all-append p (take at xs) (chunk at 16 xs)

-- all bytes, by those before a place and those from it on
list_all-split : (p : ℕ → Bool) (xs : List ℕ) (i : ℕ) → list_all p xs ≡ (list_all p (take i xs) && list_all p (drop i xs))
list_all-split p xs i = ap (list_all p) (sym (take-append-drop i xs)) ∙ list_all-append p (take i xs) (drop i xs)

-- where the bytes before a place pass, so do those before an earlier one, and the rest tells
pub list_all-rest : (p : ℕ → Bool) (xs : List ℕ) (last at : ℕ) → last ≤ at → length xs ≤ last + 16 → list_all p (take at xs) ≡ true → list_all p (chunk last 16 xs) ≡ list_all p xs
list_all-rest p xs last at before rest all =
    let parts : (list_all p (take last xs) && list_all p (drop last (take at xs))) ≡ true =
    sym (list_all-split p (take at xs) last ∙ ap (λ l. list_all p l && list_all p (drop last (take at xs))) (take-take last at xs before)) ∙ all in
    ap (list_all p) (take_all 16 (drop last xs) (omega (arith, length-drop last xs)))
    ∙ sym (list_all-split p xs last ∙ ap (λ front. front && list_all p (drop last xs)) (and_parts _ _ parts).0)

-- a block that does not pass
pub list_all-refused : (p : ℕ → Bool) (xs : List ℕ) (at : ℕ) → list_all p (chunk at 16 xs) ≡ false → list_all p xs ≡ false
list_all-refused p xs at refused =
    grind (arith, nat_tests, refused, list_all-split p xs (at + 16), list_all-block p xs at)

-- behind the spaces that fill a block stand its bytes
drop-spaces : (gap : ℕ) (xs : List ℕ) → drop gap (replicate gap 32 ++ xs) ≡ xs
drop-spaces zero xs = refl
drop-spaces (suc gap) xs = drop-spaces gap xs

pub drop-filled : (gap from : ℕ) (xs : List ℕ) → drop (gap + from) (replicate gap 32 ++ xs) ≡ drop from xs
drop-filled gap from xs = sym (drop-drop from gap (replicate gap 32 ++ xs)) ∙ ap (drop from) (drop-spaces gap xs)

behind_spaces : (n : ℕ) (xs : List ℕ) → list_all is_plain (replicate n 32 ++ xs) ≡ list_all is_plain xs
behind_spaces zero xs = refl
behind_spaces (suc n) xs = behind_spaces n xs

-- what a block says of fewer bytes, which it has behind spaces
pub list_all-filled : (xs : List ℕ) → length xs ≤ 16 → list_all is_plain (chunk 0 16 (replicate (16 - length xs) 32 ++ xs)) ≡ list_all is_plain xs
list_all-filled xs short =
    let spaces : List ℕ = replicate (16 - length xs) 32 in
    let fits : length (spaces ++ xs) ≤ 16 = omega (arith, length-append spaces xs, length-replicate {A = ℕ} (16 - length xs) 32) in
    ap (list_all is_plain) (take_all 16 (spaces ++ xs) fits) ∙ behind_spaces (16 - length xs) xs

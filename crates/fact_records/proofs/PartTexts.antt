-- Parts that are read one after another.
use Rattle.std.proofs.Common.{◌≡◌, ◌≢◌, ℕ, zero, suc, ◌+◌, ◌<◌, ◌≤◌, Bool, true, false, List, [], ◌∷◌, ◌++◌, length, map, take, set, get_or, Option, Some, None, refl, sym, ap, ◌∙◌, arith, ℤ, pos}
use Rattle.std.specs.Prelude.{◌==◌, ◌&&◌, ◌↔◌, if◌then◌else◌, IfSome, IsNone}
use Rattle.std.specs.Option.{option_map, option_and_then}
use Rattle.std.specs.List.{slice_split}
use Rattle.std.proofs.lemmas.Bool.Decides.{nat_tests}
use Rattle.std.proofs.lemmas.List.{map-append, take_all, take_more, take_more_set, length-map, length-set, length-take-le}
use Rattle.cube_model.specs.Limits.{MAX_COLS}
use Rattle.text_lines.specs.Text.{number_in}
use Rattle.fact_records.specs.Values.{all_of, part_in, parts_in, sums_to}

-- what a choice with an item in front was made of
record IsFront {X : Type 0} (x : X) (found : Option (List X)) (xs : List X) : Type 0 where
  rest : List X
  there : found ≡ Some rest
  whole : x ∷ rest ≡ xs

front : {X : Type 0} (x : X) (found : Option (List X)) (xs : List X) → option_map (λ ys. x ∷ ys) found ≡ Some xs → IsFront x found xs
front x None xs e = cc
front x (Some ys) xs e = record { rest = ys; there = refl; whole = cc }

-- one item more, which is there
all_of-push : {X : Type 0} (items : List (Option X)) (xs : List X) (x : X) → all_of items ≡ Some xs → all_of (items ++ Some x ∷ []) ≡ Some (xs ++ x ∷ [])
all_of-push [] xs x e = let none : [] ≡ xs = cc in rw (← none) refl
all_of-push (None ∷ items) xs x e = cc
all_of-push (Some y ∷ items) xs x e =
    let f = front y (all_of items) xs e in
    ap (option_map (λ ys. y ∷ ys)) (all_of-push items f.rest x f.there) ∙ ap (λ ys. Some (ys ++ x ∷ [])) f.whole

-- where one item is not there, not all are
all_of-None : {X Y : Type 0} (f : X → Option Y) (xs : List X) (i : ℕ) (d : X) → i < length xs → f (get_or xs i d) ≡ None → all_of (map f xs) ≡ None
all_of-None f [] i d within none = absurd (omega arith)
all_of-None f (x ∷ xs) zero d within none = rw none refl
all_of-None {X} {Y} f (x ∷ xs) (suc i) d within none = either (f x) (all_of-None f xs i d (omega arith) none)
  where
    either : (first : Option Y) → all_of (map f xs) ≡ None → option_and_then (λ y. option_map (λ ys. y ∷ ys) (all_of (map f xs))) first ≡ None
    either None rest = refl
    either (Some y) rest = rw rest refl

-- all items are as many as they were
length-all_of : {X : Type 0} (items : List (Option X)) (xs : List X) → all_of items ≡ Some xs → length xs ≡ length items
length-all_of [] xs e = let none : [] ≡ xs = cc in rw (← none) refl
length-all_of (None ∷ items) xs e = cc
length-all_of (Some y ∷ items) xs e =
    let f = front y (all_of items) xs e in
    rw (← f.whole) (ap suc (length-all_of items f.rest f.there))

-- the texts between the colons
abbrev pub texts_of : List ℕ → List (List ℕ)
texts_of bytes = slice_split (λ b. b == 58) bytes

-- the first texts are read into the first places
pub record AreRead (scale : ℕ) (bytes : List ℕ) (read : ℕ) (places : List ℤ) : Type 0 where
  pub parts : all_of (map (part_in scale) (take read (texts_of bytes))) ≡ Some (take read places)
  pub room : length places ≡ MAX_COLS

-- one text more is read
pub AreRead-more : (scale : ℕ) (bytes : List ℕ) (read : ℕ) (places : List ℤ) (text : List ℕ) (part : ℤ) → AreRead scale bytes read places
    → read < length (texts_of bytes) → text ≡ get_or (texts_of bytes) read text → read < MAX_COLS → part_in scale text ≡ Some part → AreRead scale bytes (read + 1) (set places read part)
AreRead-more scale bytes read places text part before within at few given =
    let texts = texts_of bytes in
    let next : part_in scale (get_or texts read text) ≡ Some part = ap (part_in scale) (sym at) ∙ given in
    record {
      parts =
          ap (λ l. all_of (map (part_in scale) l)) (take_more texts read text within)
          ∙ ap all_of (map-append (part_in scale) (take read texts) (get_or texts read text ∷ []) ∙ ap (λ p. map (part_in scale) (take read texts) ++ p ∷ []) next)
          ∙ all_of-push (map (part_in scale) (take read texts)) (take read places) part before.parts
          ∙ ap (λ l. Some l) (sym (take_more_set places read part (omega (arith, before.room))));
      room = search (length-set, before.room);
    }

-- where a text is no part, the bytes spell none
pub parts_in-no_part : (count scale : ℕ) (bytes : List ℕ) (read : ℕ) (text : List ℕ) → read < length (texts_of bytes) → text ≡ get_or (texts_of bytes) read text → part_in scale text ≡ None
    → None ≡ parts_in count scale bytes
parts_in-no_part count scale bytes read text within at none =
    rw (all_of-None (part_in scale) (texts_of bytes) read text within (ap (part_in scale) (sym at) ∙ none)) refl

-- where the texts are not as many as the parts, the bytes spell none
pub parts_in-other_count : (count scale : ℕ) (bytes : List ℕ) → length (texts_of bytes) ≢ count → None ≡ parts_in count scale bytes
parts_in-other_count count scale bytes other = either (all_of (map (part_in scale) (texts_of bytes))) refl
  where
    either : (found : Option (List ℤ)) → all_of (map (part_in scale) (texts_of bytes)) ≡ found
        → None ≡ option_and_then (λ parts. if length parts == count && sums_to scale parts then Some parts else None) found
    either None e = refl
    either (Some parts) e =
        let many : length parts ≡ length (texts_of bytes) = length-all_of (map (part_in scale) (texts_of bytes)) parts e ∙ length-map (texts_of bytes) (part_in scale) in
        let not_as_many : (length parts == count) ≡ false = grind (arith, nat_tests) in
        rw not_as_many refl

-- where all texts are read, the parts are as many and add up to the scale, or the bytes spell none
parts_in-read : (count scale : ℕ) (bytes : List ℕ) (read : ℕ) (places : List ℤ) → AreRead scale bytes read places → length (texts_of bytes) ≤ read → read ≤ MAX_COLS
    → parts_in count scale bytes ≡ (if read == count && sums_to scale (take read places) then Some (take read places) else None)
parts_in-read count scale bytes read places given all few =
    let parts : all_of (map (part_in scale) (texts_of bytes)) ≡ Some (take read places) = ap (λ l. all_of (map (part_in scale) l)) (sym (take_all read (texts_of bytes) all)) ∙ given.parts in
    let many : length (take read places) ≡ read = length-take-le read places (omega (arith, given.room)) in
    rw (parts, many) refl

pub parts_in-all : (count scale : ℕ) (bytes : List ℕ) (read : ℕ) (places : List ℤ) → AreRead scale bytes read places → length (texts_of bytes) ≤ read → read ≤ MAX_COLS
    → read ≡ count → sums_to scale (take read places) ≡ true → parts_in count scale bytes ≡ Some (take read places)
parts_in-all count scale bytes read places given all few many sums =
    let same : (read == count) ≡ true = grind (arith, nat_tests) in
    parts_in-read count scale bytes read places given all few ∙ rw (same, sums) refl

pub parts_in-fewer : (count scale : ℕ) (bytes : List ℕ) (read : ℕ) (places : List ℤ) → AreRead scale bytes read places → length (texts_of bytes) ≤ read → read ≤ MAX_COLS
    → read ≢ count → None ≡ parts_in count scale bytes
parts_in-fewer count scale bytes read places given all few other =
    let apart : (read == count) ≡ false = grind (arith, nat_tests) in
    sym (parts_in-read count scale bytes read places given all few ∙ rw apart refl)

pub parts_in-other_sum : (count scale : ℕ) (bytes : List ℕ) (read : ℕ) (places : List ℤ) → AreRead scale bytes read places → length (texts_of bytes) ≤ read → read ≤ MAX_COLS
    → sums_to scale (take read places) ≡ false → None ≡ parts_in count scale bytes
parts_in-other_sum count scale bytes read places given all few other =
    sym (parts_in-read count scale bytes read places given all few ∙ rw other (either (read == count)))
  where
    either : (same : Bool) → (if same && false then Some (take read places) else None) ≡ None
    either true = refl
    either false = refl

-- at most seven values are held
pub held : (made : Option (List ℤ)) (values : List ℤ) → IsNone made ↔ (MAX_COLS < length values) → IfSome made (λ cols. cols ≡ values) → length values ≤ MAX_COLS → made ≡ Some values
held None values refused same few = absurd (omega (arith, refused.0 refl))
held (Some cols) values refused same few = ap (λ l. Some l) same

-- a text that is no number is no part, and a number is one
pub part_in-None : (scale : ℕ) (text : List ℕ) → number_in 0 scale text ≡ None → part_in scale text ≡ None
part_in-None scale text e = ap (option_map (λ n. pos n)) e

pub part_in-Some : (scale : ℕ) (text : List ℕ) (n : ℕ) → number_in 0 scale text ≡ Some n → part_in scale text ≡ Some (pos n)
part_in-Some scale text n e = ap (option_map (λ n. pos n)) e

-- What a field gives a measure: as many values as it has columns, and such as are accepted.
use Rattle.std.proofs.Common.{◌≡◌, ℕ, zero, suc, ◌≤◌, Bool, true, false, List, [], ◌∷◌, length, map, refl, arith, Option, Some, None, ℤ, pos}
use Rattle.std.specs.Prelude.{◌==◌, ◌&&◌, if◌then◌else◌, nat_le, nat_lt, int_lt, neg_ℤ, unsigned_abs}
use Rattle.std.specs.Option.{option_and_then, option_map}
use Rattle.std.specs.List.{slice_split}
use Rattle.std.specs.Str.Parse.{digits_value}
use Rattle.std.proofs.lemmas.Bool.Decides.{nat_tests}
use Rattle.cube_model.specs.Limits.{MAX_VALUE}
use Rattle.text_lines.specs.Text.{is_number, number_in}
use Rattle.fact_records.specs.declared.shape.Kind.{Kind}
use Rattle.fact_records.specs.declared.shape.Kind.TheVariants.{Number, Parts}
use Rattle.fact_records.specs.declared.shape.Measure.{Measure}
use Rattle.fact_records.specs.Accepted.{is_large, is_no_distribution, is_wrong_number}
use Rattle.fact_records.specs.Shape.{ShapeValue, is_weight, width_of}
use Rattle.fact_records.specs.Values.{all_of, has_negative, part_in, parts_in, signed_number_in, sums_to, values_for, values_in}

-- a number is at most the greatest
number_in-most : (least most n : ℕ) (bytes : List ℕ) → number_in least most bytes ≡ Some n → n ≤ most
number_in-most least most n bytes e = most_of (is_number bytes && nat_le least (digits_value 10 bytes) && nat_le (digits_value 10 bytes) most) refl e
  where
    most_of : (test : Bool) → (is_number bytes && nat_le least (digits_value 10 bytes) && nat_le (digits_value 10 bytes) most) ≡ test → (if test then Some (digits_value 10 bytes) else None) ≡ Some n → n ≤ most
    most_of false is e = cc
    most_of true is e =
        let same : digits_value 10 bytes ≡ n = cc in
        grind (arith, nat_tests)

-- a value of a number measure is within its bounds
unsigned_abs-neg : (n : ℕ) → unsigned_abs (neg_ℤ (pos n)) ≡ n
unsigned_abs-neg zero = refl
unsigned_abs-neg (suc n) = refl

value_within : (signed : ℕ → ℤ) → ((n : ℕ) → unsigned_abs (signed n) ≡ n) → (least : ℕ) (bytes : List ℕ) (value : ℤ) → option_map signed (number_in least MAX_VALUE bytes) ≡ Some value → unsigned_abs value ≤ MAX_VALUE
value_within signed size least bytes value e = by_number (number_in least MAX_VALUE bytes) refl e
  where
    by_number : (number : Option ℕ) → number_in least MAX_VALUE bytes ≡ number → option_map signed number ≡ Some value → unsigned_abs value ≤ MAX_VALUE
    by_number None is e = cc
    by_number (Some n) is e =
        let same : signed n ≡ value = cc in
        rw (← same, size n) (number_in-most least MAX_VALUE n bytes is)

signed_within : (field : List ℕ) (value : ℤ) → signed_number_in MAX_VALUE field ≡ Some value → unsigned_abs value ≤ MAX_VALUE
signed_within [] value e = cc
signed_within (b ∷ bytes) value e = within (b == 45) e
  where
    within : (minus : Bool) → (if minus then option_map (λ n. neg_ℤ (pos n)) (number_in 1 MAX_VALUE bytes) else option_map (λ n. pos n) (number_in 0 MAX_VALUE (b ∷ bytes))) ≡ Some value → unsigned_abs value ≤ MAX_VALUE
    within true e = value_within (λ n. neg_ℤ (pos n)) unsigned_abs-neg 1 bytes value e
    within false e = value_within (λ n. pos n) (λ n. refl) 0 (b ∷ bytes) value e

-- parts that are taken are as many as the outcomes, none of them below 0, and add up to the scale
record AreParts (count scale : ℕ) (values : List ℤ) : Type 0 where
  many : length values ≡ count
  positive : has_negative values ≡ false
  whole : sums_to scale values ≡ true

not_below_0 : (n : ℕ) → int_lt (pos n) (pos 0) ≡ false
not_below_0 n = grind (arith, nat_tests)

positive_more : (part : Option ℕ) (others : Option (List ℤ)) (values : List ℤ) → ((vs : List ℤ) → others ≡ Some vs → has_negative vs ≡ false)
    → option_and_then (λ v. option_map (λ vs. v ∷ vs) others) (option_map (λ n. pos n) part) ≡ Some values → has_negative values ≡ false
positive_more None others values positive e = cc
positive_more (Some n) None values positive e = cc
positive_more (Some n) (Some vs) values positive e =
    let same : pos n ∷ vs ≡ values = cc in
    rw (← same, not_below_0 n) (positive vs refl)

positive_parts : (scale : ℕ) (texts : List (List ℕ)) (values : List ℤ) → all_of (map (part_in scale) texts) ≡ Some values → has_negative values ≡ false
positive_parts scale [] values e =
    let same : [] ≡ values = cc in
    rw (← same) refl
positive_parts scale (text ∷ texts) values e = positive_more (number_in 0 scale text) (all_of (map (part_in scale) texts)) values (λ vs. positive_parts scale texts vs) e

taken : (count scale : ℕ) (found : Option (List ℤ)) (values : List ℤ) → ((vs : List ℤ) → found ≡ Some vs → has_negative vs ≡ false)
    → option_and_then (λ parts. if length parts == count && sums_to scale parts then Some parts else None) found ≡ Some values → AreParts count scale values
taken count scale None values positive e = cc
taken count scale (Some parts) values positive e = given (length parts == count && sums_to scale parts) refl e
  where
    given : (test : Bool) → (length parts == count && sums_to scale parts) ≡ test → (if test then Some parts else None) ≡ Some values → AreParts count scale values
    given false is e = cc
    given true is e =
        let same : parts ≡ values = cc in
        rw (← same) (record { many = grind (arith, nat_tests); positive = positive parts refl; whole = grind (arith, nat_tests) })

are_parts : (count scale : ℕ) (field : List ℕ) (values : List ℤ) → parts_in count scale field ≡ Some values → AreParts count scale values
are_parts count scale field values e = taken count scale (all_of (map (part_in scale) (slice_split (λ b. b == 58) field))) values (λ vs. positive_parts scale (slice_split (λ b. b == 58) field) vs) e

-- the one value of a number measure
record IsOne (found : Option ℤ) (values : List ℤ) : Type 0 where
  value : ℤ
  there : found ≡ Some value
  only : values ≡ value ∷ []

one : (found : Option ℤ) (values : List ℤ) → option_map (λ v. v ∷ []) found ≡ Some values → IsOne found values
one None values e = cc
one (Some value) values e = record { value = value; there = refl; only = cc }

-- values of a kind, as many as its columns
record AreOfKind (kind : Kind) (values : List ℤ) : Type 0 where
  many : length values ≡ width_of kind
  within : is_large kind values ≡ false
  whole : is_no_distribution kind values ≡ false

of_kind : (kind : Kind) (field : List ℕ) (values : List ℤ) → values_in kind field ≡ Some values → AreOfKind kind values
of_kind Number field values e =
    let o = one (signed_number_in MAX_VALUE field) values e in
    let bound = signed_within field o.value o.there in
    let small : nat_lt MAX_VALUE (unsigned_abs o.value) ≡ false = grind (arith, nat_tests) in
    rw o.only (record { many = refl; within = rw small refl; whole = refl })
of_kind (Parts scale outcomes) field values e =
    let parts = are_parts (length outcomes) scale field values e in
    record { many = parts.many; within = refl; whole = rw (parts.positive, parts.whole) refl }

-- what a shape takes, the kind takes, and no value is below 0 where cells weigh by the measure's sum
record IsTaken (weighs : Bool) (found : Option (List ℤ)) (values : List ℤ) : Type 0 where
  there : found ≡ Some values
  positive : (weighs && has_negative values) ≡ false

is_taken : (weighs : Bool) (found : Option (List ℤ)) (values : List ℤ) → option_and_then (λ vs. if weighs && has_negative vs then None else Some vs) found ≡ Some values → IsTaken weighs found values
is_taken weighs None values e = cc
is_taken weighs (Some given) values e = by_test (weighs && has_negative given) refl e
  where
    by_test : (test : Bool) → (weighs && has_negative given) ≡ test → (if test then None else Some given) ≡ Some values → IsTaken weighs (Some given) values
    by_test true is e = cc
    by_test false is e =
        let same : given ≡ values = cc in
        rw (← same) (record { there = refl; positive = is })

-- what is given is accepted
pub record AreGiven (shape : ShapeValue) (measure : Measure) (values : List ℤ) : Type 0 where
  pub many : length values ≡ width_of measure.kind
  pub within : is_wrong_number shape measure values ≡ false
  pub whole : is_no_distribution measure.kind values ≡ false

pub values_for-given : (shape : ShapeValue) (measure : Measure) (field : List ℕ) (values : List ℤ) → values_for shape measure field ≡ Some values → AreGiven shape measure values
values_for-given shape measure field values e =
    let taken = is_taken (is_weight shape measure) (values_in measure.kind field) values e in
    let kind = of_kind measure.kind field values taken.there in
    record { many = kind.many; within = rw (kind.within, taken.positive) refl; whole = kind.whole }

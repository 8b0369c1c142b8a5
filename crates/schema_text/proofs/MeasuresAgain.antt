-- The lines of measures are read again.
use Rattle.std.proofs.Common.{◌≡◌, ◌≢◌, ℕ, suc, ◌+◌, ◌<◌, ◌≤◌, true, false, List, [], ◌∷◌, ◌++◌, length, map, refl, sym, ap, ◌∙◌, arith, Some, append_assoc, append-nil, length-append, add-zero, lit≤, subst}
use Rattle.std.specs.Prelude.{codes, All, AllPairs, nat_lt, ◌||◌}
use Rattle.std.specs.Fmt.{decimal}
use Rattle.text_lines.proofs.Numbers.{number_in-decimal}
use Rattle.std.specs.List.{flat_map}
use Rattle.std.specs.Str.{bytes_eq}
use Rattle.std.proofs.lemmas.Bool.{false_from_ne_true}
use Rattle.std.proofs.lemmas.Bool.Decides.{nat_tests}
use Rattle.std.proofs.lemmas.List.{get_or-map, length-map, map_push}
use Rattle.std.proofs.lemmas.List.Elements.{All-cons, All-head, All-map, All-nil, All-tail}
use Rattle.std.proofs.lemmas.List.Folds.{list_any_none}
use Rattle.std.proofs.lemmas.Slice.Eq.{bytes_eq-Decides}
use Rattle.std.proofs.Math.ListN.{get_or-append}
use Rattle.std.proofs.Math.Seq.{get_or-append_seam}
use Rattle.cube_base.specs.Name.{is_name}
use Rattle.cube_model.specs.Limits.{MAX_COLS, MAX_SCALE, MIN_SCALE}
use Rattle.text_lines.proofs.Ascii.{ascii_is_utf8}
use Rattle.fact_records.specs.declared.shape.Kind.{Kind}
use Rattle.fact_records.specs.declared.shape.Kind.TheVariants as kind
use Rattle.fact_records.specs.declared.shape.Measure.{Measure}
use Rattle.fact_records.specs.Shape.{AreInOrder, HasScale, IsScale, width_of, width_of_all}
use Rattle.schema_text.specs.declared.policy.NamedPolicy.{NamedPolicy}
use Rattle.schema_text.specs.declared.word.SchemaWord.{SchemaWord}
use Rattle.schema_text.specs.declared.word.SchemaWord.TheVariants.{Cube, Policy, Number, Parts, Dimension as DimensionWord, Node, View, End}
use Rattle.schema_text.specs.declared.word.Version.{Version}
use Rattle.schema_text.specs.Schema.{AreNames, AreOutcomes, IsKind}
use Rattle.schema_text.specs.SchemaText.{Draft, has_wrong_names, is_wrong_name, kind_line, may_follow, measure_behind, measure_line}
use Rattle.schema_text.proofs.Reading.{IsRead}
use Rattle.schema_text.proofs.Drafts.{is_name-right}
use Rattle.schema_text.proofs.MeasuresMore.{width_of_all-push}
use Rattle.schema_text.proofs.WrittenLines.{IsField, IsField-decimal, IsField-name, IsNext, IsPlain-fields, IsRead-next}

-- the first of further names is a name, and none of those before
pub right-name : (before : List (List ℕ)) (name : List ℕ) (after : List (List ℕ)) → AreNames (before ++ name ∷ after) → is_wrong_name name before ≡ false
right-name before name after are =
    let place : length before < length (before ++ name ∷ after) = omega (arith, length-append before (name ∷ after)) in
    let named : is_name name ≡ true = subst (λ (n : List ℕ). is_name n ≡ true) (get_or-append_seam before name after []) (are.each (length before) [] place) in
    let others : All (λ n. bytes_eq n name ≡ false) before =
    λ k d within. differ _ name (λ same. are.distinct k (length before) d within place (get_or-append before (name ∷ after) d k within ∙ same ∙ sym (get_or-append_seam before name after d))) in
    rw (named, list_any_none (λ n. bytes_eq n name) before others) refl
  where
    differ : (a b : List ℕ) → a ≢ b → bytes_eq a b ≡ false
    differ a b other = false_from_ne_true (bytes_eq a b) (λ e. other ((bytes_eq-Decides a b).0 e))

-- a measure's name
abbrev pub names_of : List Measure → List (List ℕ)
names_of measures = map (λ m. m.name) measures

pub AreNames-measures : (measures : List Measure) → All (λ m. is_name m.name ≡ true) measures → AllPairs (λ a b. a.name ≢ b.name) measures → AreNames (names_of measures)
AreNames-measures measures each distinct = record {
  each = All-map (λ n. is_name n ≡ true) (λ (m : Measure). m.name) measures each;
  distinct = λ i j d before within same.
      let count = length-map measures (λ (m : Measure). m.name) in
      let in_measures : j < length measures = omega arith in
      let none : Measure = record { name = d; kind = kind.Number; first_col = 0 } in
      distinct i j none before in_measures (sym (get_or-map (λ (m : Measure). m.name) measures i none d (omega arith)) ∙ same ∙ get_or-map (λ (m : Measure). m.name) measures j none d in_measures);
}

-- names that are distinct are not wrong one after the other
has_wrong_names-right : (taken names : List (List ℕ)) → AreNames (taken ++ names) → has_wrong_names taken names ≡ false
has_wrong_names-right taken [] are = refl
has_wrong_names-right taken (name ∷ names) are =
    let joined : taken ++ name ∷ names ≡ (taken ++ name ∷ []) ++ names = sym (append_assoc taken (name ∷ []) names) in
    rw (right-name taken name names are, has_wrong_names-right (taken ++ name ∷ []) names (subst AreNames joined are)) refl

-- a measure in its place is the one that its name and kind give there
measure_behind-same : (before : List Measure) (m : Measure) → m.first_col ≡ 1 + width_of_all before → measure_behind before m.name m.kind ≡ m
measure_behind-same before m first = ap (λ (c : ℕ). record { name = m.name; kind = m.kind; first_col = c }) (sym first)

-- a draft with measures and no dimension
abbrev pub measured : Version → NamedPolicy → SchemaWord → List Measure → Draft
measured version policy last measures = record { last = Some last; version = version; policy = policy; measures = measures; names = []; dims = []; nodes = []; views = [] }

next-number : (version : Version) (policy : NamedPolicy) (last : SchemaWord) (before : List Measure) (name : List ℕ) → may_follow (Some last) Number ≡ true → is_wrong_name name (names_of before) ≡ false
    → width_of_all before + 1 ≤ MAX_COLS → IsNext (measured version policy last before) (codes "number") (name ∷ []) Number
next-number version policy last before name follows right room =
    let few : nat_lt MAX_COLS (width_of_all before + 1) ≡ false = grind (arith, nat_tests) in
    record {
      plain = IsPlain-fields (codes "number") (name ∷ []) (record { bytes_are = refl; utf8 = ascii_is_utf8 (codes "number") refl; short = lit≤ tt }) (All-cons IsField name [] (IsField-name name (is_name-right name (names_of before) right)) (All-nil IsField)) (lit≤ tt);
      word_is = refl;
      stays = refl;
      goes_on = refl;
      accepted = rw (follows, right, few) refl;
    }

-- the names of a distribution are fields
AreFields-names : (names : List (List ℕ)) → All (λ name. is_name name ≡ true) names → All IsField names
AreFields-names [] each = All-nil IsField
AreFields-names (name ∷ names) each =
    All-cons IsField name names (IsField-name name (All-head (λ (n : List ℕ). is_name n ≡ true) name names each)) (AreFields-names names (All-tail (λ (n : List ℕ). is_name n ≡ true) name names each))

-- both words of measures follow the same words
Parts-follows : (last : SchemaWord) → may_follow (Some last) Number ≡ true → may_follow (Some last) Parts ≡ true
Parts-follows Cube follows = cc
Parts-follows Policy follows = refl
Parts-follows Number follows = refl
Parts-follows Parts follows = refl
Parts-follows DimensionWord follows = cc
Parts-follows Node follows = cc
Parts-follows View follows = cc
Parts-follows End follows = cc

next-parts : (version : Version) (policy : NamedPolicy) (last : SchemaWord) (before : List Measure) (name : List ℕ) (scale : ℕ) (outcomes : List (List ℕ)) → may_follow (Some last) Number ≡ true → is_wrong_name name (names_of before) ≡ false
    → AreOutcomes outcomes → IsScale scale → width_of_all before + length outcomes ≤ MAX_COLS → IsNext (measured version policy last before) (codes "parts") (name ∷ decimal scale ∷ outcomes) Parts
next-parts version policy last before name scale outcomes follows right is is_scale room =
    let few : nat_lt MAX_COLS (width_of_all before + length outcomes) ≡ false = grind (arith, nat_tests) in
    let number = number_in-decimal MIN_SCALE MAX_SCALE scale (omega (arith, is_scale.most)) is_scale.least is_scale.most in
    let count = counts (length outcomes) is.some (omega (arith, room)) in
    let named = has_wrong_names-right [] outcomes is.names in
    record {
      plain = IsPlain-fields (codes "parts") (name ∷ decimal scale ∷ outcomes) (record { bytes_are = refl; utf8 = ascii_is_utf8 (codes "parts") refl; short = lit≤ tt })
          (All-cons IsField name (decimal scale ∷ outcomes) (IsField-name name (is_name-right name (names_of before) right))
          (All-cons IsField (decimal scale) outcomes (IsField-decimal scale is_scale.most) (AreFields-names outcomes is.names.each))) (omega (arith, room));
      word_is = refl;
      stays = refl;
      goes_on = refl;
      accepted = rw (Parts-follows last follows, count, right, named, number, few) refl;
    }
  where
    counts : (n : ℕ) → 2 ≤ n → n ≤ 7 → nat_lt (suc (suc (suc n))) 5 || nat_lt 10 (suc (suc (suc n))) ≡ false
    counts n least most = grind (arith, nat_tests)

-- the word of a measure's line
abbrev pub word_of : Kind → SchemaWord
word_of kind.Number = Number
word_of (kind.Parts scale outcomes) = Parts

may_follow-measure : (of_kind : Kind) → may_follow (Some (word_of of_kind)) Number ≡ true
may_follow-measure kind.Number = refl
may_follow-measure (kind.Parts scale outcomes) = refl

-- the word of the last line, once these measures are read
abbrev pub last_measure : SchemaWord → List Measure → SchemaWord
last_measure last [] = last
last_measure last (m ∷ measures) = last_measure (word_of m.kind) measures

read_kind : (text : List ℕ) (version : Version) (policy : NamedPolicy) (last : SchemaWord) (before : List Measure) (name : List ℕ) (of_kind : Kind) (lines : ℕ) (rest behind : List ℕ) → IsRead text (measured version policy last before) lines rest
    → rest ≡ kind_line name of_kind ++ behind → may_follow (Some last) Number ≡ true → is_wrong_name name (names_of before) ≡ false → IsKind of_kind → HasScale of_kind → width_of_all before + width_of of_kind ≤ MAX_COLS
    → IsRead text (measured version policy (word_of of_kind) (before ++ measure_behind before name of_kind ∷ [])) (lines + 1) behind
read_kind text version policy last before name kind.Number lines rest behind is parts follows right kind_is is_scale room =
    IsRead-next text (measured version policy last before) lines rest behind (codes "number") (name ∷ []) Number is parts (next-number version policy last before name follows right room)
read_kind text version policy last before name (kind.Parts scale outcomes) lines rest behind is parts follows right kind_is is_scale room =
    let number = number_in-decimal MIN_SCALE MAX_SCALE scale (omega (arith, is_scale.most)) is_scale.least is_scale.most in
    let next = IsRead-next text (measured version policy last before) lines rest behind (codes "parts") (name ∷ decimal scale ∷ outcomes) Parts is parts (next-parts version policy last before name scale outcomes follows right kind_is is_scale room) in
    rw number at next

-- measures that follow these, with names that are none of theirs
pub record AreMore (before measures : List Measure) : Type 0 where
  pub names : AreNames (names_of before ++ names_of measures)
  pub kinds : All (λ m. IsKind m.kind) measures
  pub scales : All (λ m. HasScale m.kind) measures
  pub order : AreInOrder (1 + width_of_all before) measures
  pub room : width_of_all before + width_of_all measures ≤ MAX_COLS

-- the first of them is a measure more before the others
AreMore-next : (before : List Measure) (m : Measure) (measures : List Measure) → AreMore before (m ∷ measures) → AreMore (before ++ m ∷ []) measures
AreMore-next before m measures are =
    let wider = width_of_all-push before m in
    let joined : names_of (before ++ m ∷ []) ++ names_of measures ≡ names_of before ++ names_of (m ∷ measures) =
    ap (λ l. l ++ names_of measures) (map_push (λ (x : Measure). x.name) before m) ∙ append_assoc (names_of before) (m.name ∷ []) (names_of measures) in
    let column : 1 + width_of_all before + width_of m.kind ≡ 1 + width_of_all (before ++ m ∷ []) = omega (arith, wider) in
    record {
      names = subst AreNames (sym joined) are.names;
      kinds = All-tail (λ (x : Measure). IsKind x.kind) m measures are.kinds;
      scales = All-tail (λ (x : Measure). HasScale x.kind) m measures are.scales;
      order = subst (λ (c : ℕ). AreInOrder c measures) column are.order.1;
      room = omega (arith, wider, are.room);
    }

pub read_measures : (text : List ℕ) (version : Version) (policy : NamedPolicy) (last : SchemaWord) (before measures : List Measure) (lines : ℕ) (rest behind : List ℕ)
    → IsRead text (measured version policy last before) lines rest → rest ≡ flat_map measure_line measures ++ behind → may_follow (Some last) Number ≡ true
    → AreMore before measures → IsRead text (measured version policy (last_measure last measures) (before ++ measures)) (lines + length measures) behind
read_measures text version policy last before [] lines rest behind is parts follows are =
    let here : rest ≡ behind = parts in
    rw (append-nil before, add-zero lines, ← here) is
read_measures text version policy last before (m ∷ measures) lines rest behind is parts follows are =
    let right = right-name (names_of before) m.name (names_of measures) are.names in
    let kind_is = All-head (λ (x : Measure). IsKind x.kind) m measures are.kinds in
    let is_scale = All-head (λ (x : Measure). HasScale x.kind) m measures are.scales in
    let cuts : rest ≡ measure_line m ++ (flat_map measure_line measures ++ behind) = parts ∙ append_assoc (measure_line m) (flat_map measure_line measures) behind in
    let next = read_kind text version policy last before m.name m.kind lines rest (flat_map measure_line measures ++ behind) is cuts follows right kind_is is_scale (omega (arith, are.room)) in
    let read : IsRead text (measured version policy (word_of m.kind) (before ++ m ∷ [])) (lines + 1) (flat_map measure_line measures ++ behind) = rw (measure_behind-same before m are.order.0) at next in
    let all = read_measures text version policy (word_of m.kind) (before ++ m ∷ []) measures (lines + 1) (flat_map measure_line measures ++ behind) behind read refl (may_follow-measure m.kind) (AreMore-next before m measures are) in
    let joined : (before ++ m ∷ []) ++ measures ≡ before ++ m ∷ measures = append_assoc before (m ∷ []) measures in
    let count : lines + 1 + length measures ≡ lines + suc (length measures) = omega arith in
    rw (← joined, ← count) all

-- What is known of a draft: its names, what stands before a word, and the depth of its last node.
use Rattle.std.proofs.Common.{◌≡◌, ◌≢◌, ℕ, ◌+◌, ◌-◌, ◌<◌, ◌≤◌, Bool, true, false, List, [], ◌∷◌, ◌++◌, length, get_or, refl, ap, ◌∙◌, arith, Option, Some, None, eqb, ltb, sub-one}
use Rattle.std.specs.Prelude.{not, ◌||◌, slice_get}
use Rattle.std.specs.Str.{bytes_eq}
use Rattle.std.proofs.lemmas.Bool.{not-false, or_parts}
use Rattle.std.proofs.lemmas.List.Elements.{All-push}
use Rattle.std.proofs.lemmas.List.Folds.{list_any_at}
use Rattle.std.proofs.lemmas.List.Quantifiers.{all_pairs_push}
use Rattle.std.proofs.lemmas.Slice.Eq.{bytes_eq-Decides}
use Rattle.cube_base.specs.Name.{is_name}
use Rattle.cube_model.specs.Tree.{Dimension, Entry}
use Rattle.region_algebra.specs.declared.view_def.ViewDef.{ViewDef}
use Rattle.schema_text.specs.declared.word.SchemaWord.{SchemaWord}
use Rattle.schema_text.specs.declared.word.SchemaWord.TheVariants.{Cube, Policy, Number, Parts, Dimension as DimensionWord, Node, View, End}
use Rattle.schema_text.specs.Schema.{AreNames}
use Rattle.schema_text.specs.Draft.{HasNodes, HasViews, open_count}
use Rattle.schema_text.specs.SchemaText.{ended, is_among_names, is_wrong_depth, is_wrong_name, may_follow}

-- what a name that is not wrong is
right : (named among : Bool) → not named || among ≡ false → (named ≡ true) × (among ≡ false)
right named among e =
    let parts = or_parts (not named) among e in
    (not-false named parts.0, parts.1)

pub is_name-right : (name : List ℕ) (names : List (List ℕ)) → is_wrong_name name names ≡ false → is_name name ≡ true
is_name-right name names e = (right (is_name name) (is_among_names name names) e).0

pub not_among : (name : List ℕ) (names : List (List ℕ)) → is_wrong_name name names ≡ false → is_among_names name names ≡ false
not_among name names e = (right (is_name name) (is_among_names name names) e).1

-- it is none of the names
pub differs : (name : List ℕ) (names : List (List ℕ)) (k : ℕ) (d : List ℕ) → is_wrong_name name names ≡ false → k < length names → get_or names k d ≢ name
differs name names k d e within same =
    let among : is_among_names name names ≡ true = list_any_at (λ n. bytes_eq n name) names k d within ((bytes_eq-Decides (get_or names k d) name).1 same) in
    let none = not_among name names e in
    cc

-- a name more
pub AreNames-push : (names : List (List ℕ)) (name : List ℕ) → AreNames names → is_wrong_name name names ≡ false → AreNames (names ++ name ∷ [])
AreNames-push names name are e = record {
  each = All-push (λ n. is_name n ≡ true) names name are.each (is_name-right name names e);
  distinct = all_pairs_push (λ a b. a ≢ b) names name are.distinct (λ k d within. differs name names k d e within);
}

-- what stands before a word

pub before-Cube : (last : Option SchemaWord) (nodes : Dimension) → may_follow last Cube ≡ true → HasNodes last nodes → (open_count last ≡ 0) × (nodes ≡ [])
before-Cube None nodes e has = (refl, has)
before-Cube (Some Cube) nodes e has = cc
before-Cube (Some Policy) nodes e has = cc
before-Cube (Some Number) nodes e has = cc
before-Cube (Some Parts) nodes e has = cc
before-Cube (Some DimensionWord) nodes e has = cc
before-Cube (Some Node) nodes e has = cc
before-Cube (Some View) nodes e has = cc
before-Cube (Some End) nodes e has = cc

pub before-Policy : (last : Option SchemaWord) (nodes : Dimension) → may_follow last Policy ≡ true → HasNodes last nodes → (open_count last ≡ 0) × (nodes ≡ [])
before-Policy None nodes e has = cc
before-Policy (Some Cube) nodes e has = (refl, has)
before-Policy (Some Policy) nodes e has = cc
before-Policy (Some Number) nodes e has = cc
before-Policy (Some Parts) nodes e has = cc
before-Policy (Some DimensionWord) nodes e has = cc
before-Policy (Some Node) nodes e has = cc
before-Policy (Some View) nodes e has = cc
before-Policy (Some End) nodes e has = cc

pub before-Number : (last : Option SchemaWord) (nodes : Dimension) → may_follow last Number ≡ true → HasNodes last nodes → (open_count last ≡ 0) × (nodes ≡ [])
before-Number None nodes e has = cc
before-Number (Some Cube) nodes e has = cc
before-Number (Some Policy) nodes e has = (refl, has)
before-Number (Some Number) nodes e has = (refl, has)
before-Number (Some Parts) nodes e has = (refl, has)
before-Number (Some DimensionWord) nodes e has = cc
before-Number (Some Node) nodes e has = cc
before-Number (Some View) nodes e has = cc
before-Number (Some End) nodes e has = cc

-- both words of measures follow the same words
pub Parts-like-Number : (last : Option SchemaWord) → may_follow last Parts ≡ may_follow last Number
Parts-like-Number None = refl
Parts-like-Number (Some Cube) = refl
Parts-like-Number (Some Policy) = refl
Parts-like-Number (Some Number) = refl
Parts-like-Number (Some Parts) = refl
Parts-like-Number (Some DimensionWord) = refl
Parts-like-Number (Some Node) = refl
Parts-like-Number (Some View) = refl
Parts-like-Number (Some End) = refl

length-ended : (nodes : Dimension) → 1 ≤ length nodes → length (ended nodes) ≡ 1
length-ended [] some = absurd (omega arith)
length-ended (node ∷ nodes) some = refl

pub before-Dimension : (last : Option SchemaWord) (nodes : Dimension) → may_follow last DimensionWord ≡ true → HasNodes last nodes → length (ended nodes) ≡ open_count last
before-Dimension None nodes e has = cc
before-Dimension (Some Cube) nodes e has = cc
before-Dimension (Some Policy) nodes e has = ap (λ l. length (ended l)) has
before-Dimension (Some Number) nodes e has = ap (λ l. length (ended l)) has
before-Dimension (Some Parts) nodes e has = ap (λ l. length (ended l)) has
before-Dimension (Some DimensionWord) nodes e has = cc
before-Dimension (Some Node) nodes e has = length-ended nodes has
before-Dimension (Some View) nodes e has = cc
before-Dimension (Some End) nodes e has = cc

pub before-Node : (last : Option SchemaWord) → may_follow last Node ≡ true → open_count last ≡ 1
before-Node None e = cc
before-Node (Some Cube) e = cc
before-Node (Some Policy) e = cc
before-Node (Some Number) e = cc
before-Node (Some Parts) e = cc
before-Node (Some DimensionWord) e = refl
before-Node (Some Node) e = refl
before-Node (Some View) e = cc
before-Node (Some End) e = cc

-- a view and `end` follow the same words
pub View-like-End : (last : Option SchemaWord) → may_follow last View ≡ may_follow last End
View-like-End None = refl
View-like-End (Some Cube) = refl
View-like-End (Some Policy) = refl
View-like-End (Some Number) = refl
View-like-End (Some Parts) = refl
View-like-End (Some DimensionWord) = refl
View-like-End (Some Node) = refl
View-like-End (Some View) = refl
View-like-End (Some End) = refl

-- the last dimension ends before them, if it has not, and one is there
pub before-End : (last : Option SchemaWord) (nodes : Dimension) (dims : List Dimension) (views : List ViewDef) → may_follow last End ≡ true → HasNodes last nodes → HasViews last dims views
    → (length (ended nodes) ≡ open_count last) × (1 ≤ length dims + length (ended nodes))
before-End None nodes dims views e has viewed = cc
before-End (Some Cube) nodes dims views e has viewed = cc
before-End (Some Policy) nodes dims views e has viewed = cc
before-End (Some Number) nodes dims views e has viewed = cc
before-End (Some Parts) nodes dims views e has viewed = cc
before-End (Some DimensionWord) nodes dims views e has viewed = cc
before-End (Some Node) nodes dims views e has viewed =
    let one = length-ended nodes has in
    (one, omega (arith, one))
before-End (Some View) nodes dims views e has viewed =
    let none : length (ended nodes) ≡ 0 = ap (λ l. length (ended l)) has in
    (none, omega (arith, viewed))
before-End (Some End) nodes dims views e has viewed = cc

-- no view stands before a word that may not follow one
pub no_views : (last : Option SchemaWord) (word : SchemaWord) (dims : List Dimension) (views : List ViewDef) → may_follow last word ≡ true → may_follow (Some View) word ≡ false → HasViews last dims views → views ≡ []
no_views None word dims views e other has = has
no_views (Some Cube) word dims views e other has = has
no_views (Some Policy) word dims views e other has = has
no_views (Some Number) word dims views e other has = has
no_views (Some Parts) word dims views e other has = has
no_views (Some DimensionWord) word dims views e other has = has
no_views (Some Node) word dims views e other has = has
no_views (Some View) word dims views e other has = cc
no_views (Some End) word dims views e other has = has

-- the depth of a node behind the last
abbrev pub wrong_after : Option Entry → ℕ → Bool
wrong_after None depth = not (eqb depth 0)
wrong_after (Some node) depth = eqb depth 0 || ltb (node.depth + 1) depth

pub is_wrong_depth-last : (nodes : Dimension) (depth : ℕ) → is_wrong_depth nodes depth ≡ wrong_after (slice_get nodes (length nodes - 1)) depth
is_wrong_depth-last [] depth = refl
is_wrong_depth-last (node ∷ []) depth = refl
is_wrong_depth-last (node ∷ next ∷ nodes) depth =
    let shorter = is_wrong_depth-last (next ∷ nodes) depth in
    rw sub-one (shorter ∙ rw sub-one refl)

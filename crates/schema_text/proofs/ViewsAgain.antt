-- The lines of views are read again.
use Rattle.std.proofs.Common.{◌≡◌, ℕ, suc, ◌+◌, ◌<◌, ◌≤◌, true, false, List, [], ◌∷◌, ◌++◌, length, get_or, map, refl, sym, ap, ◌∙◌, arith, Some, append_assoc, append-nil, length-append, lit≤, subst}
use Rattle.std.specs.Prelude.{codes, All, ◌==◌, nat_le, not}
use Rattle.std.specs.Fmt.{decimal}
use Rattle.std.specs.List.{flat_map, list_all}
use Rattle.std.proofs.lemmas.Bool.Decides.{nat_tests}
use Rattle.std.proofs.lemmas.List.{length-map, map-append}
use Rattle.std.proofs.Math.Seq.{get_or-append_seam}
use Rattle.std.proofs.lemmas.List.Elements.{All-cons, All-head, All-nil, All-tail}
use Rattle.cube_model.specs.Limits.{MAX_DEPTH, MAX_DIMS}
use Rattle.cube_model.specs.Tree.{is_numbered}
use Rattle.text_lines.specs.Text.{line_text}
use Rattle.text_lines.proofs.Ascii.{ascii_is_utf8}
use Rattle.text_lines.proofs.Numbers.{number_in-decimal}
use Rattle.region_algebra.specs.declared.view_def.ViewDef.{ViewDef}
use Rattle.schema_text.specs.declared.word.SchemaWord.TheVariants.{View, End}
use Rattle.schema_text.specs.Schema.{AreNames, AreViews, MAX_VIEWS}
use Rattle.schema_text.specs.SchemaText.{Draft, depths_in, dims_of, ended, has_wrong_depths, is_wrong_name, may_follow, view_line}
use Rattle.schema_text.proofs.Drafts.{is_name-right, View-like-End}
use Rattle.schema_text.proofs.MeasuresAgain.{right-name}
use Rattle.schema_text.proofs.Reading.{IsRead}
use Rattle.schema_text.proofs.WrittenLines.{IsField, IsField-decimal, IsField-name, IsNext, IsPlain-fields, IsRead-next}

-- once views are read
pub record IsViewed (text : List ℕ) (draft : Draft) (views : List ViewDef) (behind : List ℕ) : Type 0 where
  pub next : Draft
  pub lines : ℕ
  pub read : IsRead text next lines behind
  pub follows : may_follow next.last End ≡ true
  pub numbered : list_all is_numbered (ended next.nodes) ≡ true
  pub policy : next.policy ≡ draft.policy
  pub measures : next.measures ≡ draft.measures
  pub names_are : next.names ≡ draft.names
  pub dims_are : dims_of next ≡ dims_of draft
  pub views_are : next.views ≡ draft.views ++ views

abbrev IsShallow : List ℕ → Type 0
IsShallow depths = All (λ depth. depth ≤ MAX_DEPTH) depths

-- depths are fields, each of which spells its depth
AreFields-depths : (depths : List ℕ) → IsShallow depths → All IsField (map decimal depths)
AreFields-depths [] shallow = All-nil IsField
AreFields-depths (depth ∷ depths) shallow =
    let most : depth ≤ MAX_DEPTH = All-head (λ d. d ≤ MAX_DEPTH) depth depths shallow in
    All-cons IsField (decimal depth) (map decimal depths) (IsField-decimal depth (omega (arith, most))) (AreFields-depths depths (All-tail (λ d. d ≤ MAX_DEPTH) depth depths shallow))

depths-right : (depths : List ℕ) → IsShallow depths → (has_wrong_depths (map decimal depths) ≡ false) × (depths_in (map decimal depths) ≡ depths)
depths-right [] shallow = (refl, refl)
depths-right (depth ∷ depths) shallow =
    let most : depth ≤ MAX_DEPTH = All-head (λ d. d ≤ MAX_DEPTH) depth depths shallow in
    let number = number_in-decimal 0 MAX_DEPTH depth (omega (arith, most)) (omega arith) most in
    let rest = depths-right depths (All-tail (λ d. d ≤ MAX_DEPTH) depth depths shallow) in
    (rw number rest.0, rw number (ap (λ l. depth ∷ l) rest.1))

-- the names of views
abbrev names_of : List ViewDef → List (List ℕ)
names_of views = map (λ v. v.name) views

next-view : (draft : Draft) (view : ViewDef) → may_follow draft.last View ≡ true → is_wrong_name view.name (names_of draft.views) ≡ false → length view.depths ≡ length draft.names → length draft.names ≤ MAX_DIMS → IsShallow view.depths
    → list_all is_numbered (ended draft.nodes) ≡ true → length draft.views < MAX_VIEWS → IsNext draft (codes "view") (view.name ∷ map decimal view.depths) View
next-view draft view follows right full narrow shallow numbered room =
    let few : nat_le MAX_VIEWS (length draft.views) ≡ false = grind (arith, nat_tests) in
    let fields = length-map view.depths decimal in
    let count = counts (length (map decimal view.depths)) (length draft.names) (fields ∙ full) in
    record {
      plain = IsPlain-fields (codes "view") (view.name ∷ map decimal view.depths) (record { bytes_are = refl; utf8 = ascii_is_utf8 (codes "view") refl; short = lit≤ tt })
          (All-cons IsField view.name (map decimal view.depths) (IsField-name view.name (is_name-right view.name (names_of draft.views) right)) (AreFields-depths view.depths shallow)) (omega (arith, fields, full, narrow));
      word_is = refl;
      stays = refl;
      goes_on = refl;
      accepted = rw (follows, count, right, (depths-right view.depths shallow).0, numbered, few) refl;
    }
  where
    counts : (n dims : ℕ) → n ≡ dims → not (suc (suc n) == dims + 2) ≡ false
    counts n dims same = grind (arith, nat_tests)

-- views that follow these in a schema of so many dimensions
abbrev AreMore : ℕ → List ViewDef → List ViewDef → Type 0
AreMore count before views = AreViews count (before ++ views)

pub read_views : (text : List ℕ) (draft : Draft) (views : List ViewDef) (lines : ℕ) (rest behind : List ℕ) → IsRead text draft lines rest → rest ≡ flat_map view_line views ++ behind
    → may_follow draft.last View ≡ true → list_all is_numbered (ended draft.nodes) ≡ true → length draft.names ≤ MAX_DIMS → AreMore (length draft.names) draft.views views → IsViewed text draft views behind
read_views text draft [] lines rest behind is parts follows numbered narrow are = record {
  next = draft;
  lines = lines;
  read = let here : rest ≡ behind = parts in rw (← here) is;
  follows = sym (View-like-End draft.last) ∙ follows;
  numbered = numbered;
  policy = refl;
  measures = refl;
  names_are = refl;
  dims_are = refl;
  views_are = sym (append-nil draft.views);
}
read_views text draft (view ∷ views) lines rest behind is parts follows numbered narrow are =
    let place : length draft.views < length (draft.views ++ view ∷ views) = omega (arith, length-append draft.views (view ∷ views)) in
    let here : get_or (draft.views ++ view ∷ views) (length draft.views) view ≡ view = get_or-append_seam draft.views view views view in
    let full : length view.depths ≡ length draft.names = subst (λ (v : ViewDef). length v.depths ≡ length draft.names) here (are.depths (length draft.views) view place) in
    let shallow : IsShallow view.depths = subst (λ (v : ViewDef). IsShallow v.depths) here (are.shallow (length draft.views) view place) in
    let names : AreNames (names_of draft.views ++ view.name ∷ names_of views) = subst AreNames (map-append (λ (v : ViewDef). v.name) draft.views (view ∷ views)) are.names in
    let right = right-name (names_of draft.views) view.name (names_of views) names in
    let room : length draft.views < MAX_VIEWS = omega (arith, are.few, place) in
    let fields = view.name ∷ map decimal view.depths in
    let more = flat_map view_line views ++ behind in
    let cuts : rest ≡ line_text (codes "view") fields ++ more = parts ∙ append_assoc (view_line view) (flat_map view_line views) behind in
    let head = IsRead-next text draft lines rest more (codes "view") fields View is cuts (next-view draft view follows right full narrow shallow numbered room) in
    let next : Draft = record { last = Some View; version = draft.version; policy = draft.policy; measures = draft.measures; names = draft.names; dims = dims_of draft; nodes = []; views = draft.views ++ view ∷ [] } in
    let read : IsRead text next (lines + 1) more = rw (depths-right view.depths shallow).1 at head in
    let joined : (draft.views ++ view ∷ []) ++ views ≡ draft.views ++ view ∷ views = append_assoc draft.views (view ∷ []) views in
    let rest_read = read_views text next views (lines + 1) more behind read refl refl refl narrow (subst (AreViews (length draft.names)) (sym joined) are) in
    record {
      next = rest_read.next;
      lines = rest_read.lines;
      read = rest_read.read;
      follows = rest_read.follows;
      numbered = rest_read.numbered;
      policy = rest_read.policy;
      measures = rest_read.measures;
      names_are = rest_read.names_are;
      dims_are = rest_read.dims_are ∙ append-nil (dims_of draft);
      views_are = rest_read.views_are ∙ joined;
    }

-- Chains of facts that touch, and that labels which tell components are the only ones that do.
use Rattle.cube_model.specs.declared.edit.Fact.{Fact}
use Rattle.cube_model.specs.Cells.{cells_of, is_among}
use Rattle.cube_model.specs.Facts.{is_precise}
use Rattle.cube_model.specs.Tree.{Dimension}
use Rattle.iter_alloc.proofs.Tests.{and-both, and-first, and-second, not-true, not-false, passes-among, shared-from}
use Rattle.iter_alloc.specs.Components.{Chain, Labelled, facts_of, AreComponents, here, next}
use Rattle.iter_alloc.specs.Touching.{touch, IsClosed}
use Rattle.std.proofs.Common.{◌≡◌, ℕ, zero, suc, ◌<◌, ◌≤◌, Bool, true, false, List, [], ◌∷◌, ◌++◌, get_or, length, map, refl, ap, sym, ◌∙◌, subst, arith}
use Rattle.std.proofs.lemmas.List.{length-map, same_lists, get_or-map}
use Rattle.std.proofs.lemmas.List.Elements.{Contains-get_or, Contains-append_left}
use Rattle.std.specs.List.{Contains, list_any}
use Rattle.std.specs.Prelude.{not, ◌&&◌}

-- what is among the images is the image of one
pub record IsImage {X Y : Type 0} (f : X → Y) (xs : List X) (y : Y) : Type 0 where
  pub from : X
  pub among : Contains xs from
  pub is : f from ≡ y

image-at : {X Y : Type 0} (f : X → Y) (xs : List X) (y : Y) (k : ℕ) → k < length (map f xs) → get_or (map f xs) k y ≡ y → IsImage f xs y
image-at f [] y k within is = absurd (omega arith)
image-at f (x ∷ xs) y zero within is = record { from = x; among = (0, omega arith, refl); is = is }
image-at f (x ∷ xs) y (suc k) within is =
    let later = image-at f xs y k (omega (arith, within)) is in
    record { from = later.from; among = (suc later.among.0, omega (arith, later.among.1), later.among.2); is = later.is }

pub image : {X Y : Type 0} (f : X → Y) (xs : List X) (y : Y) → Contains (map f xs) y → IsImage f xs y
image f xs y among = image-at f xs y among.0 among.1 among.2

pub among-images : {X Y : Type 0} (f : X → Y) (xs : List X) (x : X) → Contains xs x → Contains (map f xs) (f x)
among-images f xs x among = (among.0, omega (arith, length-map xs f, among.1), get_or-map f xs among.0 x (f x) among.1 ∙ ap f among.2)

-- what two facts that touch have
pub record AreTouching (dims : List Dimension) (f g : Fact) : Type 0 where
  pub several_first : is_precise dims f ≡ false
  pub several_second : is_precise dims g ≡ false
  pub cell : ℕ
  pub of_first : is_among (cells_of dims f.region) cell ≡ true
  pub of_second : is_among (cells_of dims g.region) cell ≡ true

pub touching-from : (dims : List Dimension) (f g : Fact) → touch dims f g ≡ true → AreTouching dims f g
touching-from dims f g touches =
    let several = and-first (not (is_precise dims f) && not (is_precise dims g)) (list_any (is_among (cells_of dims g.region)) (cells_of dims f.region)) touches in
    let any = and-second (not (is_precise dims f) && not (is_precise dims g)) (list_any (is_among (cells_of dims g.region)) (cells_of dims f.region)) touches in
    let both = shared-from (cells_of dims f.region) (cells_of dims g.region) any in
    record {
      several_first = not-true (is_precise dims f) (and-first (not (is_precise dims f)) (not (is_precise dims g)) several);
      several_second = not-true (is_precise dims g) (and-second (not (is_precise dims f)) (not (is_precise dims g)) several);
      cell = both.shared;
      of_first = both.first;
      of_second = both.second;
    }

pub touching-shown : (dims : List Dimension) (f g : Fact) → AreTouching dims f g → touch dims f g ≡ true
touching-shown dims f g are =
    and-both (not (is_precise dims f) && not (is_precise dims g)) (list_any (is_among (cells_of dims g.region)) (cells_of dims f.region))
    (and-both (not (is_precise dims f)) (not (is_precise dims g)) (not-false (is_precise dims f) are.several_first) (not-false (is_precise dims g) are.several_second))
    (passes-among (is_among (cells_of dims g.region)) are.cell (cells_of dims f.region) are.of_first are.of_second)

pub touch-back : (dims : List Dimension) (f g : Fact) → touch dims f g ≡ true → touch dims g f ≡ true
touch-back dims f g touches =
    let are = touching-from dims f g touches in
    touching-shown dims g f (record {
      several_first = are.several_second;
      several_second = are.several_first;
      cell = are.cell;
      of_first = are.of_second;
      of_second = are.of_first;
    })

module _ (dims : List Dimension) (facts : List Fact) where
  pub chain-append : {f g h : Fact} → Chain dims facts f g → Chain dims facts g h → Chain dims facts f h
  chain-append (here f) later = later
  chain-append (next f g h touches among rest) later = next f g _ touches among (chain-append rest later)

  pub chain-back : {f h : Fact} → Contains facts f → Chain dims facts f h → Chain dims facts h f
  chain-back from (here f) = here f
  chain-back from (next f g h touches among rest) = chain-append (chain-back among rest) (next g f f (touch-back dims f g touches) from (here f))

  pub chain-more : (others : List Fact) {f h : Fact} → Chain dims facts f h → Chain dims (facts ++ others) f h
  chain-more others (here f) = here f
  chain-more others (next f g h touches among rest) = next f g h touches (Contains-append_left facts others g among) (chain-more others rest)

module _ (dims : List Dimension) (ls : List Labelled) (are : AreComponents dims ls) where
  abbrev facts : List Fact
  facts = facts_of ls

  pub same-along : {f h : Fact} → Chain dims (facts_of ls) f h → (x y : Labelled) → Contains ls x → Contains ls y → x.fact ≡ f → y.fact ≡ h → x.label ≡ y.label
  same-along (here f) x y in_x in_y is_x is_y = ap (λ l. l.label) (are.told x y in_x in_y (ap (λ g. g.id) (is_x ∙ sym is_y)))
  same-along (next f g h touches among rest) x y in_x in_y is_x is_y =
      let z = image (λ l. l.fact) ls g among in
      let first = subst (λ k. touch dims k g ≡ true) (sym is_x) touches in
      let both = subst (λ k. touch dims x.fact k ≡ true) (sym z.is) first in
      are.touching x z.from in_x z.among both ∙ same-along rest z.from y z.among in_y z.is is_y

  -- facts of one label are joined through the one whose id it is
  pub joined-by_label : (x y : Labelled) → Contains ls x → Contains ls y → x.label ≡ y.label → Chain dims (facts_of ls) x.fact y.fact
  joined-by_label x y in_x in_y same =
      let of_x = are.reached x in_x in
      let of_y = are.reached y in_y in
      let root = are.told of_x.root of_y.root of_x.among of_y.among (of_x.names ∙ same ∙ sym of_y.names) in
      let first = subst (λ (l : Labelled). Chain dims (facts_of ls) x.fact l.fact) root of_x.way in
      chain-append dims (facts_of ls) first (chain-back dims (facts_of ls) (among-images (λ l. l.fact) ls y in_y) of_y.way)

  -- a label is no greater than the id of a fact that a chain reaches
  pub least-reached : (x y : Labelled) → Contains ls x → Contains ls y → Chain dims (facts_of ls) x.fact y.fact → x.label ≤ y.fact.id
  least-reached x y in_x in_y chain = omega (arith, same-along chain x y in_x in_y refl refl, are.low y in_y)

  -- to keep facts by their labels is to keep whole components
  pub kept-by_labels : (label : Fact → ℕ) → ((x : Labelled) → Contains ls x → label x.fact ≡ x.label) → (hot : ℕ → Bool) → IsClosed dims (λ f. hot (label f)) (facts_of ls)
  kept-by_labels label of_label hot = record { closed = closed }
    where
      closed : (f g : Fact) → Contains (facts_of ls) f → Contains (facts_of ls) g → touch dims f g ≡ true → hot (label f) ≡ hot (label g)
      closed f g in_f in_g touches =
          let x = image (λ l. l.fact) ls f in_f in
          let y = image (λ l. l.fact) ls g in_g in
          let first = subst (λ k. touch dims k g ≡ true) (sym x.is) touches in
          let both = subst (λ k. touch dims x.from.fact k ≡ true) (sym y.is) first in
          ap hot (ap label (sym x.is) ∙ of_label x.from x.among ∙ are.touching x.from y.from x.among y.among both ∙ sym (of_label y.from y.among) ∙ ap label y.is)

module _ (dims : List Dimension) (ls ms : List Labelled) (of_l : AreComponents dims ls) (of_m : AreComponents dims ms) (same : facts_of ls ≡ facts_of ms) where
  pub label-le : (x y : Labelled) → Contains ls x → Contains ms y → x.fact ≡ y.fact → y.label ≤ x.label
  label-le x y in_x in_y is =
      let reached = of_l.reached x in_x in
      let there = among-images (λ l. l.fact) ls reached.root reached.among in
      let z = image (λ l. l.fact) ms reached.root.fact (subst (λ (fs : List Fact). Contains fs reached.root.fact) same there) in
      let way = subst (λ (fs : List Fact). Chain dims fs x.fact reached.root.fact) same reached.way in
      omega (arith, same-along dims ms of_m way y z.from in_y z.among (sym is) z.is, of_m.low z.from z.among, ap (λ (f : Fact). f.id) z.is, reached.names)

same-labelled : (x y : Labelled) → x.fact ≡ y.fact → x.label ≡ y.label → x ≡ y
same-labelled x y fact label =
    ap (λ n. record { fact = x.fact; label = n }) label ∙ ap (λ f. record { fact = f; label = y.label }) fact

-- no other labels of the same facts tell their components
pub same-components : (dims : List Dimension) (ls ms : List Labelled) → AreComponents dims ls → AreComponents dims ms → facts_of ls ≡ facts_of ms → ls ≡ ms
same-components dims ls ms of_l of_m same = same_lists ls ms long each
  where
    long : length ls ≡ length ms
    long = omega (arith, length-map ls (λ l. l.fact), length-map ms (λ l. l.fact), ap (λ (fs : List Fact). length fs) same)

    fact-at : (k : ℕ) (d : Labelled) → k < length ls → (get_or ls k d).fact ≡ (get_or ms k d).fact
    fact-at k d within =
        sym (get_or-map (λ l. l.fact) ls k d d.fact within) ∙ ap (λ (fs : List Fact). get_or fs k d.fact) same ∙ get_or-map (λ l. l.fact) ms k d d.fact (omega (arith, long, within))

    each : (k : ℕ) (d : Labelled) → k < length ls → get_or ls k d ≡ get_or ms k d
    each k d within =
        let in_l = Contains-get_or ls k d within in
        let in_m = Contains-get_or ms k d (omega (arith, long, within)) in
        let down = label-le dims ls ms of_l of_m same (get_or ls k d) (get_or ms k d) in_l in_m (fact-at k d within) in
        let up = label-le dims ms ls of_m of_l (sym same) (get_or ms k d) (get_or ls k d) in_m in_l (sym (fact-at k d within)) in
        same-labelled (get_or ls k d) (get_or ms k d) (fact-at k d within) (omega (arith, down, up))

-- Labels after one fact more, and so of all facts, tell the components.
use Rattle.cube_model.specs.declared.edit.Fact.{Fact}
use Rattle.cube_model.proofs.Ascending.{ascends_first}
use Rattle.cube_model.specs.Ascending.{ascends_from}
use Rattle.cube_model.specs.Tree.{Dimension}
use Rattle.iter_alloc.proofs.Chains.{IsImage, image, among-images, touch-back, chain-append, chain-more, joined-by_label}
use Rattle.iter_alloc.proofs.Tests.{itself, equal, and-both, and-first, and-second}
use Rattle.iter_alloc.specs.Components.{Chain, Labelled, is_touched, least_label, relabel, joined_labels, labelled, facts_of, IsReached, AreComponents, here, next}
use Rattle.iter_alloc.specs.Touching.{touch}
use Rattle.std.proofs.Common.{◌≡◌, ℕ, zero, suc, ◌+◌, ◌<◌, ◌≤◌, Bool, true, false, List, [], ◌∷◌, ◌++◌, get_or, length, map, refl, ap, sym, ◌∙◌, subst, arith, inl, inr, ◌⊎◌, min}
use Rattle.std.proofs.lemmas.Bool.{cases_lt}
use Rattle.std.proofs.lemmas.List.{append-nil, append_assoc, map-append}
use Rattle.std.proofs.lemmas.List.Elements.{Contains-append_left, Contains-append_right, Contains-push, Contains-push_cases}
use Rattle.std.proofs.lemmas.List.Folds.{list_any_at}
use Rattle.std.specs.List.{fold, Contains}
use Rattle.std.specs.Prelude.{◌&&◌, ◌||◌, ◌==◌, if◌then◌else◌}

-- a fact touches one of these, which has the label
record IsOf (dims : List Dimension) (f : Fact) (ls : List Labelled) (label : ℕ) : Type 0 where
  pub by : Labelled
  pub among : Contains ls by
  pub touches : touch dims f by.fact ≡ true
  pub is : by.label ≡ label

of-more : (dims : List Dimension) (f : Fact) (l : Labelled) (ls : List Labelled) (label : ℕ) → IsOf dims f ls label → IsOf dims f (l ∷ ls) label
of-more dims f l ls label of = record { by = of.by; among = Contains-append_right (l ∷ []) ls of.by of.among; touches = of.touches; is = of.is }

module _ (dims : List Dimension) (f : Fact) where
  touched-from : (ls : List Labelled) (label : ℕ) → is_touched dims f ls label ≡ true → IsOf dims f ls label
  touched-from [] label any = cc
  touched-from (l ∷ ls) label any = either (touch dims f l.fact && l.label == label) refl any (touched-from ls label)
    where
      either : (b : Bool) → (touch dims f l.fact && l.label == label) ≡ b → (b || is_touched dims f ls label) ≡ true → (is_touched dims f ls label ≡ true → IsOf dims f ls label) → IsOf dims f (l ∷ ls) label
      either true is h rest =
          record {
            by = l;
            among = (0, omega arith, refl);
            touches = and-first (touch dims f l.fact) (l.label == label) is;
            is = equal l.label label (and-second (touch dims f l.fact) (l.label == label) is);
          }
      either false is h rest = of-more dims f l ls label (rest h)

  touched-in : (ls : List Labelled) (x : Labelled) → Contains ls x → touch dims f x.fact ≡ true → is_touched dims f ls x.label ≡ true
  touched-in ls x among touches =
      let test = λ (l : Labelled). touch dims f l.fact && l.label == x.label in
      let passes : test x ≡ true = and-both (touch dims f x.fact) (x.label == x.label) touches (itself x.label) in
      list_any_at test ls among.0 x among.1 (subst (λ (l : Labelled). test l ≡ true) (sym among.2) passes)

  -- the least label is the fact's id, or one that it touches, and none of these is less
  least-of : (ls : List Labelled) → (least_label dims f ls ≡ f.id) ⊎ IsOf dims f ls (least_label dims f ls)
  least-of [] = inl refl
  least-of (l ∷ ls) = either (touch dims f l.fact) refl (least-of ls)
    where
      later : (n : ℕ) → (n ≡ f.id) ⊎ IsOf dims f ls n → (n ≡ f.id) ⊎ IsOf dims f (l ∷ ls) n
      later n (inl is) = inl is
      later n (inr of) = inr (of-more dims f l ls n of)

      lesser : (n : ℕ) → touch dims f l.fact ≡ true → (n < l.label) ⊎ (l.label ≤ n) → (n ≡ f.id) ⊎ IsOf dims f ls n → (min l.label n ≡ f.id) ⊎ IsOf dims f (l ∷ ls) (min l.label n)
      lesser n touches (inr there) rest = inr (record { by = l; among = (0, omega arith, refl); touches = touches; is = omega (arith, there) })
      lesser n touches (inl there) rest =
          let is : min l.label n ≡ n = omega (arith, there) in
          subst (λ m. (m ≡ f.id) ⊎ IsOf dims f (l ∷ ls) m) (sym is) (later n rest)

      either : (b : Bool) → touch dims f l.fact ≡ b → (least_label dims f ls ≡ f.id) ⊎ IsOf dims f ls (least_label dims f ls)
          → ((if b then min l.label (least_label dims f ls) else least_label dims f ls) ≡ f.id) ⊎ IsOf dims f (l ∷ ls) (if b then min l.label (least_label dims f ls) else least_label dims f ls)
      either true touches rest = lesser (least_label dims f ls) touches (cases_lt (least_label dims f ls) l.label) rest
      either false touches rest = later (least_label dims f ls) rest

  least-own : (ls : List Labelled) → least_label dims f ls ≤ f.id
  least-own [] = omega arith
  least-own (l ∷ ls) = either (touch dims f l.fact) (least-own ls)
    where
      either : (b : Bool) → least_label dims f ls ≤ f.id → (if b then min l.label (least_label dims f ls) else least_label dims f ls) ≤ f.id
      either true rest = omega (arith, rest)
      either false rest = rest

  least-le : (ls : List Labelled) (k : ℕ) (x : Labelled) → k < length ls → get_or ls k x ≡ x → touch dims f x.fact ≡ true → least_label dims f ls ≤ x.label
  least-le [] k x within is touches = absurd (omega arith)
  least-le (l ∷ ls) zero x within is touches =
      let here : touch dims f l.fact ≡ true = subst (λ (y : Labelled). touch dims f y.fact ≡ true) (sym is) touches in
      let same = ap (λ (y : Labelled). y.label) is in
      let this : (if touch dims f l.fact then min l.label (least_label dims f ls) else least_label dims f ls) ≡ min l.label (least_label dims f ls) = rw here refl in
      omega (arith, this, same)
  least-le (l ∷ ls) (suc k) x within is touches = either (touch dims f l.fact) (least-le ls k x (omega (arith, within)) is touches)
    where
      either : (b : Bool) → least_label dims f ls ≤ x.label → (if b then min l.label (least_label dims f ls) else least_label dims f ls) ≤ x.label
      either true rest = omega (arith, rest)
      either false rest = rest

  module _ (ls : List Labelled) (are : AreComponents dims ls) (above : (x : Labelled) → Contains ls x → x.fact.id < f.id) where
    abbrev least : ℕ
    least = least_label dims f ls

    abbrev new : Labelled
    new = record { fact = f; label = least }

    abbrev old : Labelled → Labelled
    old x = relabel dims f ls x

    abbrev all : List Labelled
    all = joined_labels dims ls f

    same-facts : (xs : List Labelled) → facts_of (map old xs) ≡ facts_of xs
    same-facts [] = refl
    same-facts (x ∷ xs) = ap (λ fs. x.fact ∷ fs) (same-facts xs)

    pub joined_labels-facts : facts_of all ≡ facts_of ls ++ f ∷ []
    joined_labels-facts = map-append (λ (l : Labelled). l.fact) (map old ls) (new ∷ []) ∙ ap (λ fs. fs ++ f ∷ []) (same-facts ls)

    in_new : Contains all new
    in_new = Contains-push (map old ls) new

    in_old : (x : Labelled) → Contains ls x → Contains all (old x)
    in_old x among = Contains-append_left (map old ls) (new ∷ []) (old x) (among-images old ls x among)

    lifted : {g h : Fact} → Chain dims (facts_of ls) g h → Chain dims (facts_of all) g h
    lifted {g = g} {h = h} chain = subst (λ (fs : List Fact). Chain dims fs g h) (sym joined_labels-facts) (chain-more dims (facts_of ls) (f ∷ []) chain)

    cases : (y : Labelled) → Contains all y → IsImage old ls y ⊎ (new ≡ y)
    cases y among = either (Contains-push_cases (map old ls) new y among)
      where
        either : Contains (map old ls) y ⊎ (new ≡ y) → IsImage old ls y ⊎ (new ≡ y)
        either (inl there) = inl (image old ls y there)
        either (inr is) = inr is

    old-least : (x : Labelled) → is_touched dims f ls x.label ≡ true → (old x).label ≡ least
    old-least x touched = ap (λ (b : Bool). if b then least else x.label) touched

    old-kept : (x : Labelled) → is_touched dims f ls x.label ≡ false → (old x).label ≡ x.label
    old-kept x touched = ap (λ (b : Bool). if b then least else x.label) touched

    touched-least : (x : Labelled) → Contains ls x → touch dims f x.fact ≡ true → (old x).label ≡ least
    touched-least x among touches = old-least x (touched-in ls x among touches)

    told : (x y : Labelled) → Contains all x → Contains all y → x.fact.id ≡ y.fact.id → x ≡ y
    told x y in_x in_y same = either (cases x in_x) (cases y in_y)
      where
        either : IsImage old ls x ⊎ (new ≡ x) → IsImage old ls y ⊎ (new ≡ y) → x ≡ y
        either (inl a) (inl b) =
            let ids : a.from.fact.id ≡ b.from.fact.id = ap (λ (l : Labelled). l.fact.id) a.is ∙ same ∙ sym (ap (λ (l : Labelled). l.fact.id) b.is) in
            sym a.is ∙ ap old (are.told a.from b.from a.among b.among ids) ∙ b.is
        either (inl a) (inr b) = absurd (omega (arith, above a.from a.among, ap (λ (l : Labelled). l.fact.id) a.is, ap (λ (l : Labelled). l.fact.id) b, same))
        either (inr a) (inl b) = absurd (omega (arith, above b.from b.among, ap (λ (l : Labelled). l.fact.id) b.is, ap (λ (l : Labelled). l.fact.id) a, same))
        either (inr a) (inr b) = sym a ∙ b

    touching : (x y : Labelled) → Contains all x → Contains all y → touch dims x.fact y.fact ≡ true → x.label ≡ y.label
    touching x y in_x in_y touches = either (cases x in_x) (cases y in_y)
      where
        both : (a b : Labelled) → a ≡ x → b ≡ y → touch dims a.fact b.fact ≡ true
        both a b is_a is_b = subst (λ (l : Labelled). touch dims l.fact b.fact ≡ true) (sym is_a) (subst (λ (l : Labelled). touch dims x.fact l.fact ≡ true) (sym is_b) touches)

        either : IsImage old ls x ⊎ (new ≡ x) → IsImage old ls y ⊎ (new ≡ y) → x.label ≡ y.label
        either (inl a) (inl b) =
            let same = are.touching a.from b.from a.among b.among (both (old a.from) (old b.from) a.is b.is) in
            sym (ap (λ (l : Labelled). l.label) a.is) ∙ ap (λ n. if is_touched dims f ls n then least else n) same ∙ ap (λ (l : Labelled). l.label) b.is
        either (inl a) (inr b) =
            sym (ap (λ (l : Labelled). l.label) a.is) ∙ touched-least a.from a.among (touch-back dims a.from.fact f (both (old a.from) new a.is b)) ∙ ap (λ (l : Labelled). l.label) b
        either (inr a) (inl b) = sym (ap (λ (l : Labelled). l.label) a) ∙ sym (touched-least b.from b.among (both new (old b.from) a b.is)) ∙ ap (λ (l : Labelled). l.label) b.is
        either (inr a) (inr b) = sym (ap (λ (l : Labelled). l.label) a) ∙ ap (λ (l : Labelled). l.label) b

    low-old : (x : Labelled) → Contains ls x → (b : Bool) → is_touched dims f ls x.label ≡ b → (old x).label ≤ x.fact.id
    low-old x among true touched =
        let of = touched-from ls x.label touched in
        omega (arith, old-least x touched, least-le ls of.among.0 of.by of.among.1 of.among.2 of.touches, of.is, are.low x among)
    low-old x among false touched = omega (arith, old-kept x touched, are.low x among)

    low : (y : Labelled) → Contains all y → y.label ≤ y.fact.id
    low y in_y = either (cases y in_y)
      where
        either : IsImage old ls y ⊎ (new ≡ y) → y.label ≤ y.fact.id
        either (inl a) = subst (λ (l : Labelled). l.label ≤ l.fact.id) a.is (low-old a.from a.among (is_touched dims f ls a.from.label) refl)
        either (inr a) = subst (λ (l : Labelled). l.label ≤ l.fact.id) a (least-own ls)

    -- from the new fact a chain reaches the one whose id the least label is, through one that it touches
    reached-new : IsReached dims all f least
    reached-new = either (least-of ls)
      where
        either : (least ≡ f.id) ⊎ IsOf dims f ls least → IsReached dims all f least
        either (inl own) = record { root = new; among = in_new; names = sym own; way = here f }
        either (inr of) =
            let there = are.reached of.by of.among in
            record {
              root = old there.root;
              among = in_old there.root there.among;
              names = there.names ∙ of.is;
              way = next f of.by.fact there.root.fact of.touches (among-images (λ (l : Labelled). l.fact) all (old of.by) (in_old of.by of.among)) (lifted there.way);
            }

    -- a fact whose label the new one touches reaches the new one, and through it that fact
    reached-old : (x : Labelled) → Contains ls x → (b : Bool) → is_touched dims f ls x.label ≡ b → IsReached dims all x.fact (old x).label
    reached-old x among true touched =
        let of = touched-from ls x.label touched in
        let to = lifted (joined-by_label dims ls are x of.by among of.among (sym of.is)) in
        let step = next of.by.fact f reached-new.root.fact (touch-back dims f of.by.fact of.touches) (among-images (λ (l : Labelled). l.fact) all new in_new) reached-new.way in
        record {
          root = reached-new.root;
          among = reached-new.among;
          names = reached-new.names ∙ sym (old-least x touched);
          way = chain-append dims (facts_of all) to step;
        }
    reached-old x among false touched =
        let there = are.reached x among in
        record { root = old there.root; among = in_old there.root there.among; names = there.names ∙ sym (old-kept x touched); way = lifted there.way }

    reached : (y : Labelled) → Contains all y → IsReached dims all y.fact y.label
    reached y in_y = either (cases y in_y)
      where
        either : IsImage old ls y ⊎ (new ≡ y) → IsReached dims all y.fact y.label
        either (inl a) = subst (λ (l : Labelled). IsReached dims all l.fact l.label) a.is (reached-old a.from a.among (is_touched dims f ls a.from.label) refl)
        either (inr a) = subst (λ (l : Labelled). IsReached dims all l.fact l.label) a reached-new

    pub joined_labels-components : AreComponents dims all
    joined_labels-components = record { told = told; touching = touching; reached = reached; low = low }

    pub joined_labels-below : (y : Labelled) → Contains all y → y.fact.id < f.id + 1
    joined_labels-below y in_y = either (cases y in_y)
      where
        either : IsImage old ls y ⊎ (new ≡ y) → y.fact.id < f.id + 1
        either (inl a) = omega (arith, above a.from a.among, ap (λ (l : Labelled). l.fact.id) a.is)
        either (inr a) = omega (arith, ap (λ (l : Labelled). l.fact.id) a)

-- the facts with labels that tell their components
pub record AreLabelled (dims : List Dimension) (ls : List Labelled) (facts : List Fact) : Type 0 where
  pub components : AreComponents dims ls
  pub same : facts_of ls ≡ facts

joined_labels-rest : (dims : List Dimension) (ls : List Labelled) (done : List Fact) (least : ℕ) (rest : List Fact) → AreComponents dims ls → facts_of ls ≡ done → ((x : Labelled) → Contains ls x → x.fact.id < least)
    → ascends_from (λ f. f.id) least rest ≡ true → AreLabelled dims (fold (joined_labels dims) ls rest) (done ++ rest)
joined_labels-rest dims ls done least [] are is below ascends = record { components = are; same = is ∙ sym (append-nil done) }
joined_labels-rest dims ls done least (f ∷ rest) are is below ascends =
    let first = ascends_first (λ (f : Fact). f.id) least f rest ascends in
    let above = λ (x : Labelled) (among : Contains ls x). let now : x.fact.id < f.id = omega (arith, below x among, first.from) in now in
    let all =
    joined_labels-rest dims (joined_labels dims ls f) (done ++ f ∷ []) (f.id + 1) rest (joined_labels-components dims f ls are above) (joined_labels-facts dims f ls are above ∙ ap (λ fs. fs ++ f ∷ []) is)
    (joined_labels-below dims f ls are above) first.others
    in
    record { components = all.components; same = all.same ∙ append_assoc done (f ∷ []) rest }

pub labelled-facts : (dims : List Dimension) (facts : List Fact) → ascends_from (λ f. f.id) 0 facts ≡ true → AreLabelled dims (labelled dims facts) facts
unfolding labelled
labelled-facts dims facts ascends =
    joined_labels-rest dims [] [] 0 facts
    (record {
      told = λ x y in_x in_y same. absurd (omega (arith, in_x.1));
      touching = λ x y in_x in_y touches. absurd (omega (arith, in_x.1));
      reached = λ x in_x. absurd (omega (arith, in_x.1));
      low = λ x in_x. absurd (omega (arith, in_x.1));
    })
    refl (λ x in_x. absurd (omega (arith, in_x.1))) ascends

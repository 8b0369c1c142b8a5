-- Facts with their labels beside them.
use Rattle.cube_model.specs.declared.edit.Fact.{Fact}
use Rattle.cube_model.specs.Tree.{Dimension}
use Rattle.fact_groups.proofs.Ascending.{ascends-from_pairs}
use Rattle.fact_records.specs.FactList.{IsAscending}
use Rattle.iter_alloc.proofs.Joined.{labelled-facts}
use Rattle.iter_alloc.specs.BesideFacts.{ids_beside, label_beside}
use Rattle.iter_alloc.specs.Components.{Labelled, component_of, facts_of, ids_labelled, labelled, labels}
use Rattle.std.proofs.Common.{◌≡◌, ℕ, ◌+◌, ◌<◌, Bool, true, false, List, [], ◌∷◌, ◌++◌, get_or, drop, filter, length, map, refl, ap, sym, ◌∙◌, arith, Option, Some, None}
use Rattle.std.proofs.lemmas.List.{append-nil, append_assoc, drop_more, get_or_default, length-map}
use Rattle.std.specs.List.{find}
use Rattle.std.specs.Option.{option_map, option_map_or}
use Rattle.std.specs.Prelude.{◌==◌, if◌then◌else◌}

-- labels beside their facts are those of labelled facts
one-label : (b : Bool) (l : Labelled) (found : Option Labelled) → (if b then Some l.label else option_map (λ l. l.label) found) ≡ option_map (λ l. l.label) (if b then Some l else found)
one-label true l found = refl
one-label false l found = refl

label_beside-labelled : (ls : List Labelled) (id : ℕ) → label_beside (facts_of ls) (map (λ l. l.label) ls) id ≡ option_map (λ l. l.label) (find (λ l. l.fact.id == id) ls)
label_beside-labelled [] id = refl
label_beside-labelled (l ∷ ls) id =
    ap (λ found. if l.fact.id == id then Some l.label else found) (label_beside-labelled ls id) ∙ one-label (l.fact.id == id) l (find (λ l. l.fact.id == id) ls)

one-id : (b : Bool) (l : Labelled) (ls : List Labelled) → (if b then l.fact.id ∷ map (λ l. l.fact.id) ls else map (λ l. l.fact.id) ls) ≡ map (λ l. l.fact.id) (if b then l ∷ ls else ls)
one-id true l ls = refl
one-id false l ls = refl

ids_beside-labelled : (ls : List Labelled) (wanted : ℕ) → ids_beside (facts_of ls) (map (λ l. l.label) ls) wanted ≡ ids_labelled ls wanted
ids_beside-labelled [] wanted = refl
ids_beside-labelled (l ∷ ls) wanted =
    ap (λ ids. if l.label == wanted then l.fact.id ∷ ids else ids) (ids_beside-labelled ls wanted) ∙ one-id (l.label == wanted) l (filter (λ l. l.label == wanted) ls)

-- the component of an id, with the labels beside the facts
by-label : (ls : List Labelled) (found : Option Labelled) → option_map_or (ids_beside (facts_of ls) (map (λ l. l.label) ls)) (option_map (λ l. l.label) found) [] ≡ option_map_or (λ own. ids_labelled ls own.label) found []
by-label ls None = refl
by-label ls (Some own) = ids_beside-labelled ls own.label

module _ (dims : List Dimension) (facts : List Fact) (ascends : IsAscending facts) where
  same : facts_of (labelled dims facts) ≡ facts
  same = (labelled-facts dims facts (ascends-from_pairs (λ f. f.id) 0 facts ascends (λ i d within. omega arith))).same

  pub labels-long : length (labels dims facts) ≡ length facts
  labels-long = length-map (labelled dims facts) (λ (l : Labelled). l.label) ∙ sym (length-map (labelled dims facts) (λ (l : Labelled). l.fact)) ∙ ap (λ (fs : List Fact). length fs) same

  pub component_of-beside : (id : ℕ) → option_map_or (ids_beside facts (labels dims facts)) (label_beside facts (labels dims facts) id) [] ≡ component_of dims facts id
  component_of-beside id =
      let ls = labelled dims facts in
      ap (λ (fs : List Fact). option_map_or (ids_beside fs (labels dims facts)) (label_beside fs (labels dims facts) id) []) (sym same)
      ∙ ap (λ found. option_map_or (ids_beside (facts_of ls) (labels dims facts)) found []) (label_beside-labelled ls id)
      ∙ by-label ls (find (λ l. l.fact.id == id) ls)

  pub component-found : (id label : ℕ) (seen again ids : List ℕ) → seen ≡ labels dims facts → again ≡ labels dims facts → label_beside facts seen id ≡ Some label → ids ≡ ids_beside facts again label → ids ≡ component_of dims facts id
  component-found id label seen again ids is too found gathered =
      gathered ∙ ap (λ ls. ids_beside facts ls label) too
      ∙ sym (ap (λ own. option_map_or (ids_beside facts (labels dims facts)) own []) (ap (λ ls. label_beside facts ls id) (sym is) ∙ found)) ∙ component_of-beside id

  pub component-none : (id : ℕ) (seen ids : List ℕ) → seen ≡ labels dims facts → label_beside facts seen id ≡ None → ids ≡ [] → ids ≡ component_of dims facts id
  component-none id seen ids is none empty =
      empty ∙ sym (ap (λ own. option_map_or (ids_beside facts (labels dims facts)) own []) (ap (λ ls. label_beside facts ls id) (sym is) ∙ none)) ∙ component_of-beside id

-- what is left of the facts has the rest of the labels, and says what all say
pub record Looking (facts : List Fact) (labels : List ℕ) (id : ℕ) (left : List Fact) (i : ℕ) : Type 0 where
  pub long : length left + i ≡ length labels
  pub all : label_beside left (drop i labels) id ≡ label_beside facts labels id

-- what is gathered and what is left are all
pub record Gathering (facts : List Fact) (labels : List ℕ) (wanted : ℕ) (left : List Fact) (i : ℕ) (ids : List ℕ) : Type 0 where
  pub long : length left + i ≡ length labels
  pub all : ids ++ ids_beside left (drop i labels) wanted ≡ ids_beside facts labels wanted

module _ (facts : List Fact) (labels : List ℕ) where
  module _ (left : List Fact) (f : Fact) (others : List Fact) (i : ℕ) (first : left ≡ f ∷ others) (long : length left + i ≡ length labels) where
    pub beside-within : i < length labels
    beside-within = omega (arith, long, ap (λ (fs : List Fact). length fs) first)

    fewer : length others + (i + 1) ≡ length labels
    fewer = omega (arith, long, ap (λ (fs : List Fact). length fs) first)

    cut : (label : ℕ) → label ≡ get_or labels i label → drop i labels ≡ label ∷ drop (i + 1) labels
    cut label is = drop_more labels i label beside-within ∙ ap (λ n. n ∷ drop (i + 1) labels) (sym is)

    module _ (id : ℕ) (looking : Looking facts labels id left i) where
      here : (label : ℕ) → label ≡ get_or labels i label → (if f.id == id then Some label else label_beside others (drop (i + 1) labels) id) ≡ label_beside facts labels id
      here label is = sym (ap (λ (fs : List Fact). label_beside fs (drop i labels) id) first ∙ ap (λ ls. label_beside (f ∷ others) ls id) (cut label is)) ∙ looking.all

      pub looking-found : (label : ℕ) → label ≡ get_or labels i label → (f.id == id) ≡ true → Some label ≡ label_beside facts labels id
      looking-found label is equal = sym (ap (λ b. if b then Some label else label_beside others (drop (i + 1) labels) id) equal) ∙ here label is

      pub looking-next : (f.id == id) ≡ false → Looking facts labels id others (i + 1)
      looking-next other =
          let label = get_or labels i 0 in
          let is : label ≡ get_or labels i label = get_or_default labels i 0 label beside-within in
          record { long = fewer; all = sym (ap (λ b. if b then Some label else label_beside others (drop (i + 1) labels) id) other) ∙ here label is }

    module _ (wanted : ℕ) (ids : List ℕ) (gathering : Gathering facts labels wanted left i ids) (label : ℕ) (is : label ≡ get_or labels i label) where
      abbrev rest : List ℕ
      rest = ids_beside others (drop (i + 1) labels) wanted

      whole : ids ++ (if label == wanted then f.id ∷ rest else rest) ≡ ids_beside facts labels wanted
      whole =
          ap (λ l. ids ++ l) (sym (ap (λ (fs : List Fact). ids_beside fs (drop i labels) wanted) first ∙ ap (λ ls. ids_beside (f ∷ others) ls wanted) (cut label is))) ∙ gathering.all

      pub gathering-more : (label == wanted) ≡ true → Gathering facts labels wanted others (i + 1) (ids ++ f.id ∷ [])
      gathering-more equal = record {
        long = fewer;
        all = append_assoc ids (f.id ∷ []) rest ∙ sym (ap (λ b. ids ++ (if b then f.id ∷ rest else rest)) equal) ∙ whole;
      }

      pub gathering-less : (label == wanted) ≡ false → Gathering facts labels wanted others (i + 1) ids
      gathering-less other = record { long = fewer; all = sym (ap (λ b. ids ++ (if b then f.id ∷ rest else rest)) other) ∙ whole }

  pub looking-start : (id : ℕ) → length labels ≡ length facts → Looking facts labels id facts 0
  looking-start id as_many = record { long = omega (arith, as_many); all = refl }

  pub gathering-start : (wanted : ℕ) → length labels ≡ length facts → Gathering facts labels wanted facts 0 []
  gathering-start wanted as_many = record { long = omega (arith, as_many); all = refl }

  pub gathering-end : (wanted : ℕ) (left : List Fact) (i : ℕ) (ids : List ℕ) → left ≡ [] → Gathering facts labels wanted left i ids → ids ≡ ids_beside facts labels wanted
  gathering-end wanted left i ids none gathering =
      sym (append-nil ids) ∙ ap (λ (fs : List Fact). ids ++ ids_beside fs (drop i labels) wanted) (sym none) ∙ gathering.all

  pub looking-end : (id : ℕ) (left : List Fact) (i : ℕ) → left ≡ [] → Looking facts labels id left i → None ≡ label_beside facts labels id
  looking-end id left i none looking = ap (λ (fs : List Fact). label_beside fs (drop i labels) id) (sym none) ∙ looking.all

-- Components of facts: all that a chain of facts that touch reaches; and the labels that tell them, which are found by taking one
-- fact after another.
use Rattle.cube_model.specs.declared.edit.Fact.{Fact}
use Rattle.cube_model.specs.Tree.{Dimension}
use Rattle.iter_alloc.specs.Touching.{touch}
use Rattle.std.specs.List.{fold, Contains, find, list_any}
use Rattle.std.specs.Option.{option_map_or}
use Rattle.std.specs.Prelude.{◌&&◌, ◌==◌, if◌then◌else◌, ◌≡◌, ℕ, ◌≤◌, Bool, true, List, [], ◌∷◌, ◌++◌, filter, map, min}

-- a way from one fact to another through facts of the list, each of which touches the next
pub data Chain (dims : List Dimension) (facts : List Fact) : Fact → Fact → Type 0 where
  here : (f : Fact) → Chain dims facts f f
  next : (f g h : Fact) → touch dims f g ≡ true → Contains facts g → Chain dims facts g h → Chain dims facts f h

-- a fact with a label
pub record Labelled : Type 0 where
  pub fact : Fact
  pub label : ℕ

-- a fact touches one that has the label
abbrev pub is_touched : List Dimension → Fact → List Labelled → ℕ → Bool
is_touched dims f earlier label = list_any (λ l. touch dims f l.fact && l.label == label) earlier

-- the least of a fact's id and of the labels that it touches
abbrev pub least_label : List Dimension → Fact → List Labelled → ℕ
least_label dims f [] = f.id
least_label dims f (l ∷ earlier) = if touch dims f l.fact then min l.label (least_label dims f earlier) else least_label dims f earlier

-- One fact more joins the components that it touches to one. The least of their labels and of the fact's id is the label of all.
abbrev pub relabel : List Dimension → Fact → List Labelled → Labelled → Labelled
relabel dims f earlier l = record { fact = l.fact; label = if is_touched dims f earlier l.label then least_label dims f earlier else l.label }

abbrev pub joined_labels : List Dimension → List Labelled → Fact → List Labelled
joined_labels dims earlier f = map (relabel dims f earlier) earlier ++ record { fact = f; label = least_label dims f earlier } ∷ []

-- facts with the labels of their components
unfoldable pub labelled : List Dimension → List Fact → List Labelled
labelled dims facts = fold (joined_labels dims) [] facts

abbrev pub labels : List Dimension → List Fact → List ℕ
labels dims facts = map (λ l. l.label) (labelled dims facts)

abbrev pub facts_of : List Labelled → List Fact
facts_of ls = map (λ l. l.fact) ls

-- the ids of the facts that have a label
abbrev pub ids_labelled : List Labelled → ℕ → List ℕ
ids_labelled ls label = map (λ l. l.fact.id) (filter (λ l. l.label == label) ls)

-- those of the component in which the fact of an id is; none where there is no such fact
abbrev pub component_of : List Dimension → List Fact → ℕ → List ℕ
component_of dims facts id = option_map_or (λ own. ids_labelled (labelled dims facts) own.label) (find (λ l. l.fact.id == id) (labelled dims facts)) []

-- a chain goes from a fact to the one whose id the label is
pub record IsReached (dims : List Dimension) (ls : List Labelled) (f : Fact) (label : ℕ) : Type 0 where
  pub root : Labelled
  pub among : Contains ls root
  pub names : root.fact.id ≡ label
  pub way : Chain dims (facts_of ls) f root.fact

-- Labels that tell the components: facts have ids of their own, those that touch have one label, and a label is the id of a fact
-- that a chain reaches, and no greater than the fact's own.
pub record AreComponents (dims : List Dimension) (ls : List Labelled) : Type 0 where
  pub told : (x y : Labelled) → Contains ls x → Contains ls y → x.fact.id ≡ y.fact.id → x ≡ y
  pub touching : (x y : Labelled) → Contains ls x → Contains ls y → touch dims x.fact y.fact ≡ true → x.label ≡ y.label
  pub reached : (x : Labelled) → Contains ls x → IsReached dims ls x.fact x.label
  pub low : (x : Labelled) → Contains ls x → x.label ≤ x.fact.id

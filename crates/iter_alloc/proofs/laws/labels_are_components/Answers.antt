use Rattle.iter_alloc.proofs.laws.labels_are_components.Goals as goal
use Rattle.cube_model.specs.declared.edit.Fact.{Fact}
use Rattle.cube_model.specs.Tree.{Dimension}
use Rattle.fact_groups.proofs.Ascending.{ascends-from_pairs}
use Rattle.fact_records.specs.FactList.{IsAscending}
use Rattle.iter_alloc.proofs.Chains.{same-along, joined-by_label, least-reached, kept-by_labels, same-components}
use Rattle.iter_alloc.proofs.Joined.{AreLabelled, labelled-facts}
use Rattle.iter_alloc.specs.Components.{Chain, Labelled, labelled, facts_of, AreComponents}
use Rattle.std.proofs.Common.{◌≡◌, ◌≤◌, List, refl, sym, ◌∙◌, subst, arith}
use Rattle.std.specs.List.{Contains}

module _ (dims : List Dimension) (facts : List Fact) (ascends : IsAscending facts) where
  are : AreLabelled dims (labelled dims facts) facts
  are = labelled-facts dims facts (ascends-from_pairs (λ f. f.id) 0 facts ascends (λ i d within. omega arith))

  along : {f h : Fact} → Chain dims facts f h → Chain dims (facts_of (labelled dims facts)) f h
  along {f = f} {h = h} chain = subst (λ (fs : List Fact). Chain dims fs f h) (sym are.same) chain

  chained : (x y : Labelled) → Contains (labelled dims facts) x → Contains (labelled dims facts) y → x.label ≡ y.label → Chain dims facts x.fact y.fact
  chained x y in_x in_y same = subst (λ (fs : List Fact). Chain dims fs x.fact y.fact) are.same (joined-by_label dims (labelled dims facts) are.components x y in_x in_y same)

  equal-labels : (x y : Labelled) → Contains (labelled dims facts) x → Contains (labelled dims facts) y → Chain dims facts x.fact y.fact → x.label ≡ y.label
  equal-labels x y in_x in_y chain = same-along dims (labelled dims facts) are.components (along chain) x y in_x in_y refl refl

  least : (x y : Labelled) → Contains (labelled dims facts) x → Contains (labelled dims facts) y → Chain dims facts x.fact y.fact → x.label ≤ y.fact.id
  least x y in_x in_y chain = least-reached dims (labelled dims facts) are.components x y in_x in_y (along chain)

  alone : (ls : List Labelled) → AreComponents dims ls → facts_of ls ≡ facts → ls ≡ labelled dims facts
  alone ls of_ls is = same-components dims ls (labelled dims facts) of_ls are.components (is ∙ sym are.same)

pub returns : goal.returns
returns c = record {
  facts = λ dims facts ascends. (are dims facts ascends).same;
  components = λ dims facts ascends. (are dims facts ascends).components;
  chained = chained;
  equal = equal-labels;
  least = least;
  alone = alone;
  closed = kept-by_labels;
}

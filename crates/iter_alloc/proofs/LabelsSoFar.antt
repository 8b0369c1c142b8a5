-- Facts are labelled one after another.
use Rattle.cube_model.specs.declared.edit.Fact.{Fact}
use Rattle.iter_alloc.specs.declared.spots.First.{First}
use Rattle.iter_alloc.specs.Spotting.{label_in, labels_by}
use Rattle.std.proofs.Common.{◌≡◌, ℕ, ◌+◌, ◌<◌, List, [], ◌∷◌, ◌++◌, get_or, drop, length, refl, ap, sym, ◌∙◌, arith}
use Rattle.std.proofs.lemmas.List.{append-nil, append_assoc, drop_more}
use Rattle.std.specs.Prelude.{Option}

-- what is labelled, and what is left to label, are all
pub record Labelling (firsts : List First) (roots : List ℕ) (facts : List Fact) (spots : List (Option ℕ)) (left : List Fact) (i : ℕ) (labels : List ℕ) : Type 0 where
  pub all : labels ++ labels_by firsts roots left (drop i spots) ≡ labels_by firsts roots facts spots
  pub long : length left + i ≡ length spots

module _ (firsts : List First) (roots : List ℕ) (facts : List Fact) (spots : List (Option ℕ)) where
  pub labelling-start : length spots ≡ length facts → Labelling firsts roots facts spots facts 0 []
  labelling-start as_many = record { all = refl; long = omega (arith, as_many) }

  module _ (left : List Fact) (f : Fact) (others : List Fact) (i : ℕ) (labels : List ℕ) (first : left ≡ f ∷ others) (labelling : Labelling firsts roots facts spots left i labels) where
    pub labelling-within : i < length spots
    labelling-within = omega (arith, labelling.long, ap (λ (fs : List Fact). length fs) first)

    pub labelling-next : (spot : Option ℕ) (label : ℕ) → spot ≡ get_or spots i spot → label ≡ label_in firsts roots f spot → Labelling firsts roots facts spots others (i + 1) (labels ++ label ∷ [])
    labelling-next spot label is_spot is = record {
      all =
          append_assoc labels (label ∷ []) (labels_by firsts roots others (drop (i + 1) spots))
          ∙ ap (λ n. labels ++ n ∷ labels_by firsts roots others (drop (i + 1) spots)) is
          ∙ ap (λ (ss : List (Option ℕ)). labels ++ labels_by firsts roots (f ∷ others) ss) (ap (λ s. s ∷ drop (i + 1) spots) is_spot ∙ sym (drop_more spots i spot labelling-within))
          ∙ ap (λ (fs : List Fact). labels ++ labels_by firsts roots fs (drop i spots)) (sym first)
          ∙ labelling.all;
      long = omega (arith, labelling.long, ap (λ (fs : List Fact). length fs) first);
    }

  pub labelling-end : (left : List Fact) (i : ℕ) (labels : List ℕ) → left ≡ [] → Labelling firsts roots facts spots left i labels → labels ≡ labels_by firsts roots facts spots
  labelling-end left i labels none labelling =
      sym (append-nil labels) ∙ ap (λ (fs : List Fact). labels ++ labels_by firsts roots fs (drop i spots)) (sym none) ∙ labelling.all

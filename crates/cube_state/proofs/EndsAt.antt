-- The ends of the facts at a code, by its group.
use Rattle.std.proofs.Common.{◌≡◌, ℕ, ◌*◌, ◌≤◌, true, false, List, length, ap, sym, ◌∙◌, subst, arith, ℤ, pos, Some}
use Rattle.std.specs.Prelude.{All, filter, nat_abs, slice_index_or, ◌∷◌}
use Rattle.std.proofs.lemmas.List.Elements.{All-filter, All-weaker}
use Rattle.std.proofs.lemmas.List.FromFn.{length-map-range_with_len}
use Rattle.std.proofs.lemmas.List.Sums.{count_by-le-length, length-filter}
use Rattle.cube_model.specs.declared.edit.Fact.{Fact}
use Rattle.cube_model.specs.declared.statistic.CellStat.{CellStat}
use Rattle.cube_model.specs.Answer.{total_by}
use Rattle.cube_model.specs.Limits.{MAX_FACTS, MAX_VALUE}
use Rattle.cube_model.specs.Tree.{IsTree}
use Rattle.cube_model.proofs.Totals.{total_by-nothing}
use Rattle.region_algebra.specs.Space.{IsRegion}
use Rattle.region_index.specs.Indexed.{is_indexed_at}
use Rattle.alloc_rows.specs.Alloc.{IsAllocation}
use Rattle.fact_groups.specs.Groups.{Group, facts_with, group_at, has_code}
use Rattle.fact_records.specs.Shape.{IsShape, ShapeValue, width_of_all}
use Rattle.fact_records.specs.Valid.{AreValid, IsValid}
use Rattle.fact_records.proofs.SmallValues.{small-accepted}
use Rattle.fact_indexes.proofs.ValidFacts.{valid-regions}
use Rattle.world_range.specs.declared.extreme.Extreme.{Extreme}
use Rattle.world_range.specs.declared.extreme.Extreme.TheVariants.{Greatest, Least}
use Rattle.world_range.specs.declared.sides.Sides.{Sides}
use Rattle.world_range.specs.Sides.{sides_of}
use Rattle.cube_state.specs.declared.ranging.Ends.{Ends}
use Rattle.cube_state.specs.Ranging.{AreEndsAt, end_at, id_part}
use Rattle.cube_state.specs.State.{StateValue, ids_with, policy_in}
use Rattle.cube_state.proofs.EitherEnds.{either-ids}
use Rattle.cube_state.proofs.GroupEnds.{AreSpread, column-told, count-told, either_end, end-either, end-inside, end-outside, end-small, indexed-all, spread-all, sums-told, total-ones}
use Rattle.cube_state.proofs.Looking.{find-itself}

module _ {P : Type 0} (weigh : P → CellStat → ℕ) (state : StateValue P) (valid : AreValid state.shape state.dims state.facts) (trees : All IsTree state.dims) (shape : ShapeValue) (shown : shape ≡ state.shape) (is : IsShape shape)
    (code : ℕ) (g : Group) (there : group_at (policy_in weigh state) (width_of_all state.shape.measures) state.dims state.facts code ≡ Some g) (column : ℕ) where
  abbrev here : List Fact
  here = facts_with state.dims code state.facts

  -- the group has as many sums as there are columns
  pub wide-sums : column ≤ width_of_all state.shape.measures → column ≤ length g.sums
  wide-sums within =
      let sums = sums-told (policy_in weigh state) (width_of_all state.shape.measures) state.dims state.facts code g there in
      omega (arith, within, ap length sums, length-map-range_with_len (λ k. total_by (λ (f : Fact). slice_index_or f.cols k (pos 0)) here) 0 (width_of_all state.shape.measures))

  regions : All (λ f. IsRegion state.dims f.region) state.facts
  regions = valid-regions state.shape state.dims state.facts valid

  small-here : All (λ f. All (λ value. nat_abs value ≤ MAX_VALUE) f.cols) here
  small-here =
      let measured : IsShape state.shape = subst IsShape shown is in
      All-filter (has_code state.dims code) (λ (f : Fact). All (λ value. nat_abs value ≤ MAX_VALUE) f.cols) state.facts
      (All-weaker (IsValid state.shape state.dims) (λ (f : Fact). All (λ value. nat_abs value ≤ MAX_VALUE) f.cols) (λ f one. small-accepted state.shape f.cols one.accepted.values measured.measures) state.facts valid.each)

  few-here : length here ≤ MAX_FACTS
  few-here = omega (arith, valid.few, length-filter (has_code state.dims code) state.facts, count_by-le-length (has_code state.dims code) state.facts)

  -- an end is small
  module _ (cells : List ℕ) where
    small-end : (extreme : Extreme) (sum : ℤ) → sum ≡ end_at weigh extreme cells column state code → nat_abs sum ≤ MAX_FACTS * MAX_VALUE
    small-end extreme sum told = subst (λ z. nat_abs z ≤ MAX_FACTS * MAX_VALUE) (sym told) (end-small (policy_in weigh state) state.dims state.facts extreme cells column here small-here few-here)

    ended : (ends : Ends) → ends.least ≡ end_at weigh Least cells column state code → ends.greatest ≡ end_at weigh Greatest cells column state code → AreEndsAt weigh cells column state code ends
    ended ends least greatest = record {
      least = least;
      greatest = greatest;
      small = record { least = small-end Least ends.least least; greatest = small-end Greatest ends.greatest greatest };
    }

    module _ (allocated : IsAllocation g.spread) (rows : List (ℕ × ℕ)) (listed : rows ≡ g.spread.rows) (sides : Sides) (told : sides ≡ sides_of cells rows) where
      alike : AreSpread (policy_in weigh state) state.dims state.facts g.spread here
      alike = spread-all (policy_in weigh state) (width_of_all state.shape.measures) state.dims state.facts code g there trees regions

      sided : sides ≡ sides_of cells g.spread.rows
      sided = told ∙ ap (sides_of cells) listed

      -- no row is inside
      pub ends-outside : sides.inside ≡ false → AreEndsAt weigh cells column state code (record { least = pos 0; greatest = pos 0 })
      ends-outside none =
          ended _ (end-outside (policy_in weigh state) state.dims state.facts Least cells column g.spread allocated sides sided here alike none)
          (end-outside (policy_in weigh state) state.dims state.facts Greatest cells column g.spread allocated sides sided here alike none)

      -- all are
      pub ends-inside : sides.inside ≡ true → sides.outside ≡ false → column ≤ width_of_all state.shape.measures → (sum : ℤ) → sum ≡ slice_index_or (pos g.count ∷ g.sums) column (pos 0)
          → AreEndsAt weigh cells column state code (record { least = sum; greatest = sum })
      ends-inside inside none within sum adds =
          let all = adds ∙ column-told (policy_in weigh state) (width_of_all state.shape.measures) state.dims state.facts code g there column within in
          ended _ (all ∙ end-inside (policy_in weigh state) state.dims state.facts Least cells column g.spread allocated sides sided here alike inside none)
          (all ∙ end-inside (policy_in weigh state) state.dims state.facts Greatest cells column g.spread allocated sides sided here alike inside none)

      module _ (inside : sides.inside ≡ true) (outside : sides.outside ≡ true) where
        either : (extreme : Extreme) → either_end extreme column here ≡ end_at weigh extreme cells column state code
        either extreme = end-either (policy_in weigh state) state.dims state.facts extreme cells column g.spread allocated sides sided here alike inside outside

        -- some are, and facts are counted
        pub ends-counted : column ≡ 0 → (count : ℤ) → count ≡ pos g.count → AreEndsAt weigh cells column state code (record { least = pos 0; greatest = count })
        ends-counted first count counted =
            ended _ (sym (total_by-nothing here) ∙ sym (ap (λ k. either_end Least k here) first) ∙ either Least)
            (counted ∙ ap pos (count-told (policy_in weigh state) (width_of_all state.shape.measures) state.dims state.facts code g there) ∙ total-ones here ∙ sym (ap (λ k. either_end Greatest k here) first) ∙ either Greatest)

        -- some are, and the values of the facts are looked at
        pub ends-either : (facts : List Fact) → facts ≡ state.facts → (ids : List ℕ) → ids ≡ ids_with state.dims state.facts code
            → (ends : Ends) → ends.least ≡ total_by (id_part Least column facts) ids → ends.greatest ≡ total_by (id_part Greatest column facts) ids → AreEndsAt weigh cells column state code ends
        ends-either facts are ids listed_ids ends least greatest = ended ends (least ∙ of_ids Least) (greatest ∙ of_ids Greatest)
          where
            all : filter (is_indexed_at state.dims code) state.facts ≡ here
            all =
                indexed-all (policy_in weigh state) (width_of_all state.shape.measures) state.dims state.facts code g there trees regions cells
                (ap (λ (s : Sides). s.inside) (sym sided) ∙ inside) (ap (λ (s : Sides). s.outside) (sym sided) ∙ outside)

            of_ids : (extreme : Extreme) → total_by (id_part extreme column facts) ids ≡ end_at weigh extreme cells column state code
            of_ids extreme =
                ap (λ fs. total_by (id_part extreme column fs) ids) are ∙ ap (total_by (id_part extreme column state.facts)) listed_ids
                ∙ either-ids extreme column state.facts (find-itself state.facts valid.ascending) (is_indexed_at state.dims code)
                ∙ ap (either_end extreme column) all ∙ either extreme

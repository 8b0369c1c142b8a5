-- What is read of facts in the column of their ids, and found there.
use Rattle.std.proofs.Common.{◌≡◌, ℕ, List, length, map, get_or, Result, Ok, Err, sym, ap, ◌∙◌, arith}
use Rattle.std.specs.List.Sorted.{IsSearchInRange, IsBinarySearchResult}
use Rattle.std.specs.Ordering.{nat_cmp}
use Rattle.std.proofs.lemmas.List.{length-map}
use Rattle.cube_base.proofs.Search.{Searched, searched}
use Rattle.cube_model.specs.declared.edit.Fact.{Fact}
use Rattle.fact_records.specs.Cut.{no_fact, id_at}
use Rattle.fact_records.specs.FactList.{IsAscending}
use Rattle.fact_records.proofs.Ascending.{id_at-rises}
use Rattle.fact_records.proofs.FactColumns.{get_or-ids}

module _ (facts : List Fact) (ids : List ℕ) (same : ids ≡ map (λ f. f.id) facts) where
  -- an id is that of the fact at its place
  pub id-read : (k : ℕ) → get_or ids k 0 ≡ id_at facts k
  id-read k = ap (λ l. get_or l k 0) same ∙ get_or-ids facts k

  pub length-ids : length ids ≡ length facts
  length-ids = ap length same ∙ length-map facts (λ f. f.id)

  of_facts : (id : ℕ) (r : Result ℕ ℕ) → Searched (λ x. x) 0 ids id r → Searched (λ f. f.id) no_fact facts id r
  of_facts id (Ok at) s = record {
    found = record { in_range = omega (arith, s.found.in_range, length-ids); has_key = sym (id-read at) ∙ s.found.has_key };
    absent = tt;
  }
  of_facts id (Err at) s = record {
    found = tt;
    absent = record {
      in_range = omega (arith, s.absent.in_range, length-ids);
      smaller_before = λ i lt. omega (arith, id-read i, s.absent.smaller_before i lt);
      greater_after = λ i le lt. omega (arith, id-read i, s.absent.greater_after i le (omega (arith, length-ids)));
    };
  }

  -- a binary search among the ids ends at the fact of an id, or at the gap for it
  pub searched-ids : IsAscending facts → (id : ℕ) (r : Result ℕ ℕ) → IsSearchInRange r (length ids) → IsBinarySearchResult (λ x. nat_cmp x id) ids r → Searched (λ f. f.id) no_fact facts id r
  searched-ids up id r bound parted =
      of_facts id r (searched (λ x. x) 0 ids (λ i j lt within. omega (arith, id-read i, id-read j, id_at-rises facts up i j lt (omega (arith, length-ids)))) id r bound parted)

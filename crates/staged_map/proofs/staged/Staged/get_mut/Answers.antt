-- What is written through the value's place is the key's value.
use Rattle.std.proofs.Common.{◌≡◌, ℕ, cond, eqb, Option, None, Some, refl, sym, ap, subst, ◌∙◌}
use Rattle.std.specs.Cmp.{nat_eq_equiv}
use Rattle.std.specs.List.{slice_get}
use Rattle.std.specs.Map.{values_of}
use Rattle.std.specs.Option.{OnSome, option_copied_mut, option_flatten}
use Rattle.indexmap.proofs.CallerLemmas.{keys-with_value_at, updates-with_value_at}
use Rattle.indexmap.specs.IndexMap.{set_value_at}
use Rattle.staged_map.specs.Hints.{AreNoted}
use Rattle.staged_map.specs.Staged.{Places, Sets, key_of_place, key_place, value_at}
use Rattle.staged_map.proofs.Changes.{Sets-at, Stays-written}
use Rattle.staged_map.proofs.Noting.{AreNoted-keys}
use Rattle.staged_map.proofs.Places.{found-key, key_place-at, slice-place}
use Rattle.staged_map.proofs.staged.Staged.get_mut.Goals as goal

OnSome-any : {A P : Type 0} (r : Option A) → P → OnSome r P
OnSome-any None holds = tt
OnSome-any (Some x) holds = holds

pub invariant_of-self-lent : goal.invariant_of-self-lent
invariant_of-self-lent g c = λ r. ((λ w. noted (Some w)), noted c.in_ok-self-inside.field-0.now)
  where
    noted : (value : Option g.row.V.Denot) → AreNoted c.self.inside.hints (set_value_at c.self.inside.places.entries c.in_ok-i.i value)
    noted value = AreNoted-keys c.self.inside.hints c.self.inside.places.entries _ (keys-with_value_at c.self.inside.places c.in_ok-i.i value) c.self.invariant

pub returns : goal.returns
returns g c = ((refl, (λ w. OnSome-any c.as_mut.result (subst (λ k. Sets old (after (Some w)) k w) key-is (sets w))), stays), record { lends = tt; value = same })
  where
    key : ℕ
    key = c.args.key

    i : ℕ
    i = c.in_ok-i.i

    value : Option g.row.V.Denot
    value = c.in_ok-self-inside.field-0.now

    old : Places g.row.V.Denot
    old = c.args.self.now

    inside : Places g.row.V.Denot
    inside = c.self.inside.places.entries

    inside-is : inside ≡ old
    inside-is = c.self.view_is ∙ c.in_ok-i.ensures.same

    held : slice_get (values_of inside) i ≡ Some value
    held = sym c.in_ok-self-inside.ensures.value

    there : key_place inside (key_of_place inside i) ≡ Some value
    there = key_place-at inside i value c.in_ok-self-inside.ensures.unique held

    after : Option g.row.V.Denot → Places g.row.V.Denot
    after w = set_value_at inside i w

    updates : (w : Option g.row.V.Denot) (k : ℕ) → key_place (after w) k ≡ cond (eqb (key_of_place inside i) k) (Some w) (key_place inside k)
    updates w = (updates-with_value_at c.self.inside.places i w nat_eq_equiv c.in_ok-self-inside.ensures.unique (key_of_place inside i) value (slice-place inside i value held)).0

    key-is : key_of_place old i ≡ key
    key-is = found-key old key i (sym c.in_ok-i.ensures.found) c.in_ok-i.ensures.place

    sets : (w : g.row.V.Denot) → Sets old (after (Some w)) (key_of_place old i) w
    sets w = Sets-at old inside (after (Some w)) i value (Some w) w inside-is refl there (updates (Some w))

    stays : (k : ℕ) → key_place (after value) k ≡ key_place old k
    stays k = Stays-written inside (after value) (key_of_place inside i) value there (updates value) k ∙ ap (λ places. key_place places k) inside-is

    here : key_place old key ≡ Some value
    here = ap (key_place old) (sym key-is) ∙ subst (λ places. key_place places (key_of_place places i) ≡ Some value) inside-is there

    same : option_copied_mut c.as_mut.result ≡ value_at old key
    same = c.as_mut.ensures.value ∙ sym (ap option_flatten here)

-- How many reads gave no byte, turn by turn of a run: at most one, and none of an input that had ended.
use Rattle.std.proofs.Common.{◌≡◌, ℕ, Bool, true, false, refl, ap, ◌∙◌, subst, inl, inr}
use Rattle.std.specs.Prelude.{not, ◌&&◌}
use Rattle.text_lines.specs.Input.{EndsOnce, ends_if}
use Rattle.script_run.specs.Stream.{EndsFrom}

-- nothing was read yet
pub ends-begun : (first : Bool) (ends : ℕ) → ends ≡ ends_if (not first && first) ends
ends-begun true ends = refl
ends-begun false ends = refl

-- a piece was taken of an input that had not ended
pub ends-turn : (first was is : Bool) (start here later : ℕ) → was ≡ false → (first ≡ true → was ≡ true) → here ≡ ends_if (not first && was) start → later ≡ ends_if is here
    → later ≡ ends_if (not first && is) start
ends-turn true was is start here later more stays here_is later_is = absurd (cc (more, stays refl))
ends-turn false true is start here later more stays here_is later_is = absurd (cc)
ends-turn false false is start here later more stays here_is later_is = later_is ∙ ap (ends_if is) here_is

-- no piece was taken of one
pub ends-stopped : (first was : Bool) (start here later : ℕ) → was ≡ false → (first ≡ true → was ≡ true) → here ≡ ends_if (not first && was) start → EndsOnce here later → EndsFrom first start later
ends-stopped true was start here later more stays here_is once = absurd (cc (more, stays refl))
ends-stopped false true start here later more stays here_is once = absurd (cc)
ends-stopped false false start here later more stays here_is once = subst (λ n. EndsOnce n later) here_is once

-- nothing more is read
pub ends-over : (first is : Bool) (start here : ℕ) → here ≡ ends_if (not first && is) start → EndsFrom first start here
ends-over true is start here here_is = here_is
ends-over false true start here here_is = inr here_is
ends-over false false start here here_is = inl here_is

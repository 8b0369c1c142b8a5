-- Where the replies of a text end.
use Rattle.std.specs.Prelude.{◌≡◌, ℕ, ◌+◌, ◌-◌, List, [], ◌∷◌, length, take, drop, count_by, nat_le}
use Rattle.std.specs.List.{concat}

-- the end of each of these replies, which follow one another after so many bytes
abbrev pub reply_ends_from : ℕ → List (List ℕ) → List ℕ
reply_ends_from start [] = []
reply_ends_from start (text ∷ texts) = (start + length text) ∷ reply_ends_from (start + length text) texts

-- how many replies end within so many bytes
abbrev pub whole_within : ℕ → List ℕ → ℕ
whole_within bytes ends = count_by (λ end. nat_le end bytes) ends

-- the replies into which ends cut a text that begins after so many bytes
abbrev pub cut_at_ends : ℕ → List ℕ → List ℕ → List (List ℕ)
cut_at_ends start [] text = []
cut_at_ends start (end ∷ ends) text = take (end - start) text ∷ cut_at_ends end ends (drop (end - start) text)

-- the replies of a text, which they make up, and their ends
pub record IsCutAtEnds (ends text : List ℕ) : Type 0 where
  pub text_is : text ≡ concat (cut_at_ends 0 ends text)
  pub ends_are : ends ≡ reply_ends_from 0 (cut_at_ends 0 ends text)

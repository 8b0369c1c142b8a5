-- What is read of the term at a place.
use Rattle.std.proofs.Common.{◌≡◌, ℕ, ◌+◌, ◌<◌, List, length, sym, ap, ◌∙◌, arith, Some}
use Rattle.std.specs.Prelude.{slice_get}
use Rattle.std.specs.Option.{option_map}
use Rattle.std.proofs.lemmas.Bool.Decides.{nat_tests}
use Rattle.std.proofs.lemmas.Option.{slice_get-get_or}
use Rattle.cube_model.specs.declared.term.Term.{Term}
use Rattle.group_sum.specs.Place.{no_term, term_at}
use Rattle.group_sum.specs.Terms.{AreTerms, TermList}
use Rattle.group_sum.proofs.Ascending.{is_term_at}
use Rattle.script_text.specs.ReplySteps.{numerators_of}

pub term_at-read : {A : Type 0} (part : Term → A) (terms : List Term) (i : ℕ) (read : A) → i < length terms → option_map part (slice_get terms i) ≡ Some read → part (term_at terms i) ≡ read
term_at-read part terms i read within at =
    let found : Some (part (term_at terms i)) ≡ Some read = sym (ap (option_map part) (slice_get-get_or terms i no_term within)) ∙ at in
    cc

-- a term has a numerator for each column
pub length-numerators : (list : TermList) (i : ℕ) → AreTerms list → i < length list.terms → length (numerators_of (term_at list.terms i)) ≡ list.columns
length-numerators list i whole within =
    let term = is_term_at list.columns 1 list.terms whole.terms i within in
    let columns : length (term_at list.terms i).sums + 1 ≡ list.columns = grind (arith, nat_tests) in
    omega arith

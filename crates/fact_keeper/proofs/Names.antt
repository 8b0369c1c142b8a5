-- A keeper that tells a name after each load that is answered tells the one that was given.
use Rattle.std.proofs.Common.{◌≡◌, ℕ, List, Option, Some, refl, sym, subst}
use Rattle.std.specs.Prelude.{Result, Ok, Err, IfSome, OnOk}

pub told_name : {T E : Type 0} (r : Result T E) (told : Option (List ℕ)) (name : List ℕ) → OnOk r (told ≡ Some name) → OnOk r (IfSome told (λ opened. opened ≡ name))
told_name (Ok x) told name is = subst (λ t. IfSome t (λ opened. opened ≡ name)) (sym is) refl
told_name (Err e) told name is = tt

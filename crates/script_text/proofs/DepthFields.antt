-- Depths that fields say, one dimension after another.
use Rattle.std.proofs.Common.{◌≡◌, ℕ, suc, ◌+◌, ◌-◌, ◌<◌, ◌≤◌, true, false, List, [], ◌∷◌, ◌++◌, length, take, drop, set, refl, sym, ap, ◌∙◌, subst, arith, append_assoc, append-nil, Ok, Err, Some, None}
use Rattle.std.specs.Prelude.{All}
use Rattle.std.proofs.lemmas.List.{drop_more, length-set, length-take-le, take_more_set}
use Rattle.cube_base.specs.declared.code.Code.TheVariants as code
use Rattle.cube_model.specs.Limits.{MAX_DEPTH, MAX_DIMS}
use Rattle.cube_model.specs.Tree.{Dimension}
use Rattle.schema_text.specs.SchemaText.{depth_in, depths_in, has_wrong_depths}
use Rattle.schema_text.proofs.ViewsMore.{depths-shallow}
use Rattle.script_text.specs.ScriptLine.{depths_given}

-- the depths of the dimensions before this one are read, and the walk stands behind their fields
pub record HasDepths (dims : List Dimension) (fields : List (List ℕ)) (d : ℕ) (depths : List ℕ) (left : List (List ℕ)) : Type 0 where
  pub room : length depths ≡ MAX_DIMS
  pub behind : left ≡ drop d fields
  pub read : depths_in (take (length dims) fields) ≡ take d depths ++ depths_in (take (length dims - d) left)
  pub right : has_wrong_depths (take (length dims) fields) ≡ has_wrong_depths (take (length dims - d) left)

pub HasDepths-start : (dims : List Dimension) (fields : List (List ℕ)) (depths : List ℕ) → length depths ≡ MAX_DIMS → HasDepths dims fields 0 depths fields
HasDepths-start dims fields depths room =
    let all : length dims - 0 ≡ length dims = omega arith in
    record { room = room; behind = refl; read = rw all refl; right = rw all refl }

module _ (dims : List Dimension) (fields : List (List ℕ)) (d : ℕ) (depths : List ℕ) (left : List (List ℕ)) (before : HasDepths dims fields d depths left) where
  module _ (name : List ℕ) (more : List (List ℕ)) (cut : left ≡ name ∷ more) (within : d < length dims) where
    next : take (length dims - d) left ≡ name ∷ take (length dims - (d + 1)) more
    next =
        let fewer : length dims - d ≡ suc (length dims - (d + 1)) = omega arith in
        rw (fewer, cut) refl

    -- the next spells none
    pub HasDepths-none : depth_in name ≡ None → depths_given dims fields ≡ Err code.Number
    HasDepths-none none =
        let wrong : has_wrong_depths (take (length dims) fields) ≡ true = before.right ∙ ap has_wrong_depths next ∙ rw none refl in
        rw wrong refl

    -- it spells one, which is read too
    pub HasDepths-next : (depth : ℕ) → length dims ≤ MAX_DIMS → length dims ≤ length fields → depth_in name ≡ Some depth → HasDepths dims fields (d + 1) (set depths d depth) more
    HasDepths-next depth few enough said =
        let rest = take (length dims - (d + 1)) more in
        let here : drop d fields ≡ name ∷ more = sym before.behind ∙ cut in
        let after : drop d fields ≡ _ ∷ drop (d + 1) fields = drop_more fields d name (omega arith) in
        record {
          room = length-set depths d depth ∙ before.room;
          behind = cc;
          read = before.read ∙ ap (λ l. take d depths ++ depths_in l) next
              ∙ rw (said, take_more_set depths d depth (omega (arith, before.room))) (sym (append_assoc (take d depths) (depth ∷ []) (depths_in rest)));
          right = before.right ∙ ap has_wrong_depths next ∙ rw said refl;
        }

  module _ (end : d ≡ length dims) where
    none_left : take (length dims - d) left ≡ []
    none_left =
        let zero_left : length dims - d ≡ 0 = omega arith in
        rw zero_left refl

    all_right : has_wrong_depths (take (length dims) fields) ≡ false
    all_right = before.right ∙ ap has_wrong_depths none_left

    all_read : depths_in (take (length dims) fields) ≡ take d depths
    all_read = before.read ∙ ap (λ l. take d depths ++ depths_in l) none_left ∙ append-nil (take d depths)

    -- all are read
    pub HasDepths-all : depths_given dims fields ≡ Ok (take d depths)
    HasDepths-all = rw (all_right, all_read) refl

    pub HasDepths-each : length dims ≤ MAX_DIMS → length (take d depths) ≡ length dims
    HasDepths-each few = length-take-le d depths (omega (arith, before.room)) ∙ end

    pub HasDepths-shallow : All (λ depth. depth ≤ MAX_DEPTH) (take d depths)
    HasDepths-shallow = subst (All (λ depth. depth ≤ MAX_DEPTH)) all_read (depths-shallow (take (length dims) fields) all_right)

-- How judging the lines one after another finds the first fault.
use Rattle.std.proofs.Common.{◌≡◌, ℕ, ◌+◌, ◌<◌, Bool, true, List, [], ◌∷◌, ◌++◌, length, map, reverse, get_or, take, drop, Option, Some, None, string_bytes, String, ◌⊎◌, inl, inr, ◌||◌, if◌then◌else◌, refl, sym, ap, ◌∙◌, arith}
use Rattle.std.specs.List.{list_any, list_all}
use Rattle.std.specs.Option.{option_or}
use Rattle.std.specs.Str.{bytes_eq}
use Rattle.std.proofs.lemmas.Bool.Decides.{same_from_decides, Decides-like}
use Rattle.std.proofs.lemmas.Slice.Eq.{bytes_eq-Decides}
use Rattle.std.proofs.lemmas.List.Folds.{list_any-append}
use Rattle.std.proofs.lemmas.List.{get_or-map, take_more, drop_more, map_push, reverse-append}
use Rattle.std.proofs.lemmas.Grind.{common_steps}
use Rattle.cube_base.specs.Name.{is_name}
use Rattle.cube_model.specs.declared.tree.NodeLine.{NodeLine}
use Rattle.cube_model.specs.declared.tree.DimFault.{DimFault}
use Rattle.cube_model.specs.declared.tree.DimFault.TheVariants.{Name}
use Rattle.cube_model.specs.Tree.{line_fault, first_fault}
use Rattle.dim_tree.specs.Fault.{IsDimCause}
use Rattle.dim_tree.specs.Outline.{depth_fault, name_fault}

-- two texts compare alike both ways
pub bytes_eq_comm : (xs ys : List ℕ) → bytes_eq xs ys ≡ bytes_eq ys xs
bytes_eq_comm xs ys = same_from_decides (bytes_eq xs ys) (bytes_eq ys xs) (bytes_eq-Decides xs ys) (Decides-like (bytes_eq ys xs) sym sym (bytes_eq-Decides ys xs))

-- a name is among the names exactly where it is among the strings
pub list_any-names : {A : Type 0} (name : List ℕ) (keys : List (String A)) → list_any (λ earlier. bytes_eq earlier name) (map string_bytes keys) ≡ list_any (λ key. bytes_eq name (string_bytes key)) keys
list_any-names name [] = refl
list_any-names name (key ∷ keys) = grind (arith, bytes_eq_comm (string_bytes key) name, list_any-names name keys)

-- some line in reverse order has a name exactly where some line has it
list_any-reverse : (p : NodeLine → Bool) (lines : List NodeLine) → list_any p (reverse lines) ≡ list_any p lines
list_any-reverse p [] = refl
list_any-reverse p (line ∷ lines) =
    let split : list_any p (reverse (line ∷ lines)) ≡ (list_any p (reverse lines) || list_any p (line ∷ [])) = ap (list_any p) (reverse-append (line ∷ []) lines) ∙ list_any-append p (reverse lines) (line ∷ []) in
    grind (arith, split, list_any-reverse p lines)

-- some name passes where the line of some passes
list_any-map_name : (name : List ℕ) (lines : List NodeLine) → list_any (λ earlier. bytes_eq earlier name) (map (λ line. line.name) lines) ≡ list_any (λ line. bytes_eq line.name name) lines
list_any-map_name name [] = refl
list_any-map_name name (line ∷ lines) = grind (arith, list_any-map_name name lines)

-- the depth of the nearest line
abbrev pub nearest_depth : List NodeLine → Option ℕ
nearest_depth [] = None
nearest_depth (line ∷ earlier) = Some line.depth

-- a line stands where both its depth and its name may
line_fault_none : (earlier : List NodeLine) (k : ℕ) (line : NodeLine) → depth_fault (nearest_depth earlier) k line.depth ≡ None → name_fault (map (λ e. e.name) earlier) k line.name ≡ None → line_fault earlier k line ≡ None
line_fault_none [] k line depth name = grind arith
line_fault_none (before ∷ earlier) k line depth name = grind (arith, list_any-map_name line.name (before ∷ earlier))

-- a fault of its depth is its fault
line_fault_depth : (earlier : List NodeLine) (k : ℕ) (line : NodeLine) (fault : DimFault) → depth_fault (nearest_depth earlier) k line.depth ≡ Some fault → line_fault earlier k line ≡ Some fault
line_fault_depth [] k line fault depth = grind arith
line_fault_depth (before ∷ earlier) k line fault depth = grind arith

-- and so is one of its name, where its depth has none
line_fault_name : (earlier : List NodeLine) (k : ℕ) (line : NodeLine) (fault : DimFault) → depth_fault (nearest_depth earlier) k line.depth ≡ None → name_fault (map (λ e. e.name) earlier) k line.name ≡ Some fault → line_fault earlier k line ≡ Some fault
line_fault_name [] k line fault depth name = grind arith
line_fault_name (before ∷ earlier) k line fault depth name = grind (arith, list_any-map_name line.name (before ∷ earlier))

-- a name among the lines in reverse order
name_fault-reverse : (lines : List NodeLine) (k : ℕ) (name : List ℕ) → name_fault (map (λ e. e.name) (reverse lines)) k name ≡ name_fault (map (λ e. e.name) lines) k name
name_fault-reverse lines k name =
    let same : list_any (λ earlier. bytes_eq earlier name) (map (λ e. e.name) (reverse lines)) ≡ list_any (λ earlier. bytes_eq earlier name) (map (λ e. e.name) lines)
    = list_any-map_name name (reverse lines) ∙ list_any-reverse (λ e. bytes_eq e.name name) lines ∙ sym (list_any-map_name name lines) in
    ap (λ b. if b then Some (Name k) else None) same

-- The first k lines have been judged: `before` is the depth of the last, and these are their names. What is
-- left decides on the first fault.
pub record IsJudged (lines : List NodeLine) (k : ℕ) (before : Option ℕ) (names : List (List ℕ)) : Type 0 where
  pub last : before ≡ nearest_depth (reverse (take k lines))
  pub held : names ≡ map (λ line. line.name) (take k lines)
  pub are_names : list_all (λ line. is_name line.name) (take k lines) ≡ true
  pub left : first_fault [] 0 lines ≡ first_fault (reverse (take k lines)) k (drop k lines)

-- the first of two faults
or_cases : (first second : Option DimFault) (fault : DimFault) → option_or first second ≡ Some fault → (first ≡ Some fault) ⊎ ((first ≡ None) × (second ≡ Some fault))
or_cases None second fault is = inr (refl, is)
or_cases (Some other) second fault is = inl is

-- the line of the node that is read at a place
pub line_read : {X : Type 0} (line : X → NodeLine) (nodes : List X) (k : ℕ) (node : X) → k < length nodes → node ≡ get_or nodes k node → line node ≡ get_or (map line nodes) k (line node)
line_read line nodes k node within is = ap line is ∙ sym (get_or-map line nodes k node (line node) within)

module _ (lines : List NodeLine) (k : ℕ) (line : NodeLine) (before : Option ℕ) (names : List (List ℕ)) (judged : IsJudged lines k before names) (within : k < length lines) (at : line ≡ get_or lines k line) where
  -- the line is judged next
  next : first_fault [] 0 lines ≡ first_fault (reverse (take k lines)) k (line ∷ drop (k + 1) lines)
  next = judged.left ∙ ap (first_fault (reverse (take k lines)) k) (drop_more lines k line within ∙ ap (λ x. x ∷ drop (k + 1) lines) (sym at))

  -- it follows those that were judged
  taken : take (k + 1) lines ≡ take k lines ++ line ∷ []
  taken = take_more lines k line within ∙ ap (λ x. take k lines ++ x ∷ []) (sym at)

  -- it is the nearest of them
  turned : reverse (take (k + 1) lines) ≡ line ∷ reverse (take k lines)
  turned = ap reverse taken ∙ reverse-append (take k lines) (line ∷ [])

  -- its depth is judged behind the last
  same_depth : depth_fault before k line.depth ≡ depth_fault (nearest_depth (reverse (take k lines))) k line.depth
  same_depth = ap (λ b. depth_fault b k line.depth) judged.last

  -- its name is judged among theirs
  same_name : name_fault names k line.name ≡ name_fault (map (λ e. e.name) (reverse (take k lines))) k line.name
  same_name = ap (λ ns. name_fault ns k line.name) judged.held ∙ sym (name_fault-reverse (take k lines) k line.name)

  -- a fault of its depth is the first fault
  pub judged_depth : (fault : DimFault) → depth_fault before k line.depth ≡ Some fault → first_fault [] 0 lines ≡ Some fault
  judged_depth fault depth = grind (arith, next, line_fault_depth (reverse (take k lines)) k line fault (sym same_depth ∙ depth))

  -- a fault of its name is, where its depth has none
  pub judged_name : (fault : DimFault) → depth_fault before k line.depth ≡ None → name_fault names k line.name ≡ Some fault → first_fault [] 0 lines ≡ Some fault
  judged_name fault depth name = grind (arith, next, line_fault_name (reverse (take k lines)) k line fault (sym same_depth ∙ depth) (sym same_name ∙ name))

  -- so the first fault of its depth and its name is
  pub judged_fault : (fault : DimFault) → option_or (depth_fault before k line.depth) (name_fault names k line.name) ≡ Some fault → first_fault [] 0 lines ≡ Some fault
  judged_fault fault is = elim (or_cases (depth_fault before k line.depth) (name_fault names k line.name) fault is) [ inl depth ↦ judged_depth fault depth | inr name ↦ judged_name fault name.0 name.1 ]

  -- and else it is judged too
  pub IsJudged_more : depth_fault before k line.depth ≡ None → name_fault names k line.name ≡ None → is_name line.name ≡ true → IsJudged lines (k + 1) (Some line.depth) (names ++ line.name ∷ [])
  IsJudged_more depth name named = record {
    last = sym (ap nearest_depth turned);
    held = ap (λ ns. ns ++ line.name ∷ []) judged.held ∙ sym (map_push (λ e. e.name) (take k lines) line) ∙ ap (map (λ e. e.name)) (sym taken);
    are_names = grind (arith, common_steps, taken, judged.are_names);
    left = grind (arith, next, turned, line_fault_none (reverse (take k lines)) k line (sym same_depth ∙ depth) (sym same_name ∙ name));
  }

-- a cause is carried over to what it decides
pub IsCause_of : (cause whole : Option DimFault) → ((fault : DimFault) → cause ≡ Some fault → whole ≡ Some fault) → (fault : DimFault) → IsDimCause cause fault → IsDimCause whole fault
IsCause_of cause whole over fault is known = over fault (is known)

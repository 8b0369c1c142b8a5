-- The command that the words of a command line name, and the line that they ask.
use Rattle.std.specs.Prelude.{ℕ, List, [], ◌∷◌, ◌++◌, Option, Some, None, codes, drop, if◌then◌else◌}
use Rattle.std.specs.List.{flat_map}
use Rattle.std.specs.Option.{option_map}
use Rattle.std.specs.Cmp.Lexicographic.{pointwise}
use Rattle.std.specs.Str.{bytes_eq}
use Rattle.text_lines.specs.Text.{number_in}
use Rattle.drill_run.specs.Edits.{MAX_DRILL}
use Rattle.cube_cli.specs.declared.command.Command.{Command}
use Rattle.cube_cli.specs.declared.command.Command.TheVariants.{Drill, Store, Try}
use Rattle.cube_cli.specs.declared.command.StoreCommand.{StoreCommand}
use Rattle.cube_cli.specs.declared.command.StoreCommand.TheVariants.{Ask, Follow, Init, Input, Rebuild, Tell}
use Rattle.cube_cli.specs.declared.store.InputTask.TheVariants.{Run, Import, Lead}
use Rattle.cube_cli.specs.declared.telling.Telling.TheVariants.{Check, Export, Schema, Rows}

-- the drill of the number that bytes spell
abbrev pub drill_named : List ℕ → Option Command
drill_named number = option_map (λ n. Drill n) (number_in 1 MAX_DRILL number)

-- the command over a store that a word names
abbrev pub store_command : List ℕ → Option StoreCommand
store_command word =
    if bytes_eq word (codes "init") then Some Init
    else (if bytes_eq word (codes "run") then Some (Input Run)
    else (if bytes_eq word (codes "check") then Some (Tell Check)
    else (if bytes_eq word (codes "import") then Some (Input Import)
    else (if bytes_eq word (codes "export") then Some (Tell Export)
    else (if bytes_eq word (codes "schema") then Some (Tell Schema)
    else (if bytes_eq word (codes "rows") then Some (Tell Rows)
    else (if bytes_eq word (codes "rebuild") then Some Rebuild
    else (if bytes_eq word (codes "lead") then Some (Input Lead)
    else (if bytes_eq word (codes "follow") then Some Follow else None)))))))))

-- that over the store of a name, which is not empty
abbrev pub store_named : List ℕ → List ℕ → Option Command
store_named word [] = None
store_named word (byte ∷ name) = option_map (λ command. Store command) (store_command word)

-- that which asks a line of the store of a name
abbrev pub ask_named : List ℕ → List ℕ → Option Command
ask_named word [] = None
ask_named word (byte ∷ name) = if bytes_eq word (codes "ask") then Some (Store Ask) else None

-- the command of two words, or of more, of which those after the name are asked
abbrev pub command_of_more : List (List ℕ) → Option Command
command_of_more [] = None
command_of_more (word ∷ []) = None
command_of_more (word ∷ name ∷ []) = if bytes_eq word (codes "drill") then drill_named name else store_named word name
command_of_more (word ∷ name ∷ asked ∷ words) = ask_named word name

-- the command, if the words are those of one
abbrev pub command_of : List (List ℕ) → Option Command
command_of words = if pointwise bytes_eq words (codes "try" ∷ []) then Some Try else command_of_more words

-- words as the fields of one line, with a TAB between two of them
abbrev pub joined : List (List ℕ) → List ℕ
joined [] = []
joined (word ∷ words) = word ++ flat_map (λ word. 9 ∷ word) words

-- the line that is asked: the words after the command and the name
abbrev pub asked_line : List (List ℕ) → List ℕ
asked_line words = joined (drop 2 words)

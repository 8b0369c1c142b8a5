use Rattle.std.proofs.Common.{◌≡◌, ℕ, List, Option, Some, None, map, string_bytes, refl, sym, subst}
use Rattle.std.proofs.KnownBytes.{Keeps-refl}
use Rattle.script_run.specs.Seen.{SeenAll, seen_of, source_seen}
use Rattle.cube_cli.specs.Command.{asked_line, command_of, joined}
use Rattle.cube_cli.specs.Doing.{Fits, doing_of, ends_of}
use Rattle.cube_cli.specs.End.{Says, SaysAsked, SaysOf, doing_by}
use Rattle.cube_cli.specs.Loaded.{LoadedOnce, Loads, second_word}
use Rattle.fact_keeper.specs.Keeper.{KeeperTold}
use Rattle.cube_cli.specs.Seen.{WasNotRead}
use Rattle.cube_cli.specs.declared.command.Command.{Command}
use Rattle.cube_cli.specs.declared.command.Command.TheVariants.{Drill, Store, Try}
use Rattle.cube_cli.specs.declared.command.StoreCommand.TheVariants.{Ask, Follow, Init, Input, Rebuild, Tell}
use Rattle.cube_cli.specs.declared.store.InputTask.{InputTask}
use Rattle.cube_cli.specs.declared.store.InputTask.TheVariants.{Run, Import, Lead}
use Rattle.cube_cli.specs.declared.end.End.{End}
use Rattle.cube_cli.specs.declared.end.End.TheVariants.{Usage}
use Rattle.cube_cli.proofs.First.{usage}
use Rattle.cube_cli.proofs.Known.{of_any}
use Rattle.cube_cli.proofs.command.run_command.Goals as goal

-- what the words say, by the command that they name
says_named : (words : List (List ℕ)) (command : Option Command) (seen : SeenAll) (end : End) → command_of words ≡ command → SaysAsked (asked_line words) command seen end → Says words seen end
says_named words command seen end named says = subst (λ command. SaysAsked (asked_line words) command seen end) (sym named) says

says_input : (task : InputTask) (line : List ℕ) (seen : SeenAll) (end : End) → SaysOf (Some (Store (Input task))) seen end → SaysAsked line (Some (Store (Input task))) seen end
says_input Run line seen end says = says
says_input Import line seen end says = says
says_input Lead line seen end says = says

loads_input : (task : InputTask) (words : List (List ℕ)) (before after : KeeperTold) (seen : SeenAll) (end : End) → LoadedOnce (second_word words) before after seen end
    → Loads (doing_of (asked_line words) (Some (Store (Input task)))).stores (second_word words) before after seen end
loads_input Run words before after seen end loaded = loaded
loads_input Import words before after seen end loaded = loaded
loads_input Lead words before after seen end loaded = loaded

loads_named : (words : List (List ℕ)) (command : Option Command) (before after : KeeperTold) (seen : SeenAll) (end : End) → command_of words ≡ command → Loads (doing_of (asked_line words) command).stores (second_word words) before after seen end
    → Loads (doing_by words).stores (second_word words) before after seen end
loads_named words command before after seen end named loads = subst (λ command. Loads (doing_of (asked_line words) command).stores (second_word words) before after seen end) (sym named) loads

-- what is not called
unread : (left : Option (List ℕ)) (faults : ℕ) → WasNotRead (record { left = left; left_after = left; faults = faults; faults_after = faults })
unread left faults = record { read = Keeps-refl left; count = refl }

pub returns-in-None-clause-says : goal.returns-in-None-clause-says
returns-in-None-clause-says g c =
    let seen : SeenAll = seen_of g.S.Source.tells g.K.Sink.tells g.Q.Keeper.tells c.args.source.now c.args.source.now c.args.out.now c.args.out.now c.args.keeper.now c.args.keeper.now in
    let named : command_of (map string_bytes c.args.words.now) ≡ None = cc (c.command_of.ensures, c.in-None.is) in
    says_named (map string_bytes c.args.words.now) None seen Usage named (usage seen (record { nothing = record { wrote = Keeps-refl _; kept = refl }; read = Keeps-refl _ }) (ends_of None) (doing_of (asked_line (map string_bytes c.args.words.now)) None) (Fits None) refl (record { read = refl; write = refl; keep = refl }) (of_any seen.keeper.told.content _ (λ content. tt)))

pub returns-in-Some-Try-clause-says : goal.returns-in-Some-Try-clause-says
returns-in-Some-Try-clause-says g c =
    let seen : SeenAll = seen_of g.S.Source.tells g.K.Sink.tells g.Q.Keeper.tells c.args.source.now c.try_input.new.source c.args.out.now c.try_input.new.out c.args.keeper.now c.args.keeper.now in
    let named : command_of (map string_bytes c.args.words.now) ≡ Some Try = cc (c.command_of.ensures, c.in-Some-Try.is, c.in-Some-Try.field-0-is) in
    says_named (map string_bytes c.args.words.now) (Some Try) seen c.try_input.result named (c.try_input.ensures.says seen.keeper (record { kept = refl; count = refl }))

pub returns-in-Some-Drill-clause-says : goal.returns-in-Some-Drill-clause-says
returns-in-Some-Drill-clause-says g c =
    let seen : SeenAll = seen_of g.S.Source.tells g.K.Sink.tells g.Q.Keeper.tells c.args.source.now c.args.source.now c.args.out.now c.drill.new.out c.args.keeper.now c.args.keeper.now in
    let named : command_of (map string_bytes c.args.words.now) ≡ Some (Drill c.in-Some-Drill.n) = cc (c.command_of.ensures, c.in-Some-Drill.is, c.in-Some-Drill.field-0-is) in
    says_named (map string_bytes c.args.words.now) (Some (Drill c.in-Some-Drill.n)) seen c.drill.result named (c.drill.ensures seen.source seen.keeper (unread _ _) (record { kept = refl; count = refl }))

pub returns-in-Some-Store-Init-clause-says : goal.returns-in-Some-Store-Init-clause-says
returns-in-Some-Store-Init-clause-says g c =
    let seen : SeenAll = seen_of g.S.Source.tells g.K.Sink.tells g.Q.Keeper.tells c.args.source.now c.init.new.source c.args.out.now c.init.new.out c.args.keeper.now c.init.new.keeper in
    let named : command_of (map string_bytes c.args.words.now) ≡ Some (Store Init) = cc (c.command_of.ensures, c.in-Some-Store-Init.is, c.in-Some-Store-Init.field-0-is, c.in-Some-Store-Init.field-0-0-is) in
    says_named (map string_bytes c.args.words.now) (Some (Store Init)) seen c.init.result named (c.init.ensures.says)

pub returns-in-Some-Store-Input-clause-says : goal.returns-in-Some-Store-Input-clause-says
returns-in-Some-Store-Input-clause-says g c =
    let seen : SeenAll = seen_of g.S.Source.tells g.K.Sink.tells g.Q.Keeper.tells c.args.source.now c.do_input.new.source c.args.out.now c.do_input.new.out c.args.keeper.now c.do_input.new.keeper in
    let named : command_of (map string_bytes c.args.words.now) ≡ Some (Store (Input c.in-Some-Store-Input.task)) = cc (c.command_of.ensures, c.in-Some-Store-Input.is, c.in-Some-Store-Input.field-0-is, c.in-Some-Store-Input.field-0-0-is) in
    says_named (map string_bytes c.args.words.now) (Some (Store (Input c.in-Some-Store-Input.task))) seen c.do_input.result named (says_input c.in-Some-Store-Input.task (asked_line (map string_bytes c.args.words.now)) seen c.do_input.result c.do_input.ensures.says)

pub returns-in-Some-Store-Tell-clause-says : goal.returns-in-Some-Store-Tell-clause-says
returns-in-Some-Store-Tell-clause-says g c =
    let seen : SeenAll = seen_of g.S.Source.tells g.K.Sink.tells g.Q.Keeper.tells c.args.source.now c.args.source.now c.args.out.now c.tell.new.out c.args.keeper.now c.tell.new.keeper in
    let named : command_of (map string_bytes c.args.words.now) ≡ Some (Store (Tell c.in-Some-Store-Tell.telling)) = cc (c.command_of.ensures, c.in-Some-Store-Tell.is, c.in-Some-Store-Tell.field-0-is, c.in-Some-Store-Tell.field-0-0-is) in
    says_named (map string_bytes c.args.words.now) (Some (Store (Tell c.in-Some-Store-Tell.telling))) seen c.tell.result named (c.tell.ensures.says seen.source (unread _ _))

pub returns-in-None-clause-loaded : goal.returns-in-None-clause-loaded
returns-in-None-clause-loaded g c =
    let named : command_of (map string_bytes c.args.words.now) ≡ None = cc (c.command_of.ensures, c.in-None.is) in
    loads_named (map string_bytes c.args.words.now) None _ _ _ _ named (record { loads = refl; name = refl })

pub returns-in-Some-Try-clause-loaded : goal.returns-in-Some-Try-clause-loaded
returns-in-Some-Try-clause-loaded g c =
    let named : command_of (map string_bytes c.args.words.now) ≡ Some Try = cc (c.command_of.ensures, c.in-Some-Try.is, c.in-Some-Try.field-0-is) in
    loads_named (map string_bytes c.args.words.now) (Some Try) _ _ _ _ named (record { loads = refl; name = refl })

pub returns-in-Some-Drill-clause-loaded : goal.returns-in-Some-Drill-clause-loaded
returns-in-Some-Drill-clause-loaded g c =
    let named : command_of (map string_bytes c.args.words.now) ≡ Some (Drill c.in-Some-Drill.n) = cc (c.command_of.ensures, c.in-Some-Drill.is, c.in-Some-Drill.field-0-is) in
    loads_named (map string_bytes c.args.words.now) (Some (Drill c.in-Some-Drill.n)) _ _ _ _ named (record { loads = refl; name = refl })

pub returns-in-Some-Store-Init-clause-loaded : goal.returns-in-Some-Store-Init-clause-loaded
returns-in-Some-Store-Init-clause-loaded g c =
    let named : command_of (map string_bytes c.args.words.now) ≡ Some (Store Init) = cc (c.command_of.ensures, c.in-Some-Store-Init.is, c.in-Some-Store-Init.field-0-is, c.in-Some-Store-Init.field-0-0-is) in
    let tells = g.Q.Keeper.tells in
    let seen : SeenAll = seen_of g.S.Source.tells g.K.Sink.tells g.Q.Keeper.tells c.args.source.now c.init.new.source c.args.out.now c.init.new.out c.args.keeper.now c.init.new.keeper in
    loads_named (map string_bytes c.args.words.now) (Some (Store Init)) _ _ _ _ named
    (subst (λ name. LoadedOnce name (tells c.args.keeper.now) (tells c.init.new.keeper) seen c.init.result) c.second_of.ensures (c.init.ensures.loaded))

pub returns-in-Some-Store-Input-clause-loaded : goal.returns-in-Some-Store-Input-clause-loaded
returns-in-Some-Store-Input-clause-loaded g c =
    let named : command_of (map string_bytes c.args.words.now) ≡ Some (Store (Input c.in-Some-Store-Input.task)) = cc (c.command_of.ensures, c.in-Some-Store-Input.is, c.in-Some-Store-Input.field-0-is, c.in-Some-Store-Input.field-0-0-is) in
    let tells = g.Q.Keeper.tells in
    let seen : SeenAll = seen_of g.S.Source.tells g.K.Sink.tells g.Q.Keeper.tells c.args.source.now c.do_input.new.source c.args.out.now c.do_input.new.out c.args.keeper.now c.do_input.new.keeper in
    loads_named (map string_bytes c.args.words.now) (Some (Store (Input c.in-Some-Store-Input.task))) _ _ _ _ named
    (loads_input c.in-Some-Store-Input.task (map string_bytes c.args.words.now) _ _ seen c.do_input.result
    (subst (λ name. LoadedOnce name (tells c.args.keeper.now) (tells c.do_input.new.keeper) seen c.do_input.result) c.second_of-in-Some-Store-Input.ensures (c.do_input.ensures.loaded)))

pub returns-in-Some-Store-Tell-clause-loaded : goal.returns-in-Some-Store-Tell-clause-loaded
returns-in-Some-Store-Tell-clause-loaded g c =
    let named : command_of (map string_bytes c.args.words.now) ≡ Some (Store (Tell c.in-Some-Store-Tell.telling)) = cc (c.command_of.ensures, c.in-Some-Store-Tell.is, c.in-Some-Store-Tell.field-0-is, c.in-Some-Store-Tell.field-0-0-is) in
    let tells = g.Q.Keeper.tells in
    let seen : SeenAll = seen_of g.S.Source.tells g.K.Sink.tells g.Q.Keeper.tells c.args.source.now c.args.source.now c.args.out.now c.tell.new.out c.args.keeper.now c.tell.new.keeper in
    loads_named (map string_bytes c.args.words.now) (Some (Store (Tell c.in-Some-Store-Tell.telling))) _ _ _ _ named
    (subst (λ name. LoadedOnce name (tells c.args.keeper.now) (tells c.tell.new.keeper) seen c.tell.result) c.second_of-in-Some-Store-Tell.ensures (c.tell.ensures.loaded (source_seen g.S.Source.tells c.args.source.now c.args.source.now) (unread _ _)))

pub returns-in-Some-Store-Ask-clause-says : goal.returns-in-Some-Store-Ask-clause-says
returns-in-Some-Store-Ask-clause-says g c =
    let words = map string_bytes c.args.words.now in
    let seen : SeenAll = seen_of g.S.Source.tells g.K.Sink.tells g.Q.Keeper.tells c.args.source.now c.args.source.now c.args.out.now c.ask.new.out c.args.keeper.now c.ask.new.keeper in
    let named : command_of words ≡ Some (Store Ask) = cc (c.command_of.ensures, c.in-Some-Store-Ask.is, c.in-Some-Store-Ask.field-0-is, c.in-Some-Store-Ask.field-0-0-is) in
    says_named words (Some (Store Ask)) seen c.ask.result named
    (subst (λ asked. SaysAsked (joined asked) (Some (Store Ask)) seen c.ask.result) c.asked_of.ensures (c.ask.ensures.says seen.source (unread _ _)))

pub returns-in-Some-Store-Ask-clause-loaded : goal.returns-in-Some-Store-Ask-clause-loaded
returns-in-Some-Store-Ask-clause-loaded g c =
    let words = map string_bytes c.args.words.now in
    let named : command_of words ≡ Some (Store Ask) = cc (c.command_of.ensures, c.in-Some-Store-Ask.is, c.in-Some-Store-Ask.field-0-is, c.in-Some-Store-Ask.field-0-0-is) in
    let tells = g.Q.Keeper.tells in
    let seen : SeenAll = seen_of g.S.Source.tells g.K.Sink.tells g.Q.Keeper.tells c.args.source.now c.args.source.now c.args.out.now c.ask.new.out c.args.keeper.now c.ask.new.keeper in
    loads_named words (Some (Store Ask)) _ _ _ _ named
    (subst (λ name. LoadedOnce name (tells c.args.keeper.now) (tells c.ask.new.keeper) seen c.ask.result) c.second_of-in-Some-Store-Ask.ensures (c.ask.ensures.loaded (source_seen g.S.Source.tells c.args.source.now c.args.source.now) (unread _ _)))

pub returns-in-Some-Store-Rebuild-clause-says : goal.returns-in-Some-Store-Rebuild-clause-says
returns-in-Some-Store-Rebuild-clause-says g c =
    let words = map string_bytes c.args.words.now in
    let seen : SeenAll = seen_of g.S.Source.tells g.K.Sink.tells g.Q.Keeper.tells c.args.source.now c.args.source.now c.args.out.now c.rebuild.new.out c.args.keeper.now c.rebuild.new.keeper in
    let named : command_of words ≡ Some (Store Rebuild) = cc (c.command_of.ensures, c.in-Some-Store-Rebuild.is, c.in-Some-Store-Rebuild.field-0-is, c.in-Some-Store-Rebuild.field-0-0-is) in
    says_named words (Some (Store Rebuild)) seen c.rebuild.result named (c.rebuild.ensures.says seen.source (unread _ _))

pub returns-in-Some-Store-Rebuild-clause-loaded : goal.returns-in-Some-Store-Rebuild-clause-loaded
returns-in-Some-Store-Rebuild-clause-loaded g c =
    let words = map string_bytes c.args.words.now in
    let named : command_of words ≡ Some (Store Rebuild) = cc (c.command_of.ensures, c.in-Some-Store-Rebuild.is, c.in-Some-Store-Rebuild.field-0-is, c.in-Some-Store-Rebuild.field-0-0-is) in
    let tells = g.Q.Keeper.tells in
    let seen : SeenAll = seen_of g.S.Source.tells g.K.Sink.tells g.Q.Keeper.tells c.args.source.now c.args.source.now c.args.out.now c.rebuild.new.out c.args.keeper.now c.rebuild.new.keeper in
    loads_named words (Some (Store Rebuild)) _ _ _ _ named
    (subst (λ name. LoadedOnce name (tells c.args.keeper.now) (tells c.rebuild.new.keeper) seen c.rebuild.result) c.second_of-in-Some-Store-Rebuild.ensures (c.rebuild.ensures.loaded (source_seen g.S.Source.tells c.args.source.now c.args.source.now) (unread _ _)))

pub returns-in-Some-Store-Follow-clause-says : goal.returns-in-Some-Store-Follow-clause-says
returns-in-Some-Store-Follow-clause-says g c =
    let words = map string_bytes c.args.words.now in
    let seen : SeenAll = seen_of g.S.Source.tells g.K.Sink.tells g.Q.Keeper.tells c.args.source.now c.follow.new.source c.args.out.now c.follow.new.out c.args.keeper.now c.follow.new.keeper in
    let named : command_of words ≡ Some (Store Follow) = cc (c.command_of.ensures, c.in-Some-Store-Follow.is, c.in-Some-Store-Follow.field-0-is, c.in-Some-Store-Follow.field-0-0-is) in
    says_named words (Some (Store Follow)) seen c.follow.result named (c.follow.ensures.says)

pub returns-in-Some-Store-Follow-clause-loaded : goal.returns-in-Some-Store-Follow-clause-loaded
returns-in-Some-Store-Follow-clause-loaded g c =
    let words = map string_bytes c.args.words.now in
    let named : command_of words ≡ Some (Store Follow) = cc (c.command_of.ensures, c.in-Some-Store-Follow.is, c.in-Some-Store-Follow.field-0-is, c.in-Some-Store-Follow.field-0-0-is) in
    let tells = g.Q.Keeper.tells in
    let seen : SeenAll = seen_of g.S.Source.tells g.K.Sink.tells g.Q.Keeper.tells c.args.source.now c.follow.new.source c.args.out.now c.follow.new.out c.args.keeper.now c.follow.new.keeper in
    loads_named words (Some (Store Follow)) _ _ _ _ named
    (subst (λ name. LoadedOnce name (tells c.args.keeper.now) (tells c.follow.new.keeper) seen c.follow.result) c.second_of-in-Some-Store-Follow.ensures (c.follow.ensures.loaded))

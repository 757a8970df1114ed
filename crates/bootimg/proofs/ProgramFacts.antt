use Rattle.std.proofs.Common.{◌≡◌, ◌&&◌, ◌||◌, ap, sym, subst, refl, inl, inr, ℕ, Bool, true, false, not, cond, List, [], ◌∷◌, ◌++◌, map}
use Rattle.std.proofs.Common.{fold, codes, Option, Some, None, IfSome, is_some, find, unwrap_or}
use Rattle.std.specs.Prelude.{⊤}
use Rattle.std.specs.List.{list_all, list_any}
use Rattle.std.specs.Str.{bytes_eq}
use Rattle.std.proofs.lemmas.Slice.Eq.{bytes_eq-Decides}
use Rattle.clap.specs.Facts.{explicit_source}
use Rattle.clap.specs.Takes.{is_given}
use Rattle.clap.specs.Kinds.{Kinds, check_kinds, or_else}
use Rattle.clap.specs.Lexer.{long_of, short_of}
use Rattle.clap.specs.Walk.{Held, Names, Outcome, Row, Rule, Step, Text, Waiting, Walk, after_flag, after_step, answers_to, arg_by_index}
use Rattle.clap.specs.Walk.{done, finished, idle, is_empty, next, option}
use Rattle.clap.specs.Walk.{long_or_other, nothing_held, plain, plain_word, positional, refused, short_or_plain, stop_after, subcommand}
use Rattle.clap.specs.Walk.{settled, subcommand_met, subcommand_or_other}
use Rattle.clap.specs.Walk.{to_positional, trailing, value, waits, walk, walk_from, walked}
use Rattle.clap.specs.Simple.{App, Shape, built, entered, is_simple, label_of, names_of, rows_at, subcommand_of}
use Rattle.clap.specs.Faults.{built_fault, check_fault, entered_fault, fault_of, is_simple_and_free, defaults_fault, other_fault}
use Rattle.clap.specs.Faults.{settle_fault, turn_fault, walk_fault}
use Rattle.clap.proofs.SimpleLemmas.{is_nil}
use Rattle.clap.proofs.WalkLemmas.{both}
use Rattle.bootimg.specs.Program.{commands, program_app, IsCommandName, IsAmongNames}

-- Arguments that clap accepts enter one of the program's commands.

-- clap's definitions of the matches and of the errors apply to it.
pub program_is_simple : is_simple program_app ≡ true
unfolding program_app
program_is_simple = refl

pub program_is_free : is_simple_and_free program_app ≡ true
unfolding program_app
program_is_free = refl

-- ---- words that clap accepts give a command

-- Two steps have no fault together only if neither has one.
neither : (first second : Kinds) → or_else first second ≡ [] → (first ≡ []) × (second ≡ [])
neither [] second none = (refl, none)
neither (kind ∷ kinds) second none = absurd cc

-- No subcommand was met, or one that is not `help`.
abbrev IsNotHelp : Option (Text × List Text) → Type 0
IsNotHelp met = IfSome met (λ entry. bytes_eq entry.0 (codes "help") ≡ false)

-- A step that meets no subcommand.
abbrev EntersNone : Step → Type 0
EntersNone (subcommand name) = ⊥
EntersNone other = ⊤

plain_word_enters : (rules : List Rule) (waiting : Waiting) (word : Text) (held : Held) → EntersNone (plain_word rules waiting word held).1
plain_word_enters rules idle word held = tt
plain_word_enters rules (option id) word held = tt
plain_word_enters rules positional word held = tt

flag_enters : (rules : List Rule) (waiting : Waiting) (word : Text) (held : Held) (outcome : Outcome)
    → EntersNone (after_flag rules waiting word held outcome).1
flag_enters rules waiting word held done = tt
flag_enters rules waiting word held (waits id) = tt
flag_enters rules waiting word held plain = plain_word_enters rules waiting word held
flag_enters rules waiting word held refused = plain_word_enters rules waiting word held

short_enters : (rules : List Rule) (waiting : Waiting) (word : Text) (flags : Option Text) (held : Held)
    → EntersNone (short_or_plain rules waiting word flags held).1
short_enters rules waiting word (Some flags) held = flag_enters rules waiting word _ _
short_enters rules waiting word None held = plain_word_enters rules waiting word held

long_enters : (rules : List Rule) (waiting : Waiting) (word : Text) (long : Option (Text × Option Text)) (held : Held)
    → EntersNone (long_or_other rules waiting word long held).1
long_enters rules waiting word (Some long) held = flag_enters rules waiting word _ _
long_enters rules waiting word None held = short_enters rules waiting word (short_of word) held

other_enters : (rules : List Rule) (waiting : Waiting) (position : ℕ) (word : Text) (held : Held)
    → EntersNone (subcommand_or_other rules None waiting position word held).1
other_enters rules waiting position word held = by (bytes_eq word (45 ∷ 45 ∷ []))
  where
    by : (is_dashes : Bool)
        → EntersNone (cond is_dashes (held, trailing position) (long_or_other rules waiting word (long_of word) held)).1
    by true = tt
    by false = long_enters rules waiting word (long_of word) held

-- A word for a positional meets no subcommand.
positional_stays : (rules : List Rule) (rule : Option Rule) (word : Text) (walk : Walk) (held : Held) → IsNotHelp walk.stopped
    → IsNotHelp (to_positional rules rule word walk held).stopped
positional_stays rules None word walk held is = is
positional_stays rules (Some rule) word walk held is = tt

step_stays : (rules : List Rule) (word : Text) (walk : Walk) (held : Held) (step : Step) → EntersNone step → IsNotHelp walk.stopped
    → IsNotHelp (after_step rules word walk held step).stopped
step_stays rules word walk held (next waiting) none is = is
step_stays rules word walk held (trailing position) none is = is
step_stays rules word walk held (subcommand name) none is = absurd none
step_stays rules word walk held value none is = positional_stays rules (arg_by_index rules walk.position) word walk held is

-- `help` as a subcommand is a fault.
not_help : (shape : Shape) (name word : Text) (held : Held) → shape.disable_help_subcommand ≡ false
    → other_fault shape (Some name) word held ≡ [] → bytes_eq name (codes "help") ≡ false
not_help shape name word held help none = by (bytes_eq name (codes "help")) refl
  where
    by : (is_help : Bool) → bytes_eq name (codes "help") ≡ is_help → bytes_eq name (codes "help") ≡ false
    by false is = is
    by true is = absurd (let bad = rw (is, help) at none in cc)

-- A word without a fault does not meet `help`.
met_stays : (shape : Shape) (is_trailing : Bool) (met : Option Text) (waiting : Waiting) (position : ℕ) (word : Text) (walk : Walk)
    (held : Held) → shape.disable_help_subcommand ≡ false → IsNotHelp walk.stopped
    → cond is_trailing [] (other_fault shape met word held) ≡ []
    → IsNotHelp (after_step shape.rules word walk
    (cond is_trailing (held, value) (subcommand_or_other shape.rules met waiting position word held)).0
    (cond is_trailing (held, value) (subcommand_or_other shape.rules met waiting position word held)).1).stopped
met_stays shape true met waiting position word walk held help is none =
    positional_stays shape.rules (arg_by_index shape.rules walk.position) word walk held is
met_stays shape false (Some name) waiting position word walk held help is none = not_help shape name word held help none
met_stays shape false None waiting position word walk held help is none =
    step_stays shape.rules word walk _ _ (other_enters shape.rules waiting position word held) is

turn_stays : (shape : Shape) (names : Names) (walk : Walk) (stopped : Option (Text × List Text)) (word : Text)
    → shape.disable_help_subcommand ≡ false → walk.stopped ≡ stopped → IsNotHelp stopped → turn_fault shape names walk word ≡ []
    → IsNotHelp (walked shape.rules names walk word).stopped
unfolding walked
turn_stays shape names walk (Some entry) word help stopped is none = rw stopped is
turn_stays shape names walk None word help stopped is none =
    let faults = neither _ _ (rw stopped at none) in
    rw stopped
    (met_stays shape walk.is_trailing (subcommand_met names walk.waiting word) walk.waiting walk.position word
    (record walk { stopped = None }) walk.held help tt faults.0)

walk_stays : (shape : Shape) (names : Names) (walk : Walk) (words : List Text) → shape.disable_help_subcommand ≡ false
    → IsNotHelp walk.stopped → walk_fault shape names walk words ≡ [] → IsNotHelp (fold (walked shape.rules names) walk words).stopped
unfolding walk_fault
walk_stays shape names walk [] help is none = is
walk_stays shape names walk (word ∷ words) help is none =
    let faults = neither _ _ none in
    walk_stays shape names (walked shape.rules names walk word) words help
    (turn_stays shape names walk walk.stopped word help refl is faults.0)
    faults.1

-- Of two tests of which the second fails, the first passes.
sole : (test : Bool) → (test || false) ≡ true → test ≡ true
sole true holds = refl
sole false holds = holds

-- The command `help` has no other name.
abbrev is_only_help : Shape → Bool
is_only_help shape = not (bytes_eq shape.name (codes "help")) || is_empty shape.aliases

-- The command that answers to a word has it as its own name if it is `help`.
help_is_named : (shape : Shape) (word : Text) → is_only_help shape ≡ true → answers_to word (label_of shape) ≡ true →
    shape.name ≡ codes "help" → bytes_eq shape.name word ≡ true
help_is_named shape word only answers named =
    let is_help : bytes_eq shape.name (codes "help") ≡ true = (bytes_eq-Decides shape.name (codes "help")).1 named in
    let unaliased : is_empty shape.aliases ≡ true = let holds = rw is_help at only in holds in
    sole (bytes_eq shape.name word) (let holds = rw (is_nil shape.aliases unaliased) at answers in holds)

-- The command that the words enter is one of the program's.
named_command : (shapes : List Shape) (word : Text) (shape : Shape) → list_all is_only_help shapes ≡ true
    → find (λ s. answers_to word (label_of s)) shapes ≡ Some shape
    → (shape.name ≡ codes "help" → bytes_eq shape.name word ≡ true) × IsAmongNames (map (λ (s : Shape). s.name) shapes) shape.name
named_command [] word shape only found = absurd cc
named_command (first ∷ shapes) word shape only found =
    by (answers_to word (label_of first)) refl (λ later. named_command shapes word shape (both _ _ only).1 later)
  where
    by : (answers : Bool) → answers_to word (label_of first) ≡ answers
        → (find (λ s. answers_to word (label_of s)) shapes ≡ Some shape
        → (shape.name ≡ codes "help" → bytes_eq shape.name word ≡ true) × IsAmongNames (map (λ (s : Shape). s.name) shapes) shape.name)
        → (shape.name ≡ codes "help" → bytes_eq shape.name word ≡ true)
        × IsAmongNames (map (λ (s : Shape). s.name) (first ∷ shapes)) shape.name
    by true is later =
        let same : first ≡ shape = let found_is : Some first ≡ Some shape = rw is at found in cc in (
          subst (λ (s : Shape). s.name ≡ codes "help" → bytes_eq s.name word ≡ true) same
              (help_is_named first word (both _ _ only).0 is),
          inl (ap (λ (s : Shape). s.name) (sym same)),
        )
    by false is later =
        let after = later (rw is at found) in
        (after.0, inr after.1)

-- A name in a list is not the last one if it differs from that.
not_the_last : (names : List Text) (last name : Text) → ¬ (name ≡ last) → IsAmongNames (names ++ last ∷ []) name → IsAmongNames names name
not_the_last [] last name differs (inl same) = absurd (differs same)
not_the_last [] last name differs (inr none) = absurd none
not_the_last (first ∷ names) last name differs (inl same) = inl same
not_the_last (first ∷ names) last name differs (inr later) = inr (not_the_last names last name differs later)

-- What is required of a program whose subcommands have these names.
record HasCommands (app : App) (names : List Text) : Type 0 where
  help : app.top.disable_help_subcommand ≡ false
  required : app.top.subcommand_required ≡ true
  only_help : list_all is_only_help app.subs ≡ true
  names_are : map (λ (s : Shape). s.name) app.subs ≡ names ++ codes "help" ∷ []

-- The command that is entered has one of the names.
entered_name : (app : App) (names : List Text) (stop : Option (Text × List Text)) (name : Text) (rows : List Row) → HasCommands app names
    → IsNotHelp stop → entered app stop ≡ Some (name, rows) → IsAmongNames names name
entered_name app names None name rows has is given = absurd cc
entered_name app names (Some stop) name rows has is given = by (find (λ s. answers_to stop.0 (label_of s)) app.subs) refl
  where
    by : (found : Option Shape) → find (λ s. answers_to stop.0 (label_of s)) app.subs ≡ found → IsAmongNames names name
    by None none = absurd (let bad : None ≡ Some (name, rows) = rw none at given in cc)
    by (Some shape) was =
        let rows_are : Some (rows_at shape stop.1) ≡ Some (name, rows) = rw was at given in
        let named : shape.name ≡ name = ap (λ (o : Option (Text × List Row)). (unwrap_or o (name, rows)).0) rows_are in
        let known = named_command app.subs stop.0 shape has.only_help was in
        let not_help : ¬ (shape.name ≡ codes "help") = λ same.
        let own : bytes_eq (codes "help") stop.0 ≡ true = subst (λ (n : Text). bytes_eq n stop.0 ≡ true) same (known.0 same) in
        let word : codes "help" ≡ stop.0 = (bytes_eq-Decides (codes "help") stop.0).0 own in
        let bad : bytes_eq (codes "help") (codes "help") ≡ false = subst (λ (n : Text). bytes_eq n (codes "help") ≡ false) (sym word) is in
        cc in
        subst (λ (n : Text). IsAmongNames names n) named
        (not_the_last names (codes "help") shape.name not_help
        (subst (λ (list : List Text). IsAmongNames list shape.name) has.names_are known.1))

-- If a command is missing, that is a fault.
missing_is_fault : (wants_help required wants_argument : Bool) → required ≡ true → ¬ (check_kinds wants_help required wants_argument ≡ [])
missing_is_fault true required wants_argument needs none = absurd cc
missing_is_fault false required wants_argument needs none = absurd (let bad = rw needs at none in cc)

command_is_there : (shape : Shape) (rows : List Row) (is_entered : Bool) → shape.subcommand_required ≡ true
    → check_fault shape rows is_entered ≡ [] → is_entered ≡ true
command_is_there shape rows true needs none = refl
command_is_there shape rows false needs none =
    absurd (missing_is_fault (shape.arg_required_else_help && not (list_any (λ r. explicit_source r.source) rows)) shape.subcommand_required
    (not (shape.subcommand_negates_reqs && false) && list_any (λ a. a.required && not (is_given a.id rows)) shape.rules) needs none)

-- Of five steps without a fault the first and the last have none.
first_and_last : (a b c d e : Kinds) → or_else a (or_else b (or_else c (or_else d e))) ≡ [] → (a ≡ []) × (e ≡ [])
first_and_last a b c d e none =
    let first = neither a (or_else b (or_else c (or_else d e))) none in
    let second = neither b (or_else c (or_else d e)) first.1 in
    let third = neither c (or_else d e) second.1 in
    (first.0, (neither d e third.1).1)

-- The same of a built program that accepts words.
accepted_command : (app : App) (names : List Text) (words : List Text) → HasCommands app names → built_fault app nothing_held words ≡ []
    → (is_some (entered app (stop_after app.top.rules (names_of app) words)) ≡ true)
    × ((name : Text) (rows : List Row) → entered app (stop_after app.top.rules (names_of app) words) ≡ Some (name, rows)
    → IsAmongNames names name)
accepted_command app names words has none =
    let rules = app.top.rules in
    let stop = stop_after rules (names_of app) words in
    let end = (walk rules (names_of app) nothing_held words).held in
    let steps = first_and_last (walk_fault app.top (names_of app) (walk_from nothing_held) words) (entered_fault app stop)
    (settle_fault rules app.top.args_override_self end) (defaults_fault (settled rules end).rows rules)
    (check_fault app.top (finished rules end) (is_some (entered app stop))) none in (
      command_is_there app.top (finished rules end) (is_some (entered app stop)) has.required steps.1,
      λ name rows given.
          entered_name app names stop name rows has
          (walk_stays app.top (names_of app) (walk_from nothing_held) words has.help tt steps.0) given,
    )

-- The program has these commands.
program_has : HasCommands (built program_app) (map (λ (shape : Shape). shape.name) commands)
unfolding program_app
program_has = record { help = refl; required = refl; only_help = refl; names_are = refl }

-- Arguments that clap accepts enter a command.
pub accepted_enters : (words : List Text) → fault_of program_app words ≡ [] → is_some (subcommand_of program_app words) ≡ true
unfolding program_app
accepted_enters words none = (accepted_command (built program_app) _ words program_has none).0

-- What they enter is one of the program's commands.
pub accepted_is_command : (words : List Text) (name : Text) (rows : List Row) → fault_of program_app words ≡ []
    → subcommand_of program_app words ≡ Some (name, rows) → IsCommandName name
unfolding program_app
accepted_is_command words name rows none given = (accepted_command (built program_app) _ words program_has none).1 name rows given

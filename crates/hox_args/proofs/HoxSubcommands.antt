-- If the command line accepts the arguments, they name one of its five subcommands.
use Rattle.std.proofs.Common.{◌≡◌, inl, inr, Bool, true, false, cond, List, [], Option, Some, None, IfSome, IsSomeAnd, is_some, option_map, codes, refl, subst, sym, ◌||◌, Result, Ok, Err, IfOk, IfErr}
use Rattle.std.specs.Str.{bytes_eq}
use Rattle.clap.specs.Words.{App, HasMatchesOf, Row, Text, built, is_simple_and_free, subcommand_of, subcommand_rows_of}
use Rattle.clap.specs.declared.parser.matches.ArgMatches.{ArgMatches}
use Rattle.clap.specs.Kinds.{Kinds, or_else}
use Rattle.clap.specs.Faults.{check_fault, defaults_fault, entered_fault, level_fault, settle_fault, walk_fault}
use Rattle.clap.specs.Walk.{Held, Names, finished, nothing_held, settled, walk, walk_from}
use Rattle.clap.specs.Simple.{Shape, argument_words, entered, names_of, rows_at}
use Rattle.hox_args.specs.declared.arguments.Choice.{Choice}
use Rattle.hox_args.specs.declared.arguments.WordsFault.{WordsFault}
use Rattle.hox_args.specs.declared.arguments.WordsFault.TheVariants.{Parser, Workers, Budget, Memory}
use Rattle.hox_args.specs.HoxChoices.{AreHoxTaken, IsFaultIn, IsHoxChoice, IsHoxChoiceOf, IsHoxFault, IsRunFault, IsSubcommand}
use Rattle.hox_args.specs.HoxCommand.{hox}
use Rattle.hox_args.proofs.HelpIsAnswered.{IsNoHelp, first_passes, last_passes, stops_elsewhere}
use Rattle.std.proofs.lemmas.Slice.Eq.{bytes_eq-Decides}

-- the command line is one of those whose parse clap's clauses determine
pub is_simple : is_simple_and_free hox ≡ true
is_simple = refl

-- a parse of the top command that succeeds has a subcommand
has_one : (rows : List Row) (has : Bool) → check_fault (built hox).top rows has ≡ [] → has ≡ true
has_one rows true h = refl
has_one rows false h = cc

-- the name is that of a subcommand
abbrev pub IsCommand : Text × List Row → Type 0
IsCommand p = IsSubcommand p.0

-- the shape found by name, if it is not `help`, is one of the five
found_is : (words : List Text) (check run draw stream kinds help : Shape) (first second third fourth fifth sixth : Bool)
    → check.name ≡ codes "check" → run.name ≡ codes "run" → draw.name ≡ codes "draw" → stream.name ≡ codes "stream" → kinds.name ≡ codes "kinds" → sixth ≡ false
    → IfSome (option_map (λ s. rows_at s words) (cond first (Some check) (cond second (Some run) (cond third (Some draw) (cond fourth (Some stream) (cond fifth (Some kinds) (cond sixth (Some help) None))))))) IsCommand
found_is words check run draw stream kinds help true second third fourth fifth sixth c r d s k h = inl c
found_is words check run draw stream kinds help false true third fourth fifth sixth c r d s k h = inr (inl r)
found_is words check run draw stream kinds help false false true fourth fifth sixth c r d s k h = inr (inr (inl d))
found_is words check run draw stream kinds help false false false true fifth sixth c r d s k h = inr (inr (inr (inl s)))
found_is words check run draw stream kinds help false false false false true sixth c r d s k h = inr (inr (inr (inr k)))
found_is words check run draw stream kinds help false false false false false true c r d s k h = cc
found_is words check run draw stream kinds help false false false false false false c r d s k h = tt

-- `help` answers to no other name
is_not_help : (name : Text) (same : Bool) → bytes_eq (codes "help") name ≡ same → bytes_eq name (codes "help") ≡ false → (same || false) ≡ false
is_not_help name false e other = refl
is_not_help name true e other =
    let is = (bytes_eq-Decides (codes "help") name).0 e in
    let bad : bytes_eq (codes "help") (codes "help") ≡ false = subst (λ t. bytes_eq t (codes "help") ≡ false) (sym is) other in cc

-- a subcommand that was entered, if it is not `help`, is one of the five
entered_is : (stop : Option (Text × List Text)) → IsNoHelp stop → IfSome (entered (built hox) stop) IsCommand
entered_is None other = tt
entered_is (Some p) other = found_is p.1 _ _ _ _ _ _ _ _ _ _ _ _ refl refl refl refl refl (is_not_help p.0 _ refl other)

-- a level whose parse succeeds has a subcommand
level_has_one : (names : Names) (h : Held) (words : List Text) (has : Bool) (below : Kinds) → level_fault (built hox).top names h words has below ≡ [] → has ≡ true
level_has_one names h words has below passes =
    let top = (built hox).top in
    let end = (walk top.rules names h words).held in
    let defaults = defaults_fault (settled top.rules end).rows top.rules in
    let settle = settle_fault top.rules top.args_override_self end in
    let last = check_fault top (finished top.rules end) has in
    let after_walk = last_passes (walk_fault top names (walk_from h) words) (or_else below (or_else settle (or_else defaults last))) passes in
    let after_below = last_passes below (or_else settle (or_else defaults last)) after_walk in
    let after_settle = last_passes settle (or_else defaults last) after_below in
    has_one (finished top.rules end) has (last_passes defaults last after_settle)

-- arguments that are accepted name a subcommand
names_one : (words : List Text) → AreHoxTaken words → is_some (subcommand_of hox words) ≡ true
names_one words h =
    let stop = (walk (built hox).top.rules (names_of (built hox)) nothing_held (argument_words hox words)).stopped in
    level_has_one (names_of (built hox)) nothing_held (argument_words hox words) (is_some (entered (built hox) stop)) (entered_fault (built hox) stop) h

-- an option that is `Some`, and whose value has the form if there is one, has a value of the form
some_is : (p : Option (Text × List Row)) → is_some p ≡ true → IfSome p IsCommand → IsSomeAnd p IsCommand
some_is None some is = cc
some_is (Some p) some is = is

-- arguments that are accepted name one of the five subcommands
pub names_command : (words : List Text) → AreHoxTaken words → IsSomeAnd (subcommand_of hox words) IsCommand
names_command words h =
    let top = (built hox).top in
    let names = names_of (built hox) in
    let stop = (walk top.rules names nothing_held (argument_words hox words)).stopped in
    let passes = first_passes (walk_fault top names (walk_from nothing_held) (argument_words hox words)) _ h in
    some_is (subcommand_of hox words) (names_one words h) (entered_is stop (stops_elsewhere top names nothing_held (argument_words hox words) refl passes))

-- the value has the form
at_some : (r : Option (Text × List Row)) (p : Text × List Row) → Some p ≡ r → IsSomeAnd r IsCommand → IsCommand p
at_some None p e is = absurd is
at_some (Some q) p e is = let same : q ≡ p = cc in subst IsCommand same is

-- an option with a value is not `None`
at_none : (r : Option (Text × List Row)) → None ≡ r → IsSomeAnd r IsCommand → ⊥
at_none None e is = is
at_none (Some q) e is = cc

-- a text that was found to differ from a name is not that name
is_not : (text name : Text) → bytes_eq name name ≡ true → bytes_eq text name ≡ false → text ≡ name → ⊥
is_not text name same other e = let bad : bytes_eq name name ≡ false = subst (λ t. bytes_eq t name ≡ false) e other in cc

-- a subcommand has one of the five names
pub other_is : (name : Text) → bytes_eq name (codes "check") ≡ false → bytes_eq name (codes "run") ≡ false → bytes_eq name (codes "draw") ≡ false → bytes_eq name (codes "stream") ≡ false
    → bytes_eq name (codes "kinds") ≡ false → IsSubcommand name → ⊥
other_is name check run draw stream kinds is = elim is [
  | inl e ↦ is_not name (codes "check") refl check e
  | inr rest ↦ elim rest [
    | inl e ↦ is_not name (codes "run") refl run e
    | inr others ↦ elim others [
      | inl e ↦ is_not name (codes "draw") refl draw e
      | inr last ↦ elim last [
        | inl e ↦ is_not name (codes "stream") refl stream e
        | inr e ↦ is_not name (codes "kinds") refl kinds e
      ]
    ]
  ]
]

-- arguments that are accepted name one of the five subcommands
pub names_one_of : (words : List Text) (p : Text × List Row) → AreHoxTaken words → Some p ≡ subcommand_of hox words → IsSubcommand p.0
names_one_of words p taken e = at_some (subcommand_of hox words) p e (names_command words taken)

-- arguments that are accepted name some subcommand
pub names_some : (words : List Text) → AreHoxTaken words → None ≡ subcommand_of hox words → ⊥
names_some words taken e = at_none (subcommand_of hox words) e (names_command words taken)

-- a parse of this command line that succeeds has its matches
pub matches_by : {E : Type 0} (words : List Text) (c : App) (r : Result ArgMatches E) → c ≡ hox → IfOk r (HasMatchesOf c words) → IfOk r (λ m. subcommand_rows_of m ≡ subcommand_of hox words)
matches_by words c (Ok m) same has = (subst (λ (a : App). HasMatchesOf a words m) same has refl).1
matches_by words c (Err e) same has = tt

-- what the entries of the subcommand ask for, the arguments ask for
pub chosen : {E : Type 0} (words : List Text) (p : Text × List Row) (r : Result Choice E) → AreHoxTaken words → Some p ≡ subcommand_of hox words
    → IfOk r (IsHoxChoiceOf (Some p)) → IfOk r (IsHoxChoice words)
chosen words p (Ok choice) taken is asked = (taken, subst (λ (s : Option (Text × List Row)). IsHoxChoiceOf s choice) is asked)
chosen words p (Err e) taken is asked = tt

-- the arguments are refused for what an option of the subcommand is refused for
refused_by : (words : List Text) (p : Text × List Row) (e : WordsFault) → AreHoxTaken words → Some p ≡ subcommand_of hox words → IsRunFault p.1 e → IsHoxFault words e
refused_by words p (Parser e) taken is refused = absurd refused
refused_by words p Workers taken is refused = (taken, subst (λ (s : Option (Text × List Row)). IsFaultIn s Workers) is refused)
refused_by words p Budget taken is refused = (taken, subst (λ (s : Option (Text × List Row)). IsFaultIn s Budget) is refused)
refused_by words p Memory taken is refused = tt

pub refused : {A : Type 0} (words : List Text) (p : Text × List Row) (r : Result A WordsFault) → AreHoxTaken words → Some p ≡ subcommand_of hox words
    → IfErr r (IsRunFault p.1) → IfErr r (IsHoxFault words)
refused words p (Ok choice) taken is by = tt
refused words p (Err e) taken is by = refused_by words p e taken is by

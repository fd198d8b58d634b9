-- If the command line accepts the arguments, they name one of its two subcommands.
use Rattle.std.proofs.Common.{◌≡◌, ◌⊎◌, inl, inr, Bool, true, false, cond, List, [], ◌∷◌, Option, Some, None, IfSome, IsSomeAnd, is_some, option_map, codes, refl, subst, Result, Ok, Err, IfOk}
use Rattle.std.specs.Str.{bytes_eq}
use Rattle.clap.specs.Words.{App, HasMatchesOf, Row, Text, built, is_simple_and_free, subcommand_of, subcommand_rows_of}
use Rattle.clap.specs.declared.parser.matches.ArgMatches.{ArgMatches}
use Rattle.clap.specs.Kinds.{Kinds, or_else}
use Rattle.clap.specs.Faults.{check_fault, defaults_fault, entered_fault, level_fault, settle_fault, walk_fault}
use Rattle.clap.specs.Walk.{Held, Names, finished, nothing_held, settled, walk, walk_from}
use Rattle.clap.specs.Simple.{Shape, argument_words, entered, names_of, rows_at}
use Rattle.kpn_args.specs.Choices.{AreTaken}
use Rattle.kpn_args.specs.Command.{kpn}

-- the command line is one of those whose parse clap's clauses determine
pub is_simple : is_simple_and_free kpn ≡ true
is_simple = refl

-- if no step fails, the last one does not
last_passes : (first next : Kinds) → or_else first next ≡ [] → next ≡ []
last_passes [] next h = h
last_passes (k ∷ ks) next h = cc

-- a parse of the top command that succeeds has a subcommand
has_one : (rows : List Row) (has : Bool) → check_fault (built kpn).top rows has ≡ [] → has ≡ true
has_one rows true h = refl
has_one rows false h = cc

-- the name is that of a subcommand
abbrev pub IsCommand : Text × List Row → Type 0
IsCommand p = (p.0 ≡ codes "check") ⊎ (p.0 ≡ codes "run")

-- the shape found by name among the two is one of the two
found_is : (words : List Text) (check run : Shape) (first second : Bool) → check.name ≡ codes "check" → run.name ≡ codes "run"
    → IfSome (option_map (λ s. rows_at s words) (cond first (Some check) (cond second (Some run) None))) IsCommand
found_is words check run true second c r = inl c
found_is words check run false true c r = inr r
found_is words check run false false c r = tt

-- a subcommand that was entered is one of the two
entered_is : (stop : Option (Text × List Text)) → IfSome (entered (built kpn) stop) IsCommand
entered_is None = tt
entered_is (Some p) = found_is p.1 _ _ _ _ refl refl

-- a level whose parse succeeds has a subcommand
level_has_one : (names : Names) (h : Held) (words : List Text) (has : Bool) (below : Kinds) → level_fault (built kpn).top names h words has below ≡ [] → has ≡ true
level_has_one names h words has below passes =
    let top = (built kpn).top in
    let end = (walk top.rules names h words).held in
    let defaults = defaults_fault (settled top.rules end).rows top.rules in
    let settle = settle_fault top.rules top.args_override_self end in
    let last = check_fault top (finished top.rules end) has in
    let after_walk = last_passes (walk_fault top names (walk_from h) words) (or_else below (or_else settle (or_else defaults last))) passes in
    let after_below = last_passes below (or_else settle (or_else defaults last)) after_walk in
    let after_settle = last_passes settle (or_else defaults last) after_below in
    has_one (finished top.rules end) has (last_passes defaults last after_settle)

-- arguments that are accepted name a subcommand
names_one : (words : List Text) → AreTaken words → is_some (subcommand_of kpn words) ≡ true
names_one words h =
    let stop = (walk (built kpn).top.rules (names_of (built kpn)) nothing_held (argument_words kpn words)).stopped in
    level_has_one (names_of (built kpn)) nothing_held (argument_words kpn words) (is_some (entered (built kpn) stop)) (entered_fault (built kpn) stop) h

-- an option that is `Some`, and whose value has the form if there is one, has a value of the form
some_is : (p : Option (Text × List Row)) → is_some p ≡ true → IfSome p IsCommand → IsSomeAnd p IsCommand
some_is None some is = cc
some_is (Some p) some is = is

-- arguments that are accepted name one of the two subcommands
pub names_command : (words : List Text) → AreTaken words → IsSomeAnd (subcommand_of kpn words) IsCommand
names_command words h =
    let stop = (walk (built kpn).top.rules (names_of (built kpn)) nothing_held (argument_words kpn words)).stopped in
    some_is (subcommand_of kpn words) (names_one words h) (entered_is stop)

-- the value has the form
at_some : (r : Option (Text × List Row)) (p : Text × List Row) → Some p ≡ r → IsSomeAnd r IsCommand → IsCommand p
at_some None p e is = absurd is
at_some (Some q) p e is = let same : q ≡ p = cc in subst IsCommand same is

-- an option with a value is not `None`
at_none : (r : Option (Text × List Row)) → None ≡ r → IsSomeAnd r IsCommand → ⊥
at_none None e is = is
at_none (Some q) e is = cc

-- a subcommand has one of the two names
pub other_is : (p : Text × List Row) → bytes_eq p.0 (codes "check") ≡ false → bytes_eq p.0 (codes "run") ≡ false → IsCommand p → ⊥
other_is p check run is = elim is [
  | inl e ↦ let bad : bytes_eq (codes "check") (codes "check") ≡ false = subst (λ t. bytes_eq t (codes "check") ≡ false) e check in cc
  | inr e ↦ let bad : bytes_eq (codes "run") (codes "run") ≡ false = subst (λ t. bytes_eq t (codes "run") ≡ false) e run in cc
]

-- arguments that are accepted name no other subcommand
pub names_one_of : (words : List Text) (p : Text × List Row) → AreTaken words → Some p ≡ subcommand_of kpn words → (p.0 ≡ codes "check") ⊎ (p.0 ≡ codes "run")
names_one_of words p taken e = at_some (subcommand_of kpn words) p e (names_command words taken)

-- arguments that are accepted name some subcommand
pub names_some : (words : List Text) → AreTaken words → None ≡ subcommand_of kpn words → ⊥
names_some words taken e = at_none (subcommand_of kpn words) e (names_command words taken)

-- a parse of this command line that succeeds has its matches
pub matches_by : {E : Type 0} (words : List Text) (c : App) (r : Result ArgMatches E) → c ≡ kpn → IfOk r (HasMatchesOf c words) → IfOk r (λ m. subcommand_rows_of m ≡ subcommand_of kpn words)
matches_by words c (Ok m) same has = (subst (λ (a : App). HasMatchesOf a words m) same has refl).1
matches_by words c (Err e) same has = tt

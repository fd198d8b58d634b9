-- Arguments that are accepted do not name the subcommand `help`, which clap itself answers.
use Rattle.std.proofs.Common.{◌≡◌, Bool, true, false, cond, ◌&&◌, not, List, [], ◌∷◌, Option, Some, None, codes, refl, subst, sym}
use Rattle.std.specs.Prelude.{fold}
use Rattle.std.specs.Str.{bytes_eq}
use Rattle.clap.specs.Lexer.{long_of}
use Rattle.clap.specs.Words.{Rule, Text}
use Rattle.clap.specs.declared.error.kind.ErrorKind.TheVariants.{DisplayHelp, InvalidSubcommand}
use Rattle.clap.specs.Kinds.{Kinds, or_else}
use Rattle.clap.specs.Faults.{other_fault, turn_fault, walk_fault, word_fault}
use Rattle.clap.specs.Simple.{Shape}
use Rattle.clap.specs.Walk.{Held, Names, Outcome, Step, Waiting, Walk, after_flag, after_step, done, idle, long_or_other, next, option, plain, plain_word, positional, refused, short_or_plain, subcommand, subcommand_met, subcommand_or_other, to_positional, trailing, value, waits, walk, walk_from, walked, walked_from, word_met}

-- a walk has not stopped at `help`
abbrev pub IsNoHelp : Option (Text × List Text) → Type 0
IsNoHelp None = Unit {0}
IsNoHelp (Some p) = bytes_eq p.0 (codes "help") ≡ false

-- this step names no subcommand
abbrev IsNoName : Step → Type 0
IsNoName (subcommand name) = ⊥
IsNoName _ = Unit {0}

plain_names_none : (c : List Rule) (waiting : Waiting) (word : Text) (h : Held) → IsNoName (plain_word c waiting word h).1
plain_names_none c idle word h = tt
plain_names_none c (option id) word h = tt
plain_names_none c positional word h = tt

flag_names_none : (c : List Rule) (waiting : Waiting) (word : Text) (h : Held) (met : Outcome) → IsNoName (after_flag c waiting word h met).1
flag_names_none c waiting word h done = tt
flag_names_none c waiting word h (waits id) = tt
flag_names_none c waiting word h plain = plain_names_none c waiting word h
flag_names_none c waiting word h refused = plain_names_none c waiting word h

short_names_none : (c : List Rule) (waiting : Waiting) (word : Text) (flags : Option Text) (h : Held) → IsNoName (short_or_plain c waiting word flags h).1
short_names_none c waiting word (Some flags) h = flag_names_none c waiting word _ _
short_names_none c waiting word None h = plain_names_none c waiting word h

other_names_none : (c : List Rule) (waiting : Waiting) (word : Text) (long : Option (Text × Option Text)) (h : Held) → IsNoName (long_or_other c waiting word long h).1
other_names_none c waiting word (Some p) h = flag_names_none c waiting word _ _
other_names_none c waiting word None h = short_names_none c waiting word _ h

positional_stays : (c : List Rule) (a : Option Rule) (word : Text) (w : Walk) (h : Held) → w.stopped ≡ None → IsNoHelp (to_positional c a word w h).stopped
positional_stays c None word w h e = subst IsNoHelp (sym e) tt
positional_stays c (Some a) word w h e = tt

step_stays : (c : List Rule) (word : Text) (w : Walk) (h : Held) (to : Step) → IsNoName to → w.stopped ≡ None → IsNoHelp (after_step c word w h to).stopped
step_stays c word w h (next waiting) is e = subst IsNoHelp (sym e) tt
step_stays c word w h (trailing position) is e = subst IsNoHelp (sym e) tt
step_stays c word w h (subcommand name) is e = absurd is
step_stays c word w h value is e = positional_stays c _ word w h e

-- a subcommand that is accepted is not `help`
name_passes : (is disabled : Bool) (fault : Kinds) → disabled ≡ false → fault ≡ cond (is && not disabled) (DisplayHelp ∷ InvalidSubcommand ∷ []) [] → fault ≡ [] → is ≡ false
name_passes false disabled fault e is passes = refl
name_passes true false fault e is passes = cc
name_passes true true fault e is passes = cc

-- `--` stops no walk, nor does what names no subcommand
dashes_stay : (c : List Rule) (word : Text) (w : Walk) (are_dashes : Bool) (other : Held × Step) → IsNoName other.1 → w.stopped ≡ None
    → IsNoHelp (after_step c word w (cond are_dashes (w.held, trailing w.position) other).0 (cond are_dashes (w.held, trailing w.position) other).1).stopped
dashes_stay c word w true other is e = step_stays c word w w.held (trailing w.position) tt e
dashes_stay c word w false other is e = step_stays c word w other.0 other.1 is e

other_stays : (s : Shape) (named : Option Text) (w : Walk) (word : Text) → s.disable_help_subcommand ≡ false → w.stopped ≡ None → other_fault s named word w.held ≡ []
    → IsNoHelp (after_step s.rules word w (subcommand_or_other s.rules named w.waiting w.position word w.held).0 (subcommand_or_other s.rules named w.waiting w.position word w.held).1).stopped
other_stays s (Some name) w word enabled e passes = name_passes (bytes_eq name (codes "help")) s.disable_help_subcommand _ enabled refl passes
other_stays s None w word enabled e passes =
    dashes_stay s.rules word w (bytes_eq word (45 ∷ 45 ∷ [])) (long_or_other s.rules w.waiting word (long_of word) w.held) (other_names_none s.rules w.waiting word (long_of word) w.held) e

word_stays : (s : Shape) (names : Names) (is_trailing : Bool) (w : Walk) (word : Text) → s.disable_help_subcommand ≡ false → w.stopped ≡ None
    → word_fault s names is_trailing w.waiting word w.held ≡ []
    → IsNoHelp (after_step s.rules word w (word_met s.rules names is_trailing w.waiting w.position word w.held).0 (word_met s.rules names is_trailing w.waiting w.position word w.held).1).stopped
word_stays s names true w word enabled e passes = step_stays s.rules word w w.held value tt e
word_stays s names false w word enabled e passes = other_stays s (subcommand_met names w.waiting word) w word enabled e passes

-- the kinds before others are none if all are none
pub first_passes : (first then : Kinds) → or_else first then ≡ [] → first ≡ []
first_passes [] then h = refl
first_passes (k ∷ ks) then h = cc

-- neither are the others
pub last_passes : (first then : Kinds) → or_else first then ≡ [] → then ≡ []
last_passes [] then h = h
last_passes (k ∷ ks) then h = cc

turn_stays : (s : Shape) (names : Names) (w : Walk) (word : Text) (stopped : Option (Text × List Text)) → s.disable_help_subcommand ≡ false → w.stopped ≡ stopped → IsNoHelp stopped
    → turn_fault s names w word ≡ [] → IsNoHelp (walked_from s.rules names stopped w word).stopped
turn_stays s names w word (Some p) enabled e is passes = is
turn_stays s names w word None enabled e is passes =
    let turn : or_else (word_fault s names w.is_trailing w.waiting word w.held) _ ≡ [] = rw e at passes in
    word_stays s names w.is_trailing w word enabled e (first_passes _ _ turn)

-- a walk without a fault does not stop at `help`
walk_stays : (s : Shape) (names : Names) (w : Walk) (words : List Text) → s.disable_help_subcommand ≡ false → IsNoHelp w.stopped → walk_fault s names w words ≡ []
    → IsNoHelp (fold (walked s.rules names) w words).stopped
unfolding walk_fault walked
walk_stays s names w [] enabled is passes = is
walk_stays s names w (word ∷ words) enabled is passes =
    let turn = first_passes (turn_fault s names w word) _ passes in
    walk_stays s names (walked s.rules names w word) words enabled (turn_stays s names w word w.stopped enabled refl is turn) (last_passes (turn_fault s names w word) _ passes)

pub stops_elsewhere : (s : Shape) (names : Names) (h : Held) (words : List Text) → s.disable_help_subcommand ≡ false → walk_fault s names (walk_from h) words ≡ []
    → IsNoHelp (walk s.rules names h words).stopped
stops_elsewhere s names h words enabled passes = walk_stays s names (walk_from h) words enabled tt passes

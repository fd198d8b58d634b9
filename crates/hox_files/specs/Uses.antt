-- The uses of files, and which of them clash.
use Rattle.std.specs.Prelude.{◌≡◌, ◌<◌, ◌⊎◌, ◌&&◌, ◌++◌, ℕ, Bool, true, false, List, [], ◌∷◌, length, get_or, map, IfSome, if◌then◌else◌}
use Rattle.std.specs.List.{AllPairs}
use Rattle.std.specs.Str.{bytes_eq}
use Rattle.hox_files.specs.declared.pairs.Pair.{Pair}
use Rattle.hox_files.specs.declared.uses.Role.{Role}
use Rattle.hox_files.specs.declared.uses.Role.TheVariants.{Description, Tokens, In, Out, Report}
use Rattle.hox_files.specs.declared.uses.Use.{Use}
use Rattle.hox_files.specs.declared.stops.Stop.{Stop}
use Rattle.hox_files.specs.declared.stops.Stop.TheVariants.{Clash, Format, InputTwice, Memory, NoPair, Refused, Unread, Words}
use Rattle.hox_files.specs.Files.{Clashing, standard}
use Rattle.hox_files.specs.declared.uses.NamedFiles.{NamedFiles}

abbrev pub is_written : Role → Bool
is_written Description = false
is_written Tokens = false
is_written In = false
is_written Out = true
is_written Report = true

abbrev pub gives_tokens : Role → Bool
gives_tokens Description = false
gives_tokens Tokens = true
gives_tokens In = true
gives_tokens Out = false
gives_tokens Report = false

-- a use of a file, as contracts see it
pub record Used : Type 0 where
  pub role : Role
  pub channel : List ℕ
  pub file : List ℕ

abbrev pub used : Use → Used
used u = record { role = u.role; channel = u.channel.now; file = u.file.now }

abbrev pub used_for : Role → Pair → Used
used_for role pair = record { role = role; channel = pair.channel.now; file = pair.file.now }

-- the use of a file for no channel
abbrev pub use_alone : Role → List ℕ → Used
use_alone role file = record { role = role; channel = []; file = file }

-- the report's use of standard output, if it goes there
abbrev pub report_uses : Bool → List Used
report_uses is_told = if is_told then use_alone Report standard ∷ [] else []

-- the uses of a command: the description, the inputs in this role, the outputs, and the report if it goes to
-- standard output
abbrev pub uses_in : Role → List ℕ → List Pair → List Pair → Bool → List Used
uses_in role file inputs outputs is_told =
    use_alone Description file ∷ map (used_for role) inputs ++ map (used_for Out) outputs ++ report_uses is_told

-- the uses of the files that a command names
abbrev pub uses_named : NamedFiles → List Used
uses_named named = uses_in named.role named.file.now named.inputs.now named.outputs.now named.is_told

-- the tokens of one channel are read from two files
abbrev pub gives_twice : Used → Used → Bool
gives_twice u v = gives_tokens u.role && gives_tokens v.role && bytes_eq u.channel v.channel

-- both write to standard output
abbrev pub writes_output : Used → Bool
writes_output u = is_written u.role && bytes_eq u.file standard

abbrev pub writes_output_twice : Used → Used → Bool
writes_output_twice u v = writes_output u && writes_output v

-- whether two names, each written or else read, can't be used together, if known
module _ (clash : Clashing) where
  abbrev pub IsFileClash : Bool → Used → Used → Type 0
  IsFileClash is u v = IfSome (clash u.file (is_written u.role) v.file (is_written v.role)) (λ c. is ≡ c)

  -- no clash: they don't read tokens for one channel, don't both write to standard output, and their files
  -- don't clash
  pub record StandApart (u v : Used) : Type 0 where
    pub channels : gives_twice u v ≡ false
    pub outputs : writes_output_twice u v ≡ false
    pub files : IsFileClash false u v

  abbrev pub Clashes : Used → Used → Type 0
  Clashes u v = (gives_twice u v ≡ true) ⊎ (writes_output_twice u v ≡ true) ⊎ IsFileClash true u v

  -- two uses, as the code has them, don't clash
  abbrev pub AreUsesApart : Use → Use → Type 0
  AreUsesApart one other = StandApart (used one) (used other)

  -- two of them clash
  abbrev pub UsesClash : Use → Use → Type 0
  UsesClash one other = Clashes (used one) (used other)

  abbrev pub AreApart : List Used → Type 0
  AreApart = AllPairs StandApart

  pub record IsClash (uses : List Used) (one other : Used) : Type 0 where
    pub first : ℕ
    pub later : ℕ
    pub order : first < later
    pub within : later < length uses
    pub one_is : get_or uses first one ≡ one
    pub other_is : get_or uses later other ≡ other
    pub clashing : Clashes one other

  -- two of these clash, or out of memory
  abbrev pub IsMisuse : List Used → Stop → Type 0
  IsMisuse uses (Clash one other) = IsClash uses (used one) (used other)
  IsMisuse uses Memory = Unit {0}
  IsMisuse uses (NoPair option text) = ⊥
  IsMisuse uses (Format stop) = ⊥
  IsMisuse uses InputTwice = ⊥
  IsMisuse uses (Unread file error) = ⊥
  IsMisuse uses (Refused refusal) = ⊥
  IsMisuse uses (Words fault) = ⊥

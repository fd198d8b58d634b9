-- Entries in 16 bytes each.
use Rattle.std.specs.Prelude.{◌<◌, ◌^◌, ℕ, ◌==◌, Bool, true, false}
use Rattle.kpn_model.specs.declared.token.Token.{Token}
use Rattle.kpn_model.specs.declared.token.Token.TheVariants.{Word, Flag}
use Rattle.kpn_model.specs.declared.history.Entry.{Entry}
use Rattle.kpn_model.specs.declared.history.Entry.TheVariants.{Did, Grew}
use Rattle.kpn_model.specs.declared.history.Deed.TheVariants.{Took, Put, Stopped}
use Rattle.kpn_state.specs.declared.packed.Form.{Form}
use Rattle.kpn_state.specs.declared.packed.Form.TheVariants.{Took as DidTake, Put as DidPut, Stopped as DidStop, Grew as DidGrow}
use Rattle.kpn_state.specs.declared.packed.PackedEntry.{PackedEntry}

-- the numbers of process and channel fit 16 bits
abbrev pub IsSmall : Entry → Type 0
IsSmall (Did p (Took c token)) = (p < 2 ^ 16) × (c < 2 ^ 16)
IsSmall (Did p (Put c token)) = (p < 2 ^ 16) × (c < 2 ^ 16)
IsSmall (Did p Stopped) = p < 2 ^ 16
IsSmall (Grew c to) = c < 2 ^ 16

abbrev pub word_of_flag : Bool → ℕ
word_of_flag true = 1
word_of_flag false = 0

abbrev pub word_of : Token → ℕ
word_of (Word w) = w
word_of (Flag b) = word_of_flag b

abbrev pub is_flag : Token → Bool
is_flag (Word w) = false
is_flag (Flag b) = true

abbrev pub token_of : Bool → ℕ → Token
token_of false w = Word w
token_of true w = Flag (w == 1)

-- the entry of this form, with these numbers and this token
abbrev pub told_as : Form → ℕ → ℕ → ℕ → Token → Entry
told_as DidTake p c w token = Did p (Took c token)
told_as DidPut p c w token = Did p (Put c token)
told_as DidStop p c w token = Did p Stopped
told_as DidGrow p c w token = Grew c w

abbrev pub unpacked : PackedEntry → Entry
unpacked e = told_as e.form e.process e.channel e.word (token_of e.is_flag e.word)

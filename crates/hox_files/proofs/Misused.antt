-- What is asked for where two uses of files can't stand beside each other.
use Rattle.std.proofs.Common.{ℕ, Bool, List, Option, inl, inr}
use Rattle.hox_files.specs.declared.pairs.Pair.{Pair}
use Rattle.hox_files.specs.declared.stops.Stop.{Stop}
use Rattle.hox_files.specs.declared.stops.Stop.TheVariants.{Clash, Format, InputTwice, Memory, NoPair, Refused, Unread, Words}
use Rattle.hox_files.specs.Pairs.{ArePairs}
use Rattle.hox_files.specs.Requests.{AreUnpaired, IsUnasked, IsUnfetched, Want, uses_asked}
use Rattle.hox_files.specs.Uses.{IsMisuse}

module _ (contents : List ℕ → Option (List ℕ)) (clash : List ℕ → Bool → List ℕ → Bool → Option Bool) (want : Want) (token_texts output_texts : List (List ℕ)) where
  pub unasked : (tokens outputs : List Pair) → ArePairs want.formats want.unsigned token_texts tokens → ArePairs want.formats want.unsigned output_texts outputs → (stop : Stop) → IsMisuse clash (uses_asked want tokens outputs) stop → IsUnasked contents clash want token_texts output_texts stop
  unasked tokens outputs named given (Clash one other) h = (tokens, outputs, named, given, h)
  unasked tokens outputs named given Memory h = tt
  unasked tokens outputs named given (NoPair option text) h = absurd h
  unasked tokens outputs named given InputTwice h = absurd h
  unasked tokens outputs named given (Format stop) h = absurd h
  unasked tokens outputs named given (Unread file error) h = absurd h
  unasked tokens outputs named given (Refused refusal) h = absurd h
  unasked tokens outputs named given (Words fault) h = absurd h

  -- what is asked for where a text names no file, or no format, or one of no use
  pub unpaired : (stop : Stop) → AreUnpaired contents clash want token_texts output_texts stop → IsUnasked contents clash want token_texts output_texts stop
  unpaired (NoPair option text) h = h
  unpaired (Format stop) h = inl h
  unpaired Memory h = tt
  unpaired InputTwice (inl h) = absurd h
  unpaired InputTwice (inr (inl h)) = absurd h
  unpaired InputTwice (inr (inr h)) = absurd h.4
  unpaired (Clash one other) (inl h) = absurd h
  unpaired (Clash one other) (inr (inl h)) = absurd h
  unpaired (Clash one other) (inr (inr h)) = absurd h.4
  unpaired (Unread file error) (inl h) = absurd h
  unpaired (Unread file error) (inr (inl h)) = absurd h
  unpaired (Unread file error) (inr (inr h)) = absurd h.4
  unpaired (Refused refusal) (inl h) = absurd h
  unpaired (Refused refusal) (inr (inl h)) = absurd h
  unpaired (Refused refusal) (inr (inr h)) = absurd h.4
  unpaired (Words fault) (inl h) = absurd h
  unpaired (Words fault) (inr (inl h)) = absurd h
  unpaired (Words fault) (inr (inr h)) = absurd h.4

  -- what is asked for where a file of tokens can't be read, or what stands before its tokens is refused
  pub unfetched : (tokens : List Pair) → ArePairs want.formats want.unsigned token_texts tokens → (stop : Stop) → IsUnfetched contents tokens stop → IsUnasked contents clash want token_texts output_texts stop
  unfetched tokens named (Unread file error) h = (tokens, named, h)
  unfetched tokens named (Format stop) h = inr (tokens, named, h)
  unfetched tokens named Memory h = tt
  unfetched tokens named (NoPair option text) h = absurd h
  unfetched tokens named InputTwice h = absurd h
  unfetched tokens named (Clash one other) h = absurd h
  unfetched tokens named (Refused refusal) h = absurd h
  unfetched tokens named (Words fault) h = absurd h

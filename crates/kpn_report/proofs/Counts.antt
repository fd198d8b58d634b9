-- The text that is made from the counts is that of the digest.
use Rattle.std.proofs.Common.{◌≡◌, ◌<◌, ◌≤◌, ◌-◌, ⊎_elim, ℕ, zero, suc, true, false, List, [], ◌++◌, Option, Some, None, length, drop, refl, arith, append_assoc, length-append, length-drop}
use Rattle.std.proofs.lemmas.Bool.{cases_lt}
use Rattle.std.proofs.lemmas.List.{get_or_past}
use Rattle.std.proofs.lemmas.List.FromFn.{get_or-map-range_with_len, length-map-range_with_len}
use Rattle.std.specs.Prelude.{slice_index_or}
use Rattle.kpn_model.specs.declared.token.Token.{Token}
use Rattle.kpn_model.specs.declared.history.Entry.{Entry}
use Rattle.kpn_model.specs.declared.history.End.{End}
use Rattle.kpn_model.specs.declared.history.End.TheVariants.{Terminated, Deadlock, Ceiling, Budget, Memory}
use Rattle.kpn_model.specs.declared.history.Place.{Place}
use Rattle.kpn_model.specs.Network.{Family, Network, channel_of}
use Rattle.kpn_model.specs.Semantics.{State}
use Rattle.kpn_model.specs.History.{Digest, digest, each_channel, stream, put_on, taken, growths, grown}
use Rattle.kpn_model.specs.texts.Reports.{lines_upto, has_report}
use Rattle.kpn_report.specs.declared.channel_counts.ChannelCounts.{ChannelCounts}
use Rattle.kpn_report.specs.Tally.{KeepsCounts}
use Rattle.kpn_report.specs.Text.{end_line, digest_line, digest_text, report_text}
use Rattle.kpn_report.specs.Counted.{counted_line, counted_text, shown_of}

-- two appended parts are one appended whole
pub pushed : (old mid new counted shown whole : List ℕ) → mid ≡ old ++ counted → new ≡ mid ++ shown → counted ++ shown ≡ whole → new ≡ old ++ whole
pushed old mid new counted shown whole first second is = rw (second, first, append_assoc old counted shown, is)

-- the tokens of a channel are those in the digest's list, which has no item past its end
pub shown_is :
    (net : Network) (E : List Entry) (c : ℕ) (tokens : List Token) → (c < length net.channels → tokens ≡ stream net E c) → (length net.channels ≤ c → tokens ≡ [])
    → slice_index_or (each_channel net (λ b. stream net E b)) c [] ≡ tokens
shown_is net E c tokens there past =
    ⊎_elim (λ l. rw (there l) (get_or-map-range_with_len (λ b. stream net E b) 0 (length net.channels) c c [] l (omega arith)))
    (λ out. rw (past out) (get_or_past (each_channel net (λ b. stream net E b)) c [] (omega (arith, length-map-range_with_len (λ b. stream net E b) 0 (length net.channels)))))
    (cases_lt c (length net.channels))

-- lines that are the same one by one
lines_same : (f g : ℕ → List ℕ) (n : ℕ) → ((c : ℕ) → c < n → f c ≡ g c) → lines_upto f n ≡ lines_upto g n
lines_same f g zero same = refl
lines_same f g (suc n) same = rw (lines_same f g n (λ c l. same c (omega arith)), same n (omega arith))

module _ (kinds : Family) (net : Network) (E : List Entry) (M : State) where
  abbrev told : Digest
  told = digest kinds net Terminated E M

  module _ (channel_counts : List ChannelCounts) (k : KeepsCounts net E channel_counts) where
    line_is : (c : ℕ) → c < length net.channels → counted_line net channel_counts c ≡ digest_line net told c
    line_is c l =
        let put : length (stream net E c) - length (channel_of net c).tokens ≡ length (put_on E c) = omega (arith, length-append (channel_of net c).tokens (put_on E c)) in
        rw (
          k.each c l,
          get_or-map-range_with_len (λ b. stream net E b) 0 (length net.channels) c c [] l (omega arith),
          get_or-map-range_with_len (λ b. drop (length (taken E b)) (stream net E b)) 0 (length net.channels) c c [] l (omega arith),
          get_or-map-range_with_len (λ b. grown (channel_of net b).capacity (growths E) b) 0 (length net.channels) c c 0 l (omega arith),
          put,
          length-drop,
          length-append,
        )

    lines : lines_upto (counted_line net channel_counts) (length net.channels) ≡ lines_upto (digest_line net told) (length net.channels)
    lines = lines_same _ _ (length net.channels) line_is

    pub counted_all :
        (places : List Place) (steps : List ℕ) (grew : List (ℕ × ℕ)) (show : Option ℕ) → places ≡ told.places → steps ≡ told.steps → grew ≡ growths E
        → counted_text net places steps channel_counts grew (length E) ++ shown_of net E show ≡ digest_text net told show
    counted_all places steps grew None places_are steps_are grew_are = rw (places_are, steps_are, grew_are, lines)
    counted_all places steps grew (Some c) places_are steps_are grew_are = rw (places_are, steps_are, grew_are, lines)

  -- the text of a run has the lines after the first only if it came to its own end
  pub text_is : (out : List ℕ) (show : Option ℕ) (cause : End) → (has_report cause ≡ true → out ≡ end_line cause ++ digest_text net told show) → (has_report cause ≡ false → out ≡ end_line cause) → out ≡ report_text kinds net cause E M show
  text_is out show Terminated whole first = whole refl
  text_is out show Deadlock whole first = whole refl
  text_is out show Ceiling whole first = whole refl
  text_is out show Budget whole first = first refl
  text_is out show Memory whole first = first refl

-- One file more: what the files that are left say, said after it, is what those before it left.
use Rattle.std.proofs.Common.{◌≡◌, ◌<◌, ◌≤◌, ◌+◌, ℕ, suc, List, ◌∷◌, length, drop, get_or, Some, sym, subst, ap, ◌∙◌, arith}
use Rattle.std.proofs.lemmas.List.{drop_more, drop_all}
use Rattle.kpn_model.specs.declared.token.Token.{Token}
use Rattle.kpn_model.specs.Network.{Network, channel_of, number_of_channel}
use Rattle.hox_network.specs.declared.request.TokenFile.{TokenFile}
use Rattle.hox_network.specs.declared.presets.FileFault.{FileFault}
use Rattle.hox_network.specs.declared.presets.FileFault.TheVariants.{NoChannel, Record, TooMany, Memory}
use Rattle.hox_network.specs.Presets.{IsFileFault, IsBytesFault, PresetAll, Presets, Stops, most_in, with_tokens, none, one, here, later}

-- a fault of the bytes of a file whose channel is known is a fault of the file
pub of_bytes : (net : Network) (file : TokenFile) (c : ℕ) (fault : FileFault) → number_of_channel net file.channel ≡ Some c
    → IsBytesFault file.layout (channel_of net c).sort file.bytes (most_in net) fault → IsFileFault net file fault
of_bytes net file c NoChannel named h = absurd h
of_bytes net file c (Record number fault) named h = (c, named, h)
of_bytes net file c (TooMany n) named h = (c, named, h)
of_bytes net file c Memory named h = (c, named, h)

module _ (files : List TokenFile) (n : ℕ) (file : TokenFile) (within : n < length files) (at : file ≡ get_or files n file) (first now : Network) where
  next : drop n files ≡ file ∷ drop (n + 1) files
  next = drop_more files n file within ∙ ap (λ (f : TokenFile). f ∷ drop (n + 1) files) (sym at)

  abbrev Goes : Type 0
  Goes = (other : Network) → PresetAll (drop n files) now other → PresetAll files first other

  abbrev Stopped : Type 0
  Stopped = (number : ℕ) (fault : FileFault) → Stops (drop n files) now number fault → Stops files first (n + number) fault

  module _ (after : Network) (c : ℕ) (tokens : List Token) (presets : Presets now file c tokens) (is : after ≡ with_tokens now c tokens) where
    pub goes_on : Goes → (other : Network) → PresetAll (drop (n + 1) files) after other → PresetAll files first other
    goes_on goes other rest =
        goes other (subst (λ l. PresetAll l now other) (sym next) (one c tokens presets (subst (λ m. PresetAll (drop (n + 1) files) m other) is rest)))

    pub stops_on : Stopped → (number : ℕ) (fault : FileFault) → Stops (drop (n + 1) files) after number fault → Stops files first (n + 1 + number) fault
    stops_on stopped number fault rest =
        let one_more : n + suc number ≡ n + 1 + number = omega arith in
        subst (λ k. Stops files first k fault) one_more
        (stopped (suc number) fault (subst (λ l. Stops l now (suc number) fault) (sym next) (later c tokens presets (subst (λ m. Stops (drop (n + 1) files) m number fault) is rest))))

  pub stops_here : Stopped → (fault : FileFault) → IsFileFault now file fault → Stops files first n fault
  stops_here stopped fault wrong =
      let same : n + 0 ≡ n = omega arith in
      subst (λ k. Stops files first k fault) same (stopped 0 fault (subst (λ l. Stops l now 0 fault) (sym next) (here wrong)))

-- no file is left
pub none_left : (files : List TokenFile) (n : ℕ) (first now : Network) → length files ≤ n → ((other : Network) → PresetAll (drop n files) now other → PresetAll files first other) → PresetAll files first now
none_left files n first now past goes = goes now (subst (λ l. PresetAll l now now) (sym (drop_all n files past)) none)

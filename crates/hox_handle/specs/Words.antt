-- Words, their tokens, and how they enter and leave a flow.
use Rattle.std.specs.Prelude.{◌≡◌, ◌<◌, ◌≤◌, ℕ, true, false, List, [], map, length, take, drop, get_or}
use Rattle.kpn_model.specs.declared.token.Token.{Token}
use Rattle.kpn_model.specs.declared.token.Token.TheVariants.{Word, Flag}
use Rattle.kpn_model.specs.declared.token.Sort.{Sort}
use Rattle.kpn_model.specs.declared.token.Sort.TheVariants.{Flags}
use Rattle.kpn_model.specs.Network.{Family, channel_of}
use Rattle.kpn_model.specs.Semantics.{tokens, capacity}
use Rattle.kpn_flow.specs.Events.{Fed, Drained, Flows}
use Rattle.kpn_flow.specs.Flows.{FlowView, IsSameFlow, is_among}
use Rattle.hox_handle.specs.declared.answers.ReturnCode.{ReturnCode}
use Rattle.hox_handle.specs.declared.answers.ReturnCode.TheVariants.{Done, Ended, NoFlag}
use Rattle.hox_handle.specs.declared.words.Transferred.{Transferred}

-- a flag is 0 or 1
abbrev pub word_of : Token → ℕ
word_of (Word w) = w
word_of (Flag false) = 0
word_of (Flag true) = 1

-- the word is no token of this sort
abbrev pub IsNoFlag : Sort → ℕ → Type 0
IsNoFlag sort word = (sort ≡ Flags) × (1 < word)

-- why only the first n words were fed into c: these are all, or it is full; the next is no flag; it is no
-- input or has ended
abbrev pub IsFedUpTo : FlowView → ℕ → List ℕ → ℕ → ReturnCode → Type 0
IsFedUpTo s c words n Done = n < length words → capacity s.state c ≤ length (tokens s.state c)
IsFedUpTo s c words n NoFlag = (n < length words) × IsNoFlag (channel_of s.network c).sort (get_or words n 0)
IsFedUpTo s c words n Ended = (n ≡ 0) × (is_among s.unended c ≡ false)
IsFedUpTo s c words n _ = ⊥

module _ (kinds : Family) (s t : FlowView) (c : ℕ) where
  -- these words were fed into c, in order, and nothing else happened
  pub record HasFed (words : List ℕ) : Type 0 where
    pub tokens : List Token
    pub words_are : map word_of tokens ≡ words
    pub same : IsSameFlow s t
    pub counts : t.counts ≡ s.counts
    pub flows : Flows kinds s.network s.state (map (Fed c) tokens) t.state

  -- these words were drained from c, in order, and nothing else happened
  pub record HasDrained (words : List ℕ) : Type 0 where
    pub tokens : List Token
    pub words_are : map word_of tokens ≡ words
    pub same : IsSameFlow s t
    pub counts : t.counts ≡ s.counts
    pub flows : Flows kinds s.network s.state (map (Drained c) tokens) t.state

  -- the first `moved.count` of these words were fed into c, and no more for this reason
  pub record Feeds (words : List ℕ) (moved : Transferred) : Type 0 where
    pub few : moved.count ≤ length words
    pub fed : HasFed (take moved.count words)
    pub why : IsFedUpTo t c words moved.count moved.answer

  -- `count` words were drained from c to the front of the buffer, until c was empty or the buffer full
  pub record Drains (before after : List ℕ) (count : ℕ) : Type 0 where
    pub few : count ≤ length before
    pub long : length after ≡ length before
    pub drained : HasDrained (take count after)
    pub rest : drop count after ≡ drop count before
    pub empty : count < length before → tokens t.state c ≡ []

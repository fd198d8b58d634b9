-- Channels of names, one after the other.
use Rattle.std.proofs.Common.{◌≡◌, ◌≤◌, ◌<◌, ◌+◌, ℕ, zero, suc, List, [], ◌∷◌, ◌++◌, length, take, get_or, None, sym, subst, ap, ◌∙◌, arith}
use Rattle.std.specs.List.{All}
use Rattle.std.proofs.lemmas.List.Elements.{All-append}
use Rattle.std.proofs.lemmas.List.{take_all, take_more}
use Rattle.std.proofs.lemmas.Slice.Zip.{all_zipped_more}
use Rattle.kpn_model.specs.Network.{Network, number_of_channel}
use Rattle.hox_network.specs.declared.request.StreamAs.{StreamAs}
use Rattle.hox_network.specs.Preparing.{LacksChannel}
use Rattle.hox_run.specs.declared.shown.ChannelAs.{ChannelAs}
use Rattle.hox_run.specs.Cuts.{IsWithin}
use Rattle.hox_run.specs.Serving.{AreNamed, IsNamed, names_of}

-- a way of writing is given, by which its type is known
module _ {W : Type 0} (way : W) (net : Network) (texts : List (StreamAs W)) where
  -- one name more
  pub named_more : (k : ℕ) (text : StreamAs W) (channels more : List (ChannelAs W)) (channel : ChannelAs W) → k < length texts → text ≡ get_or texts k text → AreNamed net (take k texts) channels
      → more ≡ channels ++ channel ∷ [] → IsNamed net text channel → AreNamed net (take (k + 1) texts) more
  named_more k text channels more channel within at all pushed here =
      let next : take (k + 1) texts ≡ take k texts ++ text ∷ [] = take_more texts k text within ∙ ap (λ (t : StreamAs W). take k texts ++ t ∷ []) (sym at) in
      subst (λ l. AreNamed net l more) (sym next) (subst (λ l. AreNamed net (take k texts ++ text ∷ []) l) (sym pushed) (all_zipped_more (IsNamed net) (take k texts) channels text channel all here))

  -- one channel more that the network has
  pub within_more : (channels more : List (ChannelAs W)) (channel : ChannelAs W) → All (IsWithin net) channels → more ≡ channels ++ channel ∷ [] → IsWithin net channel → All (IsWithin net) more
  within_more channels more channel all pushed here = subst (All (IsWithin net)) (sym pushed) (All-append (IsWithin net) channels (channel ∷ []) all (one here))
    where
      one : IsWithin net channel → All (IsWithin net) (channel ∷ [])
      one h zero d below = h
      one h (suc k) d below = absurd (omega (arith, below))

  -- all names
  pub named_all : (k : ℕ) (channels : List (ChannelAs W)) → length texts ≤ k → AreNamed net (take k texts) channels → AreNamed net texts channels
  named_all k channels past all = subst (λ l. AreNamed net l channels) (take_all k texts past) all

-- the name at a place
name_at : {W : Type 0} (texts : List (StreamAs W)) (k : ℕ) (text : StreamAs W) → k < length texts → text ≡ get_or texts k text → get_or (names_of texts) k [] ≡ text.channel
name_at [] k text within at = absurd (omega (arith, within))
name_at {W = W} (t ∷ ts) zero text within at = ap (λ (x : StreamAs W). x.channel) (sym at)
name_at (t ∷ ts) (suc k) text within at = name_at ts k text (omega (arith, within)) at

long : {W : Type 0} (texts : List (StreamAs W)) (k : ℕ) → k < length texts → k < length (names_of texts)
long [] k within = within
long (t ∷ ts) zero within = omega arith
long (t ∷ ts) (suc k) within = omega (arith, long ts k (omega (arith, within)))

-- no channel has it
pub lacks : {W : Type 0} (way : W) (net : Network) (texts : List (StreamAs W)) (k : ℕ) (text : StreamAs W) → k < length texts → text ≡ get_or texts k text → number_of_channel net text.channel ≡ None → LacksChannel net (names_of texts) k
lacks way net texts k text within at none = (long texts k within, ap (number_of_channel net) (name_at texts k text within at) ∙ none)

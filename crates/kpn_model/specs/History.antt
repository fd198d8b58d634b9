-- What is read off a history.
use Rattle.std.specs.Prelude.{◌≡◌, ◌⊎◌, ◌++◌, ℕ, ◌==◌, if◌then◌else◌, List, [], ◌∷◌, Option, Some, None, length, drop, map, flat_map}
use Rattle.std.specs.List.{range_with_len}
use Rattle.kpn_model.specs.declared.token.Token.{Token}
use Rattle.kpn_model.specs.declared.kinds.Act.{Act}
use Rattle.kpn_model.specs.declared.kinds.Act.TheVariants.{Read, Write, Stop}
use Rattle.kpn_model.specs.declared.kinds.Answer.{Answer}
use Rattle.kpn_model.specs.declared.history.Deed.{Deed}
use Rattle.kpn_model.specs.declared.history.Deed.TheVariants.{Took, Put}
use Rattle.kpn_model.specs.declared.history.Entry.{Entry}
use Rattle.kpn_model.specs.declared.history.Entry.TheVariants.{Did, Grew}
use Rattle.kpn_model.specs.declared.history.End.{End}
use Rattle.kpn_model.specs.declared.history.Place.{Place}
use Rattle.kpn_model.specs.declared.history.Place.TheVariants.{Stopped, Reads, Writes}
use Rattle.kpn_model.specs.Network.{Family, Network, channel_of, in_of, out_of}
use Rattle.kpn_model.specs.Semantics.{State, wants}

-- the deed of an entry, if p did it
abbrev pub deed_by : ℕ → Entry → List Deed
deed_by p (Did q d) = if q == p then d ∷ [] else []
deed_by p (Grew c to) = []

abbrev pub deeds : List Entry → ℕ → List Deed
deeds E p = flat_map (deed_by p) E

-- the token that a deed put on c, if it did
abbrev pub put_by_deed : ℕ → Deed → List Token
put_by_deed c (Put b t) = if b == c then t ∷ [] else []
put_by_deed c _ = []

-- the token that an entry put on c, if it did
abbrev pub put_by_entry : ℕ → Entry → List Token
put_by_entry c (Did p d) = put_by_deed c d
put_by_entry c (Grew b to) = []

abbrev pub put_on : List Entry → ℕ → List Token
put_on E c = flat_map (put_by_entry c) E

-- what went through c: its start tokens, then those put on it
abbrev pub stream : Network → List Entry → ℕ → List Token
stream net E c = (channel_of net c).tokens ++ put_on E c

-- the token that a deed took from c, if it did
abbrev pub taken_by_deed : ℕ → Deed → List Token
taken_by_deed c (Took b t) = if b == c then t ∷ [] else []
taken_by_deed c _ = []

-- the token that an entry took from c, if it did
abbrev pub taken_by_entry : ℕ → Entry → List Token
taken_by_entry c (Did p d) = taken_by_deed c d
taken_by_entry c (Grew b to) = []

abbrev pub taken : List Entry → ℕ → List Token
taken E c = flat_map (taken_by_entry c) E

-- the channel that grew by an entry and its new capacity, if it is a growth
abbrev pub growth_of : Entry → List (ℕ × ℕ)
growth_of (Grew c to) = (c, to) ∷ []
growth_of (Did p d) = []

abbrev pub growths : List Entry → List (ℕ × ℕ)
growths E = flat_map growth_of E

-- the capacity of c after these growths, from n
abbrev pub grown : ℕ → List (ℕ × ℕ) → ℕ → ℕ
grown n [] c = n
grown n (g ∷ gs) c = if g.0 == c then grown g.1 gs c else grown n gs c

pub record Digest : Type 0 where
  pub cause : End
  pub places : List Place
  pub steps : List ℕ
  pub capacities : List ℕ
  pub streams : List (List Token)
  pub rests : List (List Token)
  pub growths : List (ℕ × ℕ)
  pub entries : ℕ

-- `Stopped` also if no channel is at the port, which no valid network has
abbrev pub reads : Option ℕ → Place
reads None = Stopped
reads (Some c) = Reads c

abbrev pub writes : Option ℕ → Place
writes None = Stopped
writes (Some c) = Writes c

abbrev pub place_of_act : Network → ℕ → Act → Place
place_of_act net p Stop = Stopped
place_of_act net p (Read k) = reads (in_of net p k)
place_of_act net p (Write k t) = writes (out_of net p k)

abbrev pub place_of : Network → ℕ → Option Answer → Place
place_of net p None = Stopped
place_of net p (Some a) = place_of_act net p a.act

abbrev pub each_process : {X : Type 0} → Network → (ℕ → X) → List X
each_process net f = map f (range_with_len 0 (length net.processes))

abbrev pub each_channel : {X : Type 0} → Network → (ℕ → X) → List X
each_channel net f = map f (range_with_len 0 (length net.channels))

-- the report of a run E from the start to M, which is over for this cause
abbrev pub digest : Family → Network → End → List Entry → State → Digest
digest kinds net cause E M =
    record {
      cause = cause;
      places = each_process net (λ p. place_of net p (wants kinds net M p));
      steps = each_process net (λ p. length (deeds E p));
      capacities = each_channel net (λ c. grown (channel_of net c).capacity (growths E) c);
      streams = each_channel net (λ c. stream net E c);
      rests = each_channel net (λ c. drop (length (taken E c)) (stream net E c));
      growths = growths E;
      entries = length E;
    }

abbrev pub IsPrefixOf : {X : Type 0} → List X → List X → Type 0
IsPrefixOf {X} xs ys = (rest : List X) × (xs ++ rest ≡ ys)

abbrev pub ArePrefixComparable : {X : Type 0} → List X → List X → Type 0
ArePrefixComparable xs ys = IsPrefixOf xs ys ⊎ IsPrefixOf ys xs

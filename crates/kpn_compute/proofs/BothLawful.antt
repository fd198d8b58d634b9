-- The laws of two families as one.
use Rattle.std.proofs.Common.{◌≡◌, ℕ, ◌<◌, ◌==◌, if◌then◌else◌, Bool, true, false, List, Option, Some, None, IsSome, option_and_then, refl, sym, ◌∙◌, ap, subst, arith}
use Rattle.kpn_model.specs.declared.token.Token.{Token}
use Rattle.kpn_model.specs.declared.kinds.Card.{Card}
use Rattle.kpn_model.specs.declared.kinds.Signature.{Signature}
use Rattle.kpn_model.specs.declared.kinds.Act.{Act}
use Rattle.kpn_model.specs.declared.kinds.Act.TheVariants.{Read, Write, Stop}
use Rattle.kpn_model.specs.Network.{Family, Admits}
use Rattle.kpn_model.specs.Lawful.{sort_of, Fits, CardFits, port_at, NamesPort, AfterAct, LeadsOn, AreLawful}
use Rattle.kpn_compute.specs.declared.both.TheConstants.{NO_KIND}
use Rattle.kpn_compute.specs.Both.{is_first, own_card, both_ports, both_family, BothAdmit, picked}

-- whether an act names a port of a card depends on the card's ports alone
names_same : (s t : Card → Option Signature) (c d : Card) (act : Act) → s c ≡ t d → NamesPort s c act → NamesPort t d act
names_same s t c d Stop e named = named
names_same s t c d (Read k) e named = subst (λ (ports : Option Signature). (k < 3) × IsSome (option_and_then (λ p. port_at p.ins k) ports)) e named
names_same s t c d (Write k token) e named = subst (λ (ports : Option Signature). (k < 3) × Fits token × (option_and_then (λ p. port_at p.outs k) ports ≡ Some (sort_of token))) e named

-- and so does what may follow it
follows_same : (s t : Card → Option Signature) (a b : Admits) (c d : Card) (next : List ℕ) (act : Act) (token : Token) → s c ≡ t d → ((last : Option Token) → a c next last → b d next last) → AfterAct s a c next act token → AfterAct t b d next act token
follows_same s t a b c d next Stop token e admits after = after
follows_same s t a b c d next (Read k) token e admits after = λ sort fits. admits (Some token) (after (ap (λ ports. option_and_then (λ (p : Signature). port_at p.ins k) ports) e ∙ sort) fits)
follows_same s t a b c d next (Write k written) token e admits after = admits None after

-- a card that fits has a fitting card in its own family
own_fits : (card : Card) → CardFits card → CardFits (own_card card)
own_fits card fits = record { kind = omega (arith, fits.kind); three = fits.three; args = fits.args }

-- a card with ports is of some kind
of_some_kind : (x : Bool) (ports : Option Signature) → IsSome (if x then None else ports) → (if x then None else ports) ≡ ports
of_some_kind true ports signed = cc
of_some_kind false ports signed = refl

module _ (s t : Card → Option Signature) (a b : Admits) (f g : Family) (first : AreLawful s a f) (second : AreLawful t b g) where
  -- the ports of a card are its own family's
  ports_of : (card : Card) (x : Bool) → is_first card ≡ x → IsSome (both_ports s t card) → both_ports s t card ≡ (if x then s else t) (own_card card)
  ports_of card x e signed = of_some_kind (card.kind == NO_KIND) ((if is_first card then s else t) (own_card card)) signed ∙ ap (λ (y : Bool). (if y then s else t) (own_card card)) e

  own_signed : (card : Card) (x : Bool) → is_first card ≡ x → IsSome (both_ports s t card) → IsSome ((if x then s else t) (own_card card))
  own_signed card x e signed = subst (λ (ports : Option Signature). IsSome ports) (ports_of card x e signed) signed

  -- a card is admitted if its own family admits it
  admitted_by : (card : Card) (x : Bool) (local : List ℕ) (last : Option Token) → is_first card ≡ x → picked x (a (own_card card) local last) (b (own_card card) local last) → BothAdmit a b card local last
  admitted_by card x local last e admitted = subst (λ (y : Bool). picked y (a (own_card card) local last) (b (own_card card) local last)) (sym e) admitted

  names : (card : Card) (x : Bool) (local : List ℕ) (last : Option Token) → is_first card ≡ x → CardFits card → IsSome (both_ports s t card) → picked x (a (own_card card) local last) (b (own_card card) local last) → NamesPort (both_ports s t) card ((if x then f else g).answer (own_card card) local last).act
  names card true local last e fits signed admitted = names_same s (both_ports s t) (own_card card) card _ (sym (ports_of card true e signed)) (first.names_port (own_card card) local last (own_fits card fits) (own_signed card true e signed) admitted)
  names card false local last e fits signed admitted = names_same t (both_ports s t) (own_card card) card _ (sym (ports_of card false e signed)) (second.names_port (own_card card) local last (own_fits card fits) (own_signed card false e signed) admitted)

  leads : (card : Card) (x : Bool) (local : List ℕ) (last : Option Token) (token : Token) → is_first card ≡ x → CardFits card → IsSome (both_ports s t card) → picked x (a (own_card card) local last) (b (own_card card) local last) → LeadsOn (both_ports s t) (BothAdmit a b) card ((if x then f else g).answer (own_card card) local last) token
  leads card true local last token e fits signed admitted =
      follows_same s (both_ports s t) a (BothAdmit a b) (own_card card) card _ _ token (sym (ports_of card true e signed)) (λ then_last. admitted_by card true _ then_last e) (first.leads_on (own_card card) local last token (own_fits card fits) (own_signed card true e signed) admitted)
  leads card false local last token e fits signed admitted =
      follows_same t (both_ports s t) b (BothAdmit a b) (own_card card) card _ _ token (sym (ports_of card false e signed)) (λ then_last. admitted_by card false _ then_last e) (second.leads_on (own_card card) local last token (own_fits card fits) (own_signed card false e signed) admitted)

  starts : (card : Card) (x : Bool) → is_first card ≡ x → CardFits card → IsSome (both_ports s t card) → BothAdmit a b card ((if x then f else g).start (own_card card)) None
  starts card true e fits signed = admitted_by card true _ None e (first.starts (own_card card) (own_fits card fits) (own_signed card true e signed))
  starts card false e fits signed = admitted_by card false _ None e (second.starts (own_card card) (own_fits card fits) (own_signed card false e signed))

  -- two lawful families are lawful together
  pub both_lawful : AreLawful (both_ports s t) (BothAdmit a b) (both_family f g)
  both_lawful =
      record {
        names_port = λ card local last fits signed admitted. names card (is_first card) local last refl fits signed admitted;
        leads_on = λ card local last token fits signed admitted. leads card (is_first card) local last token refl fits signed admitted;
        starts = λ card fits signed. starts card (is_first card) refl fits signed;
      }

-- The laws of filters.
use Rattle.std.proofs.Common.{◌≡◌, ℕ, Bool, true, false, List, [], ◌∷◌, length, Option, Some, None, IsSome, refl, arith}
use Rattle.std.specs.List.{All}
use Rattle.kpn_model.specs.declared.token.Token.{Token}
use Rattle.kpn_model.specs.declared.token.Token.TheVariants.{Word, Flag}
use Rattle.kpn_model.specs.declared.kinds.Card.{Card}
use Rattle.kpn_model.specs.Lawful.{CardFits, NamesPort, LeadsOn, AreLawful}
use Rattle.kpn_compute.specs.Filters.{ports_if, filter_ports, filter_answer, filter_family, IsWord, AreKept, FilterAdmits, OfEachCard, OfAllKept, KeepWords}

-- what holds of three words written out holds of a list of three
of_three : (P : List ℕ → Type 0) (xs : List ℕ) → length xs ≡ 3 → All IsWord xs → ((x y z : ℕ) → IsWord x → IsWord y → IsWord z → P (x ∷ y ∷ z ∷ [])) → P xs
of_three P [] three words holds = absurd (omega (arith, three))
of_three P (x ∷ []) three words holds = absurd (omega (arith, three))
of_three P (x ∷ y ∷ []) three words holds = absurd (omega (arith, three))
of_three P (x ∷ y ∷ z ∷ []) three words holds = holds x y z (words 0 0 (omega arith)) (words 1 0 (omega arith)) (words 2 0 (omega arith))
of_three P (x ∷ y ∷ z ∷ u ∷ us) three words holds = absurd (omega (arith, three))

pub each_card : (P : Card → Type 0) → OfEachCard P → (card : Card) → CardFits card → P card
each_card P holds card fits = of_three (λ args. P (record { kind = card.kind; args = args })) card.args fits.three fits.args (λ x y z. holds card.kind x y z fits.kind)

pub all_kept : (P : List ℕ → Type 0) → OfAllKept P → (kept : List ℕ) → AreKept kept → P kept
all_kept P holds [] words = absurd words
all_kept P holds (a ∷ []) words = absurd words
all_kept P holds (a ∷ b ∷ []) words = absurd words
all_kept P holds (a ∷ b ∷ c ∷ []) words = absurd words
all_kept P holds (a ∷ b ∷ c ∷ d ∷ []) words = holds a b c d words.0 words.1 words.2 words.3
all_kept P holds (a ∷ b ∷ c ∷ d ∷ e ∷ es) words = absurd words

-- a card that has ports is accepted
accepted : (x : Bool) → IsSome (ports_if x) → x ≡ true
accepted true signed = refl
accepted false signed = signed

module _ (accepts : Card → Bool) (start : Card → List ℕ) (step : Card → List ℕ → ℕ → List ℕ × ℕ) (law : KeepWords accepts start step) where
  -- a step from words gives words
  steps : (card : Card) (kept : List ℕ) (w : ℕ) → CardFits card → accepts card ≡ true → AreKept kept → IsWord w → AreKept (step card kept w).0 × IsWord (step card kept w).1
  steps card kept w fits taken words word =
      all_kept (λ from. (read : ℕ) → IsWord read → AreKept (step card from read).0 × IsWord (step card from read).1)
      (each_card (λ c. accepts c ≡ true → OfAllKept (λ from. (read : ℕ) → IsWord read → AreKept (step c from read).0 × IsWord (step c from read).1)) law.after_word card fits taken)
      kept words w word

  names : (card : Card) (local : List ℕ) (last : Option Token) → CardFits card → accepts card ≡ true → FilterAdmits local last → NamesPort (filter_ports accepts) card (filter_answer (step card) local last).act
  names card local None fits taken admitted = rw taken (omega arith, refl)
  names card local (Some (Word w)) fits taken admitted = rw taken (omega arith, (steps card local w fits taken admitted.0 admitted.1).1, refl)
  names card local (Some (Flag f)) fits taken admitted = absurd admitted

  leads : (card : Card) (local : List ℕ) (last : Option Token) (token : Token) → CardFits card → accepts card ≡ true → FilterAdmits local last → LeadsOn (filter_ports accepts) (λ _. FilterAdmits) card (filter_answer (step card) local last) token
  leads card local None (Word w) fits taken admitted = λ sort word. (admitted, word)
  leads card local None (Flag f) fits taken admitted = λ sort _. let sorts = rw taken at sort in cc
  leads card local (Some (Word w)) token fits taken admitted = (steps card local w fits taken admitted.0 admitted.1).0
  leads card local (Some (Flag f)) token fits taken admitted = absurd admitted

  -- filters that keep words are lawful
  pub filtered_lawful : AreLawful (filter_ports accepts) (λ _. FilterAdmits) (filter_family start step)
  filtered_lawful =
      record {
        names_port = λ card local last fits signed admitted. names card local last fits (accepted (accepts card) signed) admitted;
        leads_on = λ card local last token fits signed admitted. leads card local last token fits (accepted (accepts card) signed) admitted;
        starts = λ card fits signed. each_card (λ c. accepts c ≡ true → AreKept (start c)) law.at_start card fits (accepted (accepts card) signed);
      }

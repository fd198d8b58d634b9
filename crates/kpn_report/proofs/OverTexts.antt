-- The text of a run that is over.
use Rattle.std.proofs.Common.{◌≡◌, ◌++◌, ℕ, List, Option, refl, sym, ap, ◌∙◌}
use Rattle.kpn_model.specs.declared.history.Entry.{Entry}
use Rattle.kpn_model.specs.declared.history.End.{End}
use Rattle.kpn_model.specs.declared.history.End.TheVariants.{Terminated, Deadlock, Ceiling, Budget, Memory}
use Rattle.kpn_model.specs.Network.{Family, Network}
use Rattle.kpn_model.specs.Semantics.{State}
use Rattle.kpn_model.specs.Endings.{IsOver, IsFinal}
use Rattle.kpn_model.specs.History.{Digest, digest}
use Rattle.kpn_model.specs.Determinacy.{OneDigest}
use Rattle.kpn_report.specs.Text.{end_line, digest_text, report_text}

module _ (kinds : Family) (net : Network) where
  -- the text of a run that is over, from its digest
  abbrev text_of : Option ℕ → Digest → List ℕ
  text_of channel d = end_line d.cause ++ digest_text net d channel

  over_text : (cause : End) (E : List Entry) (M : State) (channel : Option ℕ) → IsOver kinds net M cause → report_text kinds net cause E M channel ≡ text_of channel (digest kinds net cause E M)
  over_text Terminated E M channel over = refl
  over_text Deadlock E M channel over = refl
  over_text Ceiling E M channel over = refl
  over_text Budget E M channel over = elim over [ ]
  over_text Memory E M channel over = elim over [ ]

  -- two runs that are over have one text
  pub one_text : OneDigest kinds → (E F : List Entry) (M N : State) (a b : End) (channel : Option ℕ) → IsFinal kinds net E M a → IsFinal kinds net F N b → report_text kinds net a E M channel ≡ report_text kinds net b F N channel
  one_text one E F M N a b channel e f =
      over_text a E M channel e.over ∙ ap (text_of channel) (one net E F M N a b e f) ∙ sym (over_text b F N channel f.over)

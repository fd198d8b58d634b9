-- The texts of files, one after the other.
use Rattle.std.proofs.Common.{◌≡◌, ◌<◌, ◌≤◌, ◌+◌, ◌++◌, ◌∷◌, [], ℕ, List, append_assoc, drop, length, min, take, ◌-◌, ap, ap₂, sym, ◌∙◌, arith, rules}
use Rattle.std.proofs.lemmas.Bool.{ne_eqb}
use Rattle.std.proofs.lemmas.List.{append-nil, length-drop, take_all}
use Rattle.hox_execute.specs.Reports.{file_text, file_texts}
use Rattle.hox_execute.proofs.Grouped.{no_text_left, text_left, texts_end}
use Rattle.hox_execute.proofs.texts.file_texts.Goals.{then-pairs-k-eq0+in_ok-file_text+in_ok-push, else-pairs-k-eq0}
use Rattle.hox_execute.proofs.texts.file_texts.Goals as goal

pub loop-k-preserved : goal.loop-k-preserved
loop-k-preserved c =
    let l = c.loop-k in
    let rate = c.args.rate in
    let pairs = c.args.pairs.now in
    let files = c.args.files.now in
    let within : l.k < length pairs = omega arith in
    let among : l.k < length files = omega arith in
    let later = file_texts rate (drop (l.k + 1) pairs) (drop (l.k + 1) files) in
    elim c.if-pairs-k-eq0.branch [
      | then-pairs-k-eq0+in_ok-file_text+in_ok-push w ↦
          let text = w.in_ok-file_text.field-0 in
          let next = text_left pairs files l.k _ within among rate w.if-pairs-k-eq0.true in
          let pushed : c.if-pairs-k-eq0.texts.items ≡ l.texts.items ++ text ∷ [] = search rules in
          let ps : take (length pairs - l.k) (drop l.k pairs) ≡ drop l.k pairs = take_all (length pairs - l.k) (drop l.k pairs) (omega (arith, length-drop l.k pairs)) in
          let fs : take (length files - l.k) (drop l.k files) ≡ drop l.k files = take_all (length files - l.k) (drop l.k files) (omega (arith, length-drop l.k files)) in
          let same : text ≡ file_text rate (drop l.k pairs) (drop l.k files) = w.in_ok-file_text.ensures ∙ ap₂ (file_text rate) ps fs in
          ap (λ (x : List (List ℕ)). x ++ later) pushed ∙ append_assoc l.texts.items (text ∷ []) later ∙ ap (λ (t : List ℕ). l.texts.items ++ t ∷ later) same
          ∙ ap (λ (x : List (List ℕ)). l.texts.items ++ x) (sym next) ∙ l.invariant
      | else-pairs-k-eq0 w ↦
          let next = no_text_left pairs files l.k _ within among rate (ne_eqb _ 0 w.if-pairs-k-eq0.false) in
          search rules
    ]

pub returns : goal.returns
returns c =
    let texts = c.loop-k.texts.items in
    let past : min (length c.args.pairs.now) (length c.args.files.now) ≤ c.loop-k.k = omega arith in
    sym (append-nil texts) ∙ sym (ap (λ (l : List (List ℕ)). texts ++ l) (texts_end c.args.rate c.args.pairs.now c.args.files.now c.loop-k.k past)) ∙ c.loop-k.invariant

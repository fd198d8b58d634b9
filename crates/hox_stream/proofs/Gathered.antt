-- The tokens of many records at once: what is gathered is what the records say.
use Rattle.std.proofs.Common.{◌≡◌, ◌<◌, ◌≤◌, ◌+◌, ◌++◌, ◌⊎◌, inl, inr, ⊎_elim, ℕ, zero, suc, false, List, [], ◌∷◌, Option, Some, None, length, length-append, length-drop, take, drop, refl, sym, ap, ◌∙◌, subst, arith}
use Rattle.std.specs.Prelude.{set, All}
use Rattle.std.specs.Io.Iter.{u64_saturate}
use Rattle.std.specs.Io.KnownBytes.{prepend_known}
use Rattle.std.proofs.lemmas.Bool.{cases_lt}
use Rattle.std.proofs.lemmas.List.{drop-drop, get_or-set_other, get_or-set_same, take-set-le, take_more_set}
use Rattle.std.proofs.lemmas.List.Elements.{All-nil, All-push}
use Rattle.kpn_model.specs.declared.token.Sort.{Sort}
use Rattle.kpn_model.specs.declared.token.Token.{Token}
use Rattle.kpn_model.specs.Valid.{IsOfSort}
use Rattle.kpn_tokens.specs.declared.layouts.Layout.{Layout}
use Rattle.hox_stream.specs.declared.cutting.FirstRecord.TheVariants.{Record}
use Rattle.hox_stream.specs.Cutting.{IsFirstRecord, Leads, Passes}
use Rattle.hox_stream.specs.Gathering.{Gathers, LeadsOn, end_of}
use Rattle.hox_stream.specs.Ports.{IsNotRead, Takes}
use Rattle.hox_stream.specs.Views.{InletView}
use Rattle.hox_stream.proofs.Counted.{counts_as}
use Rattle.hox_stream.proofs.Pieces.{leads_both, leads_none, passes_record}

module _ (layout : Layout) (sort : Sort) (text : List ℕ) where
  -- nothing is gathered
  pub gathers_none : (tokens : List Token) (ends : List ℕ) → Gathers layout sort text tokens ends 0
  gathers_none tokens ends = record {
    within = λ k few. within k few;
    leads = λ k few. leads k few;
    sorts = All-nil (IsOfSort sort);
  }
    where
      within : (k : ℕ) → k ≤ 0 → end_of ends k ≤ length text
      within zero few = omega arith
      within (suc k) few = absurd (omega (arith, few))

      leads : (k : ℕ) → k ≤ 0 → LeadsOn layout sort text (drop (end_of ends k) text) (take k tokens)
      leads zero few = λ on. leads_none layout sort (text ++ on)
      leads (suc k) few = absurd (omega (arith, few))

  -- the record behind the first ones says one more
  leads_more : (end used : ℕ) (tokens : List Token) (token : Token) → LeadsOn layout sort text (drop end text) tokens → IsFirstRecord layout sort (drop end text) false (Record (Some token) used)
      → LeadsOn layout sort text (drop (end + used) text) (tokens ++ token ∷ [])
  leads_more end used tokens token first next on =
      let step : Leads layout sort (drop end text ++ on) (drop used (drop end text) ++ on) (token ∷ []) 1 = passes_record layout sort (drop end text) (Some on) false (Some token) used next (λ e. cc) in
      let both = leads_both layout sort (text ++ on) (drop end text ++ on) (drop used (drop end text) ++ on) tokens (token ∷ []) (length tokens) 1 (first on) step in
      let many : length tokens + 1 ≡ length (tokens ++ token ∷ []) = omega (arith, length-append tokens (token ∷ [])) in
      subst (λ n. Leads layout sort (text ++ on) (drop (end + used) text ++ on) (tokens ++ token ∷ []) n) many
      (subst (λ l. Leads layout sort (text ++ on) (l ++ on) (tokens ++ token ∷ []) (length tokens + 1)) (drop-drop used end text) both)

  module _ (tokens : List Token) (ends : List ℕ) (count end used : ℕ) (token : Token) (h : Gathers layout sort text tokens ends count) (at : end ≡ end_of ends count)
      (room : count < length tokens) (places : count < length ends) (next : IsFirstRecord layout sort (drop end text) false (Record (Some token) used)) (of : IsOfSort sort token) where
    pub new_end : end_of (set ends count (end + used)) (count + 1) ≡ end + used
    new_end = let one : count + 1 ≡ suc count = omega arith in ap (λ n. end_of (set ends count (end + used)) n) one ∙ get_or-set_same ends count (end + used) 0 places

    old_end : (k : ℕ) → k ≤ count → end_of (set ends count (end + used)) k ≡ end_of ends k
    old_end zero few = refl
    old_end (suc k) few = get_or-set_other ends count k (end + used) 0 (λ e. absurd (omega (arith, e, few)))

    old_tokens : (k : ℕ) → k ≤ count → take k (set tokens count token) ≡ take k tokens
    old_tokens k few = take-set-le k tokens count token few

    new_tokens : take (count + 1) (set tokens count token) ≡ take count tokens ++ token ∷ []
    new_tokens = take_more_set tokens count token room

    pub end_within : end + used ≤ length text
    end_within =
        let first : end ≤ length text = subst (λ n. n ≤ length text) (sym at) (h.within count (omega arith)) in
        omega (arith, first, next.3, length-drop end text)

    more : LeadsOn layout sort text (drop (end + used) text) (take count tokens ++ token ∷ [])
    more = leads_more end used (take count tokens) token (subst (λ n. LeadsOn layout sort text (drop n text) (take count tokens)) (sym at) (h.leads count (omega arith))) next

    pub gathers_more : Gathers layout sort text (set tokens count token) (set ends count (end + used)) (count + 1)
    gathers_more = record {
      within = λ k few. ⊎_elim
          (λ (old : k ≤ count). subst (λ n. n ≤ length text) (sym (old_end k old)) (h.within k old))
          (λ (new : k ≡ count + 1). subst (λ j. end_of (set ends count (end + used)) j ≤ length text) (sym new) (subst (λ n. n ≤ length text) (sym new_end) end_within))
          (old_or_new k few);
      leads = λ k few. ⊎_elim
          (λ (old : k ≤ count).
          subst (λ n. LeadsOn layout sort text (drop n text) (take k (set tokens count token))) (sym (old_end k old)) (subst (λ l. LeadsOn layout sort text (drop (end_of ends k) text) l) (sym (old_tokens k old)) (h.leads k old)))
          (λ (new : k ≡ count + 1).
          subst (λ j. LeadsOn layout sort text (drop (end_of (set ends count (end + used)) j) text) (take j (set tokens count token))) (sym new)
          (subst (λ n. LeadsOn layout sort text (drop n text) (take (count + 1) (set tokens count token))) (sym new_end) (subst (λ l. LeadsOn layout sort text (drop (end + used) text) l) (sym new_tokens) more)))
          (old_or_new k few);
      sorts = subst (λ l. All (IsOfSort sort) l) (sym new_tokens) (All-push (IsOfSort sort) (take count tokens) token h.sorts of);
    }
      where
        old_or_new : (k : ℕ) → k ≤ count + 1 → (k ≤ count) ⊎ (k ≡ count + 1)
        old_or_new k few = ⊎_elim (λ (below : k < count + 1). inl (omega (arith, below))) (λ (above : count + 1 ≤ k). inr (omega (arith, above, few))) (cases_lt k (count + 1))

-- a view of a source of which the first records were taken, so many, each of which says a token
abbrev pub passed_by : InletView → ℕ → ℕ → InletView
passed_by p used count = record p { kept = drop used p.kept; records = u64_saturate (p.records + count); tokens = u64_saturate (p.tokens + count) }

leads_known : (layout : Layout) (sort : Sort) (kept left : List ℕ) (remaining : Option (List ℕ)) (tokens : List Token) → LeadsOn layout sort kept left tokens
    → Passes layout sort (prepend_known kept remaining) (prepend_known left remaining) tokens (length tokens)
leads_known layout sort kept left None tokens h = tt
leads_known layout sort kept left (Some on) tokens h = h on

takes_passed_by : (p : InletView) (used count : ℕ) (tokens : List Token) → LeadsOn p.layout p.sort p.kept (drop used p.kept) tokens → count ≡ length tokens → Takes p (passed_by p used count) tokens
takes_passed_by p used count tokens h many = record {
  channel = refl;
  layout = refl;
  sort = refl;
  counted = counts_as p.tokens (u64_saturate (p.tokens + count)) (length tokens) (ap (λ n. u64_saturate (p.tokens + n)) many);
  records = length tokens;
  counted_records = counts_as p.records (u64_saturate (p.records + count)) (length tokens) (ap (λ n. u64_saturate (p.records + n)) many);
  passes = leads_known p.layout p.sort p.kept (drop used p.kept) p.remaining tokens h;
  held = λ few. omega (arith, few, length-drop used p.kept);
}

pub takes_gathered : (p q : InletView) (used count : ℕ) (tokens : List Token) → LeadsOn p.layout p.sort p.kept (drop used p.kept) tokens → count ≡ length tokens → q ≡ passed_by p used count → Takes p q tokens
takes_gathered p q used count tokens h many e = subst (λ (r : InletView). Takes p r tokens) (sym e) (takes_passed_by p used count tokens h many)

pub not_read_by : (p q : InletView) (used count : ℕ) → q ≡ passed_by p used count → IsNotRead p q
not_read_by p q used count e = subst (λ (r : InletView). IsNotRead p r) (sym e) (record { kept = omega (arith, length-drop used p.kept); remaining = refl; is_over = refl })

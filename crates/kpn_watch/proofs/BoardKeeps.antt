-- Each step keeps the rule between the word and what the seats have seen.
use Rattle.std.proofs.Common.{◌≡◌, ◌≢◌, ℕ, zero, suc, ◌^◌, ◌<◌, List, [], ◌∷◌, ◌++◌, length, set, refl, sym, ap, ◌∙◌, subst, ⊎_elim, arith}
use mathlib.Core.Option.{none, some, some-ne-none, some-injective}
use lib.ListN.{get_elem?}
use Rattle.std.specs.Prelude.{slice_index}
use Rattle.atomic_table.specs.Table.{State, step, keeps, opening, Allows, Splits, Joins}
use Rattle.atomic_table.proofs.Lists.{at_set, at_snoc, at_longer, set_again}
use Rattle.kpn_watch.specs.declared.rule.Seen.{Seen}
use Rattle.kpn_watch.specs.declared.rule.View.{View}
use Rattle.kpn_watch.specs.Shown.{word_of}
use Rattle.kpn_watch.specs.Rule.{nothing, view_of, noted, ContinuesSeen, WordIsTrue, It, Looks, Publishes, Compares}
use Rattle.kpn_watch.proofs.Fronts.{goes_on_self, goes_on_trans, goes_on_from_nothing}

abbrev Fits : Seen → View → Type 0
Fits published v = ContinuesSeen v.seen published × ContinuesSeen v.note published

-- if one seat's view becomes w, the others' still fit
fits_set : (views : List View) (id : ℕ) (w : View) (published : Seen) → ((by : ℕ) (v : View) → by ≢ id → get_elem? views by ≡ some v → Fits published v) → Fits published w
    → (by : ℕ) (v : View) → get_elem? (set views id w) by ≡ some v → Fits published v
fits_set views id w published others mine by v at =
    ⊎_elim
    (λ (x : (by ≡ id) × (w ≡ v)). subst (Fits published) x.1 mine)
    (λ (x : (by ≢ id) × (get_elem? views by ≡ some v)). others by v x.0 x.1)
    (at_set views id by w v at)

-- what is published does not change if each seat that publishes keeps what it saw
first_set : (views : List View) (id : ℕ) (w : View) (published : Seen) → (v : View) × (get_elem? views 0 ≡ some v) × (v.seen ≡ published) → w.seen ≡ published
    → (v : View) × (get_elem? (set views id w) 0 ≡ some v) × (v.seen ≡ published)
first_set [] id w published h same = absurd (some-ne-none h.0 (sym h.1))
first_set (x ∷ xs) zero w published h same = (w, refl, same)
first_set (x ∷ xs) (suc id) w published h same = h

pub opens : WordIsTrue (opening (0 ∷ []) [] (view_of nothing))
opens = record {
  published = nothing;
  first = (view_of nothing, refl, refl);
  word = refl;
  short = omega arith;
  seen = only;
}
  where
    only : (by : ℕ) (v : View) → get_elem? (view_of nothing ∷ []) by ≡ some v → Fits nothing v
    only zero v at = subst (Fits nothing) (some-injective _ _ at) (goes_on_self nothing, goes_on_self nothing)
    only (suc by) v at = absurd (some-ne-none v (sym at))

-- the word as it is, and the seat's view as w
same_word : (s : State (Unit {0}) View) → (kept : WordIsTrue s) → set s.words 0 (slice_index s.words 0) ≡ word_of kept.published.entries kept.published.phase ∷ []
same_word s kept = ap (λ ws. set ws 0 (slice_index ws 0)) kept.word

pub looks : (slots id : ℕ) (me : It) → Allows WordIsTrue slots id me 0 (λ n. n) (Looks (step slots 0 0 0 none) me)
looks slots id me s kept _ at _ =
    let published = kept.published in
    let w = noted (view_of published) me.0.note in
    let mine = kept.seen id me.0 at in (
      w,
      keeps,
      tt,
      record {
        published = published;
        first = first_set s.views id w published kept.first refl;
        word = same_word s kept;
        short = kept.short;
        seen = fits_set s.views id w published (λ by v _ e. kept.seen by v e) (goes_on_self published, mine.1);
      },
      (ap (λ ws. slice_index ws 0) kept.word, kept.short, mine.0, refl, refl),
    )

pub compares : (slots : ℕ) (me : It) → Allows WordIsTrue slots 0 me 0 (λ n. n) (Compares (step slots 0 0 0 none) me)
compares slots me s kept _ at _ =
    let published = kept.published in
    let w = view_of me.0.seen in
    let mine = kept.seen 0 me.0 at in
    let here : me.0.seen ≡ published = ap (λ (v : View). v.seen) (some-injective _ _ (sym at ∙ kept.first.1)) ∙ kept.first.2 in (
      w,
      keeps,
      tt,
      record {
        published = published;
        first = first_set s.views 0 w published kept.first here;
        word = same_word s kept;
        short = kept.short;
        seen = fits_set s.views 0 w published (λ by v _ e. kept.seen by v e) (mine.0, goes_on_from_nothing published);
      },
      (refl, subst (ContinuesSeen me.0.note) (sym here) mine.1),
    )

pub publishes : (slots : ℕ) (me : It) (news : Seen) (word : ℕ) → word ≡ word_of news.entries news.phase → length news.entries < 2 ^ 22 → ContinuesSeen me.0.seen news
    → Allows WordIsTrue slots 0 me 0 (λ _. word) (λ _. Publishes news (step slots 0 word 0 none) me word)
publishes slots me news word is short goes_on s kept _ at _ =
    let w = noted (view_of news) me.0.note in
    let here : me.0.seen ≡ kept.published = ap (λ (v : View). v.seen) (some-injective _ _ (sym at ∙ kept.first.1)) ∙ kept.first.2 in
    let on = subst (λ (p : Seen). ContinuesSeen p news) here goes_on in
    let still : (v : View) → Fits kept.published v → Fits news v = λ v f. (goes_on_trans v.seen kept.published news f.0 on, goes_on_trans v.note kept.published news f.1 on) in (
      w,
      keeps,
      tt,
      record {
        published = news;
        first = first_again s.views w kept.published news kept.first;
        word = ap (λ ws. set ws 0 word) kept.word ∙ ap (λ n. n ∷ []) is;
        short = short;
        seen = fits_set s.views 0 w news (λ by v _ e. still v (kept.seen by v e)) (goes_on_self news, (still me.0 (kept.seen 0 me.0 at)).1);
      },
      refl,
    )
  where
    first_again : (views : List View) (w : View) (old new : Seen) → (v : View) × (get_elem? views 0 ≡ some v) × (v.seen ≡ old) → (v : View) × (get_elem? (set views 0 w) 0 ≡ some v) × (v.seen ≡ w.seen)
    first_again [] w old new h = absurd (some-ne-none h.0 (sym h.1))
    first_again (x ∷ xs) w old new h = (w, refl, refl)

pub splits : (id : ℕ) (v : View) → Splits WordIsTrue id v v (view_of v.seen)
splits id v s kept at =
    let mine = kept.seen id v at in
    let same : set s.views id v ≡ s.views = set_again s.views id v at in
    let P : List View → Type 0 = λ views. WordIsTrue (record { words = s.words; homes = s.homes; views = views ++ view_of v.seen ∷ [] }) in
    subst
    P
    (sym same)
    record {
      published = kept.published;
      first = (kept.first.0, at_longer s.views (view_of v.seen ∷ []) 0 kept.first.0 kept.first.1, kept.first.2);
      word = kept.word;
      short = kept.short;
      seen = λ by u e. ⊎_elim (λ was. kept.seen by u was) (λ (new : view_of v.seen ≡ u). subst (Fits kept.published) new (mine.0, goes_on_from_nothing kept.published)) (at_snoc s.views (view_of v.seen) u by e);
    }

pub joins : (v : View) (other : ℕ) (u : View) → Joins WordIsTrue 0 v other u (noted v u.seen) (view_of nothing)
joins v other u s kept at apart there =
    let published = kept.published in
    let w = noted v u.seen in
    let here : v.seen ≡ published = ap (λ (x : View). x.seen) (some-injective _ _ (sym at ∙ kept.first.1)) ∙ kept.first.2 in
    let theirs = ⊎_elim (λ (t : (other ≡ 0) × (w ≡ u)). absurd (apart t.0)) (λ (t : (other ≢ 0) × (get_elem? s.views other ≡ some u)). kept.seen other u t.1) (at_set s.views 0 other w u there) in
    let mine = kept.seen 0 v at in
    record {
      published = published;
      first = first_else (set s.views 0 w) other (view_of nothing) published apart (first_set s.views 0 w published kept.first here);
      word = kept.word;
      short = kept.short;
      seen = fits_set (set s.views 0 w) other (view_of nothing) published (λ by x _ e. fits_set s.views 0 w published (λ by x _ e. kept.seen by x e) (mine.0, theirs.0) by x e) (goes_on_from_nothing published, goes_on_from_nothing published);
    }
  where
    first_else : (views : List View) (id : ℕ) (w : View) (published : Seen) → ¬ (id ≡ 0) → (x : View) × (get_elem? views 0 ≡ some x) × (x.seen ≡ published)
        → (x : View) × (get_elem? (set views id w) 0 ≡ some x) × (x.seen ≡ published)
    first_else [] id w published apart h = absurd (some-ne-none h.0 (sym h.1))
    first_else (x ∷ xs) zero w published apart h = absurd (apart refl)
    first_else (x ∷ xs) (suc id) w published apart h = h

-- the steps of the first seat, by its number
pub compares_at : (slots id : ℕ) → id ≡ 0 → (me : It) → Allows WordIsTrue slots id me 0 (λ n. n) (Compares (step slots 0 0 0 none) me)
compares_at slots id first me = subst (λ (k : ℕ). Allows WordIsTrue slots k me 0 (λ n. n) (Compares (step slots 0 0 0 none) me)) (sym first) (compares slots me)

pub publishes_at : (slots id : ℕ) → id ≡ 0 → (me : It) (news : Seen) (word : ℕ) → word ≡ word_of news.entries news.phase → length news.entries < 2 ^ 22 → ContinuesSeen me.0.seen news
    → Allows WordIsTrue slots id me 0 (λ _. word) (λ _. Publishes news (step slots 0 word 0 none) me word)
publishes_at slots id first me news word is short goes_on =
    subst (λ (k : ℕ). Allows WordIsTrue slots k me 0 (λ _. word) (λ _. Publishes news (step slots 0 word 0 none) me word)) (sym first) (publishes slots me news word is short goes_on)

pub joins_at : (id : ℕ) → id ≡ 0 → (v : View) (other : ℕ) (u : View) → Joins WordIsTrue id v other u (noted v u.seen) (view_of nothing)
joins_at id first v other u = subst (λ (k : ℕ). Joins WordIsTrue k v other u (noted v u.seen) (view_of nothing)) (sym first) (joins v other u)

-- Prefixes of lists, and what goes on from what was seen.
use Rattle.std.proofs.Common.{◌≡◌, List, [], ◌∷◌, ◌++◌, refl, ap, sym, ◌∙◌, append_assoc}
use mathlib.Core.List.{IsPrefix}
use Rattle.kpn_watch.specs.declared.rule.Seen.{Seen}
use Rattle.kpn_watch.specs.Rule.{nothing, ContinuesSeen}

pub prefix_self : {A : Type 0} (xs : List A) → IsPrefix xs xs
prefix_self [] = ([], refl)
prefix_self (x ∷ xs) = let r = prefix_self xs in (r.0, ap (λ ys. x ∷ ys) r.1)

pub prefix_trans : {A : Type 0} (xs ys zs : List A) → IsPrefix xs ys → IsPrefix ys zs → IsPrefix xs zs
prefix_trans xs ys zs p q = (p.0 ++ q.0, sym (append_assoc xs p.0 q.0) ∙ (ap (λ w. w ++ q.0) p.1 ∙ q.1))

-- a list equal to a prefix is a prefix
pub prefix_of_front : {A : Type 0} (old front rest : List A) → old ≡ front → IsPrefix old (front ++ rest)
prefix_of_front old front rest same = (rest, ap (λ xs. xs ++ rest) same)

pub goes_on_self : (s : Seen) → ContinuesSeen s s
goes_on_self s = record { front = prefix_self s.entries; ended = λ _. refl }

pub goes_on_trans : (a b c : Seen) → ContinuesSeen a b → ContinuesSeen b c → ContinuesSeen a c
goes_on_trans a b c p q = record {
  front = prefix_trans a.entries b.entries c.entries p.front q.front;
  ended = λ over. let same = p.ended over in q.ended (λ runs. over (ap (λ (s : Seen). s.phase) (sym same) ∙ runs)) ∙ same;
}

pub goes_on_from_nothing : (s : Seen) → ContinuesSeen nothing s
goes_on_from_nothing s = record { front = (s.entries, refl); ended = λ over. absurd (over refl) }

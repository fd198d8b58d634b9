-- Streams that are written one after the other.
use Rattle.std.proofs.Common.{◌≡◌, ◌<◌, ◌≤◌, ◌+◌, ℕ, zero, suc, List, [], ◌∷◌, ◌++◌, length, take, min, get_or, Bool, Option, sym, ap, ap₂, subst, ◌∙◌, arith}
use Rattle.std.proofs.lemmas.List.{take_all}
use Rattle.hox_files.specs.declared.pairs.Pair.{Pair}
use Rattle.hox_files.specs.Files.{Effect, wrote}
use Rattle.hox_execute.specs.Reports.{Tries, streams_written}
use Rattle.hox_files.proofs.Zipped.{same_default}

written_next : (outputs : List Pair) (texts : List (List ℕ)) (k : ℕ) (pair : Pair) (text : List ℕ) → k < length outputs → k < length texts → pair ≡ get_or outputs k pair → text ≡ get_or texts k text
    → take (suc k) (streams_written outputs texts) ≡ take k (streams_written outputs texts) ++ wrote pair.file.now text ∷ []
written_next [] texts k pair text h i e f = absurd (omega (arith, h))
written_next (p ∷ ps) [] k pair text h i e f = absurd (omega (arith, i))
written_next (p ∷ ps) (t ∷ ts) zero pair text h i e f = sym (ap₂ (λ (q : Pair) u. wrote q.file.now u ∷ []) e f)
written_next (p ∷ ps) (t ∷ ts) (suc k) pair text h i e f = ap (λ l. wrote p.file.now t ∷ l) (written_next ps ts k pair text (omega (arith, h)) (omega (arith, i)) e f)

long_as : (outputs : List Pair) (texts : List (List ℕ)) → length (streams_written outputs texts) ≤ min (length outputs) (length texts)
long_as [] texts = omega arith
long_as (p ∷ ps) [] = omega arith
long_as (p ∷ ps) (t ∷ ts) = omega (arith, long_as ps ts)

-- the streams up to the next one
pub next_stream :
    (outputs : List Pair) (texts : List (List ℕ)) (k : ℕ) (d : Pair) (text : List ℕ) → k < length outputs → k < length texts → text ≡ get_or texts k text
    → take (k + 1) (streams_written outputs texts) ≡ take k (streams_written outputs texts) ++ wrote (get_or outputs k d).file.now text ∷ []
next_stream outputs texts k d text h i f =
    let pair : Pair = get_or outputs k d in
    let next : k + 1 ≡ suc k = omega arith in
    ap (λ n. take n (streams_written outputs texts)) next ∙ written_next outputs texts k pair text h i (same_default outputs k d pair h) f

-- all are tried
pub tries_all :
    (outputs : List Pair) (texts : List (List ℕ)) (k : ℕ) → min (length outputs) (length texts) ≤ k → (p : Bool) (before after : Option (List Effect)) → Tries (take k (streams_written outputs texts)) p before after
    → Tries (streams_written outputs texts) p before after
tries_all outputs texts k past p before after so_far =
    subst (λ l. Tries l p before after) (take_all k (streams_written outputs texts) (omega (arith, long_as outputs texts))) so_far

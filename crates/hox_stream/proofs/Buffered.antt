-- What waits to be written, behind what was written.
use Rattle.std.proofs.Common.{◌≡◌, ◌++◌, List, [], Option, None, Some, ℕ, refl, sym, ap, append_assoc, append-nil}
use Rattle.std.specs.Io.KnownBytes.{Appends, Consumes, Keeps, append_known}

pub append_known_nil : (known : Option (List ℕ)) → append_known known [] ≡ known
append_known_nil None = refl
append_known_nil (Some bytes) = ap (λ (l : List ℕ). Some l) (append-nil bytes)

-- more waits
pub append_known_more : (known : Option (List ℕ)) (waiting more : List ℕ) → Appends (append_known known waiting) (append_known known (waiting ++ more)) more
append_known_more None waiting more = tt
append_known_more (Some bytes) waiting more = sym (append_assoc bytes waiting more)

-- known bytes that stay as they were lose none
pub keeps_consumes : (a b : Option (List ℕ)) → Keeps a b → Consumes a b []
keeps_consumes None b h = tt
keeps_consumes (Some x) None h = h
keeps_consumes (Some x) (Some y) h = sym h

-- what waited was written
pub append_known_written : (known new : Option (List ℕ)) (waiting : List ℕ) → Appends known new waiting → Appends (append_known known waiting) (append_known new []) []
append_known_written None new waiting written = tt
append_known_written (Some bytes) None waiting written = absurd written
append_known_written (Some bytes) (Some more) waiting written = ap (λ l. l ++ []) written

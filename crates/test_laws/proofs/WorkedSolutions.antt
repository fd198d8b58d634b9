-- The streams of the worked networks' digests are the least solutions.
use Rattle.std.proofs.Common.{◌≡◌, ⊎_elim, ℕ, zero, suc, Some, refl, sym, ap, ◌∙◌, subst, arith, slice_get}
use Rattle.std.proofs.lemmas.Option.{same_Some}
use Rattle.kpn_model.specs.declared.token.Token.{Token}
use Rattle.kpn_model.specs.declared.token.Token.TheVariants.{Word}
use Rattle.kpn_model.specs.declared.history.End.TheVariants.{Deadlock}
use Rattle.kpn_model.specs.Semantics.{start}
use Rattle.kpn_model.specs.History.{IsPrefixOf, Digest, stream}
use Rattle.kpn_standard.specs.Standard.{standard}
use Rattle.kpn_laws.specs.Equations.{listed, IsLeastSolution, IsReached, IsLimit}
use Rattle.kpn_laws.proofs.Resized.{run_resized}
use Rattle.kpn_laws.proofs.Outcomes.{all_comparable}
use Rattle.kpn_laws.proofs.Sequences.{get_prefix}
use Rattle.kpn_laws.proofs.ReportedStreams.{stream_past, digest_is_least}
use Rattle.kpn_laws.proofs.Limits.{limit_is_least}
use Rattle.test_laws.specs.Growing.{parks_case}
use Rattle.test_laws.specs.Computing.{running_sums}
use Rattle.test_laws.specs.WorkedRoom.{ring}
use Rattle.test_laws.specs.WorkedSolutions.{endless, ParksSolution, SumsSolution, RingSolution}
use Rattle.test_laws.proofs.WorkedNetworks.{has_parks_case, has_running_sums}
use Rattle.test_laws.proofs.WorkedRoom.{rounds, rounds_run}

-- the streams of Parks's case
pub parks_solution : ParksSolution
parks_solution =
    let h = has_parks_case in
    subst (λ (d : Digest). IsLeastSolution standard parks_case (listed d.streams)) h.digest_is (digest_is_least standard parks_case h.history h.state Deadlock h.final tt)

-- the running sums
pub sums_solution : SumsSolution
sums_solution =
    let h = has_running_sums in
    subst (λ (d : Digest). IsLeastSolution standard running_sums (listed d.streams)) h.digest_is (digest_is_least standard running_sums h.history h.state Deadlock h.final tt)

-- after n rounds of the ring place n of its stream has the token
at_round : (n : ℕ) → slice_get (stream ring (rounds n) 0) n ≡ Some (Word 7)
at_round zero = refl
at_round (suc n) = at_round n

-- what any run of it has there is the same token
same_round : (n : ℕ) (t : Token) (x : IsReached standard ring 0 n t) → t ≡ Word 7
same_round n t x =
    let s = (all_comparable standard ring x.sizes (rounds n) x.history (start standard ring) x.state (rounds_run n) x.run).streams 0 in
    ⊎_elim
    (λ (a : IsPrefixOf (stream ring (rounds n) 0) (stream ring x.history 0)). same_Some _ _ (sym x.at ∙ get_prefix (stream ring (rounds n) 0) (stream ring x.history 0) n (Word 7) a (at_round n)))
    (λ (b : IsPrefixOf (stream ring x.history 0) (stream ring (rounds n) 0)). same_Some _ _ (sym (get_prefix (stream ring x.history 0) (stream ring (rounds n) 0) n t b x.at) ∙ at_round n))
    s

-- so the endless stream is the limit
endless_limit : IsLimit standard ring endless
endless_limit zero n t = (
  λ e. record { sizes = λ c. 1; history = rounds n; state = start standard ring; run = rounds_run n; at = at_round n ∙ e },
  λ x. ap (λ y. Some y) (sym (same_round n t x)),
)
endless_limit (suc c) n t = (
  λ e. absurd cc,
  λ x.
      let none = stream_past standard ring (suc c) (omega arith) _ x.history x.state (run_resized standard ring x.sizes x.history x.state x.run) in
      ap (λ l. slice_get l n) (sym none) ∙ x.at,
)

-- and the least solution
pub ring_solution : RingSolution
ring_solution = limit_is_least standard ring endless endless_limit

-- The vector is a 0 for each process.
use Rattle.std.proofs.Common.{◌≡◌, ℕ, List, arith, length, replicate, Vec, Global}
use Rattle.std.proofs.lemmas.List.{length-replicate, get_or-replicate}
use Rattle.std.proofs.lemmas.Result.{IfOk-weaker}
use Rattle.kpn_report.specs.Tally.{Tabulates}
use Rattle.kpn_report.proofs.tally.no_steps.Goals as goal

zeros : (n m : ℕ) (xs : List ℕ) → xs ≡ replicate m 0 → m ≡ n → Tabulates 0 n (λ p. 0) xs
zeros n m xs is same = record {
  count = rw (is, length-replicate {A = ℕ} m 0) same;
  each = λ p l. rw is (get_or-replicate {A = ℕ} m p 0 0 (omega arith));
}

pub returns : goal.returns
returns g c = IfOk-weaker _ _ _ (λ (v : Vec ℕ Global) is. zeros (length c.args.net.now.processes) c.processes.result v.items (is (λ y e. e)) c.processes.ensures.count) c.vec.ensures.items_if_clones_equal

-- What comes of a stream once the rest of its tables was written.
use Rattle.std.proofs.Common.{◌≡◌, ◌<◌, ◌⊎◌, ℕ, false, List, [], length, sym, subst}
use Rattle.kpn_model.specs.Network.{Family}
use Rattle.kpn_flow.specs.Flows.{FlowView}
use Rattle.kpn_flow.specs.Pieces.{IsOneRunInPieces}
use Rattle.hox_stream.specs.declared.finish.StreamFinish.{StreamFinish}
use Rattle.hox_stream.specs.Streams.{AllEnd, AreWritten, IsFinish, Streams, StreamsOut, outlet_at}
use Rattle.hox_stream.specs.Views.{InletView, OutletView, OutsView, outs}

pub streams_ended : (kinds : Family) (s t : FlowView) (ins after : List InletView) (before mid last : OutsView) (finish : StreamFinish)
    → Streams kinds s t ins after before mid → AreWritten mid → last.sinks ≡ mid.sinks → AllEnd mid.tables last.tables → IsOneRunInPieces kinds t
    → (IsFinish kinds t after (outs last.sinks mid.tables) finish ⊎ IsFinish kinds t after last finish) → StreamsOut kinds s t ins after before last finish
streams_ended kinds s t ins after before mid last finish x written sinks ends one_run ended = record {
  between = mid.tables;
  streams = subst (λ (l : List OutletView). Streams kinds s t ins after before (outs l mid.tables)) (sym sinks) x;
  rest = ends;
  written = record {
    sinks = subst (λ (l : List OutletView). (k : ℕ) → k < length l → (outlet_at l k).has_failed ≡ false → (outlet_at l k).waiting ≡ []) (sym sinks) written.sinks;
    tables = λ k h e. (ends.1 k (subst (λ n. k < n) ends.0 h)).emptied e;
  };
  ended = ended;
  one_run = one_run;
}

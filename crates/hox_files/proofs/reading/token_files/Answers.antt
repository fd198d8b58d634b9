-- One file more.
use Rattle.std.proofs.Common.{◌≡◌, ◌<◌, ◌∷◌, ◌++◌, ℕ, List, [], Option, Err, get_or, length, rules}
use Rattle.hox_files.specs.declared.pairs.Pair.{Pair}
use Rattle.hox_files.specs.declared.stops.Stop.{Stop}
use Rattle.hox_files.specs.declared.stops.Stop.TheVariants.{Format, Memory}
use Rattle.hox_files.specs.Requests.{AreBytesOf, IsNoFileOf, IsRead, IsUnfetched}
use Rattle.hox_files.proofs.Zipped.{same_default, zipped_at}
use Rattle.hox_files.proofs.reading.token_files.Goals as goal

-- why the file at a place gives no tokens is why some file of the pairs gives none
no_file : (contents : List ℕ → Option (List ℕ)) (pairs : List Pair) (k : ℕ) (d : Pair) (bytes : List ℕ) (stop : Stop) → k < length pairs → AreBytesOf contents (get_or pairs k d) bytes → IsNoFileOf (get_or pairs k d) bytes stop
    → IsUnfetched contents pairs stop
no_file contents pairs k d bytes (Format stop) within read fails = (k, get_or pairs k d, within, same_default pairs k (get_or pairs k d) d within, (bytes, read, fails))
no_file contents pairs k d bytes Memory within read fails = tt
no_file contents pairs k d bytes _ within read fails = absurd fails

pub loop-k-preserved : goal.loop-k-preserved
loop-k-preserved g c =
    let pushed : c.push.new.self.items ≡ c.loop-k.read.items ++ c.in_ok-file.file ∷ [] = search rules in
    zipped_at (IsRead (g.S.FileSystem.contents c.args.files.now)) c.args.pairs.now c.loop-k.k _ c.loop-k.read.items c.push.new.self.items c.in_ok-file.file c.loop-k-test.true c.loop-k.invariant pushed
    (c.in-Ok.bytes.items, c.in-Ok.ensures.ok, c.in_ok-file.ensures.ok)

pub returns-in_err-file-clause-fault : goal.returns-in_err-file-clause-fault
returns-in_err-file-clause-fault g c =
    let same : c.from_residual.result ≡ Err c.in_err-file.field-0.0 = search rules in
    rw same (no_file (g.S.FileSystem.contents c.args.files.now) c.args.pairs.now c.loop-k.k _ c.in-Ok.bytes.items c.in_err-file.field-0.0 c.loop-k-test.true c.in-Ok.ensures.ok c.in_err-file.ensures.fault)

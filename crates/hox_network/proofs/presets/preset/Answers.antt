-- One file more.
use Rattle.std.proofs.Common.{rules}
use Rattle.kpn_network.specs.Parts.{network_of}
use Rattle.hox_network.proofs.FilesSaid.{goes_on, stops_on, stops_here, none_left}
use Rattle.hox_network.proofs.presets.preset.Goals as goal

pub returns-in-Err-clause-fault : goal.returns-in-Err-clause-fault
returns-in-Err-clause-fault c =
    let l = c.loop-file in
    stops_here c.args.files.now l.file c.index-files-file.result c.loop-file-test.true c.index-files-file.is (network_of c.args.parts.now) (network_of l.parts) l.invariant.stops c.in-Err.fault c.in-Err.ensures.fault

pub loop-file-preserved : goal.loop-file-preserved
loop-file-preserved c =
    let l = c.loop-file in
    let file = c.index-files-file.result in
    let first = network_of c.args.parts.now in
    let now = network_of l.parts in
    let after = network_of c.preset_one.new.parts in
    let ok = c.in-Ok.ensures.ok in
    record {
      goes = goes_on c.args.files.now l.file file c.loop-file-test.true c.index-files-file.is first now after ok.0 ok.1 ok.2 ok.3 l.invariant.goes;
      stops = stops_on c.args.files.now l.file file c.loop-file-test.true c.index-files-file.is first now after ok.0 ok.1 ok.2 ok.3 l.invariant.stops;
    }

pub returns-clause-ok : goal.returns-clause-ok
returns-clause-ok c =
    let l = c.loop-file in
    none_left c.args.files.now l.file (network_of c.args.parts.now) (network_of l.parts) c.loop-file-test.false l.invariant.goes

pub loop-file-init : goal.loop-file-init
loop-file-init c = search rules

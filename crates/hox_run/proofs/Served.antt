-- What comes of a description that was prepared, or of one that was not.
use Rattle.std.proofs.Common.{ℕ, Bool, List, Option, Result, Ok, Err}
use Rattle.kpn_sketch.specs.declared.fault.NetFault.{NetFault}
use Rattle.kpn_model.specs.declared.kinds.Card.{Card}
use Rattle.kpn_model.specs.declared.kinds.Signature.{Signature}
use Rattle.kpn_model.specs.Network.{Family, Network}
use Rattle.hox_network.specs.declared.request.Request.{Request}
use Rattle.hox_network.specs.declared.request.Fault.{Fault}
use Rattle.hox_network.specs.Preparing.{GivesLoaded, GivesNet, Prepares, Serves}
use Rattle.hox_network.proofs.Served.{serves_on}
use Rattle.hox_run.specs.declared.telling.Told.{Told}
use Rattle.hox_run.specs.Serving.{GivesRun}

module _ (kinds : Family) (request : Request) where
  refuses : (fault : Fault) (loaded : Result Network NetFault) → GivesLoaded (GivesNet request) loaded (Err fault) → GivesLoaded (GivesRun kinds request) loaded (Err fault)
  refuses fault (Ok net) h = h
  refuses fault (Err e) h = h

  gives : (other : Network) (last : Result Told Fault) → ((net : Network) → Prepares request net other → GivesRun kinds request net last)
      → (loaded : Result Network NetFault) → GivesLoaded (GivesNet request) loaded (Ok other) → GivesLoaded (GivesRun kinds request) loaded last
  gives other last told (Ok net) h = told net h
  gives other last told (Err e) h = absurd h

  module _ {named : List ℕ → Option (ℕ × ℕ)} {signature : Card → Option Signature} {input : Option (List ℕ)} {before after : Bool} where
    -- a description of which no network is prepared is not run
    pub refused : (fault : Fault) → Serves named signature (GivesNet request) input before after (Err fault) → Serves named signature (GivesRun kinds request) input before after (Err fault)
    refused fault served = serves_on (GivesRun kinds request) (Err fault) (refuses fault) served

    -- a network that is prepared is run
    pub told_served : (other : Network) (last : Result Told Fault) → Serves named signature (GivesNet request) input before after (Ok other)
        → ((net : Network) → Prepares request net other → GivesRun kinds request net last) → Serves named signature (GivesRun kinds request) input before after last
    told_served other last served told = serves_on (GivesRun kinds request) last (gives other last told) served

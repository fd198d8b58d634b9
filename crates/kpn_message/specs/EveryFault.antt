-- The messages of a sketch: each fault that no other may have caused, at each place that has it.
use Rattle.std.specs.Prelude.{◌≡◌, ◌≢◌, ◌≤◌, ◌-◌, ℕ, zero, suc, Bool, true, not, ◌&&◌, ◌||◌, ◌⊎◌, List, [], ◌∷◌, ◌++◌, length, map, take, string_bytes, Option, None, IfSome, String, if◌then◌else◌}
use Rattle.std.specs.Io.Iter.{u64_saturate}
use Rattle.std.specs.List.{All, flat_map}
use Rattle.kpn_sketch.specs.declared.fault.NetFault.{NetFault}
use Rattle.kpn_sketch.specs.declared.fault.NetFault.TheVariants.{Version, Name, Kind, Args, NoEnd, Twice, Unused, Sorts, Capacity, Budget, Tokens, Memory, Input}
use Rattle.kpn_model.specs.declared.kinds.Card.{Card}
use Rattle.kpn_model.specs.declared.kinds.Signature.{Signature}
use Rattle.kpn_sketch.specs.declared.sketch.Sketch.{Sketch}
use Rattle.kpn_net.specs.Faults.{has_fault, faults_in_order}
use Rattle.kpn_message.specs.declared.location.Location.{Location}
use Rattle.kpn_message.specs.declared.location.Location.TheVariants.{Description, Process, Channel}
use Rattle.kpn_message.specs.declared.every_fault.Message.{Message}
use Rattle.kpn_message.specs.declared.every_fault.Messages.{Messages}
use Rattle.kpn_message.specs.declared.every_fault.TheConstants.{MOST_MESSAGES}
use Rattle.kpn_message.specs.Location.{is_of_description, process_has_fault, channel_has_fault}

abbrev pub every_fault : List NetFault
every_fault = faults_in_order

-- f's lists for the numbers below n, joined
abbrev pub for_each_below : {A : Type 0} → (ℕ → List A) → ℕ → List A
for_each_below f zero = []
for_each_below f (suc n) = for_each_below f n ++ f n

-- the message of a fault, if it has one: it is not empty, and a fault that says all has none
pub record IsMessage {Z : Type 0} (fault : NetFault) (message : Option (String Z)) : Type 0 where
  pub plain : (fault ≡ Memory) ⊎ (fault ≡ Input) → message ≡ None
  pub said : IfSome message (λ text. string_bytes text ≢ [])

abbrev pub subject : Message → NetFault × Location
subject message = (message.fault, message.place)

-- at most 20 messages, none empty; if memory sufficed, of the first 20 that are due, the others counted
pub record Tells (due : List (NetFault × Location)) (messages : Messages) : Type 0 where
  pub few : length messages.told.items ≤ MOST_MESSAGES
  pub said : All (λ message. string_bytes message.text ≢ []) messages.told.items
  pub all : messages.are_all ≡ true → map subject messages.told.items ≡ take MOST_MESSAGES due
  pub counted : messages.are_all ≡ true → messages.more ≡ u64_saturate (length due - MOST_MESSAGES)

-- adds `more` to those due before
abbrev pub Adds : List (NetFault × Location) → Messages → Messages → Type 0
Adds more first last = (before : List (NetFault × Location)) → Tells before first → Tells (before ++ more) last

module _ (named : List ℕ → Option (ℕ × ℕ)) (signature : Card → Option Signature) (sketch : Sketch) where
  -- the sketch has the fault
  abbrev pub sketch_has : NetFault → Bool
  sketch_has fault = has_fault named signature sketch fault

  abbrev pub has_wrong_process : Bool
  has_wrong_process = sketch_has Name || (sketch_has Kind || sketch_has Args)

  abbrev pub has_wrong_end : Bool
  has_wrong_end = sketch_has NoEnd || sketch_has Twice

  -- no other fault of the sketch may have caused this one
  abbrev pub stands_alone : NetFault → Bool
  stands_alone NoEnd = not has_wrong_process
  stands_alone Twice = not has_wrong_process
  stands_alone Unused = not has_wrong_process && not has_wrong_end
  stands_alone Sorts = not has_wrong_process && not has_wrong_end
  stands_alone Capacity = not (sketch_has Version)
  stands_alone Budget = not (sketch_has Version)
  stands_alone Tokens = not (sketch_has Version) && not (sketch_has Sorts)
  stands_alone _ = true

  -- the process has the fault
  abbrev pub process_has : NetFault → ℕ → Bool
  process_has fault k = process_has_fault named signature sketch fault k

  -- wrong arguments don't count if the kind is unknown
  abbrev pub is_of_process : NetFault → ℕ → Bool
  is_of_process Args k = process_has Args k && not (process_has Kind k)
  is_of_process fault k = process_has fault k

  abbrev pub is_of : NetFault → Location → Bool
  is_of fault Description = is_of_description fault
  is_of fault (Process k) = is_of_process fault k
  is_of fault (Channel k) = channel_has_fault named signature sketch fault k

  abbrev pub told_at : NetFault → Location → List (NetFault × Location)
  told_at fault place = if is_of fault place then (fault, place) ∷ [] else []

  -- the places of the fault among the processes, and among the channels
  abbrev pub told_at_processes : NetFault → List (NetFault × Location)
  told_at_processes fault = for_each_below (λ p. told_at fault (Process p)) (length sketch.processes)

  abbrev pub told_at_channels : NetFault → List (NetFault × Location)
  told_at_channels fault = for_each_below (λ c. told_at fault (Channel c)) (length sketch.channels)

  abbrev pub places_of : NetFault → List (NetFault × Location)
  places_of fault = told_at fault Description ++ (told_at_processes fault ++ told_at_channels fault)

  -- the sketch has the fault, and no other may have caused it
  abbrev pub is_due : NetFault → Bool
  is_due fault = sketch_has fault && stands_alone fault

  abbrev pub due_of : NetFault → List (NetFault × Location)
  due_of fault = if is_due fault then places_of fault else []

  abbrev pub due : List (NetFault × Location)
  due = flat_map due_of every_fault

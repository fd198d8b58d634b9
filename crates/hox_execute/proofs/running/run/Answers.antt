-- What is told is written, or what is asked for is refused.
use Rattle.std.proofs.Common.{◌≡◌, List, ℕ, Err, map, refl, rules, subst}
use Rattle.kpn_model.specs.Network.{family_of}
use Rattle.hox_network.specs.Preparing.{GivesNet}
use Rattle.hox_run.specs.Serving.{GivesRun}
use Rattle.hox_files.specs.Requests.{Want, want_of}
use Rattle.hox_execute.specs.Commands.{Comes, Ends, HasRun, IsStop}
use Rattle.hox_execute.specs.Program.{want_of_run}
use Rattle.hox_execute.proofs.Ended.{ends_as}
use Rattle.hox_execute.proofs.Loaded.{file_refused}
use Rattle.hox_execute.proofs.Unasked.{stops_unasked}
use Rattle.hox_execute.proofs.running.run.Goals as goal

pub returns-in-Ok : goal.returns-in-Ok
returns-in-Ok g c =
    let Done : Want → List (List ℕ) → List (List ℕ) → Type 0 = λ want tokens outputs.
    Ends (HasRun g.K.Kinds.named g.K.Kinds.signature (g.S.FileSystem.contents c.args.files.now) (g.S.FileSystem.clash c.args.files.now) want tokens outputs (g.S.FileSystem.is_steady c.args.files.now) (g.S.FileSystem.effects c.args.files.now) (g.S.FileSystem.effects c.ran_of.new.files) (family_of g.K.Kinds.start g.K.Kinds.answer_of))
    (IsStop g.K.Kinds.named g.K.Kinds.signature (g.S.FileSystem.contents c.args.files.now) (g.S.FileSystem.clash c.args.files.now) want tokens outputs)
    (g.S.FileSystem.effects c.args.files.now) (g.S.FileSystem.effects c.ran_of.new.files) c.ran_of.result in
    let want = want_of c.wanted_of-wanted.result in
    let tokens = map (λ t. t.now) c.as_slice-tokens.result.now in
    let outputs = map (λ t. t.now) c.as_slice-outputs.result.now in
    let done : Done want tokens outputs =
    ends_as c.ran_of.result _ _ _ _ _ _
    (λ ran written. record { asked = c.in_ok-asked.asked; told = c.in-Ok.told; comes = record { is_asked = c.in_ok-asked.ensures.ok; serves = c.in-Ok.ensures }; written = written })
    (λ stop is. rw is tt) c.ran_of.ensures in
    subst (λ w. Done w (map (λ t. t.now) c.args.choice.now.tokens.items) (map (λ t. t.now) c.args.choice.now.outputs.items)) c.wanted_of-wanted.ensures
    (subst (λ l. Done want (map (λ t. t.now) c.args.choice.now.tokens.items) (map (λ t. t.now) l)) c.as_slice-outputs.ensures.value
    (subst (λ l. Done want (map (λ t. t.now) l) outputs) c.as_slice-tokens.ensures.value done))

pub returns-in-Err : goal.returns-in-Err
returns-in-Err g c =
    let request = c.in_ok-asked.asked.request in
    let Stopped : Want → List (List ℕ) → List (List ℕ) → Type 0 = λ want tokens outputs. (c.wanted_of-wanted.result.file.now ≡ want.file) × Comes g.K.Kinds.named g.K.Kinds.signature (g.S.FileSystem.contents c.args.files.now) (g.S.FileSystem.clash c.args.files.now) want tokens outputs GivesNet c.in_ok-asked.asked (Err c.in-Err.field-0.fault) in
    let want = want_of c.wanted_of-wanted.result in
    let tokens = map (λ t. t.now) c.as_slice-tokens.result.now in
    let outputs = map (λ t. t.now) c.as_slice-outputs.result.now in
    let stopped : Stopped want tokens outputs = (
      refl,
      record {
        is_asked = c.in_ok-asked.ensures.ok;
        serves = file_refused (g.S.FileSystem.contents c.args.files.now) g.K.Kinds.named g.K.Kinds.signature c.wanted_of-wanted.result.file.now (GivesRun (family_of g.K.Kinds.start g.K.Kinds.answer_of) request) (GivesNet request) c.in-Err.field-0.fault (λ net h. h) c.in-Err.ensures;
      },
    ) in
    record {
      done = tt;
      stop = subst (λ w. Stopped w (map (λ t. t.now) c.args.choice.now.tokens.items) (map (λ t. t.now) c.args.choice.now.outputs.items)) c.wanted_of-wanted.ensures
          (subst (λ l. Stopped want (map (λ t. t.now) c.args.choice.now.tokens.items) (map (λ t. t.now) l)) c.as_slice-outputs.ensures.value
          (subst (λ l. Stopped want (map (λ t. t.now) l) outputs) c.as_slice-tokens.ensures.value stopped));
      untouched = refl;
    }

pub returns-in_err-asked : goal.returns-in_err-asked
returns-in_err-asked g c =
    let stop = c.in_err-asked.field-0.0 in
    let is : c.from_residual.result ≡ Err stop = search rules in
    let Stopped : Want → List (List ℕ) → List (List ℕ) → Type 0 = λ want tokens outputs. IsStop g.K.Kinds.named g.K.Kinds.signature (g.S.FileSystem.contents c.args.files.now) (g.S.FileSystem.clash c.args.files.now) want tokens outputs stop in
    let want = want_of c.wanted_of-wanted.result in
    let tokens = map (λ t. t.now) c.as_slice-tokens.result.now in
    let outputs = map (λ t. t.now) c.as_slice-outputs.result.now in
    let stopped : Stopped want tokens outputs = stops_unasked g.K.Kinds.named g.K.Kinds.signature (g.S.FileSystem.contents c.args.files.now) (g.S.FileSystem.clash c.args.files.now) want tokens outputs stop c.in_err-asked.ensures.fault in
    let stops : Stopped (want_of_run c.args.choice.now) (map (λ t. t.now) c.args.choice.now.tokens.items) (map (λ t. t.now) c.args.choice.now.outputs.items) =
    subst (λ w. Stopped w (map (λ t. t.now) c.args.choice.now.tokens.items) (map (λ t. t.now) c.args.choice.now.outputs.items)) c.wanted_of-wanted.ensures
    (subst (λ l. Stopped want (map (λ t. t.now) c.args.choice.now.tokens.items) (map (λ t. t.now) l)) c.as_slice-outputs.ensures.value
    (subst (λ l. Stopped want (map (λ t. t.now) l) outputs) c.as_slice-tokens.ensures.value stopped)) in
    rw is (record { done = tt; stop = stops; untouched = refl })

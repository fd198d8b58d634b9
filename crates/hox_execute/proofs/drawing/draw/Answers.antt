-- The picture is written, or what is asked for is refused.
use Rattle.std.proofs.Common.{◌≡◌, List, ℕ, Bool, [], is_some, map, Ok, Err, string_bytes, refl, ◌∙◌, rules, subst}
use Rattle.kpn_model.specs.Network.{family_of}
use Rattle.hox_network.specs.Preparing.{GivesNet}
use Rattle.hox_draw.specs.Drawing.{GivesPicture}
use Rattle.hox_files.specs.Requests.{Want, want_of}
use Rattle.hox_execute.specs.Program.{want_of_draw}
use Rattle.hox_execute.specs.Commands.{Comes, GivesDrawing, HasDrawn, IsStop}
use Rattle.hox_execute.proofs.Drawn.{drawn_text}
use Rattle.hox_execute.proofs.Loaded.{file_refused, file_serves_on}
use Rattle.hox_execute.proofs.Unasked.{stops_unasked}
use Rattle.hox_execute.proofs.drawing.draw.Goals as goal

pub returns-in-Ok : goal.returns-in-Ok
returns-in-Ok g c =
    let same : want_of c.network_in-wanted.result ≡ want_of_draw c.args.choice.now = search rules in
    let kinds = family_of g.K.Kinds.start g.K.Kinds.answer_of in
    let named = g.K.Kinds.named in
    let title = g.K.Titled.title in
    let direction = c.args.choice.now.direction in
    let request = c.in_ok-asked.asked.request in
    let picture = c.in-Ok.picture in
    let text : c.as_bytes.result.now ≡ string_bytes picture = c.as_bytes.ensures.value ∙ c.as_str.ensures.value in
    let Done : Want → List (List ℕ) → Bool → Type 0 = λ want tokens is_run.
    HasDrawn g.K.Kinds.named g.K.Kinds.signature (g.S.FileSystem.contents c.args.files.now) (g.S.FileSystem.clash c.args.files.now) want tokens [] (g.S.FileSystem.is_steady c.args.files.now) (g.S.FileSystem.effects c.args.files.now) (g.S.FileSystem.effects c.write_text.new.files) c.write_text.result kinds title direction is_run in
    let want = want_of c.network_in-wanted.result in
    let tokens = map (λ t. t.now) c.as_slice-2.result.now in
    let is_run = c.is_run.result in
    let done : Done want tokens is_run = record {
      asked = c.in_ok-asked.asked;
      picture = string_bytes picture;
      comes = record {
        is_asked = c.in_ok-asked.ensures.ok;
        serves = file_serves_on (g.S.FileSystem.contents c.args.files.now) named g.K.Kinds.signature c.network_in-wanted.result.file.now (GivesPicture kinds named title direction is_run request)
            (GivesDrawing kinds named title direction is_run request) (Ok picture) (Ok (string_bytes picture)) (drawn_text kinds named title direction is_run request picture) c.in-Ok.ensures;
      };
      writes = rw text at c.write_text.ensures;
    } in
    record {
      done = subst (λ w. Done w (map (λ t. t.now) c.args.choice.now.tokens.items) (is_some c.args.choice.now.workers)) same
          (subst (λ b. Done want (map (λ t. t.now) c.args.choice.now.tokens.items) b) c.is_run.ensures
          (subst (λ l. Done want (map (λ t. t.now) l) is_run) c.as_slice-2.ensures.value done));
      stop = tt;
      untouched = tt;
    }

pub returns : goal.returns
returns g c =
    let same : want_of c.network_in-wanted.result ≡ want_of_draw c.args.choice.now = search rules in
    let request = c.in_ok-asked.asked.request in
    let Stopped : Want → List (List ℕ) → Type 0 = λ want tokens. (c.network_in-wanted.result.file.now ≡ want.file) × Comes g.K.Kinds.named g.K.Kinds.signature (g.S.FileSystem.contents c.args.files.now) (g.S.FileSystem.clash c.args.files.now) want tokens [] GivesNet c.in_ok-asked.asked (Err c.in-Err.field-0.fault) in
    let want = want_of c.network_in-wanted.result in
    let tokens = map (λ t. t.now) c.as_slice-2.result.now in
    let stopped : Stopped want tokens = (
      refl,
      record {
        is_asked = c.in_ok-asked.ensures.ok;
        serves = file_refused (g.S.FileSystem.contents c.args.files.now) g.K.Kinds.named g.K.Kinds.signature c.network_in-wanted.result.file.now _ (GivesNet request) c.in-Err.field-0.fault (λ net h. h) c.in-Err.ensures;
      },
    ) in
    record {
      done = tt;
      stop = subst (λ w. Stopped w (map (λ t. t.now) c.args.choice.now.tokens.items)) same (subst (λ l. Stopped want (map (λ t. t.now) l)) c.as_slice-2.ensures.value stopped);
      untouched = refl;
    }

pub returns-in_err-asked : goal.returns-in_err-asked
returns-in_err-asked g c =
    let same : want_of c.network_in-wanted.result ≡ want_of_draw c.args.choice.now = search rules in
    let stop = c.in_err-asked.field-0.0 in
    let is : c.from_residual.result ≡ Err stop = search rules in
    let Stopped : Want → List (List ℕ) → Type 0 = λ want tokens. IsStop g.K.Kinds.named g.K.Kinds.signature (g.S.FileSystem.contents c.args.files.now) (g.S.FileSystem.clash c.args.files.now) want tokens [] stop in
    let want = want_of c.network_in-wanted.result in
    let stopped : Stopped want (map (λ t. t.now) c.as_slice-2.result.now) = stops_unasked g.K.Kinds.named g.K.Kinds.signature (g.S.FileSystem.contents c.args.files.now) (g.S.FileSystem.clash c.args.files.now) want (map (λ t. t.now) c.as_slice-2.result.now) [] stop c.in_err-asked.ensures.fault in
    let stops : Stopped (want_of_draw c.args.choice.now) (map (λ t. t.now) c.args.choice.now.tokens.items) =
    subst (λ w. Stopped w (map (λ t. t.now) c.args.choice.now.tokens.items)) same (subst (λ l. Stopped want (map (λ t. t.now) l)) c.as_slice-2.ensures.value stopped) in
    rw is (record { done = tt; stop = stops; untouched = refl })

-- What the flow's call says, at the channel of the place.
use Rattle.std.proofs.Common.{◌≡◌, Some, sym, ◌∙◌}
use Rattle.std.specs.Prelude.{slice_get}
use Rattle.hox_handle.proofs.session.Session.feed.Goals as goal

pub returns : goal.returns
returns c =
    let known : slice_get c.self.inside.inputs.items c.args.place ≡ Some c.in-Some.input = sym c.channel_at.ensures ∙ c.in-Some.is in
    let there : slice_get c.self.inside.flow.inputs c.args.place ≡ Some c.in-Some.input = rw c.self.invariant.0 at known in
    rw (← c.self.view_is, there) c.feed_words.ensures

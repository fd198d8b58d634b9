-- What `check` answers of the text is told.
use Rattle.hox_handle.specs.Checking.{Checks}
use Rattle.hoxburen.proofs.texts.hox_check.Goals as goal

pub returns : goal.returns
returns c =
    let checks : Checks c.args.text.now c.check-answer.result = rw c.bytes_of-text.ensures at c.check-answer.ensures in
    (c.check-answer.result, checks, c.number.ensures, c.say_answer.ensures.message, c.say_answer.ensures.none)

use Rattle.std.proofs.Common.{◌≡◌, true, rules, sym}
use Rattle.hox_format.specs.Saying.{is_number}
use Rattle.hox_format.proofs.Digits.{unread}
use Rattle.hox_format.proofs.settings.number_in.Goals as goal

pub returns-in_default-2-clause-is : goal.returns-in_default-2-clause-is
returns-in_default-2-clause-is c =
    let digits : is_number c.args.value.now ≡ true = search rules in
    sym (unread c.args.most c.args.value.now c.in_default.field-0 c.ranges.most.fits digits c.in_default.ensures.value.0)

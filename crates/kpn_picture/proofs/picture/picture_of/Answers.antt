-- Names of a valid network are plain.
use Rattle.kpn_picture.proofs.Names.{plain_name}
use Rattle.kpn_picture.proofs.picture.picture_of.Goals as goal

pub returns-clause-processes : goal.returns-clause-processes
returns-clause-processes g c = λ k d within. plain_name _ (c.assure_valid.ensures.valid.process_names k d within)

pub returns-clause-channels : goal.returns-clause-channels
returns-clause-channels g c = λ k d within. plain_name _ (c.assure_valid.ensures.valid.channel_names k d within)

pub returns-in_err-push_str-clause-processes : goal.returns-in_err-push_str-clause-processes
returns-in_err-push_str-clause-processes g c = λ k d within. plain_name _ (c.assure_valid.ensures.valid.process_names k d within)

pub returns-in_err-push_str-clause-channels : goal.returns-in_err-push_str-clause-channels
returns-in_err-push_str-clause-channels g c = λ k d within. plain_name _ (c.assure_valid.ensures.valid.channel_names k d within)

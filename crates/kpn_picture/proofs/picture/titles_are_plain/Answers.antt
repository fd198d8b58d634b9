use Rattle.kpn_picture.proofs.TitleTexts.{plain_title}
use Rattle.kpn_picture.proofs.picture.titles_are_plain.Goals as goal

pub returns : goal.returns
returns c = λ k d within. plain_title _

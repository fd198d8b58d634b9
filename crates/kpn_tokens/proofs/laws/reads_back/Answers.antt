use Rattle.kpn_tokens.specs.declared.layouts.Layout.{Layout}
use Rattle.kpn_tokens.specs.declared.layouts.Layout.TheVariants.{Lines, Fields, Frames}
use Rattle.kpn_tokens.specs.Records.{ReadsBack}
use Rattle.kpn_tokens.proofs.RecordsBack.{line_back, say_all}
use Rattle.kpn_tokens.proofs.RowsBack.{field_back}
use Rattle.kpn_tokens.proofs.SamplesBack.{frame_back}
use Rattle.kpn_tokens.proofs.laws.reads_back.Goals as goal

back : (layout : Layout) → ReadsBack layout
back (Lines decimals) = λ sort tokens h. say_all (Lines decimals) sort (λ token of fit. line_back decimals sort token of) tokens h
back (Fields column) = λ sort tokens h. say_all (Fields column) sort (λ token of fit. field_back column sort token of) tokens h
back (Frames frame) = λ sort tokens h. say_all (Frames frame) sort (λ token of fit. frame_back frame sort token of fit) tokens h

pub returns : goal.returns
returns c = back c.args.layout

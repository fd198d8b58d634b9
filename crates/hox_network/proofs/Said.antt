-- What the tokens that a file says are.
use Rattle.std.proofs.Common.{ℕ, List}
use Rattle.kpn_model.specs.declared.token.Token.{Token}
use Rattle.kpn_model.specs.declared.token.Sort.{Sort}
use Rattle.kpn_tokens.specs.declared.layouts.Layout.{Layout}
use Rattle.kpn_tokens.specs.Records.{Begin, Say, nothing, next, stop, more}

-- what a file says, it begins with
pub begins : {layout : Layout} {sort : Sort} {bytes : List ℕ} {tokens : List Token} → Say layout sort bytes tokens → Begin layout sort bytes tokens
begins {layout} {sort} {bytes} {tokens} (nothing empty) = stop
begins {layout} {sort} {bytes} {tokens} (next said within says rest) = more said within says (begins rest)

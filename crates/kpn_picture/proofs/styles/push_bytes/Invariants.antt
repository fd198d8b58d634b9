use Rattle.std.proofs.Common.{◌≡◌, ◌++◌, map, string_bytes, take}
use Rattle.kpn_picture.specs.Picture.{drawn_byte}
use Rattle.kpn_picture.proofs.styles.push_bytes.Given as goal

abbrev pub invariant-loop-byte : goal.invariant-loop-byte
invariant-loop-byte l = string_bytes l.out ≡ string_bytes l.initial.out ++ map drawn_byte (take l.byte-index l.bytes)

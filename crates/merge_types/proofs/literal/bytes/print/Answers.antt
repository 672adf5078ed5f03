-- The digits decode to the bytes.
use Rattle.std.proofs.Common.{rules, ◌≡◌, ℕ, List, arith}
use Rattle.hex.specs.Hex.{IsBytes, encode_lower}
use Rattle.hex.proofs.HexLemmas.{decode_of-encode_lower}
use Rattle.merge_types.specs.Literal.{IsBytesText, bytes_text}
use Rattle.merge_types.proofs.literal.bytes.print.Goals as goal

printed_bytes : (text bytes : List ℕ) → IsBytes bytes → text ≡ bytes_text bytes → IsBytesText text bytes
printed_bytes text bytes small e = (encode_lower bytes, e, decode_of-encode_lower bytes small)

pub returns-clause-reads_back : goal.returns-clause-reads_back
returns-clause-reads_back c = printed_bytes _ c.args.bytes.now (λ i. omega (arith, c.type_inv.bytes i)) (search rules)

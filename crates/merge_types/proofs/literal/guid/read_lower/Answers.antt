-- The text of a number parses to its bytes.
use Rattle.std.proofs.Common.{◌≡◌, ap, sym, ◌∙◌, Ok, true, false, nat_eq}
use Rattle.std.specs.Int.{w128, to_be_bytes, from_be_bytes}
use Rattle.std.specs.Cmp.Lexicographic.{pointwise}
use Rattle.std.proofs.lemmas.Slice.Eq.{bytes_eq-Decides}
use Rattle.uuid.specs.Text.{lower, hyphenated_text, parsed}
use Rattle.uuid.proofs.OrderLemmas.{from_be_bytes-to_be_bytes_16}
use Rattle.uuid.proofs.RoundTrips.{parse_gives}
use Rattle.merge_types.specs.Guid.{guid_text}
use Rattle.merge_types.proofs.Guids.{parsed-guid_text}
use Rattle.merge_types.proofs.literal.guid.read_lower.Goals as goal

pub returns-in_default-clause-none : goal.returns-in_default-clause-none
returns-in_default-clause-none c = λ n fits e.
    let p : c.parse_str.result ≡ Ok (to_be_bytes w128 n) = parse_gives c.parse_str.result c.args.text.now (to_be_bytes w128 n) c.parse_str.ensures.ok c.parse_str.ensures.bytes (parsed-guid_text n ∙ ap parsed (sym e)) in
    c.in_default.not-Ok (to_be_bytes w128 n) p

pub returns-then-eq-clause-some : goal.returns-then-eq-clause-some
unfolding guid_text
returns-then-eq-clause-some c =
    let same : c.encode_lower.result.now ≡ c.args.text.now = (bytes_eq-Decides _ _).0 (sym c.eq.ensures ∙ c.if-eq.true) in
    sym same ∙ c.encode_lower.ensures.text ∙ ap (hyphenated_text lower) (c.hyphenated.ensures ∙ c.from_u128-again.ensures)

pub returns-else-eq-clause-none : goal.returns-else-eq-clause-none
unfolding guid_text
returns-else-eq-clause-none c = λ n fits e.
    let p : c.parse_str.result ≡ Ok (to_be_bytes w128 n) = parse_gives c.parse_str.result c.args.text.now (to_be_bytes w128 n) c.parse_str.ensures.ok c.parse_str.ensures.bytes (parsed-guid_text n ∙ ap parsed (sym e)) in
    let some : Ok c.in-Ok.uuid ≡ Ok (to_be_bytes w128 n) = sym c.in-Ok.is ∙ p in
    let bytes : c.in-Ok.uuid ≡ to_be_bytes w128 n = cc in
    let number : c.as_u128-number.result ≡ n = c.as_u128-number.ensures ∙ ap (from_be_bytes w128) bytes ∙ from_be_bytes-to_be_bytes_16 n fits in
    let both : c.encode_lower.result.now ≡ c.args.text.now = c.encode_lower.ensures.text ∙ ap (hyphenated_text lower) (c.hyphenated.ensures ∙ c.from_u128-again.ensures ∙ ap (to_be_bytes w128) number) ∙ sym e in
    let yes : pointwise nat_eq c.encode_lower.result.now c.args.text.now ≡ true = (bytes_eq-Decides _ _).1 both in
    let no : false ≡ true = sym (sym c.eq.ensures ∙ c.if-eq.false) ∙ yes in
    absurd cc

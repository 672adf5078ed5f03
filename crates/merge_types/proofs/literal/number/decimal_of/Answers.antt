-- A decimal parses to its number.
use Rattle.std.proofs.Common.{◌≡◌, ap, sym, ◌∙◌, Ok, true, nat_eq}
use Rattle.std.specs.Fmt.{decimal}
use Rattle.std.proofs.lemmas.Fmt.{parse-decimal}
use Rattle.std.specs.Cmp.Lexicographic.{pointwise}
use Rattle.std.proofs.lemmas.Slice.Eq.{bytes_eq-Decides}
use Rattle.merge_types.proofs.literal.number.decimal_of.Goals as goal

pub returns-in_default-clause-none : goal.returns-in_default-clause-none
returns-in_default-clause-none c = λ n fits e.
    let p : c.parse.result ≡ Ok n = parse-decimal 64 n c.args.text.now c.parse.result fits fits e c.parse.ensures.value.0 in
    cc

pub returns-else-eq-clause-none : goal.returns-else-eq-clause-none
returns-else-eq-clause-none c = λ n fits e.
    let p : c.parse.result ≡ Ok n = parse-decimal 64 n c.args.text.now c.parse.result fits fits e c.parse.ensures.value.0 in
    let same : c.in-Ok.number ≡ n = cc in
    let both : c.format.result.now ≡ c.args.text.now = c.format.ensures.text ∙ ap decimal same ∙ sym e in
    let yes : pointwise nat_eq c.format.result.now c.args.text.now ≡ true = (bytes_eq-Decides _ _).1 both in
    cc

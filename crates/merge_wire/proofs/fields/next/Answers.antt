use Rattle.std.proofs.Common.{◌≡◌, true, false, refl, rules}
use Rattle.merge_wire.proofs.FieldLemmas.{bad_by_coding, bad_behind, missing_behind, found_behind, found_now, bad_by_text, bad_by_second, kept_behind}
use Rattle.merge_wire.proofs.fields.next.Goals as goal

no : false ≡ true → ⊥
no e = absurd cc

pub returns-then-eq_ignore_ascii_case : goal.returns-then-eq_ignore_ascii_case
returns-then-eq_ignore_ascii_case c = λ fields seen. bad_by_coding fields (c.args.name.now, c.args.value.now) (c.if-eq_ignore_ascii_case.ensures.test.0 refl)

pub returns-then-not-eq_ignore_ascii_case : goal.returns-then-not-eq_ignore_ascii_case
returns-then-not-eq_ignore_ascii_case c = λ fields seen. kept_behind c.args.seen fields (c.args.name.now, c.args.value.now) (λ e. no (c.if-eq_ignore_ascii_case.ensures.test.1 e)) (λ e. no (c.if-not-eq_ignore_ascii_case.ensures.test.1 e)) seen

pub returns-in-Some : goal.returns-in-Some
returns-in-Some c = λ fields seen. found_now c.in-Some.length fields (c.args.name.now, c.args.value.now) (λ e. no (c.if-eq_ignore_ascii_case.ensures.test.1 e)) (c.if-not-eq_ignore_ascii_case.ensures.test.0 refl) (search rules) c.in-Some.ensures.some (rw c.in-Missing.is at seen)

pub returns-in-None : goal.returns-in-None
returns-in-None c = λ fields seen. bad_by_text fields (c.args.name.now, c.args.value.now) (c.if-not-eq_ignore_ascii_case.ensures.test.0 refl) c.in-None.ensures.none (rw c.in-Missing.is at seen)

pub returns-in-Found : goal.returns-in-Found
returns-in-Found c = λ fields seen. bad_by_second c.in-Found.field-0 fields (c.args.name.now, c.args.value.now) (c.if-not-eq_ignore_ascii_case.ensures.test.0 refl) (rw c.in-Found.is at seen)

pub returns-in-Bad : goal.returns-in-Bad
returns-in-Bad c = λ fields seen. bad_behind fields (c.args.name.now, c.args.value.now) (rw c.in-Bad.is at seen)

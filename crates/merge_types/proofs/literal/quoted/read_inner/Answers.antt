-- The bytes that are read are the only ones that are spelled.
use Rattle.std.proofs.Common.{◌≡◌, ap, subst, true, false}
use Rattle.std.specs.String.{string_bytes}
use Rattle.std.specs.Str.{IsUtf8}
use Rattle.std.proofs.lemmas.Str.{IsUtf8-string_bytes}
use Rattle.merge_types.specs.Quoted.{Spells}
use Rattle.merge_types.proofs.Spelling.{Spells-one}
use Rattle.merge_types.proofs.literal.quoted.read_inner.Goals as goal

pub returns-in_default-clause-none : goal.returns-in_default-clause-none
returns-in_default-clause-none c = λ bytes spells is_text. (rw c.in_default.is at c.in_ok-bytes.ensures.none) bytes spells

pub returns-in-Ok-clause-some : goal.returns-in-Ok-clause-some
returns-in-Ok-clause-some c =
    let spells : Spells c.args.inner.now c.in-Some.bytes.items = rw c.in-Some.is at c.in_ok-bytes.ensures.some in
    let same : string_bytes c.in-Ok.text ≡ c.in-Some.bytes.items = ap (λ v. v.items) c.in-Ok.ensures.ok in
    rw c.new.ensures (rw same spells, IsUtf8-string_bytes c.in-Ok.text)

pub returns-clause-none : goal.returns-clause-none
returns-clause-none c = λ bytes spells is_text.
    let read : Spells c.args.inner.now c.in-Some.bytes.items = rw c.in-Some.is at c.in_ok-bytes.ensures.some in
    let same : bytes ≡ c.in-Some.bytes.items = Spells-one c.args.inner.now bytes c.in-Some.bytes.items spells read in
    let no : false ≡ true = c.in-Err.ensures.succeeds (subst IsUtf8 same is_text) in
    absurd cc

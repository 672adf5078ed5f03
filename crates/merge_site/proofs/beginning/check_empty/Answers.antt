-- The entry that is named is the first of those that were read, which are what the keeper tells.
use Rattle.std.proofs.Common.{None, Option, Some, inr, refl, sym, ◌∙◌, ◌≡◌}
use Rattle.std.specs.Prelude.{IfSome}
use Rattle.merge_ports.specs.Entries.{Map}
use Rattle.merge_ports.specs.declared.entry.EntryKey.{EntryKey}
use Rattle.merge_site.specs.Beginning.{BeginsAt, IsFirstKey}
use Rattle.merge_site.proofs.beginning.check_empty.Goals as goal

first-told : (key : EntryKey) (entries : Map) → BeginsAt key entries → (told : Option Map) → IfSome told (λ (map : Map). entries ≡ map) → IsFirstKey key told
first-told key entries begins None are = tt
first-told key entries begins (Some map) are = (begins.0, begins.1, sym are ∙ begins.2)

pub returns-clause-why : goal.returns-clause-why
returns-clause-why g c =
    inr (c.in_ok-entries.ensures.count, (c.in-Some.field-0, refl, first-told c.in-Some.field-0 c.in_ok-entries.entries (rw c.in-Some.is at c.in_ok-first_key.ensures) _ c.in_ok-entries.ensures.ok))

-- What a keeper tells is what was read of it.
use Rattle.std.proofs.Common.{◌≡◌, subst}
use Rattle.std.specs.Prelude.{IfSome}
use Rattle.std.specs.declared.option.Option.{Option}
use Rattle.std.specs.declared.option.Option.TheVariants.{None, Some}
use Rattle.merge_ports.specs.Entries.{Map}
use Rattle.merge_site.specs.Kept.{HasRecords, IsKept}

pub kept-told : (records entries : Map) → HasRecords records entries → (told : Option Map) → IfSome told (λ (map : Map). entries ≡ map) → IsKept records told
unfolding IsKept
kept-told records entries has None same = tt
kept-told records entries has (Some map) same = subst (HasRecords records) same has

-- A copy of the slots is equal to them.
use Rattle.std.proofs.Common.{◌≡◌, ap, rules}
use Rattle.std.proofs.lemmas.Map.Entries.{entries_from_clone}
use Rattle.merge_table.specs.Contents.{contents_of}
use Rattle.merge_table.proofs.table.TableClone.clone.Goals as goal

pub invariant_of-result : goal.invariant_of-result
invariant_of-result g c =
    let same : c.in_ok-clone.field-0.entries ≡ c.self.inside.slots.entries = entries_from_clone g.K.Clone.is_clone _ g.met.K.TableKey.clone_is_same (λ v w h. search rules) c.self.inside.slots.entries c.in_ok-clone.field-0.entries c.in_ok-clone.ensures.cases in
    rw same c.self.invariant

pub returns : goal.returns
returns g c =
    let same : c.in_ok-clone.field-0.entries ≡ c.self.inside.slots.entries = entries_from_clone g.K.Clone.is_clone _ g.met.K.TableKey.clone_is_same (λ v w h. search rules) c.self.inside.slots.entries c.in_ok-clone.field-0.entries c.in_ok-clone.ensures.cases in
    record { cases = rw (← c.self.view_is) (ap contents_of same) }

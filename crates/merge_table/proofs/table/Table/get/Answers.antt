use Rattle.std.proofs.Common.{sym, ap, ◌∙◌, Some, None}
use Rattle.std.specs.Prelude.{option_copied, is_some, OnSome}
use Rattle.std.specs.declared.option.Option.{Option}
use Rattle.std.proofs.lemmas.Map.Made.{is_some-lookup}
use Rattle.std.specs.Option.{option_flatten}
use Rattle.merge_table.proofs.Ranges.{sorted-rows}
use Rattle.merge_table.proofs.Slots.{lookup-rows}
use Rattle.merge_table.proofs.table.Table.get.Goals as goal

pub returns-in-Some-clause-row : goal.returns-in-Some-clause-row
returns-in-Some-clause-row g c =
    rw (← c.self.view_is) (c.as_ref.ensures.value ∙ sym (lookup-rows _ g.met.K.Ord.total _ c.self.inside.slots.entries c.self.invariant.ordered ∙ ap option_flatten (sym c.get.ensures.value ∙ ap option_copied c.in-Some.is)))

pub returns-in-None-clause-row : goal.returns-in-None-clause-row
returns-in-None-clause-row g c =
    rw (← c.self.view_is) (sym (lookup-rows _ g.met.K.Ord.total _ c.self.inside.slots.entries c.self.invariant.ordered ∙ ap option_flatten (sym c.get.ensures.value ∙ ap option_copied c.in-None.is)))

-- what holds anyway holds at `Some`
on_some : {T : Type 0} {P : Type 0} (x : Option T) → P → OnSome x P
on_some None h = tt
on_some (Some x) h = h

pub returns-in-Some-clause-room : goal.returns-in-Some-clause-room
returns-in-Some-clause-room g c =
    rw (← c.self.view_is) (on_some _ (sym (is_some-lookup _ c.self.inside.slots.entries) ∙ ap is_some (sym c.get.ensures.value ∙ ap option_copied c.in-Some.is)))

pub returns-in-Some-clause-ordered : goal.returns-in-Some-clause-ordered
returns-in-Some-clause-ordered g c = rw (← c.self.view_is) (sorted-rows _ c.self.inside.slots.entries c.self.invariant.ordered)

pub returns-in-None-clause-ordered : goal.returns-in-None-clause-ordered
returns-in-None-clause-ordered g c = rw (← c.self.view_is) (sorted-rows _ c.self.inside.slots.entries c.self.invariant.ordered)

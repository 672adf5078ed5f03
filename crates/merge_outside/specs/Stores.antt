-- What a keeper of one of two kinds tells, what it counts, and what a call did to one of the second kind.
use Rattle.std.specs.Prelude.{ℕ, ⊤}
use Rattle.std.specs.declared.option.Option.{Option}
use Rattle.merge_ports.specs.Entries.{Map}
use Rattle.merge_outside.specs.declared.store.Store.{Store}
use Rattle.merge_outside.specs.declared.store.Store.TheVariants.{Memory, File}

abbrev pub told_by : {M F : Type 0} → (M → Option Map) → (F → Option Map) → Store M F → Option Map
told_by memory file (Memory keeper) = memory keeper
told_by memory file (File keeper) = file keeper

abbrev pub count_of : {M F : Type 0} → (M → ℕ) → (F → ℕ) → Store M F → ℕ
count_of memory file (Memory keeper) = memory keeper
count_of memory file (File keeper) = file keeper

-- where a file is kept, the call led its keeper from one to the other
abbrev pub OnFile : {M F : Type 0} → Store M F → Store M F → (F → F → Type 0) → Type 0
OnFile (Memory old) new Leads = ⊤
OnFile (File old) (Memory new) Leads = ⊥
OnFile (File old) (File new) Leads = Leads old new

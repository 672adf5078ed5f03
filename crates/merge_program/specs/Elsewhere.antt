-- Which stores a run leaves as they are.
use Rattle.std.specs.Prelude.{List, None, Option, Some, [], ℕ, ◌≡◌, ◌≢◌}
use Rattle.merge_types.specs.declared.identifiers.SiteId.{SiteId}
use Rattle.merge_ports.specs.Entries.{Map}
use Rattle.merge_ports.specs.Opened.{SameElsewhere}
use Rattle.merge_program.specs.declared.command.Command.{Command}
use Rattle.merge_program.specs.declared.command.Command.TheVariants.{Change, Make, Play, Show, Sync}

-- all stores at other paths are told as before
abbrev pub SameAtOthers : (path : List ℕ) → (old new : SiteId → List ℕ → Option Map) → Type 0
SameAtOthers path old new = (s : SiteId) (p : List ℕ) → p ≢ path → new s p ≡ old s p

-- A command changes no store but its own: that of its place, and of `play` and `make` those at the empty path. Words that are no command
-- change none.
abbrev pub ChangesItsOwn : Option Command → (old new : SiteId → List ℕ → Option Map) → Type 0
ChangesItsOwn None old new = new ≡ old
ChangesItsOwn (Some Play) old new = SameAtOthers [] old new
ChangesItsOwn (Some (Make customers)) old new = SameAtOthers [] old new
ChangesItsOwn (Some (Change place)) old new = SameElsewhere place.site place.store old new
ChangesItsOwn (Some (Show place article)) old new = SameElsewhere place.site place.store old new
ChangesItsOwn (Some (Sync place address)) old new = SameElsewhere place.site place.store old new

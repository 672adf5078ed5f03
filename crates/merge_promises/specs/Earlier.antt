-- Who knows a change of a row knows the earlier ones that the same site made of it.
use Rattle.std.specs.Prelude.{List, false, not, true, ◌<◌, ◌≡◌, ℕ}
use Rattle.merge_types.specs.declared.identifiers.Dot.{Dot}
use Rattle.merge_types.specs.declared.row_key.RowKey.{RowKey as Key}
use Rattle.merge_units.specs.declared.version.Version.{Version}
use Rattle.merge_model.specs.History.{Past, has, past_at}
use Rattle.merge_model.specs.History.Model.{Model}
use Rattle.merge_model.specs.Laws.Promises.{is_given_up}
use Rattle.merge_laws.specs.Facts.Knowledge.{is_made}
use Rattle.merge_laws.specs.Facts.LineagesStand.{EveryVersion}

-- The second change was made of the row, by the site that made the first, before it.
pub record IsEarlier (m : Model) (key : Key) (dot earlier : Dot) : Type 0 where
  pub same : earlier.site.0 ≡ dot.site.0
  pub before : earlier.number < dot.number
  pub made : is_made m.history.made key earlier ≡ true

-- A version of a row that knows a change knows each earlier one, but where this was given up: its site discarded it as it was made
-- anew, and what it made of the row afterwards does not come from it.
abbrev pub KnowsEarlier : Model → Key → List Dot → Type 0
KnowsEarlier m key known = (dot earlier : Dot) → IsEarlier m key dot earlier → has known dot ≡ true → is_given_up m.world.publisher m.history earlier ≡ false → has known earlier ≡ true

-- So does every version: at each site, in each message and in each conflict table.
abbrev pub EveryKnowsEarlier : Model → Type 0
EveryKnowsEarlier m = EveryVersion (λ (key : Key) (version : Version) (past : Past). KnowsEarlier m key past.known) m

-- A version that a site holds knows just those that were not given up.
abbrev pub HeldKnowEarlier : Model → Type 0
HeldKnowEarlier m = (site : ℕ) (key : Key) (dot earlier : Dot) → IsEarlier m key dot earlier → has (past_at m.history site key).known dot ≡ true
    → has (past_at m.history site key).known earlier ≡ not (is_given_up m.world.publisher m.history earlier)

-- What was made stays so, whatever a step notes, and a fact of every version goes over to a weaker one.
use Rattle.std.specs.List.{AllByRecursion, AllZip}
use Rattle.std.specs.Prelude.{List, map, ◌+◌, ℕ}
use Rattle.std.proofs.Common.{inr}
use Rattle.merge_types.specs.declared.row_key.RowKey.{RowKey as Key}
use Rattle.merge_units.specs.declared.site_row.PublisherRow.{PublisherRow}
use Rattle.merge_units.specs.declared.site_row.SubscriberRow.{SubscriberRow}
use Rattle.merge_units.specs.declared.version.Version.{Version}
use Rattle.merge_conflict.specs.declared.row.ConflictRow.{ConflictRow}
use Rattle.merge_schema.specs.declared.publication.Publication.{Publication}
use Rattle.merge_batch.specs.declared.request.Join.{Join}
use Rattle.merge_batch.specs.declared.request.Upload.{Upload}
use Rattle.merge_model.specs.Publisher.Acts.{Act}
use Rattle.merge_model.specs.Publisher.Entries.{Entries}
use Rattle.merge_model.specs.History.{History, Line, MadeChange, Past, past_at}
use Rattle.merge_model.specs.Judge.{PublisherJudge}
use Rattle.merge_model.specs.Tables.Keys.{put_number}
use Rattle.merge_model.specs.History.Noting
use Rattle.merge_model.specs.Publisher.{last_closed}
use Rattle.merge_model.specs.Tables.{PublisherTables}
use Rattle.merge_model.specs.World.{World}
use Rattle.merge_model.specs.declared.letter.Letter.{Letter}
use Rattle.merge_model.proofs.Lists.Finding.{all-weaker}
use Rattle.merge_model.proofs.Lists.{zip-weaker}
use Rattle.merge_laws.specs.Facts.LineagesStand.{OfMessage, lost_at}
use Rattle.merge_laws.proofs.Accounts.AccountElements.{IsIn}
use Rattle.merge_laws.proofs.Accounts.AccountLetters.{message-weaker}
use Rattle.merge_laws.proofs.Walking.Noted.{DecidesAsOwn, NotesKeep, acts-keep, lines-keep}
use Rattle.merge_laws.proofs.Told.ToldSites.{Every}
use Rattle.merge_laws.proofs.Walking.{join_noted}

abbrev pub AreAmong : List MadeChange → List MadeChange → Type 0
AreAmong made more = (change : MadeChange) → IsIn change made → IsIn change more

pub notes-stay : (made : List MadeChange) → NotesKeep (λ (h : History). AreAmong made h.made)
notes-stay made = record {
  of_lines = λ h lines all. all;
  of_pasts = λ h pasts all. all;
  of_lost = λ h lost all. all;
  of_accepted = λ h accepted all. all;
  of_purged = λ h purged all. all;
  of_made = λ h change own all c is. inr (all c is);
}

pub lines-stay : (made : List MadeChange) (lines : List Line) (h : History) → AreAmong made h.made → AreAmong made (Noting.with_lines lines h).made
lines-stay made lines h all = lines-keep (λ (k : History). AreAmong made k.made) (notes-stay made) lines h all

pub join-stays : (judge : PublisherJudge) (m : Join) (p : PublisherTables) (h : History) → AreAmong h.made (join_noted judge m p h).made
join-stays judge m p h =
    lines-stay h.made (map (Noting.gone_line (last_closed p + 1)) (map (Noting.gone_for m.site) (Noting.left_rows judge m.site)))
    (record (Noting.with_done m.site.0 0 m.generation h) { bases = put_number h.bases m.site.0 (last_closed p) }) (λ change is. is)

pub acts-stay : (publication : Publication) (judge : PublisherJudge) (m : Upload) (acts : List Act) (incoming : List (Key × Past)) (p : PublisherTables) (h : History) → AllByRecursion (λ (act : Act). DecidesAsOwn act.fate) acts
    → AreAmong h.made (Noting.with_acts_noted publication judge m acts incoming p h).made
acts-stay publication judge m acts incoming p h own =
    let entries : Entries = Noting.acts_entries publication judge m acts p in
    lines-stay h.made (Noting.lines_of_entries (last_closed p + 1) entries) _ (acts-keep (λ (k : History). AreAmong h.made k.made) (notes-stay h.made) incoming entries acts h own (λ change is. is))

-- A weaker fact.
module _ (P Q : Key → Version → Past → Type 0) (weaker : (key : Key) (version : Version) (past : Past) → P key version past → Q key version past) where
  lost-weaker : (rows : List ConflictRow) (lost : List (ℕ × (Key × Past))) → AllZip (λ (row : ConflictRow) (entry : ℕ × (Key × Past)). P entry.1.0 row.losing entry.1.1) rows lost → AllZip (λ (row : ConflictRow) (entry : ℕ × (Key × Past)). Q entry.1.0 row.losing entry.1.1) rows lost
  lost-weaker rows lost all = zip-weaker (λ (row : ConflictRow) (entry : ℕ × (Key × Past)). P entry.1.0 row.losing entry.1.1) (λ (row : ConflictRow) (entry : ℕ × (Key × Past)). Q entry.1.0 row.losing entry.1.1) (λ row entry is. weaker entry.1.0 row.losing entry.1.1 is) rows lost all

  pub every-weaker : (w : World) (h : History) → Every P w h → Every Q w h
  every-weaker w h e = record {
    publisher = all-weaker (λ (row : Key × PublisherRow). P row.0 row.1.version (past_at h 0 row.0)) (λ (row : Key × PublisherRow). Q row.0 row.1.version (past_at h 0 row.0))
        (λ row is. weaker row.0 row.1.version (past_at h 0 row.0) is) w.publisher.rows e.publisher;
    subscribers = λ n s at. all-weaker (λ (row : Key × SubscriberRow). P row.0 row.1.version (past_at h n row.0)) (λ (row : Key × SubscriberRow). Q row.0 row.1.version (past_at h n row.0))
        (λ row is. weaker row.0 row.1.version (past_at h n row.0) is) s.rows (e.subscribers n s at);
    letters = zip-weaker (λ (letter : Letter) (pasts : List (Key × Past)). OfMessage P pasts letter.message) (λ (letter : Letter) (pasts : List (Key × Past)). OfMessage Q pasts letter.message)
        (λ letter pasts is. message-weaker P Q weaker pasts letter.message is) w.pool h.letters e.letters;
    conflicts = lost-weaker w.publisher.conflicts (lost_at h 0) e.conflicts;
    discards = λ n s at. lost-weaker s.conflicts (lost_at h n) (e.discards n s at);
  }

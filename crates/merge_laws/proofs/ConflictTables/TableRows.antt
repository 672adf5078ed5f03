-- The rows of what is lost, as acts decide, as a site is made anew, and where nothing is lost.
use Rattle.std.specs.Prelude.{◌≡◌, ◌==◌, ◌++◌, ◌+◌, ℕ, List, [], ◌∷◌, Bool, true, false, refl, if◌then◌else◌, filter, length, map}
use Rattle.std.specs.List.{fold}
use Rattle.std.proofs.Common.{sym, ap, ◌∙◌}
use Rattle.std.proofs.lemmas.List.{append-nil, append_assoc, map-append}
use Rattle.merge_types.specs.declared.identifiers.Moment.{Moment}
use Rattle.merge_types.specs.declared.identifiers.SiteId.{SiteId}
use Rattle.merge_units.specs.declared.result.Decision.{Decision}
use Rattle.merge_units.specs.declared.result.Decision.TheVariants.{Custom, KeepPublisher, TakeSubscriber}
use Rattle.merge_units.specs.declared.version.Version.{Version}
use Rattle.merge_conflict.specs.declared.losers.Conflict.{Conflict}
use Rattle.merge_conflict.specs.declared.row.ConflictRow.{ConflictRow}
use Rattle.merge_conflict.specs.Losers.{losing_rows}
use Rattle.merge_schema.specs.declared.publication.Publication.{Publication}
use Rattle.merge_batch.specs.declared.reply.Reply.{Reply}
use Rattle.merge_model.specs.Publisher.Acts.{Act, Fate, Met, New, Unknown, conflict_of, lost_by, lost_from}
use Rattle.merge_units.specs.Cases.{is_conflict}
use Rattle.merge_model.specs.Publisher.Entries.{Entries}
use Rattle.merge_model.specs.History.{History, Line, Past, past_at, past_in}
use Rattle.merge_model.specs.Judge.{SubscriberJudge}
use Rattle.merge_model.specs.History.Noting
use Rattle.merge_model.specs.History.Pasts.{past_by}
use Rattle.merge_model.specs.Laws.Promises.{key_of_conflict}
use Rattle.merge_model.specs.Subscriber.Reinit.{discarded_rows_from}
use Rattle.merge_types.specs.declared.row_key.RowKey.{RowKey as Key}
use Rattle.merge_model.specs.Tables.{SubscriberTables}
use Rattle.merge_laws.specs.Invariants.TablesAgree.{TableAgrees, keys_lost}
use Rattle.merge_laws.proofs.Walking.NotesLeave.{decided-leaves, fold-leave, reply-leave}
use Rattle.merge_laws.proofs.Told.ToldHistories.{lost-here, lost-there}

-- Since a history before, versions of these rows were lost at a site, and none elsewhere.
pub record Loses (n : ℕ) (keys : List Key) (before h : History) : Type 0 where
  pub rows : keys_lost h n ≡ keys_lost before n ++ keys
  pub others : (m : ℕ) → (m ≡ n → ⊥) → keys_lost h m ≡ keys_lost before m

abbrev LostList : Type 0
LostList = List (ℕ × (Key × Past))

abbrev keys_in : LostList → List Key
keys_in lost = map (λ (entry : Key × Past). entry.0) (map (λ (entry : ℕ × (Key × Past)). entry.1) lost)

keys-more : (lost : LostList) (n : ℕ) (key : Key) (past : Past) → keys_in (lost ++ (n, (key, past)) ∷ []) ≡ keys_in lost ++ key ∷ []
keys-more [] n key past = refl
keys-more (entry ∷ lost) n key past = ap (λ (keys : List Key). (let all : List Key = entry.1.0 ∷ keys in all)) (keys-more lost n key past)

pub same-lost : (h before : History) (n : ℕ) → h.lost ≡ before.lost → keys_lost h n ≡ keys_lost before n
same-lost h before n same = ap (λ (lost : LostList). keys_lost (record before { lost = lost }) n) same

loses-none : (n : ℕ) (before h : History) → h.lost ≡ before.lost → Loses n [] before h
loses-none n before h same = record { rows = same-lost h before n same ∙ sym (append-nil (keys_lost before n)); others = λ m differs. same-lost h before m same }

loses-one : (n : ℕ) (key : Key) (past : Past) (h : History) → Loses n (key ∷ []) h (Noting.with_lost n key past h)
loses-one n key past h = record {
  rows = ap keys_in (lost-here h n key past) ∙ keys-more (filter (λ (entry : ℕ × (Key × Past)). entry.0 == n) h.lost) n key past;
  others = λ m differs. ap keys_in (lost-there h n m key past differs);
}

loses-then : (n : ℕ) (keys more : List Key) (before h k : History) → Loses n keys before h → Loses n more h k → Loses n (keys ++ more) before k
loses-then n keys more before h k one two = record {
  rows = two.rows ∙ ap (λ (all : List Key). all ++ more) one.rows ∙ append_assoc (keys_lost before n) keys more;
  others = λ m differs. two.others m differs ∙ one.others m differs;
}

-- a table with the rows that are added for what is lost
pub agrees-more : (n : ℕ) (before h : History) (rows new : List ConflictRow) → Loses n (map key_of_conflict new) before h → TableAgrees n before rows → TableAgrees n h (rows ++ new)
agrees-more n before h rows new loses agrees = map-append key_of_conflict rows new ∙ ap (λ (keys : List Key). keys ++ map key_of_conflict new) agrees ∙ sym loses.rows

-- Acts.

losers-lose : (decision : Decision) (conflict : Conflict) (held incoming : Version) (ours theirs : Past) (before h : History) → h.lost ≡ before.lost
    → Loses 0 (map key_of_conflict (losing_rows conflict held incoming decision)) before (Noting.with_loser decision (record { article = conflict.article; row = conflict.row }) ours theirs h)
losers-lose KeepPublisher conflict held incoming ours theirs before h same =
    let key : Key = record { article = conflict.article; row = conflict.row } in loses-then 0 [] (key ∷ []) before h (Noting.with_lost 0 key theirs h) (loses-none 0 before h same) (loses-one 0 key theirs h)
losers-lose TakeSubscriber conflict held incoming ours theirs before h same =
    let key : Key = record { article = conflict.article; row = conflict.row } in loses-then 0 [] (key ∷ []) before h (Noting.with_lost 0 key ours h) (loses-none 0 before h same) (loses-one 0 key ours h)
losers-lose (Custom values) conflict held incoming ours theirs before h same =
    let key : Key = record { article = conflict.article; row = conflict.row } in
    let one : History = Noting.with_lost 0 key ours h in
    loses-then 0 (key ∷ []) (key ∷ []) before one (Noting.with_lost 0 key theirs one)
    (loses-then 0 [] (key ∷ []) before h one (loses-none 0 before h same) (loses-one 0 key ours h)) (loses-one 0 key theirs one)

if-loses : (b : Bool) (rows : List ConflictRow) (before h k : History) → Loses 0 (map key_of_conflict rows) before h → Loses 0 [] before k → Loses 0 (map key_of_conflict (if b then rows else [])) before (if b then h else k)
if-loses true rows before h k one other = one
if-loses false rows before h k one other = other

module _ (publication : Publication) (site : SiteId) (moment : Moment) where
  fate-loses : (number generation : ℕ) (act : Act) (fate : Fate) (past : Past) (h : History) → Loses 0 (map key_of_conflict (lost_by publication site moment number act fate)) h (Noting.with_fate fate generation act.key past h)
  fate-loses number generation act New past h = loses-none 0 h (Noting.with_past 0 act.key past h) refl
  fate-loses number generation act Unknown past h = loses-one 0 act.key past h
  fate-loses number generation act (Met held case decision dot) past h =
      let ours : Past = past_at h 0 act.key in
      let made : Past = past_by case decision dot ours past in
      let after : History = Noting.with_decided decision dot generation act.key case made h in
      let same : after.lost ≡ h.lost = decided-leaves (λ (x : History). x.lost) (λ x made pasts. refl) decision dot generation act.key case made h in
      if-loses (is_conflict case) (losing_rows (conflict_of publication site moment number act.key) held act.incoming decision) h (Noting.with_loser decision act.key ours past after) after
      (losers-lose decision (conflict_of publication site moment number act.key) held act.incoming ours past h after same) (loses-none 0 h after same)

  module _ (incoming : List (Key × Past)) (entries : Entries) where
    act-loses : (number : ℕ) (act : Act) (h : History) → Loses 0 (map key_of_conflict (lost_by publication site moment number act act.fate)) h (Noting.with_act incoming entries h act)
    act-loses number act h =
        let loses = fate-loses number (Noting.entry_generation entries act.key) act act.fate (past_in incoming act.key) h in
        record { rows = loses.rows; others = loses.others }

    pub acts-lose : (number : ℕ) (acts : List Act) (h : History) → Loses 0 (map key_of_conflict (lost_from publication site moment number acts)) h (fold (Noting.with_act incoming entries) h acts)
    acts-lose number [] h = loses-none 0 h h refl
    acts-lose number (act ∷ acts) h =
        let rows : List ConflictRow = lost_by publication site moment number act act.fate in
        let rest : List ConflictRow = lost_from publication site moment (number + length rows) acts in
        let after : History = Noting.with_act incoming entries h act in
        let all : History = fold (Noting.with_act incoming entries) after acts in
        let loses : Loses 0 (map key_of_conflict rows ++ map key_of_conflict rest) h all = loses-then 0 (map key_of_conflict rows) (map key_of_conflict rest) h after all (act-loses number act h) (acts-lose (number + length rows) acts after) in
        record { rows = loses.rows ∙ ap (λ (keys : List Key). keys_lost h 0 ++ keys) (sym (map-append key_of_conflict rows rest)); others = loses.others }

-- Making anew.
pub discarded-lose : (c : SubscriberTables) (site : SiteId) (number : ℕ) (rows : List (Key × Version)) (h : History) → Loses site.0 (map key_of_conflict (discarded_rows_from c number rows)) h (fold (Noting.with_discarded site) h rows)
discarded-lose c site number [] h = loses-none site.0 h h refl
discarded-lose c site number (row ∷ rows) h =
    let after : History = Noting.with_discarded site h row in
    loses-then site.0 (row.0 ∷ []) (map key_of_conflict (discarded_rows_from c (number + 1) rows)) h after (fold (Noting.with_discarded site) after rows)
    (loses-one site.0 row.0 (past_at h site.0 row.0) h) (discarded-lose c site (number + 1) rows after)

-- Where nothing is lost.

pub lines-lost : (lines : List Line) (h : History) → (Noting.with_lines lines h).lost ≡ h.lost
lines-lost lines h = fold-leave (λ (x : History). x.lost) Noting.with_line (λ x line. refl) lines h

pub purged-lost : (keys : List Key) (h : History) → (fold Noting.with_purged h keys).lost ≡ h.lost
purged-lost keys h = fold-leave (λ (x : History). x.lost) Noting.with_purged (λ x key. refl) keys h

pub reply-lost : (judge : SubscriberJudge) (site : SiteId) (incoming : List (Key × Past)) (m : Reply) (h : History) → (Noting.noted_reply judge site incoming m h).lost ≡ h.lost
reply-lost judge site incoming m h = reply-leave (λ (x : History). x.lost) (λ x pasts. refl) judge site incoming m h

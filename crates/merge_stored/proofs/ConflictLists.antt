-- The numbers of conflicts, where more are added behind those that there are.
use Rattle.std.specs.List.{AllByRecursion}
use Rattle.std.specs.Prelude.{Bool, List, [], false, if◌then◌else◌, length, refl, true, ℕ, ◌*◌, ◌++◌, ◌+◌, ◌≡◌, ◌≤◌, ◌∷◌}
use Rattle.std.proofs.Common.{arith, subst, sym}
use Rattle.std.proofs.lemmas.List.{length-append}
use Rattle.merge_types.specs.declared.identifiers.Moment.{Moment}
use Rattle.merge_types.specs.declared.identifiers.SiteId.{SiteId}
use Rattle.merge_types.specs.declared.row_key.RowKey.{RowKey as Key}
use Rattle.merge_units.specs.Cases.{is_conflict}
use Rattle.merge_units.specs.declared.result.Decision.{Decision}
use Rattle.merge_units.specs.declared.result.Decision.TheVariants.{Custom, KeepPublisher, TakeSubscriber}
use Rattle.merge_units.specs.declared.version.Version.{Version}
use Rattle.merge_conflict.specs.Losers.{losing_rows}
use Rattle.merge_conflict.specs.declared.losers.Conflict.{Conflict}
use Rattle.merge_conflict.specs.declared.row.ConflictRow.{ConflictRow}
use Rattle.merge_schema.specs.declared.publication.Publication.{Publication}
use Rattle.merge_batch.specs.Lineages.{is_site}
use Rattle.merge_keeper.specs.SubscriberRules.{Numbered}
use Rattle.merge_model.specs.Publisher.Acts.{Act, Fate, Met, New, Unknown, conflict_of, lost_by, lost_from}
use Rattle.merge_model.specs.Subscriber.Reinit.{discarded_rows_from}
use Rattle.merge_model.specs.Tables.{SubscriberTables}
use Rattle.merge_model.proofs.Lists.Finding.{all-weaker}
use Rattle.merge_model.proofs.Lists.{all-append}
use Rattle.merge_stored.specs.Conflicts.{LostAt}

-- behind those that there are
pub numbered-append : (last mid counter : ℕ) (rows more : List ConflictRow) → Numbered mid last rows → Numbered counter mid more → Numbered counter last (rows ++ more)
numbered-append last mid counter [] more ends begins = subst (λ (n : ℕ). Numbered counter n more) (sym ends) begins
numbered-append last mid counter (row ∷ rows) more ends begins = (ends.0, numbered-append (last + 1) mid counter rows more ends.1 begins)

-- What one act adds.

decided-numbered : (last : ℕ) (conflict : Conflict) (held incoming : Version) (decision : Decision) → conflict.number ≡ last + 1 → (let rows : List ConflictRow = losing_rows conflict held incoming decision in Numbered (last + length rows) last rows)
decided-numbered last conflict held incoming KeepPublisher is = (is, refl)
decided-numbered last conflict held incoming TakeSubscriber is = (is, refl)
decided-numbered last conflict held incoming (Custom values) is = (is, ((let next : conflict.number + 1 ≡ last + 1 + 1 = omega (arith, is) in next), omega arith))

if-numbered : (last : ℕ) (b : Bool) (rows : List ConflictRow) → Numbered (last + length rows) last rows → (let some : List ConflictRow = if b then rows else [] in Numbered (last + length some) last some)
if-numbered last true rows is = is
if-numbered last false rows is = omega arith

act-numbered : (publication : Publication) (site : SiteId) (moment : Moment) (last number : ℕ) (act : Act) (fate : Fate) → number ≡ last + 1 → (let rows : List ConflictRow = lost_by publication site moment number act fate in Numbered (last + length rows) last rows)
act-numbered publication site moment last number act New is = omega arith
act-numbered publication site moment last number act Unknown is = (is, refl)
act-numbered publication site moment last number act (Met held case decision dot) is =
    if-numbered last (is_conflict case) (losing_rows (conflict_of publication site moment number act.key) held act.incoming decision) (decided-numbered last (conflict_of publication site moment number act.key) held act.incoming decision is)

numbered-to : (last counter other : ℕ) (rows : List ConflictRow) → counter ≡ other → Numbered counter last rows → Numbered other last rows
numbered-to last counter other rows same is = subst (λ (n : ℕ). Numbered n last rows) same is

pub acts-numbered : (publication : Publication) (site : SiteId) (moment : Moment) (last number : ℕ) (acts : List Act) → number ≡ last + 1 → (let rows : List ConflictRow = lost_from publication site moment number acts in Numbered (last + length rows) last rows)
acts-numbered publication site moment last number [] is = omega arith
acts-numbered publication site moment last number (act ∷ acts) is =
    let rows : List ConflictRow = lost_by publication site moment number act act.fate in
    let more : List ConflictRow = lost_from publication site moment (number + length rows) acts in
    let first = act-numbered publication site moment last number act act.fate is in
    let rest = acts-numbered publication site moment (last + length rows) (number + length rows) acts (omega (arith, is)) in
    let long : length (rows ++ more) ≡ length rows + length more = length-append rows more in
    numbered-to last (last + length rows + length more) (last + length (rows ++ more)) (rows ++ more) (omega (arith, long)) (numbered-append last (last + length rows) (last + length rows + length more) rows more first rest)

-- Two at most of each act.

decided-few : (conflict : Conflict) (held incoming : Version) (decision : Decision) → length (losing_rows conflict held incoming decision) ≤ 2
decided-few conflict held incoming KeepPublisher = omega arith
decided-few conflict held incoming TakeSubscriber = omega arith
decided-few conflict held incoming (Custom values) = omega arith

if-few : (b : Bool) (rows : List ConflictRow) → length rows ≤ 2 → (let some : List ConflictRow = if b then rows else [] in length some ≤ 2)
if-few true rows few = few
if-few false rows few = omega arith

act-few : (publication : Publication) (site : SiteId) (moment : Moment) (number : ℕ) (act : Act) (fate : Fate) → length (lost_by publication site moment number act fate) ≤ 2
act-few publication site moment number act New = omega arith
act-few publication site moment number act Unknown = omega arith
act-few publication site moment number act (Met held case decision dot) = if-few (is_conflict case) (losing_rows (conflict_of publication site moment number act.key) held act.incoming decision) (decided-few (conflict_of publication site moment number act.key) held act.incoming decision)

pub acts-few : (publication : Publication) (site : SiteId) (moment : Moment) (number : ℕ) (acts : List Act) → length (lost_from publication site moment number acts) ≤ 2 * length acts
acts-few publication site moment number [] = omega arith
acts-few publication site moment number (act ∷ acts) =
    let rows : List ConflictRow = lost_by publication site moment number act act.fate in
    let more : List ConflictRow = lost_from publication site moment (number + length rows) acts in
    let first = act-few publication site moment number act act.fate in
    let rest = acts-few publication site moment (number + length rows) acts in
    let long : length (rows ++ more) ≡ length rows + length more = length-append rows more in
    omega (arith, first, rest, long)

-- Each is of the publisher or of the uploader.

module _ (publication : Publication) (site : SiteId) (moment : Moment) (subscribes : is_site publication site.0 ≡ true) where
  now : moment.0 ≤ moment.0
  now = omega arith

  decided-lost : (number : ℕ) (key : Key) (held incoming : Version) (decision : Decision) → AllByRecursion (LostAt publication moment.0) (losing_rows (conflict_of publication site moment number key) held incoming decision)
  decided-lost number key held incoming KeepPublisher = ((subscribes, now), tt)
  decided-lost number key held incoming TakeSubscriber = ((refl, now), tt)
  decided-lost number key held incoming (Custom values) = ((refl, now), ((subscribes, now), tt))

  if-lost : (b : Bool) (rows : List ConflictRow) → AllByRecursion (LostAt publication moment.0) rows → (let some : List ConflictRow = if b then rows else [] in AllByRecursion (LostAt publication moment.0) some)
  if-lost true rows all = all
  if-lost false rows all = tt

  act-lost : (number : ℕ) (act : Act) (fate : Fate) → AllByRecursion (LostAt publication moment.0) (lost_by publication site moment number act fate)
  act-lost number act New = tt
  act-lost number act Unknown = ((subscribes, now), tt)
  act-lost number act (Met held case decision dot) = if-lost (is_conflict case) (losing_rows (conflict_of publication site moment number act.key) held act.incoming decision) (decided-lost number act.key held act.incoming decision)

  pub acts-lost : (number : ℕ) (acts : List Act) → AllByRecursion (LostAt publication moment.0) (lost_from publication site moment number acts)
  acts-lost number [] = tt
  acts-lost number (act ∷ acts) =
      let rows : List ConflictRow = lost_by publication site moment number act act.fate in
      all-append (LostAt publication moment.0) rows (lost_from publication site moment (number + length rows) acts) (act-lost number act act.fate) (acts-lost (number + length rows) acts)

pub later-lost : (publication : Publication) (latest later : ℕ) (rows : List ConflictRow) → latest ≤ later → AllByRecursion (LostAt publication latest) rows → AllByRecursion (LostAt publication later) rows
later-lost publication latest later rows up all = all-weaker (LostAt publication latest) (LostAt publication later) (λ row is. (is.0, (let low = is.1 in omega (arith, low, up)))) rows all

-- Making a site anew adds its rows one after the other.

pub anew-numbered : (s : SubscriberTables) (last number : ℕ) (rows : List (Key × Version)) → number ≡ last + 1 → Numbered (last + length rows) last (discarded_rows_from s number rows)
anew-numbered s last number [] is = omega arith
anew-numbered s last number (row ∷ rows) is =
    (is, numbered-to (last + 1) (last + 1 + length rows) (last + length (row ∷ rows)) (discarded_rows_from s (number + 1) rows) (omega arith) (anew-numbered s (last + 1) (number + 1) rows (omega (arith, is))))

pub anew-lost : (publication : Publication) (s : SubscriberTables) (number : ℕ) (rows : List (Key × Version)) → is_site publication s.site.0 ≡ true → AllByRecursion (LostAt publication s.latest.0) (discarded_rows_from s number rows)
anew-lost publication s number [] subscribes = tt
anew-lost publication s number (row ∷ rows) subscribes = ((subscribes, omega arith), anew-lost publication s (number + 1) rows subscribes)

pub anew-long : (s : SubscriberTables) (number : ℕ) (rows : List (Key × Version)) → length (discarded_rows_from s number rows) ≡ length rows
anew-long s number [] = refl
anew-long s number (row ∷ rows) = let rest = anew-long s (number + 1) rows in omega (arith, rest)

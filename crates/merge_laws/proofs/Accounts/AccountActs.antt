-- The items of an upload act, one after the other: what is accounted for stays so, and what they bring is safe.
use Rattle.std.specs.Prelude.{◌≡◌, ◌+◌, ◌++◌, ℕ, List, [], ◌∷◌, Bool, true, false, Option, Some, None, refl, if◌then◌else◌, option_map}
use Rattle.std.specs.List.{AllByRecursion}
use Rattle.std.proofs.Common.{arith, subst, sym, ap}
use Rattle.std.proofs.lemmas.Bool.Decides.{nat_tests}
use Rattle.merge_types.specs.declared.identifiers.Dot.{Dot}
use Rattle.merge_types.specs.declared.identifiers.SiteId.{SiteId}
use Rattle.merge_units.specs.declared.case.Case.{Case}
use Rattle.merge_units.specs.declared.result.Decision.{Decision}
use Rattle.merge_units.specs.declared.result.Decision.TheVariants.{Custom, KeepPublisher, TakeSubscriber}
use Rattle.merge_units.specs.declared.version.Body.{Body}
use Rattle.merge_units.specs.declared.version.Version.{Version}
use Rattle.merge_schema.specs.declared.publication.Publication.{Publication}
use Rattle.merge_batch.specs.declared.request.UploadItem.{UploadItem}
use Rattle.merge_model.specs.Publisher.Acts.{Fate, Met, New, Unknown, case_met, decision_for, fate_by, is_new_row, key_of_item, version_by}
use Rattle.merge_model.specs.Judge.ByHistory.{by_past}
use Rattle.merge_units.specs.Cases.{case_by, is_conflict}
use Rattle.merge_units.specs.Results.{result_by}
use Rattle.merge_units.specs.Version.{tops_of}
use Rattle.merge_model.specs.History.{Chains, History, MadeChange, Past, has, past_at, past_in}
use Rattle.merge_model.specs.Tables.Keys.{at_number, same_key}
use Rattle.merge_model.specs.History.Noting
use Rattle.merge_model.specs.History.Pasts.{cell_count, past_by}
use Rattle.merge_model.specs.Laws.Promises.{InRow, Place}
use Rattle.merge_types.specs.declared.row_key.RowKey.{RowKey as Key}
use Rattle.merge_units.specs.declared.site_row.PublisherRow.{PublisherRow}
use Rattle.merge_model.specs.Tables.{SubscriberTables}
use Rattle.merge_model.specs.declared.letter.Letter.{Letter}
use Rattle.merge_laws.specs.Facts.Accounts.{Accounts, GrownAlone, IsSafe, IsTraced, is_kept_elsewhere, is_made_at, is_past, is_settled, makes}
use Rattle.merge_laws.specs.Facts.Knowledge.{Knows, is_made}
use Rattle.merge_laws.proofs.Accounts.AccountElements.{IsIn}
use Rattle.merge_laws.proofs.Accounts.AccountHistory.{Goes, OfNew, alone-new, goes-traced, made-new, traced-new}
use Rattle.merge_laws.proofs.Accounts.AccountLetters.{IsOfSite}
use Rattle.merge_laws.proofs.Accounts.AccountMeetings.{IsNew, decided_new, knows-either, lost-keeps, lost-last, lost_after, meeting-is, met-grown, met-holds, own_dot, past-stays}
use Rattle.merge_laws.proofs.Accounts.AccountRows.{KeepsLost, at-key, at-other, gone_on, in-new, lost-accounts, lost-goes, more-elsewhere, row-accounts, row-goes}
use Rattle.merge_laws.proofs.Known.ChangeDots.{AreDistinct, made-distinct}
use Rattle.merge_model.proofs.Lists.KeyLookUps.{keys-same}
use Rattle.merge_laws.proofs.Known.Knowing.{IsFresh, fresh-above}
use Rattle.merge_laws.proofs.Known.KnownNotes.{Reached}
use Rattle.merge_laws.proofs.Known.KnownRows.{held-knows, past-knows}
use Rattle.merge_laws.proofs.Told.ToldRows.{put_if, put_version}

-- what becomes of a history by an item of a row, and what the publisher holds then
pub record Acted (publication : Publication) (sites : List (ℕ × SubscriberTables)) (pool : List Letter) (key : Key) (theirs : Past) (h : History) (found : Key → Option Version) (after : History) : Type 0 where
  pub accounts : Accounts publication found sites pool after
  pub goes : Goes h after
  pub made : (k : Key) (dot : Dot) (place : Place) → is_made_at h.made k dot place ≡ true → is_made_at after.made k dot place ≡ true
  pub alone : (cells : ℕ) (k : Key) (body : Body) (chains : Chains) → GrownAlone cells h.made k body chains → GrownAlone cells after.made k body chains
  pub traced : (k : Key) (past : Past) → ((dot : Dot) → has past.known dot ≡ true → is_made h.made k dot ≡ true) → IsTraced h k past → IsTraced after k past
  pub others : (q : Key) → same_key q key ≡ false → past_at after 0 q ≡ past_at h 0 q
  pub done : after.done ≡ h.done
  -- no site made a change
  pub away : (c : MadeChange) → (c.dot.site.0 ≡ 0 → ⊥) → IsIn c after.made → IsIn c h.made
  -- what the item knew is safe
  pub brought : (c : MadeChange) → ((place : Place) → makes c place ≡ true → is_made_at h.made c.key c.dot place ≡ true) → same_key c.key key ≡ true → has theirs.known c.dot ≡ true → IsSafe after c

-- what an act puts
abbrev pub put_by : Key → Version → Fate → Option (Key × Version)
put_by key incoming fate = elim (version_by incoming fate) [
  | None ↦ None
  | Some version ↦ Some (key, version)
]

module _ (publication : Publication) (sites : List (ℕ × SubscriberTables)) (pool : List Letter) (none : at_number sites 0 ≡ None) (away : AllByRecursion (λ (letter : Letter). IsOfSite letter.message) pool) where
  -- One item.
  module _ (incoming : List (Key × Past)) (count : ℕ → ℕ) (found : Key → Option Version) (h : History) (r : Reached count incoming h) (a : Accounts publication found sites pool h) (item : UploadItem)
      (grown : GrownAlone (cell_count publication item.article) h.made (key_of_item item) item.version.body (past_in incoming (key_of_item item)).chains) (traced : IsTraced h (key_of_item item) (past_in incoming (key_of_item item))) where
    abbrev key : Key
    key = key_of_item item

    abbrev theirs : Past
    theirs = past_in incoming key

    abbrev OfFate : Fate → ℕ → Type 0
    OfFate fate generation = Acted publication sites pool key theirs h (put_if found (put_by key item.version fate)) (Noting.with_accepted theirs (Noting.with_fate fate generation key theirs h))

    knows : Knows h.made key theirs.known
    knows = past-knows h.made key incoming r.1

    own : Knows h.made key (past_at h 0 key).known
    own = held-knows h 0 key r.0.knowledge

    distinct : AreDistinct h.made
    distinct = made-distinct count h r.0.numbered

    -- what is known afterwards is safe
    known-safe : (after : History) (c : MadeChange) → same_key c.key key ≡ true → has (past_at after 0 key).known c.dot ≡ true → IsSafe after c
    known-safe after c same known place does =
        let here : has (past_at after 0 c.key).known c.dot ≡ true = subst (λ (k : Key). has (past_at after 0 k).known c.dot ≡ true) (sym (keys-same c.key key same)) known in
        grind (arith, here)

    keeps-same : KeepsLost h h.lost
    keeps-same k place dot is = is

    -- a new row
    new-acted : (generation : ℕ) → found key ≡ None → OfFate New generation
    new-acted generation absent =
        let past_knows : (dot : Dot) → has (past_at h 0 key).known dot ≡ true → has theirs.known dot ≡ true = λ dot is. absurd (let no = a.absent key absent dot in grind (arith, no, is)) in
        let goes : Goes h (gone_on h None key theirs h.lost (h.accepted ++ theirs.known) h.lines) = row-goes publication found sites pool h none away r.0.knowledge a None key theirs h.lost (h.accepted ++ theirs.known) h.lines keeps-same tt tt past_knows
        (λ dot deleted is. absurd (let no = a.absent key absent dot in grind (arith, no, is))) in
        record {
          accounts = row-accounts publication found sites pool h none away r.0.knowledge a None key theirs h.lost (h.accepted ++ theirs.known) h.lines keeps-same tt tt past_knows
              (λ dot deleted is. absurd (let no = a.absent key absent dot in grind (arith, no, is))) traced.holds item.version (put_version found (key, item.version)) (λ k. refl) grown.0 tt;
          goes = goes;
          made = λ k dot place is. is;
          alone = λ cells k body chains is. is;
          traced = λ k past made is. goes-traced h (gone_on h None key theirs h.lost (h.accepted ++ theirs.known) h.lines) k past goes is;
          others = λ q differs. at-other publication found sites pool h none away r.0.knowledge a None key theirs h.lost (h.accepted ++ theirs.known) h.lines q differs;
          done = refl;
          away = λ c there is. is;
          brought = λ c made same known. known-safe (gone_on h None key theirs h.lost (h.accepted ++ theirs.known) h.lines) c same
              (subst (λ (p : Past). has p.known c.dot ≡ true) (sym (at-key publication found sites pool h none away r.0.knowledge a None key theirs h.lost (h.accepted ++ theirs.known) h.lines key (grind (arith, nat_tests)))) known);
        }

    -- a row that was purged, or is not known
    unknown-acted : (generation : ℕ) → OfFate Unknown generation
    unknown-acted generation =
        let lost : List (ℕ × (Key × Past)) = h.lost ++ (0, (key, theirs)) ∷ [] in
        let after : History = record h { lost = lost; accepted = h.accepted ++ theirs.known; lines = h.lines } in
        let keeps : KeepsLost h lost = λ k place dot is. more-elsewhere h.lost ((0, (key, theirs)) ∷ []) h.purged k place dot is in
        let goes : Goes h after = lost-goes publication found sites pool h none away r.0.knowledge a lost (h.accepted ++ theirs.known) h.lines keeps in
        record {
          accounts = lost-accounts publication found sites pool h none away r.0.knowledge a lost (h.accepted ++ theirs.known) h.lines keeps;
          goes = goes;
          made = λ k dot place is. is;
          alone = λ cells k body chains is. is;
          traced = λ k past made is. goes-traced h after k past goes is;
          others = λ q differs. refl;
          done = refl;
          away = λ c there is. is;
          brought = λ c made same known place does. (
              let is : c.key ≡ key = keys-same c.key key same in
              let holds = traced.holds c.dot place (subst (λ (k : Key). is_made_at h.made k c.dot place ≡ true) is (made place does)) known in
              let last = lost-last h.lost 0 key theirs place c.dot in
              let kept = keeps key place c.dot in
              let elsewhere : is_kept_elsewhere lost h.purged key place c.dot ≡ true = grind (arith, holds, last, kept) in
              let there : is_kept_elsewhere lost h.purged c.key place c.dot ≡ true = subst (λ (k : Key). is_kept_elsewhere lost h.purged k place c.dot ≡ true) (sym is) elsewhere in
              grind (arith, there)
              );
        }

    -- a row that is held
    module _ (held : Version) (here : found key ≡ Some held) (tops : AllByRecursion (λ (top : Dot). has (past_at h 0 key).known top ≡ true) (tops_of held.body)) (number : ℕ) (next : number ≡ count 0 + 1) where
      abbrev one : Past
      one = past_at h 0 key

      abbrev case_here : Case
      case_here = case_by (has one.known) (has theirs.known) held.body item.version.body

      fresh : IsFresh h.made (own_dot number)
      fresh = fresh-above count h (own_dot number) r.0.numbered (omega (arith, next))

      new-fresh : (decision : Decision) (generation : ℕ) (past : Past) → OfNew (λ (c : MadeChange). IsFresh h.made c.dot) (decided_new decision (own_dot number) generation key case_here past)
      new-fresh KeepPublisher generation past = tt
      new-fresh TakeSubscriber generation past = tt
      new-fresh (Custom values) generation past = fresh

      new-is : (decision : Decision) → IsNew h decision number
      new-is KeepPublisher = tt
      new-is TakeSubscriber = tt
      new-is (Custom values) = fresh

      new-own : (decision : Decision) (generation : ℕ) (past : Past) → OfNew (λ (c : MadeChange). c.dot.site.0 ≡ 0) (decided_new decision (own_dot number) generation key case_here past)
      new-own KeepPublisher generation past = tt
      new-own TakeSubscriber generation past = tt
      new-own (Custom values) generation past = refl

      -- the change that is made is known, and safe
      new-safe : (decision : Decision) (generation : ℕ) (after : History) → (let past : Past = past_by case_here decision (own_dot number) one theirs in past_at after 0 key ≡ past
          → OfNew (λ (c : MadeChange). is_settled sites h c ≡ true → IsSafe after c) (decided_new decision (own_dot number) generation key case_here past))
      new-safe KeepPublisher generation after is = tt
      new-safe TakeSubscriber generation after is = tt
      new-safe (Custom values) generation after is = λ settled place does. (
          let known : has (past_at after 0 key).known (own_dot number) ≡ true = subst (λ (p : Past). has p.known (own_dot number) ≡ true) (sym is) (grind (arith, nat_tests)) in
          grind (arith, known)
          )

      met-by : (decision : Decision) (generation : ℕ)
          → (let past : Past = past_by case_here decision (own_dot number) one theirs in
          Acted publication sites pool key theirs h (put_version found (key, result_by case_here held item.version decision (own_dot number)))
          (gone_on h (decided_new decision (own_dot number) generation key case_here past) key past (lost_after (is_conflict case_here) decision key one theirs h.lost) (h.accepted ++ theirs.known) h.lines))
      met-by decision generation =
          let cells : ℕ = cell_count publication item.article in
          let past : Past = past_by case_here decision (own_dot number) one theirs in
          let new : Option MadeChange = decided_new decision (own_dot number) generation key case_here past in
          let lost : List (ℕ × (Key × Past)) = lost_after (is_conflict case_here) decision key one theirs h.lost in
          let after : History = gone_on h new key past lost (h.accepted ++ theirs.known) h.lines in
          let keeps : KeepsLost h lost = lost-keeps (is_conflict case_here) decision key one theirs h in
          let mine = a.publisher key held here in
          let grows : (dot : Dot) → has one.known dot ≡ true → has past.known dot ≡ true = λ dot is. knows-either case_here decision (own_dot number) one theirs dot (grind (arith, is)) in
          let brings : (dot : Dot) → has theirs.known dot ≡ true → has past.known dot ≡ true = λ dot is. knows-either case_here decision (own_dot number) one theirs dot (grind (arith, is)) in
          let stays : (dot : Dot) → is_made_at h.made key dot InRow ≡ true → is_past one dot ≡ true → is_past past dot ≡ true =
          past-stays cells h key one theirs distinct own.closed knows.closed held.body item.version.body mine grown tops decision number generation in
          let holds = met-holds cells h key one theirs distinct own.closed knows.closed held.body item.version.body mine grown tops number generation traced (a.held 0 key).holds decision (new-is decision) in
          let result = met-grown cells h key one theirs distinct own.closed knows.closed held.body item.version.body mine grown tops number generation traced (a.held 0 key).holds decision (new-is decision) in
          let fresh_one = new-fresh decision generation past in
          let own_one = new-own decision generation past in
          let goes : Goes h after = row-goes publication found sites pool h none away r.0.knowledge a new key past lost (h.accepted ++ theirs.known) h.lines keeps fresh_one own_one grows stays in
          let at : past_at after 0 key ≡ past = at-key publication found sites pool h none away r.0.knowledge a new key past lost (h.accepted ++ theirs.known) h.lines key (grind (arith, nat_tests)) in
          record {
            accounts = row-accounts publication found sites pool h none away r.0.knowledge a new key past lost (h.accepted ++ theirs.known) h.lines keeps fresh_one own_one grows stays holds
                (result_by case_here held item.version decision (own_dot number)) (put_version found (key, result_by case_here held item.version decision (own_dot number))) (λ k. refl) result (new-safe decision generation after at);
            goes = goes;
            made = λ k dot place is. made-new new h.made k dot place is;
            alone = λ n k body chains is. alone-new new n h.made k body chains is;
            traced = λ k other made is. traced-new new h.made after.lost after.purged (past_at after 0 k) k other fresh_one made (goes-traced h after k other goes is);
            others = λ q differs. at-other publication found sites pool h none away r.0.knowledge a new key past lost (h.accepted ++ theirs.known) h.lines q differs;
            done = refl;
            away = λ c there is. in-new new 0 c h.made own_one there is;
            brought = λ c made same known. known-safe after c same (subst (λ (p : Past). has p.known c.dot ≡ true) (sym at) (brings c.dot known));
          }

      met-acted : (decision : Decision) (generation : ℕ) → OfFate (Met held case_here decision (own_dot number)) generation
      met-acted decision generation =
          subst (λ (k : History). Acted publication sites pool key theirs h (put_version found (key, result_by case_here held item.version decision (own_dot number))) k) (sym (meeting-is case_here decision number generation key one theirs h))
          (met-by decision generation)

    -- whatever is found of the row
    pub fate-acted : (base : History) (site : SiteId) (number generation : ℕ) (decisions : List Decision) (o : Option PublisherRow) → found key ≡ option_map (λ (row : PublisherRow). row.version) o → past_at h 0 key ≡ past_at base 0 key
        → ((version : Version) → found key ≡ Some version → AllByRecursion (λ (top : Dot). has (past_at h 0 key).known top ≡ true) (tops_of version.body)) → number ≡ count 0 + 1
        → OfFate (fate_by (by_past base incoming) site number decisions item o) generation
    fate-acted base site number generation decisions None absent same told next = elim (is_new_row (by_past base incoming) site key) as (λ (b : Bool). OfFate (if b then New else Unknown) generation) [
      | true ↦ new-acted generation absent
      | false ↦ unknown-acted generation
    ]
    fate-acted base site number generation decisions (Some row) here same told next =
        let case : Case = case_met (by_past base incoming) key row.version item.version in
        let alike : case_by (has (past_at h 0 key).known) (has theirs.known) row.version.body item.version.body ≡ case = ap (λ (x : Past). case_by (has x.known) (has theirs.known) row.version.body item.version.body) same in
        subst (λ (c : Case). OfFate (Met row.version c (decision_for case decisions) (own_dot number)) generation) alike (met-acted row.version here (told row.version here) number next (decision_for case decisions) generation)

-- All items of an upload that act.
use Rattle.std.specs.Prelude.{◌≡◌, ◌+◌, ℕ, List, [], ◌∷◌, Bool, true, false, Option, Some, None, refl, if◌then◌else◌}
use Rattle.std.specs.List.{AllByRecursion, cons_option, fold}
use Rattle.std.proofs.Common.{arith, subst, sym, ap, ◌∙◌}
use Rattle.merge_types.specs.declared.identifiers.Dot.{Dot}
use Rattle.merge_types.specs.declared.identifiers.SiteId.{SiteId}
use Rattle.merge_units.specs.declared.result.Decision.{Decision}
use Rattle.merge_units.specs.declared.version.Version.{Version}
use Rattle.merge_schema.specs.declared.publication.Publication.{Publication}
use Rattle.merge_batch.specs.declared.request.UploadItem.{UploadItem}
use Rattle.merge_model.specs.Publisher.Acts.{Act, act_of, acts_from, key_of_item, left_by, made_by, version_by, versions_of}
use Rattle.merge_model.specs.Judge.ByHistory.{by_past}
use Rattle.merge_units.specs.Version.{tops_of}
use Rattle.merge_model.specs.Publisher.Entries.{Entries}
use Rattle.merge_model.specs.History.{History, MadeChange, Past, has, past_at, past_in}
use Rattle.merge_model.specs.Judge.{PublisherJudge}
use Rattle.merge_model.specs.Tables.Keys.{at_number, row_at, same_key}
use Rattle.merge_model.specs.History.Noting
use Rattle.merge_model.specs.History.Pasts.{cell_count}
use Rattle.merge_model.specs.Laws.Promises.{InRow, Place}
use Rattle.merge_model.specs.Publisher.PublisherLocal.{version_at}
use Rattle.merge_types.specs.declared.row_key.RowKey.{RowKey as Key}
use Rattle.merge_model.specs.Tables.{PublisherTables, SubscriberTables}
use Rattle.merge_model.specs.declared.letter.Letter.{Letter}
use Rattle.merge_laws.specs.Facts.Accounts.{Accounts, GrownAlone, IsSafe, IsTraced, is_made_at, makes}
use Rattle.merge_laws.proofs.Accounts.AccountActs.{Acted, fate-acted, put_by}
use Rattle.merge_laws.proofs.Accounts.AccountElements.{IsIn}
use Rattle.merge_laws.proofs.Accounts.AccountHistory.{Goes, goes-nowhere, goes-on, goes-safe}
use Rattle.merge_laws.proofs.Accounts.AccountLetters.{IsOfSite}
use Rattle.merge_model.proofs.Lists.Finding.{all-weaker}
use Rattle.merge_laws.proofs.Known.KnownNotes.{Reached, acts-reached, raised}
use Rattle.merge_laws.proofs.Known.KnownRows.{past-knows}
use Rattle.merge_model.proofs.Lists.{all-both}
use Rattle.merge_laws.proofs.Told.ToldItems.{ItemsApart}
use Rattle.merge_laws.proofs.Told.ToldRows.{put_if, put_version}

-- what an item knew is safe
abbrev pub IsBrought : List (Key × Past) → History → History → UploadItem → Type 0
IsBrought incoming h after item = (c : MadeChange) → ((place : Place) → makes c place ≡ true → is_made_at h.made c.key c.dot place ≡ true) → same_key c.key (key_of_item item) ≡ true → has (past_in incoming (key_of_item item)).known c.dot ≡ true → IsSafe after c

pub record AllActed (publication : Publication) (sites : List (ℕ × SubscriberTables)) (pool : List Letter) (incoming : List (Key × Past)) (h : History) (found : Key → Option Version) (after : History) (items : List UploadItem) : Type 0 where
  pub accounts : Accounts publication found sites pool after
  pub goes : Goes h after
  pub made : (k : Key) (dot : Dot) (place : Place) → is_made_at h.made k dot place ≡ true → is_made_at after.made k dot place ≡ true
  pub done : after.done ≡ h.done
  -- no site made a change
  pub away : (c : MadeChange) → (c.dot.site.0 ≡ 0 → ⊥) → IsIn c after.made → IsIn c h.made
  pub brought : AllByRecursion (IsBrought incoming h after) items

-- the version that is put first, and the rest
put-first : (o : Option (Key × Version)) (found : Key → Option Version) (rest : List (Key × Version)) → fold put_version found (cons_option o rest) ≡ fold put_version (put_if found o) rest
put-first None found rest = refl
put-first (Some row) found rest = refl

put-other : (key q : Key) (version : Option Version) (found : Key → Option Version) → same_key q key ≡ false → (let o : Option (Key × Version) = elim version [ None ↦ None | Some v ↦ Some (key, v) ] in put_if found o q) ≡ found q
put-other key q None found differs = refl
put-other key q (Some v) found differs = ap (λ (b : Bool). if b then Some v else found q) differs

module _ (publication : Publication) (sites : List (ℕ × SubscriberTables)) (pool : List Letter) (none : at_number sites 0 ≡ None) (away : AllByRecursion (λ (letter : Letter). IsOfSite letter.message) pool)
    (incoming : List (Key × Past)) (entries : Entries) (base : History) (site : SiteId) (p : PublisherTables)
    (told : (key : Key) (version : Version) → version_at p key ≡ Some version → AllByRecursion (λ (top : Dot). has (past_at base 0 key).known top ≡ true) (tops_of version.body)) where
  -- an item before it acts: its row is as it was
  pub record IsReady (h : History) (found : Key → Option Version) (item : UploadItem) : Type 0 where
    pub grown : GrownAlone (cell_count publication item.article) h.made (key_of_item item) item.version.body (past_in incoming (key_of_item item)).chains
    pub traced : IsTraced h (key_of_item item) (past_in incoming (key_of_item item))
    pub here : found (key_of_item item) ≡ version_at p (key_of_item item)
    pub same : past_at h 0 (key_of_item item) ≡ past_at base 0 (key_of_item item)

  abbrev judge : PublisherJudge
  judge = by_past base incoming

  module _ (count : ℕ → ℕ) (found : Key → Option Version) (h : History) (r : Reached count incoming h) (a : Accounts publication found sites pool h) (number : ℕ) (next : number ≡ count 0 + 1) (decisions : List Decision) (item : UploadItem) (ready : IsReady h found item) where
    abbrev act : Act
    act = act_of judge site p number decisions item

    abbrev after : History
    after = Noting.with_act incoming entries h act

    abbrev then_found : Key → Option Version
    then_found = put_if found (put_by (key_of_item item) item.version act.fate)

    tops : (version : Version) → found (key_of_item item) ≡ Some version → AllByRecursion (λ (top : Dot). has (past_at h 0 (key_of_item item)).known top ≡ true) (tops_of version.body)
    tops version at = subst (λ (x : Past). AllByRecursion (λ (top : Dot). has x.known top ≡ true) (tops_of version.body)) (sym ready.same) (told (key_of_item item) version (sym ready.here ∙ at))

    item-acted : Acted publication sites pool (key_of_item item) (past_in incoming (key_of_item item)) h then_found after
    item-acted = fate-acted publication sites pool none away incoming count found h r a item ready.grown ready.traced base site number (Noting.entry_generation entries (key_of_item item)) decisions (row_at p.rows (key_of_item item)) ready.here ready.same tops next

    item-reached : Reached (raised count 0 (made_by act.fate + 0)) incoming after
    item-reached = acts-reached count incoming entries judge site p number decisions (item ∷ []) h r next

    next-number : number + made_by act.fate ≡ raised count 0 (made_by act.fate + 0) 0 + 1
    next-number = omega (arith, next)

    -- the rows of the other items are as they were
    still-ready : (other : UploadItem) → same_key (key_of_item other) (key_of_item item) ≡ false → IsReady h found other → IsReady after then_found other
    still-ready other differs was = record {
      grown = item-acted.alone (cell_count publication other.article) (key_of_item other) other.version.body (past_in incoming (key_of_item other)).chains was.grown;
      traced = item-acted.traced (key_of_item other) (past_in incoming (key_of_item other)) (past-knows h.made (key_of_item other) incoming r.1).made_here was.traced;
      here = put-other (key_of_item item) (key_of_item other) (version_by item.version act.fate) found differs ∙ was.here;
      same = item-acted.others (key_of_item other) differs ∙ was.same;
    }

  pub acts-acted : (count : ℕ → ℕ) (found : Key → Option Version) (h : History) (number : ℕ) (decisions : List Decision) (items : List UploadItem) → Reached count incoming h → Accounts publication found sites pool h → number ≡ count 0 + 1
      → ItemsApart items → AllByRecursion (IsReady h found) items
      → (let acts : List Act = acts_from judge site p number decisions items in AllActed publication sites pool incoming h (fold put_version found (versions_of acts)) (fold (Noting.with_act incoming entries) h acts) items)
  acts-acted count found h number decisions [] r a next apart ready = record { accounts = a; goes = goes-nowhere h; made = λ k dot place is. is; done = refl; away = λ c there is. is; brought = tt }
  acts-acted count found h number decisions (item ∷ items) r a next apart ready =
      let act : Act = act_of judge site p number decisions item in
      let acts : List Act = acts_from judge site p (number + made_by act.fate) (left_by act.fate decisions) items in
      let middle : History = Noting.with_act incoming entries h act in
      let one = item-acted count found h r a number next decisions item ready.0 in
      let then_found : Key → Option Version = put_if found (put_by (key_of_item item) item.version act.fate) in
      let rest = acts-acted (raised count 0 (made_by act.fate + 0)) then_found middle (number + made_by act.fate) (left_by act.fate decisions) items
      (item-reached count found h r a number next decisions item ready.0) one.accounts (next-number count found h r a number next decisions item ready.0) apart.1
      (all-both (λ (other : UploadItem). same_key (key_of_item other) (key_of_item item) ≡ false) (IsReady h found) (IsReady middle then_found) (λ other differs was. still-ready count found h r a number next decisions item ready.0 other differs was) items apart.0 ready.1) in
      let last : History = fold (Noting.with_act incoming entries) middle acts in
      record {
        accounts = subst (λ (f : Key → Option Version). Accounts publication f sites pool last) (sym (put-first (put_by (key_of_item item) item.version act.fate) found (versions_of acts))) rest.accounts;
        goes = goes-on h middle last one.goes rest.goes (λ k dot is. one.made k dot InRow is);
        made = λ k dot place is. rest.made k dot place (one.made k dot place is);
        done = rest.done ∙ one.done;
        away = λ c there is. one.away c there (rest.away c there is);
        brought = (
          λ c made same known. goes-safe middle last c rest.goes (one.brought c made same known),
          all-weaker (IsBrought incoming middle last) (IsBrought incoming h last) (λ other was c made same known. was c (λ place does. one.made c.key c.dot place (made place does)) same known) items rest.brought,
        );
      }

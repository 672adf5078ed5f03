-- Of each accepted change the publisher has the row, or it was purged: what an upload leaves.
use Rattle.std.specs.List.{AllByRecursion, fold, list_any}
use Rattle.std.specs.Prelude.{Bool, List, None, Option, Some, [], false, if◌then◌else◌, is_some, nat_lt, not, option_map, refl, true, ℕ, ◌&&◌, ◌+◌, ◌==◌, ◌||◌, ◌≡◌, ◌≤◌, ◌∷◌}
use Rattle.std.proofs.Common.{ap, arith, subst, sym, ◌∙◌}
use Rattle.std.proofs.lemmas.Bool.Decides.{nat_tests}
use Rattle.merge_types.specs.declared.identifiers.Dot.{Dot}
use Rattle.merge_types.specs.declared.identifiers.SiteId.{SiteId}
use Rattle.merge_types.specs.declared.row_key.RowKey.{RowKey as Key}
use Rattle.merge_units.specs.declared.result.Decision.{Decision}
use Rattle.merge_units.specs.declared.site_row.PublisherRow.{PublisherRow}
use Rattle.merge_units.specs.declared.version.Version.{Version}
use Rattle.merge_schema.specs.declared.publication.Publication.{Publication}
use Rattle.merge_batch.specs.Makers.{maker_of}
use Rattle.merge_batch.proofs.Makers.{made-maker_of}
use Rattle.merge_batch.specs.declared.request.Request.TheVariants as request
use Rattle.merge_batch.specs.declared.request.Upload.{Upload}
use Rattle.merge_batch.specs.declared.request.UploadItem.{UploadItem}
use Rattle.merge_model.specs.Publisher.Acts.{Act, Fate, Met, New, Unknown, act_of, acting_items, acts_from, fate_by, is_new_row, key_of_item, left_by, made_by, version_by, versions_of}
use Rattle.merge_model.specs.Judge.ByHistory.{by_past}
use Rattle.merge_model.specs.Judge.ByNumbers.{received_number_by_number}
use Rattle.merge_model.specs.Publisher.Entries.{Changing, Entries, changed_by}
use Rattle.merge_model.specs.History.{History, Line, MadeChange, Past, has, past_in, pasts_with}
use Rattle.merge_model.specs.Judge.{PublisherJudge}
use Rattle.merge_model.specs.Tables.Keys.{has_key, row_at, same_key}
use Rattle.merge_model.specs.History.Noting
use Rattle.merge_model.specs.Laws.Promises.{is_given_up}
use Rattle.merge_model.specs.Publisher.{last_closed}
use Rattle.merge_model.specs.Publisher.PublisherLocal.{version_at}
use Rattle.merge_model.specs.Publisher.PublisherUpload.{changing_by, taken_in, upload_refusal, with_acts}
use Rattle.merge_model.specs.World.Steps.{kept_decisions, upload_questions}
use Rattle.merge_model.specs.Tables.{PublisherTables}
use Rattle.merge_model.specs.World.{Saying, World}
use Rattle.merge_model.specs.declared.letter.Letter.{Letter}
use Rattle.merge_model.specs.declared.letter.Message.TheVariants.{Asks}
use Rattle.merge_model.proofs.Lists.Finding.{all-weaker, letter-zip}
use Rattle.merge_model.proofs.Lists.KeyLookUps.{keys-same}
use Rattle.merge_model.proofs.Lists.{all-both, any-among, any-mono}
use Rattle.merge_model.proofs.Lists.Tests.{numbers-same}
use Rattle.merge_laws.specs.Invariants.Accepted.{SendsAccepted}
use Rattle.merge_laws.specs.Invariants.Accepting.{accepts}
use Rattle.merge_laws.specs.Facts.Knowledge.{AllKnow, changes_of, is_made, same_dot}
use Rattle.merge_laws.specs.Invariants.KnownMakers.{KnowsMaker}
use Rattle.merge_laws.specs.Facts.LineagesStand.{OfMessage, OthersAccepted, UploadCounts}
use Rattle.merge_laws.proofs.Accepted.AcceptedParts.{past-among}
use Rattle.merge_laws.proofs.Accounts.AccountElements.{all-in, any-out}
use Rattle.merge_laws.proofs.Known.ChangeDots.{are-alone}
use Rattle.merge_laws.proofs.Pasts.DotTests.{dots-same}
use Rattle.merge_laws.proofs.Accepted.GivenUp.{knows_of, upload-accepts, upload-can-act}
use Rattle.merge_laws.proofs.Known.KnownRows.{letter-knows, past-knows}
use Rattle.merge_laws.proofs.Lineages.LineagesAlways.{Kept}
use Rattle.merge_laws.proofs.Makers.MakerUploads.{FateMakes, acts-made}
use Rattle.merge_laws.proofs.Walking.NotesLeave.{acts-leave, fold-leave}
use Rattle.merge_laws.proofs.Numbered.Numbers.{unmet-by-number}
use Rattle.merge_laws.proofs.Own.OwnActs.{is_brought, items-brought}
use Rattle.merge_laws.proofs.Own.OwnItems.{items-row, of_row, row-item}
use Rattle.merge_laws.proofs.Pasts.PastNotes.{puts_row, versions-any}
use Rattle.merge_laws.proofs.Told.ToldRows.{put_version}
use Rattle.merge_laws.proofs.Told.ToldSites.{Every}
use Rattle.merge_laws.proofs.Told.ToldTables.{changed-versions}
use Rattle.merge_laws.proofs.Walking.{acts_in, comes, here}
use Rattle.merge_owed.proofs.HaveMakers.{HasMaker}

-- the publisher has the row, or it was purged
abbrev pub is_there : List (Key × PublisherRow) → List Key → Key → Bool
is_there rows purged key = is_some (row_at rows key) || has_key purged key

abbrev pub StaysThere : List (Key × PublisherRow) → List Dot → List Key → MadeChange → Type 0
StaysThere rows accepted purged change = accepts accepted change.dot ≡ true → is_there rows purged change.key ≡ true

abbrev pub AllThere : List (Key × PublisherRow) → List Dot → List Key → List MadeChange → Type 0
AllThere rows accepted purged made = AllByRecursion (StaysThere rows accepted purged) made

abbrev pub RowsThere : World → History → Type 0
RowsThere w h = AllThere w.publisher.rows h.accepted h.purged h.made

-- more is there
pub all-there : (rows more : List (Key × PublisherRow)) (accepted : List Dot) (purged others : List Key) (made : List MadeChange) → ((key : Key) → is_there rows purged key ≡ true → is_there more others key ≡ true) → AllThere rows accepted purged made → AllThere more accepted others made
all-there rows more accepted purged others made stays all = all-weaker (StaysThere rows accepted purged) (StaysThere more accepted others) (λ change there accept. stays change.key (there accept)) made all

-- a change that was made of a row, by its dot
pub made-there : (w : World) (h : History) → RowsThere w h → (key : Key) (dot : Dot) → is_made h.made key dot ≡ true → accepts h.accepted dot ≡ true → is_there w.publisher.rows h.purged key ≡ true
made-there w h t key dot made accept = any-out (is_there w.publisher.rows h.purged key ≡ true) (λ (change : MadeChange). same_dot change.dot dot && same_key key change.key) h.made made (λ change inside is. (
    let one : same_dot change.dot dot ≡ true = grind (arith, is) in
    let row : same_key key change.key ≡ true = grind (arith, is) in
    let same : change.dot ≡ dot = dots-same change.dot dot one in
    let keys : key ≡ change.key = keys-same key change.key row in
    subst (λ (k : Key). is_there w.publisher.rows h.purged k ≡ true) (sym keys)
    (all-in (StaysThere w.publisher.rows h.accepted h.purged) h.made change t inside (subst (λ (d : Dot). accepts h.accepted d ≡ true) (sym same) accept))))

-- What a step puts is there.

some-version : (found : Option PublisherRow) → is_some (option_map (λ (row : PublisherRow). row.version) found) ≡ is_some found
some-version None = refl
some-version (Some row) = refl

if-some : (b : Bool) (version : Version) (found : Option Version) → is_some (let put : Option Version = if b then Some version else found in put) ≡ (b || is_some found)
if-some true version found = refl
if-some false version found = refl

fold-some : (versions : List (Key × Version)) (found : Key → Option Version) (q : Key) → is_some (fold put_version found versions q) ≡ (is_some (found q) || list_any (λ (row : Key × Version). same_key q row.0) versions)
fold-some [] found q = grind (arith)
fold-some (row ∷ versions) found q =
    let rest = fold-some versions (put_version found row) q in
    let first = if-some (same_key q row.0) row.1 (found q) in
    grind (arith, rest, first)

pub changed-there : (publication : Publication) (judge : PublisherJudge) (changing : Changing) (p : PublisherTables) (q : Key) → (is_some (row_at p.rows q) || list_any (λ (row : Key × Version). same_key q row.0) changing.versions) ≡ true
    → is_some (row_at (changed_by publication judge changing p).rows q) ≡ true
changed-there publication judge changing p q is =
    let versions : is_some (version_at (changed_by publication judge changing p) q) ≡ (is_some (version_at p q) || list_any (λ (row : Key × Version). same_key q row.0) changing.versions) =
    ap (λ (found : Option Version). is_some found) (changed-versions publication judge changing p q) ∙ fold-some changing.versions (version_at p) q in
    let before = some-version (row_at p.rows q) in
    let behind = some-version (row_at (changed_by publication judge changing p).rows q) in
    grind (arith, versions, before, behind, is)

-- The decided changes of an upload are of rows that were held.
module _ (P : MadeChange → Type 0) (incoming : List (Key × Past)) (p : PublisherTables) (each : (change : MadeChange) → is_some (row_at p.rows change.key) ≡ true → P change) where
  fate-there : (judge : PublisherJudge) (site : SiteId) (number : ℕ) (decisions : List Decision) (item : UploadItem) (found : Option PublisherRow) → row_at p.rows (key_of_item item) ≡ found
      → FateMakes P (key_of_item item) (past_in incoming (key_of_item item)) (fate_by judge site number decisions item found)
  fate-there judge site number decisions item None at = elim (is_new_row judge site (key_of_item item)) as (λ (b : Bool). FateMakes P (key_of_item item) (past_in incoming (key_of_item item)) (if b then New else Unknown)) [
    | true ↦ tt
    | false ↦ tt
  ]
  fate-there judge site number decisions item (Some held) at = λ generation ours. each _ (ap (λ (found : Option PublisherRow). is_some found) at)

  pub met-there : (judge : PublisherJudge) (site : SiteId) (number : ℕ) (decisions : List Decision) (items : List UploadItem)
      → AllByRecursion (λ (act : Act). FateMakes P act.key (past_in incoming act.key) act.fate) (acts_from judge site p number decisions items)
  met-there judge site number decisions [] = tt
  met-there judge site number decisions (item ∷ items) =
      let act : Act = act_of judge site p number decisions item in
      (fate-there judge site number decisions item (row_at p.rows (key_of_item item)) refl, met-there judge site (number + made_by act.fate) (left_by act.fate decisions) items)

brought-some : (incoming : Version) (fate : Fate) → is_brought fate ≡ true → is_some (version_by incoming fate) ≡ true
brought-some incoming New is = refl
brought-some incoming Unknown is = absurd cc
brought-some incoming (Met held case decision dot) is = refl

brings-puts : (q : Key) (act : Act) → (same_key q act.key && is_brought act.fate) ≡ true → puts_row q act ≡ true
brings-puts q act is = let puts = brought-some act.incoming act.fate (grind (arith, is)) in grind (arith, is, puts)

-- An upload that comes to the publisher and is not refused.
module _ (publication : Publication) (says : Saying) (w : World) (h : History) (number : ℕ) (m : Upload) (k : Kept publication (record { world = w; history = h })) (makers : Every (HasMaker h.made) w h) (t : RowsThere w h)
    (at : comes w number m.site (Asks (request.Upload m))) (fine : upload_refusal publication (by_past h (pasts_with h number)) w.moment m w.publisher ≡ None) where
  abbrev incoming : List (Key × Past)
  incoming = pasts_with h number

  abbrev judge : PublisherJudge
  judge = by_past h incoming

  abbrev letter : Letter
  letter = record { site = m.site; message = Asks (request.Upload m) }

  abbrev items : List UploadItem
  items = acting_items judge m

  abbrev acts : List Act
  acts = acts_in publication says judge m w

  abbrev There : Key → Type 0
  There key = is_there w.publisher.rows h.purged key ≡ true

  came : AllKnow h.made incoming
  came = letter-knows h number k.grounded.0.known.knowledge

  -- The maker of a row that is not new was accepted, so that a row that is lacking was purged.

  others : AllByRecursion (λ (row : Key × Past). OthersAccepted h m.site.0 row.1.known) incoming
  others = letter-zip (λ (x : Letter) (pasts : List (Key × Past)). SendsAccepted h pasts x.message) w h number letter k.accepted.accepted.sent at

  accepted-by : (key : Key) (maker : Dot) (own : Bool) → (maker.site.0 == m.site.0) ≡ own → 1 ≤ maker.number → has (past_in incoming key).known maker ≡ true → is_given_up w.publisher h maker ≡ false
      → (let new : Bool = if own then judge.is_unmet m.site.0 maker.number else false in new ≡ false) → accepts h.accepted maker ≡ true
  accepted-by key maker true own from known counts met =
      let site : maker.site.0 ≡ m.site.0 = numbers-same maker.site.0 m.site.0 own in
      let number_is = unmet-by-number w h k.grounded.0.received k.grounded.0.numbered m.site.0 maker.number from in
      let low : nat_lt (received_number_by_number w.publisher maker.site.0) maker.number ≡ false = subst (λ (n : ℕ). nat_lt (received_number_by_number w.publisher n) maker.number ≡ false) (sym site) (number_is ∙ met) in
      grind (arith, nat_tests, counts, low)
  accepted-by key maker false own from known counts met =
      past-among (λ (past : Past). OthersAccepted h m.site.0 past.known) (λ dot none other. absurd (grind (arith, none))) incoming others key maker known (λ same. absurd (grind (arith, nat_tests, own, same)))

  maker-there : (key : Key) (found : Option Dot) → maker_of key.row.0 ≡ found → is_some found ≡ true → KnowsMaker key (past_in incoming key).known → ((dot : Dot) → has (past_in incoming key).known dot ≡ true → is_given_up w.publisher h dot ≡ false)
      → (let new : Bool = elim found [ None ↦ false | Some dot ↦ if dot.site.0 == m.site.0 then judge.is_unmet m.site.0 dot.number else false ] in new ≡ false) → There key
  maker-there key None is some knows counts old = absurd cc
  maker-there key (Some maker) is some knows counts old =
      let known : has (past_in incoming key).known maker ≡ true = knows maker is in
      let made : is_made h.made key maker ≡ true = (past-knows h.made key incoming came).made_here maker known in
      made-there w h t key maker made (accepted-by key maker (maker.site.0 == m.site.0) refl (made-maker_of key.row.0 maker is).from_one known (counts maker known) old)

  abbrev Maker : UploadItem → Type 0
  Maker item = is_some (maker_of (key_of_item item).row.0) ≡ true

  abbrev Knows : UploadItem → Type 0
  Knows item = KnowsMaker (key_of_item item) (past_in incoming (key_of_item item)).known

  abbrev Counts : UploadItem → Type 0
  Counts item = (dot : Dot) → has (past_in incoming (key_of_item item)).known dot ≡ true → is_given_up w.publisher h dot ≡ false

  abbrev Leads : Key → UploadItem → Type 0
  Leads q item = same_key q (key_of_item item) ≡ true → There q

  item-there : (q : Key) → is_new_row judge m.site q ≡ false → (item : UploadItem) → Maker item → Knows item → Counts item → Leads q item
  item-there q old item maker knows counts row =
      let same : q ≡ key_of_item item = keys-same q (key_of_item item) row in
      subst (λ (key : Key). There key) (sym same)
      (maker-there (key_of_item item) (maker_of (key_of_item item).row.0) refl maker knows counts (subst (λ (key : Key). is_new_row judge m.site key ≡ false) same old))

  old-there : (q : Key) → is_new_row judge m.site q ≡ false → list_any (λ (item : UploadItem). same_key q (key_of_item item)) items ≡ true → There q
  old-there q old some =
      let have : AllByRecursion Maker m.items = letter-zip (λ (x : Letter) (pasts : List (Key × Past)). OfMessage (HasMaker h.made) pasts x.message) w h number letter makers.letters at in
      let knows : AllByRecursion Knows m.items = letter-zip (λ (x : Letter) (pasts : List (Key × Past)). OfMessage (λ (key : Key) (version : Version) (past : Past). KnowsMaker key past.known) pasts x.message) w h number letter k.accepted.makers.letters at in
      let counts : AllByRecursion Counts m.items = letter-zip (λ (x : Letter) (pasts : List (Key × Past)). UploadCounts (record { world = w; history = h }) pasts x.message) w h number letter k.accepted.accepted.counts.counts at (upload-can-act publication judge w h m fine) in
      let leads : AllByRecursion (Leads q) m.items = all-both (λ (item : UploadItem). Maker item × Knows item) Counts (Leads q) (λ item one other. item-there q old item one.0 one.1 other) m.items
      (all-both Maker Knows (λ (item : UploadItem). Maker item × Knows item) (λ item one other. (one, other)) m.items have knows) counts in
      any-among (λ (item : UploadItem). same_key q (key_of_item item)) (λ (item : UploadItem). not (judge.has_acted m.site.0 item.generation)) (There q) m.items leads some

  -- Behind the upload.

  abbrev pub upload_rows : List (Key × PublisherRow)
  upload_rows = (taken_in publication judge m acts (here w)).rows

  abbrev Then : Key → Type 0
  Then key = is_there upload_rows h.purged key ≡ true

  held-then : (q : Key) → is_some (row_at w.publisher.rows q) ≡ true → Then q
  held-then q is = let now = changed-there publication judge (changing_by m acts) (with_acts publication m acts (here w)) q (grind (arith, is)) in grind (arith, now)

  there-then : (q : Key) → There q → Then q
  there-then q there = elim (is_some (row_at w.publisher.rows q)) as (λ (b : Bool). is_some (row_at w.publisher.rows q) ≡ b → Then q) [
    | true ↦ (λ e. held-then q e)
    | false ↦ (λ e. (let gone : has_key h.purged q ≡ true = grind (arith, there, e) in grind (arith, gone)))
  ] refl

  new-then : (q : Key) → is_new_row judge m.site q ≡ true → list_any (λ (item : UploadItem). same_key q (key_of_item item)) items ≡ true → Then q
  new-then q new some =
      let brings = items-brought judge m.site (here w) (w.publisher.changes + 1) (kept_decisions says w.tallies (upload_questions publication judge w.moment m w.publisher)) items q (grind (arith, new)) some in
      let puts : list_any (puts_row q) acts ≡ true = any-mono (λ (act : Act). same_key q act.key && is_brought act.fate) (puts_row q) acts (brings-puts q) brings in
      let versions : list_any (λ (row : Key × Version). same_key q row.0) (versions_of acts) ≡ true = versions-any q acts ∙ puts in
      let now = changed-there publication judge (changing_by m acts) (with_acts publication m acts (here w)) q (grind (arith, versions)) in
      grind (arith, now)

  sent-then : (q : Key) → list_any (λ (item : UploadItem). same_key q (key_of_item item)) items ≡ true → Then q
  sent-then q some = elim (is_new_row judge m.site q) as (λ (b : Bool). is_new_row judge m.site q ≡ b → Then q) [
    | true ↦ (λ e. new-then q e some)
    | false ↦ (λ e. there-then q (old-there q e some))
  ] refl

  abbrev pub upload_history : History
  upload_history = Noting.with_acts_noted publication judge m acts incoming (here w) h

  abbrev After : MadeChange → Type 0
  After = StaysThere upload_rows upload_history.accepted h.purged

  change-then : (change : MadeChange) → StaysThere w.publisher.rows h.accepted h.purged change
      → (list_any (λ (item : UploadItem). knows_of incoming change.dot (key_of_item item)) items ≡ true → list_any (of_row incoming change.key change.dot) items ≡ true) → After change
  change-then change before row accept = elim (accepts h.accepted change.dot) as (λ (b : Bool). accepts h.accepted change.dot ≡ b → Then change.key) [
    | true ↦ (λ e. there-then change.key (before e))
    | false ↦ (λ e. (let anew = upload-accepts publication says judge m incoming w h change.dot in
        sent-then change.key (row-item incoming change.key change.dot items (row (grind (arith, anew, accept, e)))).0))
  ] refl

  pub upload-there : AllThere upload_rows upload_history.accepted upload_history.purged upload_history.made
  upload-there =
      let entries : Entries = Noting.acts_entries publication judge m acts (here w) in
      let lines : List Line = Noting.lines_of_entries (last_closed (here w) + 1) entries in
      let acted : History = fold (Noting.with_act incoming entries) h acts in
      let old : AllByRecursion After h.made = all-both (StaysThere w.publisher.rows h.accepted h.purged)
      (λ (change : MadeChange). list_any (λ (item : UploadItem). knows_of incoming change.dot (key_of_item item)) items ≡ true → list_any (of_row incoming change.key change.dot) items ≡ true) After change-then h.made t
      (items-row h.made incoming came items (are-alone (changes_of w) h k.grounded.0.known.numbered)) in
      let all : AllByRecursion After acted.made = acts-made After incoming entries acts h
      (met-there After incoming (here w) (λ change held accept. held-then change.key held) judge m.site (w.publisher.changes + 1) (kept_decisions says w.tallies (upload_questions publication judge w.moment m w.publisher)) items) old in
      let made : upload_history.made ≡ acted.made = fold-leave (λ (x : History). x.made) Noting.with_line (λ x line. refl) lines acted in
      let purged : upload_history.purged ≡ h.purged = fold-leave (λ (x : History). x.purged) Noting.with_line (λ x line. refl) lines acted
      ∙ acts-leave (λ (x : History). x.purged) (λ x lost. refl) (λ x changes pasts. refl) (λ x more. refl) incoming entries acts h in
      subst (λ (keys : List Key). AllThere upload_rows upload_history.accepted keys upload_history.made) (sym purged) (subst (AllByRecursion After) (sym made) all)

-- An upload comes in: what is accounted for stays so, and the changes of its generations are safe.
use Rattle.std.specs.Prelude.{◌≡◌, ◌≤◌, ◌<◌, ◌==◌, ◌&&◌, ◌+◌, ℕ, List, Bool, true, false, not, Option, None, refl, nat_le}
use Rattle.std.specs.List.{AllByRecursion, fold, list_any}
use Rattle.std.proofs.Common.{arith, subst, sym, ap, ◌∙◌}
use Rattle.std.proofs.lemmas.Bool.Decides.{nat_tests}
use Rattle.merge_units.specs.declared.version.Version.{Version}
use Rattle.merge_schema.specs.declared.publication.Publication.{Publication}
use Rattle.merge_batch.specs.declared.reply.Reply.TheVariants as reply
use Rattle.merge_batch.specs.declared.request.Request.TheVariants as request
use Rattle.merge_batch.specs.declared.request.Upload.{Upload}
use Rattle.merge_batch.specs.declared.request.UploadItem.{UploadItem}
use Rattle.merge_model.specs.Publisher.Acts.{Act, acting_items, key_of_item, versions_of}
use Rattle.merge_model.specs.Judge.ByHistory.{by_past}
use Rattle.merge_model.specs.Publisher.Entries.{Entries}
use Rattle.merge_model.specs.History.{History, Line, MadeChange, Past, has, is_done, past_in, pasts_with}
use Rattle.merge_model.specs.Judge.{PublisherJudge}
use Rattle.merge_model.specs.Tables.Keys.{same_key}
use Rattle.merge_model.specs.History.Noting
use Rattle.merge_model.specs.History.Pasts.{cell_count}
use Rattle.merge_model.specs.Publisher.{last_closed}
use Rattle.merge_model.specs.Publisher.PublisherLocal.{version_at}
use Rattle.merge_model.specs.Publisher.PublisherUpload.{brings_news, changing_by, taken_in, upload_refusal, with_acts}
use Rattle.merge_model.specs.World.Steps.{kept_decisions, upload_questions}
use Rattle.merge_types.specs.declared.row_key.RowKey.{RowKey as Key}
use Rattle.merge_model.specs.Tables.{PublisherTables}
use Rattle.merge_model.specs.World.{Saying, World}
use Rattle.merge_model.specs.declared.letter.Message.TheVariants.{Asks, Replies}
use Rattle.merge_model.specs.declared.letter.Letter.{Letter}
use Rattle.merge_model.specs.Judge.ByNumbers.{received_by_number}
use Rattle.merge_laws.specs.Facts.Accounts.{Accounts, GrownAlone, IsSafe, IsTraced, OfAccounts, SendsAll, is_settled}
use Rattle.merge_laws.specs.Facts.Knowledge.{changes_of}
use Rattle.merge_laws.specs.Facts.LineagesStand.{OfMessage, is_of, is_sent}
use Rattle.merge_laws.proofs.Accounts.AccountBase.{Base, tops-told}
use Rattle.merge_laws.proofs.Accounts.AccountElements.{IsIn, all-in, any-out, each-in, filter-in, made-in}
use Rattle.merge_laws.proofs.Accounts.AccountItems.{AllActed, IsBrought, IsReady, acts-acted}
use Rattle.merge_laws.proofs.Accounts.AccountLetters.{IsOfSite, pasts-all, uploads-away}
use Rattle.merge_laws.proofs.Accounts.AccountNotes.{based-accounts, done-accounts, none-traced, post-accounts, same-accounts}
use Rattle.merge_laws.proofs.Received.Arrivals.{upload-known}
use Rattle.merge_model.proofs.Lists.Finding.{all-weaker, letter-zip, pool-at}
use Rattle.merge_laws.proofs.Runs.Ground.{Ground}
use Rattle.merge_model.proofs.Lists.KeyLookUps.{keys-same}
use Rattle.merge_laws.proofs.Known.KnownRows.{letter-knows}
use Rattle.merge_model.proofs.Lists.{all-filter}
use Rattle.merge_laws.proofs.Own.OwnPasts.{lines-on}
use Rattle.merge_laws.proofs.Received.Publishing.{in_reach}
use Rattle.merge_laws.proofs.Told.ToldItems.{filter-apart, items-apart}
use Rattle.merge_laws.proofs.Told.ToldRows.{put_version}
use Rattle.merge_laws.proofs.Told.ToldTables.{changed-versions}
use Rattle.merge_laws.proofs.Walking.{Sends, acts_in, comes, here, told_by, uploaded_world}
use Rattle.merge_laws.proofs.Received.Worlds.{no-gap, received-is}

module _ (publication : Publication) (says : Saying) (w : World) (h : History) (number : ℕ) (m : Upload) (b : Base publication w h) (a : OfAccounts publication w h) (at : comes w number m.site (Asks (request.Upload m))) where
  abbrev g : Ground publication w h
  g = b.0

  abbrev incoming : List (Key × Past)
  incoming = pasts_with h number

  abbrev judge : PublisherJudge
  judge = by_past h incoming

  abbrev acts : List Act
  acts = acts_in publication says judge m w

  abbrev entries : Entries
  entries = Noting.acts_entries publication judge m acts (here w)

  abbrev acted : History
  acted = fold (Noting.with_act incoming entries) h acts

  abbrev letter : Letter
  letter = record { site = m.site; message = Asks (request.Upload m) }

  away : AllByRecursion (λ (x : Letter). IsOfSite x.message) w.pool
  away = uploads-away w h g.received g.none

  named : m.site.0 ≡ 0 → ⊥
  named = pool-at (λ (x : Letter). IsOfSite x.message) w number letter at away

  -- its items
  traced : (key : Key) → IsTraced h key (past_in incoming key)
  traced = pasts-all (λ (pasts : List (Key × Past)). (key : Key) → IsTraced h key (past_in pasts key)) h number (none-traced publication (version_at w.publisher) w.subscribers w.pool h a) a.sent

  grown : AllByRecursion (λ (item : UploadItem). GrownAlone (cell_count publication item.article) h.made (key_of_item item) item.version.body (past_in incoming (key_of_item item)).chains) m.items
  grown = letter-zip (λ (x : Letter) (pasts : List (Key × Past)). OfMessage (λ (key : Key) (version : Version) (past : Past). GrownAlone (cell_count publication key.article) h.made key version.body past.chains) pasts x.message) w h number letter a.letters at

  ready : AllByRecursion (IsReady publication w.subscribers w.pool g.none away incoming entries h m.site (here w) (tops-told w h b.1.0) h (version_at w.publisher)) (acting_items judge m)
  ready = all-filter (IsReady publication w.subscribers w.pool g.none away incoming entries h m.site (here w) (tops-told w h b.1.0) h (version_at w.publisher)) _ m.items
      (all-weaker (λ (item : UploadItem). GrownAlone (cell_count publication item.article) h.made (key_of_item item) item.version.body (past_in incoming (key_of_item item)).chains)
      (IsReady publication w.subscribers w.pool g.none away incoming entries h m.site (here w) (tops-told w h b.1.0) h (version_at w.publisher))
      (λ item alone. record { grown = alone; traced = traced (key_of_item item); here = refl; same = refl }) m.items grown)

  module _ (fine : upload_refusal publication (by_past h (pasts_with h number)) w.moment m w.publisher ≡ None) (news : brings_news (by_past h (pasts_with h number)) m ≡ true) where
    all-acted : AllActed publication w.subscribers w.pool incoming h (fold put_version (version_at w.publisher) (versions_of acts)) acted (acting_items judge m)
    all-acted = acts-acted publication w.subscribers w.pool g.none away incoming entries h m.site (here w) (tops-told w h b.1.0) (changes_of w) (version_at w.publisher) h (w.publisher.changes + 1)
        (kept_decisions says w.tallies (upload_questions publication judge w.moment m w.publisher)) (acting_items judge m) (g.known, letter-knows h number g.known.knowledge) a refl
        (filter-apart _ m.items (items-apart publication judge w.moment m w.publisher fine)) ready

    begins : m.from ≤ received_by_number w.publisher m.site.0
    begins = no-gap h w.publisher m.site.0 m.from g.received.done (upload-known publication judge w.moment m w.publisher fine).1

    goes-up : m.from ≤ m.to
    goes-up = let is = received-is h w.publisher m.site.0 g.received.done in let low = begins in grind (arith, nat_tests, news, is, low)

    -- a change of the generations that act is in an item that acts
    sent-safe : (c : MadeChange) → IsIn c h.made → is_of m.site.0 c ≡ true → in_reach m.from m.to c.generation ≡ true → is_done h m.site.0 c.generation ≡ false → IsSafe acted c
    sent-safe c is own reach undone =
        let low : m.from < c.generation = grind (arith, nat_tests, reach) in
        let high : c.generation ≤ m.to = grind (arith, nat_tests, reach) in
        let sends = letter-zip (λ (x : Letter) (pasts : List (Key × Past)). SendsAll h.made pasts x.message) w h number letter a.uploads at in
        let sent : is_sent incoming m.items c ≡ true = all-in (λ (x : MadeChange). is_of m.site.0 x ≡ true → m.from < x.generation → x.generation ≤ m.to → is_sent incoming m.items x ≡ true) h.made c sends is own low high in
        any-out (IsSafe acted c) (λ (item : UploadItem). same_key (key_of_item item) c.key && nat_le c.generation item.generation && has (past_in incoming c.key).known c.dot) m.items sent (λ item inside passes. (
        let same : same_key c.key (key_of_item item) ≡ true = grind (arith, nat_tests, passes) in
        let later : c.generation ≤ item.generation = grind (arith, nat_tests, passes) in
        let known : has (past_in incoming (key_of_item item)).known c.dot ≡ true = subst (λ (k : Key). has (past_in incoming k).known c.dot ≡ true) (keys-same c.key (key_of_item item) same) (grind (arith, passes)) in
        let one = g.received.done m.site.0 c.generation (omega (arith, low)) in
        let two = g.received.done m.site.0 item.generation (omega (arith, low, later)) in
        let acts_now : not (is_done h m.site.0 item.generation) ≡ true = grind (arith, nat_tests, one, two, later, undone) in
        let among : IsIn item (acting_items judge m) = filter-in (λ (x : UploadItem). not (judge.has_acted m.site.0 x.generation)) m.items item inside acts_now in
        let brought : IsBrought incoming h acted item = all-in (IsBrought incoming h acted) (acting_items judge m) item all-acted.brought among in
        brought c (λ place does. made-in h.made c place is does) same known
        ))

    reach-safe : (c : MadeChange) (acts_before : Bool) → is_done h m.site.0 c.generation ≡ acts_before → IsIn c acted.made → is_of m.site.0 c ≡ true → in_reach m.from m.to c.generation ≡ true → IsSafe acted c
    reach-safe c true done is own reach =
        let site : c.dot.site.0 ≡ m.site.0 = grind (arith, nat_tests, own) in
        let now : is_done acted c.dot.site.0 c.generation ≡ true = ap (λ (entries : List (ℕ × ℕ)). list_any (λ (entry : ℕ × ℕ). (entry.0 == c.dot.site.0) && (entry.1 == c.generation)) entries) all-acted.done ∙ ap (λ (n : ℕ). is_done h n c.generation) site ∙ done in
        all-in (λ (x : MadeChange). is_settled w.subscribers acted x ≡ true → IsSafe acted x) acted.made c all-acted.accounts.settled is (grind (arith, now))
    reach-safe c false undone is own reach =
        let site : c.dot.site.0 ≡ m.site.0 = grind (arith, nat_tests, own) in
        sent-safe c (all-acted.away c (λ zero. named (sym site ∙ zero)) is) own reach undone

    noted : Accounts publication (fold put_version (version_at w.publisher) (versions_of acts)) w.subscribers w.pool (Noting.with_acts_noted publication judge m acts incoming (here w) h)
    noted =
        let found : Key → Option Version = fold put_version (version_at w.publisher) (versions_of acts) in
        let lines : List Line = Noting.lines_of_entries (last_closed (here w) + 1) entries in
        let newly : AllByRecursion (λ (c : MadeChange). is_of m.site.0 c ≡ true → in_reach m.from m.to c.generation ≡ true → IsSafe acted c) acted.made =
        each-in (λ (c : MadeChange). is_of m.site.0 c ≡ true → in_reach m.from m.to c.generation ≡ true → IsSafe acted c) acted.made (λ c is. reach-safe c (is_done h m.site.0 c.generation) refl is) in
        lines-on (λ (x : History). Accounts publication found w.subscribers w.pool (Noting.with_done m.site.0 m.from m.to x)) lines acted
        (λ others. done-accounts publication found w.subscribers w.pool (record acted { lines = others }) (based-accounts publication found w.subscribers w.pool acted all-acted.accounts others acted.bases) m.site.0 m.from m.to goes-up newly)

    pub upload-accounts : Sends (OfAccounts publication) m.site (Replies (reply.Uploaded (told_by judge m))) (uploaded_world publication says judge m (taken_in publication judge m acts (here w)) w)
        (Noting.with_acts_noted publication judge m acts incoming (here w) h)
    upload-accounts =
        let k : History = Noting.with_acts_noted publication judge m acts incoming (here w) h in
        let q : PublisherTables = taken_in publication judge m acts (here w) in
        let same : Accounts publication (version_at q) w.subscribers w.pool k = same-accounts publication (fold put_version (version_at w.publisher) (versions_of acts)) w.subscribers w.pool k noted (version_at q)
        (λ key. changed-versions publication judge (changing_by m acts) (with_acts publication m acts (here w)) key) in
        post-accounts publication (version_at q) w.subscribers w.pool k same m.site (Replies (reply.Uploaded (told_by judge m))) tt (none-traced publication (version_at q) w.subscribers w.pool k same) tt

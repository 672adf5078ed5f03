-- What else a step notes: lines, generations that have acted, a letter.
use Rattle.std.specs.Prelude.{◌≡◌, ◌≤◌, ◌==◌, ◌&&◌, ◌||◌, ◌++◌, ℕ, List, [], ◌∷◌, Bool, true, false, Option, refl, nat_le}
use Rattle.std.specs.List.{AllByRecursion}
use Rattle.std.proofs.Common.{arith, sym, ◌∙◌}
use Rattle.std.proofs.lemmas.Bool.Decides.{nat_tests}
use Rattle.merge_types.specs.declared.identifiers.SiteId.{SiteId}
use Rattle.merge_units.specs.declared.version.Version.{Version}
use Rattle.merge_schema.specs.declared.publication.Publication.{Publication}
use Rattle.merge_model.specs.History.{History, Line, MadeChange, Past, is_done, past_at, past_in}
use Rattle.merge_model.specs.History.Model.{pasts_in, with_letter}
use Rattle.merge_model.specs.History.Noting
use Rattle.merge_model.specs.History.Pasts.{cell_count}
use Rattle.merge_types.specs.declared.row_key.RowKey.{RowKey as Key}
use Rattle.merge_model.specs.Tables.{SubscriberTables}
use Rattle.merge_model.specs.declared.letter.Letter.{Letter}
use Rattle.merge_model.specs.declared.letter.Message.{Message}
use Rattle.merge_laws.specs.Facts.Accounts.{Accounts, GrownAlone, IsSafe, IsTraced, SendsAll, is_settled, received_of}
use Rattle.merge_laws.specs.Facts.LineagesStand.{OfMessage, is_of}
use Rattle.merge_laws.proofs.Accounts.AccountSites.{nothing-traced}
use Rattle.merge_model.proofs.Lists.Finding.{all-more}
use Rattle.merge_model.proofs.Lists.{all-both, zip-more}
use Rattle.merge_laws.proofs.Own.OwnPasts.{lines-on}
use Rattle.merge_laws.proofs.Received.Publishing.{done-joins, in_reach}
use Rattle.merge_laws.proofs.Numbered.Telling.{decided}

module _ (publication : Publication) (found : Key → Option Version) (sites : List (ℕ × SubscriberTables)) (pool : List Letter) (h : History) (a : Accounts publication found sites pool h) where
  -- by what is found alone
  pub same-accounts : (other : Key → Option Version) → ((key : Key) → other key ≡ found key) → Accounts publication other sites pool h
  same-accounts other same = record {
    publisher = λ key version at. a.publisher key version (sym (same key) ∙ at);
    subscribers = a.subscribers;
    letters = a.letters;
    absent = λ key at. a.absent key (sym (same key) ∙ at);
    sorted = a.sorted;
    named = a.named;
    held = a.held;
    sent = a.sent;
    unsent = a.unsent;
    uploads = a.uploads;
    settled = a.settled;
  }

  -- lines, and where the publisher stood as a site joined
  pub based-accounts : (lines : List Line) (bases : List (ℕ × ℕ)) → Accounts publication found sites pool (record h { lines = lines; bases = bases })
  based-accounts lines bases = record {
    publisher = a.publisher;
    subscribers = a.subscribers;
    letters = a.letters;
    absent = a.absent;
    sorted = a.sorted;
    named = a.named;
    held = a.held;
    sent = a.sent;
    unsent = a.unsent;
    uploads = a.uploads;
    settled = a.settled;
  }

  pub lines-accounts : (lines : List Line) → Accounts publication found sites pool (Noting.with_lines lines h)
  lines-accounts lines = lines-on (Accounts publication found sites pool) lines h (λ others. based-accounts others h.bases)

  -- generations that have acted: their changes are safe
  module _ (site from to : ℕ) (up : from ≤ to) where
    abbrev after : History
    after = Noting.with_done site from to h

    now-settled : (c : MadeChange) → is_settled sites after c ≡ true → is_settled sites h c ≡ false → (is_of site c ≡ true) × (in_reach from to c.generation ≡ true)
    now-settled c settled before =
        let joins = done-joins h site from to c.dot.site.0 c.generation up in
        let both : ((site == c.dot.site.0) && in_reach from to c.generation) ≡ true = reached (is_done after c.dot.site.0 c.generation) (is_done h c.dot.site.0 c.generation) ((site == c.dot.site.0) && in_reach from to c.generation) joins settled before in
        (grind (arith, nat_tests, both), grind (arith, both))
      where
        reached : (new old more : Bool) → new ≡ (old || more) → ((c.dot.site.0 == 0) || (new || nat_le c.generation (received_of sites c.dot.site.0))) ≡ true → ((c.dot.site.0 == 0) || (old || nat_le c.generation (received_of sites c.dot.site.0))) ≡ false → more ≡ true
        reached new old more is one other = grind (arith, is, one, other)

    pub done-accounts : AllByRecursion (λ (c : MadeChange). is_of site c ≡ true → in_reach from to c.generation ≡ true → IsSafe h c) h.made → Accounts publication found sites pool (Noting.with_done site from to h)
    done-accounts newly = record {
      publisher = a.publisher;
      subscribers = a.subscribers;
      letters = a.letters;
      absent = a.absent;
      sorted = a.sorted;
      named = a.named;
      held = a.held;
      sent = a.sent;
      unsent = a.unsent;
      uploads = a.uploads;
      settled = all-both (λ (c : MadeChange). is_settled sites h c ≡ true → IsSafe h c) (λ (c : MadeChange). is_of site c ≡ true → in_reach from to c.generation ≡ true → IsSafe h c) (λ (c : MadeChange). is_settled sites after c ≡ true → IsSafe h c)
          (λ c old new settled. decided (is_settled sites h c) (is_settled sites h c) (IsSafe h c) refl (λ before. old before) (λ before. (let both = now-settled c settled before in new both.0 both.1))) h.made a.settled newly;
    }

  -- a letter more
  pub post-accounts : (site : SiteId) (message : Message)
      → (let letter : Letter = record { site = site; message = message } in OfMessage (λ (key : Key) (version : Version) (past : Past). GrownAlone (cell_count publication key.article) h.made key version.body past.chains) (pasts_in h site message) message
      → ((key : Key) → IsTraced h key (past_in (pasts_in h site message) key)) → SendsAll h.made (pasts_in h site message) message → Accounts publication found sites (pool ++ letter ∷ []) (with_letter letter h))
  post-accounts site message grown traced sends =
      let letter : Letter = record { site = site; message = message } in
      record {
        publisher = a.publisher;
        subscribers = a.subscribers;
        letters = zip-more (λ (x : Letter) (pasts : List (Key × Past)). OfMessage (λ (key : Key) (version : Version) (past : Past). GrownAlone (cell_count publication key.article) h.made key version.body past.chains) pasts x.message) pool h.letters letter (pasts_in h site message) a.letters grown;
        absent = a.absent;
        sorted = a.sorted;
        named = a.named;
        held = a.held;
        sent = all-more (λ (pasts : List (Key × Past)). (key : Key) → IsTraced h key (past_in pasts key)) h.letters (pasts_in h site message) a.sent traced;
        unsent = a.unsent;
        uploads = zip-more (λ (x : Letter) (pasts : List (Key × Past)). SendsAll h.made pasts x.message) pool h.letters letter (pasts_in h site message) a.uploads sends;
        settled = a.settled;
      }

  -- a message without versions
  pub none-traced : (key : Key) → IsTraced h key (past_in [] key)
  none-traced key = nothing-traced h.made h.lost h.purged (past_at h 0 key) key

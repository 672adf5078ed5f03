-- Every version of a world with its past, as the publisher goes on, or a subscriber, or a letter is posted.
use Rattle.std.specs.Prelude.{◌≡◌, ◌==◌, ◌++◌, ℕ, List, [], ◌∷◌, Bool, true, false, Some, None}
use Rattle.std.specs.List.{AllByRecursion, AllZip}
use Rattle.std.specs.List.Sorted.{IsStrictlySortedBy}
use Rattle.std.specs.Map.{keys_of}
use Rattle.std.proofs.Common.{subst, sym, ap, ◌∙◌}
use Rattle.std.proofs.lemmas.Slice.Zip.{all_zipped_more}
use Rattle.merge_types.specs.declared.identifiers.SiteId.{SiteId}
use Rattle.merge_units.specs.declared.version.Version.{Version}
use Rattle.merge_conflict.specs.declared.row.ConflictRow.{ConflictRow}
use Rattle.merge_model.specs.History.{History, Past, past_at, past_in}
use Rattle.merge_types.specs.RowKeys.{key_cmp}
use Rattle.merge_model.specs.Tables.Keys.{at_number, put_number}
use Rattle.merge_model.specs.History.Model.{pasts_in, with_letter}
use Rattle.merge_model.specs.Publisher.PublisherLocal.{version_at}
use Rattle.merge_model.specs.Subscriber.{subscriber_version_at}
use Rattle.merge_types.specs.declared.row_key.RowKey.{RowKey as Key}
use Rattle.merge_units.specs.declared.site_row.PublisherRow.{PublisherRow}
use Rattle.merge_units.specs.declared.site_row.SubscriberRow.{SubscriberRow}
use Rattle.merge_model.specs.Tables.{PublisherTables, SubscriberTables}
use Rattle.merge_model.specs.World.{World, subscriber_at, with_publisher, with_subscriber}
use Rattle.merge_model.specs.declared.letter.Letter.{Letter}
use Rattle.merge_model.specs.declared.letter.Message.{Message}
use Rattle.merge_laws.specs.Facts.LineagesStand.{EveryVersion, OfMessage, lost_at}
use Rattle.merge_model.proofs.Lists.Finding.{at_put_other, at_put_same, some_same, found-named}
use Rattle.merge_laws.proofs.Received.Subscribing.{number-decided, same_number}
use Rattle.merge_laws.proofs.Told.ToldHistories.{Goes, LostFits, goes-begins}
use Rattle.merge_laws.proofs.Told.ToldRows.{RowsFit, found-rows, rows-found}
use Rattle.merge_laws.proofs.Told.ToldTables.{row_version}

abbrev pub own_version : SubscriberRow → Version
own_version row = row.version

module _ (P : Key → Version → Past → Type 0) where
  -- every version of a world, with the pasts of a history
  abbrev pub Every : World → History → Type 0
  Every w h = EveryVersion P (record { world = w; history = h })

  abbrev LettersFit : List Letter → List (List (Key × Past)) → Type 0
  LettersFit pool letters = AllZip (λ (letter : Letter) (pasts : List (Key × Past)). OfMessage P pasts letter.message) pool letters

  abbrev pub OwnFits : ℕ → History → SubscriberTables → Type 0
  OwnFits n h s = AllByRecursion (λ (row : Key × SubscriberRow). P row.0 row.1.version (past_at h n row.0)) s.rows

  abbrev pub DiscardsFit : ℕ → History → SubscriberTables → Type 0
  DiscardsFit n h s = AllZip (LostFits P) s.conflicts (lost_at h n)

  -- The publisher.

  pub publisher-begins : (w : World) (h : History) → Every w h → Goes P 0 h (version_at w.publisher) w.publisher.conflicts h
  publisher-begins w h e = goes-begins P 0 (version_at w.publisher) w.publisher.conflicts h (rows-found row_version P (past_at h 0) w.publisher.rows e.publisher) e.conflicts

  pub publisher-goes : (w : World) (h k : History) (q : PublisherTables) → at_number w.subscribers 0 ≡ None → IsStrictlySortedBy key_cmp (keys_of q.rows) → Goes P 0 h (version_at q) q.conflicts k → Every w h → Every (with_publisher q w) k
  publisher-goes w h k q none sorted g e = record {
    publisher = found-rows row_version P (past_at k 0) q.rows sorted g.held;
    subscribers = λ n s at. subst (λ (pasts : List (Key × Past)). AllByRecursion (λ (row : Key × SubscriberRow). P row.0 row.1.version (past_in pasts row.0)) s.rows) (sym (g.pasts n (found-named w.subscribers n s none at))) (e.subscribers n s at);
    letters = subst (λ (letters : List (List (Key × Past))). LettersFit w.pool letters) (sym g.letters) e.letters;
    conflicts = g.lost;
    discards = λ n s at. subst (λ (lost : List (ℕ × (Key × Past))). AllZip (LostFits P) s.conflicts lost) (sym (g.losts n (found-named w.subscribers n s none at))) (e.discards n s at);
  }

  -- its rows and its conflict table stay
  pub publisher-stays : (w : World) (h : History) (q : PublisherTables) → q.rows ≡ w.publisher.rows → q.conflicts ≡ w.publisher.conflicts → Every w h → Every (with_publisher q w) h
  publisher-stays w h q rows conflicts e = record {
    publisher = subst (λ (es : List (Key × PublisherRow)). RowsFit row_version P (past_at h 0) es) (sym rows) e.publisher;
    subscribers = e.subscribers;
    letters = e.letters;
    conflicts = subst (λ (cs : List ConflictRow). AllZip (LostFits P) cs (lost_at h 0)) (sym conflicts) e.conflicts;
    discards = e.discards;
  }

  -- A subscriber.

  pub subscriber-begins : (w : World) (h : History) (s : SubscriberTables) → subscriber_at w s.site ≡ Some s → Every w h → Goes P s.site.0 h (subscriber_version_at s) s.conflicts h
  subscriber-begins w h s at e = goes-begins P s.site.0 (subscriber_version_at s) s.conflicts h (rows-found own_version P (past_at h s.site.0) s.rows (e.subscribers s.site.0 s at)) (e.discards s.site.0 s at)

  module _ (w : World) (n : ℕ) (t : SubscriberTables) where
    pub put-here : (Q : ℕ → SubscriberTables → Type 0) (m : ℕ) (v : SubscriberTables) (b : Bool) → same_number m n b → Q n t → ((m ≡ n → ⊥) → at_number w.subscribers m ≡ Some v → Q m v) → at_number (put_number w.subscribers n t) m ≡ Some v → Q m v
    put-here Q m v true same new old found =
        let put : at_number (put_number w.subscribers n t) m ≡ Some t = ap (λ (k : ℕ). at_number (put_number w.subscribers n t) k) same ∙ at_put_same n t w.subscribers in
        let both : t ≡ v = some_same t v (sym put ∙ found) in
        subst (λ (x : SubscriberTables). Q m x) both (subst (λ (k : ℕ). Q k t) (sym same) new)
    put-here Q m v false differs new old found = old differs (sym (at_put_other n m t w.subscribers differs) ∙ found)

  pub subscriber-goes : (w : World) (h k : History) (n : ℕ) (t : SubscriberTables) → (n ≡ 0 → ⊥) → IsStrictlySortedBy key_cmp (keys_of t.rows) → Goes P n h (subscriber_version_at t) t.conflicts k → Every w h → Every (record w { subscribers = put_number w.subscribers n t }) k
  subscriber-goes w h k n t named sorted g e =
      let zero : 0 ≡ n → ⊥ = λ is. named (sym is) in record {
        publisher = subst (λ (pasts : List (Key × Past)). RowsFit row_version P (past_in pasts) w.publisher.rows) (sym (g.pasts 0 zero)) e.publisher;
        subscribers = λ m v at. put-here w n t (λ (j : ℕ) (x : SubscriberTables). OwnFits j k x) m v (m == n) (number-decided m n) (found-rows own_version P (past_at k n) t.rows sorted g.held)
            (λ differs there. subst (λ (pasts : List (Key × Past)). RowsFit own_version P (past_in pasts) v.rows) (sym (g.pasts m differs)) (e.subscribers m v there)) at;
        letters = subst (λ (letters : List (List (Key × Past))). LettersFit w.pool letters) (sym g.letters) e.letters;
        conflicts = subst (λ (lost : List (ℕ × (Key × Past))). AllZip (LostFits P) w.publisher.conflicts lost) (sym (g.losts 0 zero)) e.conflicts;
        discards = λ m v at. put-here w n t (λ (j : ℕ) (x : SubscriberTables). DiscardsFit j k x) m v (m == n) (number-decided m n) g.lost
            (λ differs there. subst (λ (lost : List (ℕ × (Key × Past))). AllZip (LostFits P) v.conflicts lost) (sym (g.losts m differs)) (e.discards m v there)) at;
      }

  -- its rows and its conflict table stay
  pub subscriber-stays : (w : World) (h : History) (s t : SubscriberTables) → subscriber_at w s.site ≡ Some s → t.site.0 ≡ s.site.0 → t.rows ≡ s.rows → t.conflicts ≡ s.conflicts → Every w h → Every (with_subscriber t w) h
  subscriber-stays w h s t at site rows conflicts e =
      let there : at_number w.subscribers t.site.0 ≡ Some s = ap (λ (n : ℕ). at_number w.subscribers n) site ∙ at in record {
        publisher = e.publisher;
        subscribers = λ m v found. put-here w t.site.0 t (λ (j : ℕ) (x : SubscriberTables). OwnFits j h x) m v (m == t.site.0) (number-decided m t.site.0)
            (subst (λ (es : List (Key × SubscriberRow)). RowsFit own_version P (past_at h t.site.0) es) (sym rows) (e.subscribers t.site.0 s there)) (λ differs same. e.subscribers m v same) found;
        letters = e.letters;
        conflicts = e.conflicts;
        discards = λ m v found. put-here w t.site.0 t (λ (j : ℕ) (x : SubscriberTables). DiscardsFit j h x) m v (m == t.site.0) (number-decided m t.site.0)
            (subst (λ (cs : List ConflictRow). AllZip (LostFits P) cs (lost_at h t.site.0)) (sym conflicts) (e.discards t.site.0 s there)) (λ differs same. e.discards m v same) found;
      }

  -- A letter more, and what says nothing of versions.

  pub letter-goes : (w : World) (h : History) (site : SiteId) (message : Message) → OfMessage P (pasts_in h site message) message → Every w h
      → (let letter : Letter = record { site = site; message = message } in Every (record w { pool = w.pool ++ letter ∷ [] }) (with_letter letter h))
  letter-goes w h site message new e = record {
    publisher = e.publisher;
    subscribers = e.subscribers;
    letters = all_zipped_more (λ (letter : Letter) (pasts : List (Key × Past)). OfMessage P pasts letter.message) w.pool h.letters (record { site = site; message = message }) (pasts_in h site message) e.letters new;
    conflicts = e.conflicts;
    discards = e.discards;
  }

  pub world-stays : (w v : World) (h : History) → v.publisher ≡ w.publisher → v.subscribers ≡ w.subscribers → v.pool ≡ w.pool → Every w h → Every v h
  world-stays w v h publisher subscribers pool e = record {
    publisher = subst (λ (p : PublisherTables). RowsFit row_version P (past_at h 0) p.rows) (sym publisher) e.publisher;
    subscribers = λ n s at. e.subscribers n s (ap (λ (es : List (ℕ × SubscriberTables)). at_number es n) (sym subscribers) ∙ at);
    letters = subst (λ (letters : List Letter). LettersFit letters h.letters) (sym pool) e.letters;
    conflicts = subst (λ (p : PublisherTables). AllZip (LostFits P) p.conflicts (lost_at h 0)) (sym publisher) e.conflicts;
    discards = λ n s at. e.discards n s (ap (λ (es : List (ℕ × SubscriberTables)). at_number es n) (sym subscribers) ∙ at);
  }

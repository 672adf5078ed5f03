-- A site is made anew: what it made and did not know to be received is in its own conflict table.
use Rattle.std.specs.Prelude.{◌≡◌, ◌<◌, ◌==◌, ◌&&◌, ◌++◌, ◌+◌, ℕ, List, [], ◌∷◌, Bool, true, false, Option, Some, None, refl, cond, filter_map, if◌then◌else◌, is_some, nat_le, nat_lt}
use Rattle.std.specs.BTreeMap.{is_at}
use Rattle.std.specs.List.{AllByRecursion, cons_option, fold, list_any}
use Rattle.std.proofs.Common.{arith, subst, sym, ap, ◌∙◌}
use Rattle.std.proofs.lemmas.Bool.Decides.{nat_tests}
use Rattle.merge_types.specs.declared.identifiers.Dot.{Dot}
use Rattle.merge_types.specs.declared.identifiers.SiteId.{SiteId}
use Rattle.merge_units.specs.declared.version.Version.{Version}
use Rattle.merge_schema.specs.declared.publication.Publication.{Publication}
use Rattle.merge_model.specs.Judge.ByHistory.{by_made}
use Rattle.merge_model.specs.History.{History, MadeChange, Past, has, made_at, past_at, past_in}
use Rattle.merge_model.specs.Judge.{SubscriberJudge}
use Rattle.merge_types.specs.RowKeys.{key_cmp}
use Rattle.merge_model.specs.Tables.Keys.{put_number, row_at, same_key}
use Rattle.merge_model.specs.History.Noting
use Rattle.merge_model.specs.Laws.Promises.{Place, descends}
use Rattle.merge_model.specs.Publisher.PublisherLocal.{version_at}
use Rattle.merge_model.specs.Subscriber.Reinit.{discarded_versions, result_of_reinit}
use Rattle.merge_model.specs.Subscriber.{subscriber_at_moment, subscriber_closed, subscriber_last_closed}
use Rattle.merge_types.specs.declared.row_key.RowKey.{RowKey as Key}
use Rattle.merge_units.specs.declared.site_row.SubscriberRow.{SubscriberRow}
use Rattle.merge_model.specs.Tables.{SubscriberTables}
use Rattle.merge_model.specs.World.{World, subscriber_at, with_subscriber}
use Rattle.merge_laws.specs.Facts.Accounts.{Accounts, IsSafe, OfAccounts, is_kept_elsewhere, is_lost_at}
use Rattle.merge_laws.specs.Facts.LineagesStand.{is_of}
use Rattle.merge_laws.specs.Invariants.Unsent.{RowsTell, is_changed_above}
use Rattle.merge_laws.proofs.Accounts.AccountBase.{Base}
use Rattle.merge_laws.proofs.Accounts.AccountElements.{IsIn, all-in, any-in, each-in, made-in}
use Rattle.merge_laws.proofs.Accounts.AccountHistory.{goes-safe}
use Rattle.merge_laws.proofs.Accounts.AccountLetters.{uploads-away}
use Rattle.merge_laws.proofs.Accounts.AccountMeetings.{lost-last}
use Rattle.merge_laws.proofs.Accounts.AccountRows.{KeepsLost, lost-accounts, lost-goes, more-elsewhere}
use Rattle.merge_laws.proofs.Accounts.AccountSending.{received-safe, site-away}
use Rattle.merge_laws.proofs.Accounts.AccountSites.{held-made, nothing-traced, sent-made, sub-accounts}
use Rattle.merge_laws.proofs.Unsent.Generations.{order-closed}
use Rattle.merge_laws.proofs.Runs.Ground.{Ground}
use Rattle.merge_model.proofs.Lists.KeyLookUps.{key-itself, key-test, keys-same}
use Rattle.merge_laws.proofs.Makers.KnownMakers.{none-ascends}
use Rattle.merge_laws.proofs.Own.OwnSending.{gens-some}
use Rattle.merge_laws.proofs.Received.Subscribing.{filling-closed}
use Rattle.merge_laws.proofs.Numbered.Telling.{closing-tells}
use Rattle.merge_model.proofs.Lists.Tests.{either, or-second}
use Rattle.merge_laws.proofs.Unsent.Unsending.{anew-rows}

-- What is discarded, in the order of the rows.

abbrev pub with_all : ℕ → (Key → Past) → List (ℕ × (Key × Past)) → List (Key × Version) → List (ℕ × (Key × Past))
with_all site past lost [] = lost
with_all site past lost (row ∷ rows) = with_all site past (lost ++ (site, (row.0, past row.0)) ∷ []) rows

discards-are : (site : SiteId) (rows : List (Key × Version)) (h : History) → fold (Noting.with_discarded site) h rows ≡ record h { lost = with_all site.0 (past_at h site.0) h.lost rows }
discards-are site [] h = refl
discards-are site (row ∷ rows) h = discards-are site rows (Noting.with_discarded site h row)

all-keep : (site : ℕ) (past : Key → Past) (lost : List (ℕ × (Key × Past))) (rows : List (Key × Version)) (purged : List Key) (key : Key) (place : Place) (dot : Dot) → is_kept_elsewhere lost purged key place dot ≡ true
    → is_kept_elsewhere (with_all site past lost rows) purged key place dot ≡ true
all-keep site past lost [] purged key place dot is = is
all-keep site past lost (row ∷ rows) purged key place dot is =
    all-keep site past (lost ++ (site, (row.0, past row.0)) ∷ []) rows purged key place dot (more-elsewhere lost ((site, (row.0, past row.0)) ∷ []) purged key place dot is)

all-has : (site : ℕ) (past : Key → Past) (lost : List (ℕ × (Key × Past))) (rows : List (Key × Version)) (purged : List Key) (key : Key) (place : Place) (dot : Dot) → list_any (λ (row : Key × Version). same_key key row.0) rows ≡ true
    → descends (past key).chains place dot ≡ true → is_kept_elsewhere (with_all site past lost rows) purged key place dot ≡ true
all-has site past lost [] purged key place dot some is = absurd cc
all-has site past lost (row ∷ rows) purged key place dot some is =
    elim (same_key key row.0) as (λ (b : Bool). same_key key row.0 ≡ b → is_kept_elsewhere (with_all site past (lost ++ (site, (row.0, past row.0)) ∷ []) rows) purged key place dot ≡ true) [
      | true ↦ (λ e. (
          let same : key ≡ row.0 = keys-same key row.0 e in
          let last : is_lost_at (lost ++ (site, (row.0, past row.0)) ∷ []) key place dot ≡ true = subst (λ (k : Key). is_lost_at (lost ++ (site, (k, past k)) ∷ []) key place dot ≡ true) same (lost-last lost site key (past key) place dot is) in
          all-keep site past (lost ++ (site, (row.0, past row.0)) ∷ []) rows purged key place dot (grind (arith, last))
          ))
      | false ↦ (λ e. all-has site past (lost ++ (site, (row.0, past row.0)) ∷ []) rows purged key place dot (grind (arith, e, some)) is)
    ] refl

-- a row that is held and unsent is discarded
discarded-first : (judge : SubscriberJudge) (received : ℕ) (row : Key × SubscriberRow) (b : Bool) (rest : List (Key × Version)) (key : Key) → judge.is_unsent received row.0 ≡ b → key ≡ row.0 → judge.is_unsent received key ≡ true
    → (let found : Option (Key × Version) = if b then Some (row.0, row.1.version) else None in list_any (λ (x : Key × Version). same_key key x.0) (cons_option found rest) ≡ true)
discarded-first judge received row true rest key is same unsent = let here : same_key key row.0 ≡ true = subst (λ (k : Key). same_key key k ≡ true) same (key-itself key) in grind (arith, here)
discarded-first judge received row false rest key is same unsent = absurd (let no : judge.is_unsent received key ≡ false = ap (λ (k : Key). judge.is_unsent received k) same ∙ is in grind (arith, no, unsent))

discarded-rest : (found : Option (Key × Version)) (rest : List (Key × Version)) (key : Key) → list_any (λ (x : Key × Version). same_key key x.0) rest ≡ true → list_any (λ (x : Key × Version). same_key key x.0) (cons_option found rest) ≡ true
discarded-rest None rest key is = is
discarded-rest (Some row) rest key is = grind (arith, is)

discarded-in : (judge : SubscriberJudge) (received : ℕ) (rows : List (Key × SubscriberRow)) (key : Key) → is_some (row_at rows key) ≡ true → judge.is_unsent received key ≡ true
    → list_any (λ (x : Key × Version). same_key key x.0) (filter_map (λ (row : Key × SubscriberRow). if judge.is_unsent received row.0 then Some (row.0, row.1.version) else None) rows) ≡ true
discarded-in judge received [] key held unsent = absurd cc
discarded-in judge received (row ∷ rows) key held unsent =
    let others : List (Key × Version) = filter_map (λ (x : Key × SubscriberRow). if judge.is_unsent received x.0 then Some (x.0, x.1.version) else None) rows in
    elim (is_at (key_cmp key) row.0) as (λ (b : Bool). is_at (key_cmp key) row.0 ≡ b → is_some (let found : Option SubscriberRow = cond b (Some row.1) (row_at rows key) in found) ≡ true
    → (let found : Option (Key × Version) = if judge.is_unsent received row.0 then Some (row.0, row.1.version) else None in list_any (λ (x : Key × Version). same_key key x.0) (cons_option found others) ≡ true)) [
      | true ↦ (λ e there. discarded-first judge received row (judge.is_unsent received row.0) others key refl (keys-same key row.0 (sym (key-test key row.0) ∙ e)) unsent)
      | false ↦ (λ e there. discarded-rest (let found : Option (Key × Version) = if judge.is_unsent received row.0 then Some (row.0, row.1.version) else None in found) others key (discarded-in judge received rows key there unsent))
    ] refl held

module _ (publication : Publication) (w : World) (h : History) (s : SubscriberTables) (b : Base publication w h) (a : OfAccounts publication w h) (at : subscriber_at w s.site ≡ Some s) where
  abbrev g : Ground publication w h
  g = b.0

  away : s.site.0 ≡ 0 → ⊥
  away = site-away publication w h s b a at

  abbrev judge : SubscriberJudge
  judge = by_made h s.site

  abbrev t : SubscriberTables
  t = (result_of_reinit judge (subscriber_at_moment w.moment s)).0

  abbrev rows : List (Key × Version)
  rows = discarded_versions judge s

  abbrev lost : List (ℕ × (Key × Past))
  lost = with_all s.site.0 (past_at h s.site.0) h.lost rows

  abbrev middle : History
  middle = record h { lost = lost; accepted = h.accepted; lines = h.lines }

  keeps : KeepsLost h lost
  keeps key place dot is = all-keep s.site.0 (past_at h s.site.0) h.lost rows h.purged key place dot is

  -- all its changes are in closed generations then
  none-above : (key : Key) → is_changed_above t.received key (made_at h s.site.0) ≡ false
  none-above key =
      let c : SubscriberTables = subscriber_closed (subscriber_at_moment w.moment s) in
      let closing = closing-tells (made_at h s.site.0) s.site.0 w.moment s (g.numbered.subscribers s.site.0 s at) in
      let tells : RowsTell (made_at h s.site.0) (subscriber_last_closed c) [] =
      anew-rows c.changes (subscriber_last_closed c) (made_at h s.site.0) (order-closed c.changes (subscriber_last_closed c + 1) (subscriber_last_closed c) (made_at h s.site.0) (closing.order away) (closing.idle (filling-closed s.gens.filling))) in
      sym (tells.unsent key (subscriber_last_closed c) (omega arith))

  above : (c : MadeChange) → IsIn c h.made → is_of s.site.0 c ≡ true → (n : ℕ) → n < c.generation → is_changed_above n c.key (made_at h s.site.0) ≡ true
  above c is own n low = any-in (λ (x : MadeChange). x.dot.site.0 == s.site.0) (λ (x : MadeChange). nat_lt n x.generation && same_key c.key x.key) h.made c is own (grind (arith, nat_tests, low, key-itself c.key))

  -- a change that is not received is in the table
  discarded-safe : (c : MadeChange) → IsIn c h.made → is_of s.site.0 c ≡ true → s.received < c.generation → IsSafe middle c
  discarded-safe c is own low place does =
      let changed : is_changed_above s.received c.key (made_at h s.site.0) ≡ true = above c is own s.received low in
      let tells : RowsTell (made_at h s.site.0) s.received s.rows = g.unsent s.site.0 s away at in
      let held : is_some (row_at s.rows c.key) ≡ true = gens-some (row_at s.rows c.key) (λ (n : ℕ). nat_lt s.received n) (tells.unsent c.key s.received (omega arith) ∙ changed) in
      let known : has (past_at h s.site.0 c.key).known c.dot ≡ true = all-in (λ (x : MadeChange). is_of s.site.0 x ≡ true → s.received < x.generation → has (past_at h s.site.0 x.key).known x.dot ≡ true) h.made c (a.unsent s.site.0 s at) is own low in
      let holds = (a.held s.site.0 c.key).holds c.dot place (made-in h.made c place is does) known in
      let there : descends (past_at h s.site.0 c.key).chains place c.dot ≡ true → is_kept_elsewhere lost h.purged c.key place c.dot ≡ true = λ inside. all-has s.site.0 (past_at h s.site.0) h.lost rows h.purged c.key place c.dot (discarded-in judge s.received s.rows c.key held changed) inside in
      let before : is_kept_elsewhere h.lost h.purged c.key place c.dot ≡ true → is_kept_elsewhere lost h.purged c.key place c.dot ≡ true = keeps c.key place c.dot in
      let now : is_kept_elsewhere lost h.purged c.key place c.dot ≡ true = either (is_kept_elsewhere lost h.purged c.key place c.dot ≡ true) (descends (past_at h s.site.0 c.key).chains place c.dot) (is_kept_elsewhere h.lost h.purged c.key place c.dot) holds there before in
      or-second (has (past_at middle 0 c.key).known c.dot) (is_kept_elsewhere lost h.purged c.key place c.dot) now

  all-safe : AllByRecursion (λ (c : MadeChange). is_of s.site.0 c ≡ true → nat_le c.generation t.received ≡ true → IsSafe middle c) h.made
  all-safe = each-in (λ (c : MadeChange). is_of s.site.0 c ≡ true → nat_le c.generation t.received ≡ true → IsSafe middle c) h.made (λ c is own low. by-received c is own (nat_le c.generation s.received) refl)
    where
      by-received : (c : MadeChange) → IsIn c h.made → is_of s.site.0 c ≡ true → (b : Bool) → nat_le c.generation s.received ≡ b → IsSafe middle c
      by-received c is own true up = goes-safe h middle c (lost-goes publication (version_at w.publisher) w.subscribers w.pool h g.none (uploads-away w h g.received g.none) g.known.knowledge a lost h.accepted h.lines keeps)
          (all-in (λ (x : MadeChange). is_of s.site.0 x ≡ true → nat_le x.generation s.received ≡ true → IsSafe h x) h.made c (received-safe publication w h s b a at) is own up)
      by-received c is own false up = discarded-safe c is own (grind (arith, nat_tests, up))

  pub anew-accounts : OfAccounts publication (with_subscriber t w) (Noting.noted_anew judge s h)
  anew-accounts =
      let start : Accounts publication (version_at w.publisher) w.subscribers w.pool middle =
      lost-accounts publication (version_at w.publisher) w.subscribers w.pool h g.none (uploads-away w h g.received g.none) g.known.knowledge a lost h.accepted h.lines keeps in
      subst (λ (k : History). Accounts publication (version_at w.publisher) (put_number w.subscribers s.site.0 t) w.pool (record k { pasts = put_number k.pasts s.site.0 [] })) (sym (discards-are s.site rows h))
      (sub-accounts publication (version_at w.publisher) w.subscribers w.pool middle start s.site.0 away s t at None [] lost (λ key place dot is. is) (held-made h g.known.knowledge) (sent-made h g.known.knowledge) tt tt none-ascends
      (λ key version found. absurd cc) (λ key. nothing-traced h.made lost h.purged (past_at h 0 key) key)
      (each-in (λ (c : MadeChange). is_of s.site.0 c ≡ true → t.received < c.generation → has (past_in [] c.key).known c.dot ≡ true) h.made
      (λ c is own low. absurd (let yes = above c is own t.received low in let no = none-above c.key in grind (arith, yes, no))))
      all-safe a.uploads tt)

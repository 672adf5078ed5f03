-- The publisher forgets old tombstones: what was known of their rows alone is accounted for by the purge.
use Rattle.std.specs.Prelude.{◌≡◌, ◌<◌, ◌==◌, ◌||◌, ℕ, List, [], ◌∷◌, Bool, true, false, Option, Some, None, refl, if◌then◌else◌, unwrap_or}
use Rattle.std.specs.List.{fold}
use Rattle.std.specs.List.Sorted.{IsStrictlySortedBy}
use Rattle.std.specs.Map.{keys_of}
use Rattle.std.proofs.Common.{arith, subst, sym, ap, ◌∙◌}
use Rattle.std.proofs.lemmas.Bool.Decides.{nat_tests}
use Rattle.merge_types.specs.declared.identifiers.Dot.{Dot}
use Rattle.merge_units.specs.declared.version.Version.{Version}
use Rattle.std.specs.BTreeMap.{is_at}
use Rattle.merge_table.proofs.Sorted.{sorted_take}
use Rattle.merge_schema.specs.declared.publication.Publication.{Publication}
use Rattle.merge_model.proofs.Publishers.Sorted.{key_total}
use Rattle.merge_model.specs.History.{History, MadeChange, Past, has, no_past, past_at, past_in, pasts_at}
use Rattle.merge_types.specs.RowKeys.{key_cmp}
use Rattle.merge_model.specs.Tables.Keys.{at_number, drop_row, has_key, row_at, same_key}
use Rattle.merge_model.specs.History.Noting
use Rattle.merge_model.specs.History.Pasts.{cell_count}
use Rattle.merge_types.specs.declared.row_key.RowKey.{RowKey as Key}
use Rattle.merge_model.specs.Tables.{SubscriberTables}
use Rattle.merge_model.specs.declared.letter.Letter.{Letter}
use Rattle.merge_laws.specs.Facts.Accounts.{Accounts, Grown, GrownAlone, IsSafe, IsTraced, is_past, is_settled}
use Rattle.merge_laws.specs.Facts.LineagesStand.{is_of}
use Rattle.merge_laws.proofs.Accounts.AccountHistory.{Goes, SortedAt, goes-safe, goes-traced}
use Rattle.merge_laws.proofs.Accounts.AccountSites.{nothing-traced}
use Rattle.merge_model.proofs.Lists.Finding.{all-weaker, at_put_same, found-named}
use Rattle.merge_model.proofs.Lists.KeyLookUps.{key-itself, keys-same, row-dropped}
use Rattle.merge_laws.proofs.Pasts.PastLookUps.{past-left, put-there}
use Rattle.merge_laws.proofs.Told.ToldRows.{drop_version}

module _ (publication : Publication) (found : Key → Option Version) (sites : List (ℕ × SubscriberTables)) (pool : List Letter) (h : History) (none : at_number sites 0 ≡ None) (a : Accounts publication found sites pool h) (key : Key) where
  abbrev after : History
  after = Noting.with_purged h key

  at-publisher : (q : Key) → past_at after 0 q ≡ past_in (drop_row (pasts_at h 0) key) q
  at-publisher q = ap (λ (o : Option (List (Key × Past))). past_in (unwrap_or o []) q) (at_put_same 0 (drop_row (pasts_at h 0) key) h.pasts)

  at-left : (q : Key) → same_key q key ≡ false → past_at after 0 q ≡ past_at h 0 q
  at-left q differs = at-publisher q ∙ past-left (pasts_at h 0) key q differs

  at-gone : past_at after 0 key ≡ no_past
  at-gone = at-publisher key ∙ ap (λ (o : Option Past). unwrap_or o no_past) (row-dropped (pasts_at h 0) key key (a.sorted 0) ∙ ap (λ (b : Bool). (let o : Option Past = if b then None else row_at (pasts_at h 0) key in o)) (key-itself key))

  at-site : (n : ℕ) (q : Key) → (n ≡ 0 → ⊥) → past_at after n q ≡ past_at h n q
  at-site n q differs = ap (λ (es : List (Key × Past)). past_in es q) (put-there h.pasts 0 (drop_row (pasts_at h 0) key) n differs)

  known-goes : (q : Key) (dot : Dot) (b : Bool) → same_key q key ≡ b → has (past_at h 0 q).known dot ≡ true → (has (past_at after 0 q).known dot || has_key after.purged q) ≡ true
  known-goes q dot true same is = grind (arith, same)
  known-goes q dot false differs is =
      let now : has (past_at after 0 q).known dot ≡ true = subst (λ (p : Past). has p.known dot ≡ true) (sym (at-left q differs)) is in
      grind (arith, now)

  past-goes : (q : Key) (dot : Dot) (b : Bool) → same_key q key ≡ b → is_past (past_at h 0 q) dot ≡ true → (is_past (past_at after 0 q) dot || has_key after.purged q) ≡ true
  past-goes q dot true same is = grind (arith, same)
  past-goes q dot false differs is =
      let now : is_past (past_at after 0 q) dot ≡ true = subst (λ (p : Past). is_past p dot ≡ true) (sym (at-left q differs)) is in
      grind (arith, now)

  purge-goes : Goes h after
  purge-goes = record {
    elsewhere = λ q place dot is. grind (arith, is);
    purged = λ q is. grind (arith, is);
    known = λ q dot is. known-goes q dot (same_key q key) refl is;
    past = λ q dot deleted is. past-goes q dot (same_key q key) refl is;
  }

  publisher-left : (k : Key) (version : Version) (b : Bool) → same_key k key ≡ b → drop_version found key k ≡ Some version → Grown (cell_count publication k.article) h.made k version.body (past_at after 0 k).chains
  publisher-left k version true same at = absurd (let no : None ≡ Some version = sym (ap (λ (b : Bool). (let o : Option Version = if b then None else found k in o)) same) ∙ at in cc)
  publisher-left k version false differs at =
      let was : found k ≡ Some version = sym (ap (λ (b : Bool). (let o : Option Version = if b then None else found k in o)) differs) ∙ at in
      subst (λ (p : Past). Grown (cell_count publication k.article) h.made k version.body p.chains) (sym (at-left k differs)) (a.publisher k version was)

  absent-left : (k : Key) (b : Bool) → same_key k key ≡ b → drop_version found key k ≡ None → (dot : Dot) → has (past_at after 0 k).known dot ≡ false
  absent-left k true same at dot = subst (λ (q : Key). has (past_at after 0 q).known dot ≡ false) (sym (keys-same k key same)) (ap (λ (p : Past). has p.known dot) at-gone)
  absent-left k false differs at dot =
      let was : found k ≡ None = sym (ap (λ (b : Bool). (let o : Option Version = if b then None else found k in o)) differs) ∙ at in
      subst (λ (p : Past). has p.known dot ≡ false) (sym (at-left k differs)) (a.absent k was dot)

  sorted-left : (n : ℕ) (b : Bool) → (n == 0) ≡ b → SortedAt after.pasts n
  sorted-left n true is =
      let zero_site : 0 ≡ n = grind (arith, nat_tests, is) in
      subst (λ (k : ℕ). SortedAt after.pasts k) zero_site
      (subst (λ (o : Option (List (Key × Past))). IsStrictlySortedBy key_cmp (keys_of (unwrap_or o []))) (sym (at_put_same 0 (drop_row (pasts_at h 0) key) h.pasts)) (sorted_take key_cmp key_total (is_at (key_cmp key)) (pasts_at h 0) (a.sorted 0)))
  sorted-left n false is = subst (λ (es : List (Key × Past)). IsStrictlySortedBy key_cmp (keys_of es)) (sym (put-there h.pasts 0 (drop_row (pasts_at h 0) key) n (λ same. grind (arith, nat_tests, is, same)))) (a.sorted n)

  held-own : (q : Key) (b : Bool) → same_key q key ≡ b → IsTraced after q (past_at after 0 q)
  held-own q true same = subst (λ (k : Key). IsTraced after k (past_at after 0 k)) (sym (keys-same q key same)) (subst (λ (p : Past). IsTraced after key p) (sym at-gone) (nothing-traced after.made after.lost after.purged (past_at after 0 key) key))
  held-own q false differs = subst (λ (p : Past). IsTraced after q p) (sym (at-left q differs)) (goes-traced h after q (past_at h 0 q) purge-goes (a.held 0 q))

  held-left : (n : ℕ) (q : Key) (b : Bool) → (n == 0) ≡ b → IsTraced after q (past_at after n q)
  held-left n q true is = let zero_site : 0 ≡ n = grind (arith, nat_tests, is) in subst (λ (k : ℕ). IsTraced after q (past_at after k q)) zero_site (held-own q (same_key q key) refl)
  held-left n q false is = subst (λ (p : Past). IsTraced after q p) (sym (at-site n q (λ same. grind (arith, nat_tests, is, same)))) (goes-traced h after q (past_at h n q) purge-goes (a.held n q))

  pub purged-accounts : Accounts publication (drop_version found key) sites pool after
  purged-accounts = record {
    publisher = λ k version at. publisher-left k version (same_key k key) refl at;
    subscribers = λ n s k version at there. subst (λ (p : Past). GrownAlone (cell_count publication k.article) h.made k version.body p.chains) (sym (at-site n k (found-named sites n s none at))) (a.subscribers n s k version at there);
    letters = a.letters;
    absent = λ k at dot. absent-left k (same_key k key) refl at dot;
    sorted = λ n. sorted-left n (n == 0) refl;
    named = a.named;
    held = λ n q. held-left n q (n == 0) refl;
    sent = all-weaker (λ (pasts : List (Key × Past)). (k : Key) → IsTraced h k (past_in pasts k)) (λ (pasts : List (Key × Past)). (k : Key) → IsTraced after k (past_in pasts k)) (λ pasts is k. goes-traced h after k (past_in pasts k) purge-goes (is k)) h.letters a.sent;
    unsent = λ n s at. all-weaker (λ (c : MadeChange). is_of n c ≡ true → s.received < c.generation → has (past_at h n c.key).known c.dot ≡ true) (λ (c : MadeChange). is_of n c ≡ true → s.received < c.generation → has (past_at after n c.key).known c.dot ≡ true)
        (λ c is own above. subst (λ (p : Past). has p.known c.dot ≡ true) (sym (at-site n c.key (found-named sites n s none at))) (is own above)) h.made (a.unsent n s at);
    uploads = a.uploads;
    settled = all-weaker (λ (c : MadeChange). is_settled sites h c ≡ true → IsSafe h c) (λ (c : MadeChange). is_settled sites after c ≡ true → IsSafe after c) (λ c is settled. goes-safe h after c purge-goes (is settled)) h.made a.settled;
  }

-- each of them
pub forgotten-accounts : (publication : Publication) (found : Key → Option Version) (sites : List (ℕ × SubscriberTables)) (pool : List Letter) (h : History) → at_number sites 0 ≡ None → (keys : List Key) → Accounts publication found sites pool h
    → Accounts publication (fold drop_version found keys) sites pool (fold Noting.with_purged h keys)
forgotten-accounts publication found sites pool h none [] a = a
forgotten-accounts publication found sites pool h none (key ∷ keys) a = forgotten-accounts publication (drop_version found key) sites pool (Noting.with_purged h key) none keys (purged-accounts publication found sites pool h none a key)

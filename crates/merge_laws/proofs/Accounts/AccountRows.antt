-- A row of the publisher goes on: what is accounted for stays so, where the new version descends from all that it knows, or that is kept elsewhere.
use Rattle.std.specs.Prelude.{◌≡◌, ◌≤◌, ◌<◌, ◌==◌, ◌&&◌, ◌||◌, ◌++◌, ℕ, List, Bool, true, false, Option, Some, None, refl, if◌then◌else◌}
use Rattle.std.specs.List.{AllByRecursion}
use Rattle.std.proofs.Common.{arith, subst, sym, ap, ◌∙◌, inl, inr}
use Rattle.std.proofs.lemmas.Bool.Decides.{nat_tests}
use Rattle.std.proofs.lemmas.List.Folds.{list_any-append}
use Rattle.merge_types.specs.declared.identifiers.Dot.{Dot}
use Rattle.merge_units.specs.declared.version.Version.{Version}
use Rattle.merge_schema.specs.declared.publication.Publication.{Publication}
use Rattle.merge_batch.specs.declared.request.Request.TheVariants as request
use Rattle.merge_model.specs.History.{History, Line, MadeChange, Past, has, past_at, past_in}
use Rattle.merge_model.specs.Tables.Keys.{at_number, has_key, same_key}
use Rattle.merge_model.specs.History.Pasts.{cell_count}
use Rattle.merge_model.specs.Laws.Promises.{InRow, Place, descends}
use Rattle.merge_types.specs.declared.row_key.RowKey.{RowKey as Key}
use Rattle.merge_model.specs.Tables.{SubscriberTables}
use Rattle.merge_model.specs.declared.letter.Message.TheVariants.{Asks, Replies}
use Rattle.merge_model.specs.declared.letter.Letter.{Letter}
use Rattle.merge_model.specs.declared.letter.Message.{Message}
use Rattle.merge_laws.specs.Facts.Accounts.{Grown, GrownAlone, Holds, IsSafe, IsTraced, Accounts, SendsAll, is_kept_elsewhere, is_made_at, is_past, is_settled}
use Rattle.merge_laws.specs.Facts.Knowledge.{AllKnow, Knowledge, is_made}
use Rattle.merge_laws.specs.Facts.LineagesStand.{OfMessage, is_of, is_sent}
use Rattle.merge_laws.proofs.Accounts.AccountElements.{IsIn, all-in, each-in}
use Rattle.merge_laws.proofs.Accounts.AccountHistory.{Goes, OfNew, all-new, alone-new, at-other-site, goes-safe, goes-traced, grown-new, others-new, put_pasts, sorted-at, traced-new, with_new}
use Rattle.merge_laws.proofs.Accounts.AccountLetters.{IsOfSite, message-weaker}
use Rattle.merge_model.proofs.Lists.Finding.{all-weaker, found-named, some_same}
use Rattle.merge_model.proofs.Lists.KeyLookUps.{keys-same}
use Rattle.merge_laws.proofs.Known.Knowing.{IsFresh}
use Rattle.merge_laws.proofs.Known.KnownRows.{held-knows, past-knows}
use Rattle.merge_model.proofs.Lists.{zip-first, zip-weaker}
use Rattle.merge_laws.proofs.Pasts.PastLookUps.{with-past-same}
use Rattle.merge_laws.proofs.Told.ToldRows.{put_version}

-- a change of another site was made before
pub in-new : (new : Option MadeChange) (site : ℕ) (c : MadeChange) (made : List MadeChange) → OfNew (λ (x : MadeChange). x.dot.site.0 ≡ site) new → (c.dot.site.0 ≡ site → ⊥) → IsIn c (with_new new made) → IsIn c made
in-new None site c made own differs is = is
in-new (Some x) site c made own differs (inl same) = absurd (differs (ap (λ (y : MadeChange). y.dot.site.0) (sym same) ∙ own))
in-new (Some x) site c made own differs (inr later) = later

-- an upload's changes are its site's
sends-new : (new : Option MadeChange) (made : List MadeChange) (pasts : List (Key × Past)) (message : Message) → OfNew (λ (c : MadeChange). c.dot.site.0 ≡ 0) new → IsOfSite message → SendsAll made pasts message → SendsAll (with_new new made) pasts message
sends-new new made pasts (Asks (request.Upload m)) own away all =
    others-new new 0 m.site.0 (λ (c : MadeChange). m.from < c.generation → c.generation ≤ m.to → is_sent pasts m.items c ≡ true) made own away all
sends-new new made pasts (Asks (request.Join m)) own away all = tt
sends-new new made pasts (Asks (request.Ranges m)) own away all = tt
sends-new new made pasts (Asks (request.Download m)) own away all = tt
sends-new new made pasts (Replies m) own away all = tt

-- what more is lost keeps what was
pub more-elsewhere : (lost more : List (ℕ × (Key × Past))) (purged : List Key) (key : Key) (place : Place) (dot : Dot) → is_kept_elsewhere lost purged key place dot ≡ true → is_kept_elsewhere (lost ++ more) purged key place dot ≡ true
more-elsewhere lost more purged key place dot is =
    grind (arith, list_any-append (λ (entry : ℕ × (Key × Past)). same_key entry.1.0 key && descends entry.1.1.chains place dot) lost more, is)

-- the history after a change of the publisher's row, with a change that was made for it or none
abbrev pub gone_on : History → Option MadeChange → Key → Past → List (ℕ × (Key × Past)) → List Dot → List Line → History
gone_on h new key past lost accepted lines = record h { made = with_new new h.made; pasts = put_pasts h 0 key past; lost = lost; accepted = accepted; lines = lines }

-- what was kept elsewhere stays so
abbrev pub KeepsLost : History → List (ℕ × (Key × Past)) → Type 0
KeepsLost h lost = (key : Key) (place : Place) (dot : Dot) → is_kept_elsewhere h.lost h.purged key place dot ≡ true → is_kept_elsewhere lost h.purged key place dot ≡ true

module _ (publication : Publication) (found : Key → Option Version) (sites : List (ℕ × SubscriberTables)) (pool : List Letter) (h : History) (none : at_number sites 0 ≡ None) (away : AllByRecursion (λ (letter : Letter). IsOfSite letter.message) pool) (knows : Knowledge h)
    (a : Accounts publication found sites pool h) where
  module _ (new : Option MadeChange) (key : Key) (past : Past) (lost : List (ℕ × (Key × Past))) (accepted : List Dot) (lines : List Line) where
    abbrev after : History
    after = gone_on h new key past lost accepted lines

    -- the publisher's pasts
    pub at-key : (q : Key) → same_key q key ≡ true → past_at after 0 q ≡ past
    at-key q same = with-past-same h 0 key past q ∙ ap (λ (b : Bool). if b then past else past_at h 0 q) same

    pub at-other : (q : Key) → same_key q key ≡ false → past_at after 0 q ≡ past_at h 0 q
    at-other q differs = with-past-same h 0 key past q ∙ ap (λ (b : Bool). if b then past else past_at h 0 q) differs

    module _ (stay_lost : KeepsLost h lost) (fresh : OfNew (λ (c : MadeChange). IsFresh h.made c.dot) new) (own : OfNew (λ (c : MadeChange). c.dot.site.0 ≡ 0) new)
        (grows : (dot : Dot) → has (past_at h 0 key).known dot ≡ true → has past.known dot ≡ true)
        (stays : (dot : Dot) → is_made_at h.made key dot InRow ≡ true → is_past (past_at h 0 key) dot ≡ true → is_past past dot ≡ true) where
      known-goes : (q : Key) (dot : Dot) (b : Bool) → same_key q key ≡ b → has (past_at h 0 q).known dot ≡ true → (has (past_at after 0 q).known dot || has_key h.purged q) ≡ true
      known-goes q dot true same is =
          let here : q ≡ key = keys-same q key same in
          let up : has past.known dot ≡ true = grows dot (subst (λ (k : Key). has (past_at h 0 k).known dot ≡ true) here is) in
          let now : has (past_at after 0 q).known dot ≡ true = subst (λ (p : Past). has p.known dot ≡ true) (sym (at-key q same)) up in
          grind (arith, now)
      known-goes q dot false differs is =
          let now : has (past_at after 0 q).known dot ≡ true = subst (λ (p : Past). has p.known dot ≡ true) (sym (at-other q differs)) is in
          grind (arith, now)

      past-goes : (q : Key) (dot : Dot) (b : Bool) → same_key q key ≡ b → is_made_at h.made q dot InRow ≡ true → is_past (past_at h 0 q) dot ≡ true → (is_past (past_at after 0 q) dot || has_key h.purged q) ≡ true
      past-goes q dot true same deleted is =
          let here : q ≡ key = keys-same q key same in
          let up : is_past past dot ≡ true = stays dot (subst (λ (k : Key). is_made_at h.made k dot InRow ≡ true) here deleted) (subst (λ (k : Key). is_past (past_at h 0 k) dot ≡ true) here is) in
          let now : is_past (past_at after 0 q) dot ≡ true = subst (λ (p : Past). is_past p dot ≡ true) (sym (at-key q same)) up in
          grind (arith, now)
      past-goes q dot false differs deleted is =
          let now : is_past (past_at after 0 q) dot ≡ true = subst (λ (p : Past). is_past p dot ≡ true) (sym (at-other q differs)) is in
          grind (arith, now)

      pub row-goes : Goes h after
      row-goes = record {
        elsewhere = stay_lost;
        purged = λ q is. is;
        known = λ q dot is. known-goes q dot (same_key q key) refl is;
        past = λ q dot deleted is. past-goes q dot (same_key q key) refl deleted is;
      }

      -- what a version held before
      old-traced : (q : Key) (other : Past) → ((dot : Dot) → has other.known dot ≡ true → is_made h.made q dot ≡ true) → IsTraced h q other → IsTraced after q other
      old-traced q other made traced = traced-new new h.made after.lost after.purged (past_at after 0 q) q other fresh made (goes-traced h after q other row-goes traced)

      module _ (holds : Holds (with_new new h.made) lost h.purged key past) where
        -- of its own row each delete is known
        new-traced : IsTraced after key past
        new-traced = record {
          holds = holds;
          ends = λ dot deleted is. (
              let now : is_past (past_at after 0 key) dot ≡ is_past past dot = ap (λ (p : Past). is_past p dot) (at-key key (let same : same_key key key ≡ true = grind (arith, nat_tests) in same)) in
              grind (arith, now, is)
              );
        }

        held-own : (q : Key) (b : Bool) → same_key q key ≡ b → IsTraced after q (past_at after 0 q)
        held-own q true same = subst (λ (p : Past). IsTraced after q p) (sym (at-key q same)) (subst (λ (k : Key). IsTraced after k past) (sym (keys-same q key same)) new-traced)
        held-own q false differs = subst (λ (p : Past). IsTraced after q p) (sym (at-other q differs)) (old-traced q (past_at h 0 q) (held-knows h 0 q knows).made_here (a.held 0 q))

        held-at : (site : ℕ) (q : Key) (b : Bool) → (site == 0) ≡ b → IsTraced after q (past_at after site q)
        held-at site q true is = let zero : 0 ≡ site = grind (arith, nat_tests, is) in subst (λ (n : ℕ). IsTraced after q (past_at after n q)) zero (held-own q (same_key q key) refl)
        held-at site q false is =
            let there : site ≡ 0 → ⊥ = λ zero. grind (arith, nat_tests, is, zero) in
            subst (λ (p : Past). IsTraced after q p) (sym (at-other-site h 0 site key q past there)) (old-traced q (past_at h site q) (held-knows h site q knows).made_here (a.held site q))

        module _ (version : Version) (other : Key → Option Version) (puts : (k : Key) → other k ≡ put_version found (key, version) k) (grown : Grown (cell_count publication key.article) (with_new new h.made) key version.body past.chains)
            (safe : OfNew (λ (c : MadeChange). is_settled sites h c ≡ true → IsSafe after c) new) where
          found-is : (k : Key) (b : Bool) → same_key k key ≡ b → other k ≡ (if b then Some version else found k)
          found-is k b is = puts k ∙ ap (λ (c : Bool). if c then Some version else found k) is

          publisher-put : (k : Key) (v : Version) (b : Bool) → same_key k key ≡ b → other k ≡ Some v → Grown (cell_count publication k.article) (with_new new h.made) k v.body (past_at after 0 k).chains
          publisher-put k v true same at =
              let is : version ≡ v = some_same version v (sym (found-is k true same) ∙ at) in
              subst (λ (p : Past). Grown (cell_count publication k.article) (with_new new h.made) k v.body p.chains) (sym (at-key k same))
              (subst (λ (r : Version). Grown (cell_count publication k.article) (with_new new h.made) k r.body past.chains) is
              (subst (λ (x : Key). Grown (cell_count publication x.article) (with_new new h.made) x version.body past.chains) (sym (keys-same k key same)) grown))
          publisher-put k v false differs at =
              subst (λ (p : Past). Grown (cell_count publication k.article) (with_new new h.made) k v.body p.chains) (sym (at-other k differs))
              (grown-new new (cell_count publication k.article) h.made k v.body (past_at h 0 k).chains (a.publisher k v (sym (found-is k false differs) ∙ at)))

          absent-put : (k : Key) (b : Bool) → same_key k key ≡ b → other k ≡ None → (dot : Dot) → has (past_at after 0 k).known dot ≡ false
          absent-put k true same at dot = absurd (let no : Some version ≡ None = sym (found-is k true same) ∙ at in cc)
          absent-put k false differs at dot = subst (λ (p : Past). has p.known dot ≡ false) (sym (at-other k differs)) (a.absent k (sym (found-is k false differs) ∙ at) dot)

          pub row-accounts : Accounts publication other sites pool after
          row-accounts = record {
            publisher = λ k v at. publisher-put k v (same_key k key) refl at;
            named = a.named;
            subscribers = λ n s k v at there. subst (λ (p : Past). GrownAlone (cell_count publication k.article) (with_new new h.made) k v.body p.chains) (sym (at-other-site h 0 n key k past (found-named sites n s none at)))
                (alone-new new (cell_count publication k.article) h.made k v.body (past_at h n k).chains (a.subscribers n s k v at there));
            letters = zip-weaker (λ (letter : Letter) (pasts : List (Key × Past)). OfMessage (λ (k : Key) (version : Version) (p : Past). GrownAlone (cell_count publication k.article) h.made k version.body p.chains) pasts letter.message)
                (λ (letter : Letter) (pasts : List (Key × Past)). OfMessage (λ (k : Key) (version : Version) (p : Past). GrownAlone (cell_count publication k.article) (with_new new h.made) k version.body p.chains) pasts letter.message)
                (λ letter pasts is. message-weaker (λ (k : Key) (version : Version) (p : Past). GrownAlone (cell_count publication k.article) h.made k version.body p.chains)
                (λ (k : Key) (version : Version) (p : Past). GrownAlone (cell_count publication k.article) (with_new new h.made) k version.body p.chains)
                (λ k version p. alone-new new (cell_count publication k.article) h.made k version.body p.chains) pasts letter.message is) pool h.letters a.letters;
            absent = λ k at dot. absent-put k (same_key k key) refl at dot;
            sorted = λ site. sorted-at h 0 key past site (site == 0) refl a.sorted;
            held = λ site k. held-at site k (site == 0) refl;
            sent = each-in (λ (pasts : List (Key × Past)). (k : Key) → IsTraced after k (past_in pasts k)) h.letters (λ pasts is k. old-traced k (past_in pasts k) (past-knows h.made k pasts (all-in (AllKnow h.made) h.letters pasts knows.sent is)).made_here
                (all-in (λ (ps : List (Key × Past)). (x : Key) → IsTraced h x (past_in ps x)) h.letters pasts a.sent is k));
            unsent = λ n s at. others-new new 0 n (λ (c : MadeChange). s.received < c.generation → has (past_at after n c.key).known c.dot ≡ true) h.made own (found-named sites n s none at)
                (all-weaker (λ (c : MadeChange). is_of n c ≡ true → s.received < c.generation → has (past_at h n c.key).known c.dot ≡ true) (λ (c : MadeChange). is_of n c ≡ true → s.received < c.generation → has (past_at after n c.key).known c.dot ≡ true)
                (λ c is own_one above. subst (λ (p : Past). has p.known c.dot ≡ true) (sym (at-other-site h 0 n key c.key past (found-named sites n s none at))) (is own_one above)) h.made (a.unsent n s at));
            uploads = zip-first (λ (letter : Letter). IsOfSite letter.message) (λ (letter : Letter) (pasts : List (Key × Past)). SendsAll h.made pasts letter.message) (λ (letter : Letter) (pasts : List (Key × Past)). SendsAll (with_new new h.made) pasts letter.message)
                (λ letter pasts there is. sends-new new h.made pasts letter.message own there is) pool h.letters away a.uploads;
            settled = all-new new (λ (c : MadeChange). is_settled sites h c ≡ true → IsSafe after c) h.made safe
                (all-weaker (λ (c : MadeChange). is_settled sites h c ≡ true → IsSafe h c) (λ (c : MadeChange). is_settled sites h c ≡ true → IsSafe after c) (λ c is settled. goes-safe h after c row-goes (is settled)) h.made a.settled);
          }

  -- What more is lost, and what else a history notes, changes no row.
  module _ (lost : List (ℕ × (Key × Past))) (accepted : List Dot) (lines : List Line) (stay_lost : KeepsLost h lost) where
    abbrev lost_more : History
    lost_more = record h { lost = lost; accepted = accepted; lines = lines }

    pub lost-goes : Goes h (record h { lost = lost; accepted = accepted; lines = lines })
    lost-goes = record {
      elsewhere = stay_lost;
      purged = λ q is. is;
      known = λ q dot is. grind (arith, is);
      past = λ q dot deleted is. grind (arith, is);
    }

    pub lost-accounts : Accounts publication found sites pool (record h { lost = lost; accepted = accepted; lines = lines })
    lost-accounts = record {
      publisher = a.publisher;
      subscribers = a.subscribers;
      named = a.named;
      letters = a.letters;
      absent = a.absent;
      sorted = a.sorted;
      held = λ site k. goes-traced h lost_more k (past_at h site k) lost-goes (a.held site k);
      sent = all-weaker (λ (pasts : List (Key × Past)). (k : Key) → IsTraced h k (past_in pasts k)) (λ (pasts : List (Key × Past)). (k : Key) → IsTraced lost_more k (past_in pasts k)) (λ pasts is k. goes-traced h lost_more k (past_in pasts k) lost-goes (is k)) h.letters a.sent;
      unsent = a.unsent;
      uploads = a.uploads;
      settled = all-weaker (λ (c : MadeChange). is_settled sites h c ≡ true → IsSafe h c) (λ (c : MadeChange). is_settled sites h c ≡ true → IsSafe lost_more c) (λ c is settled. goes-safe h lost_more c lost-goes (is settled)) h.made a.settled;
    }

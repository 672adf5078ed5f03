-- How many changes the sites count, after a step of a subscriber and of the publisher.
use Rattle.std.specs.Prelude.{◌≡◌, ◌==◌, ◌+◌, ℕ, List, Bool, true, false, Option, Some, None, refl, if◌then◌else◌, option_map, unwrap_or}
use Rattle.std.proofs.Common.{arith, subst, sym, ap, ◌∙◌}
use Rattle.std.proofs.lemmas.Bool.Decides.{nat_tests}
use Rattle.merge_types.specs.declared.identifiers.SiteId.{SiteId}
use Rattle.merge_types.specs.declared.identifiers.Moment.{Moment}
use Rattle.merge_types.specs.declared.changes.Change.{Change}
use Rattle.merge_types.specs.declared.values.Value.{Value}
use Rattle.merge_units.specs.declared.version.Version.{Version}
use Rattle.merge_ident.specs.Holders.{Holder}
use Rattle.merge_batch.specs.declared.reply.Reply.{Reply}
use Rattle.merge_batch.specs.declared.reply.Reply.TheVariants as reply
use Rattle.merge_schema.specs.declared.publication.Publication.{Publication}
use Rattle.merge_model.specs.Tables.Changes.{key_of, version_after}
use Rattle.merge_model.specs.Judge.{SubscriberJudge}
use Rattle.merge_model.specs.Tables.Keys.{at_number, put_number}
use Rattle.merge_model.specs.Subscriber.{subscriber_at_moment, subscriber_made_locally, subscriber_next_dot, subscriber_version_at, with_version_if}
use Rattle.merge_types.specs.declared.row_key.RowKey.{RowKey as Key}
use Rattle.merge_model.specs.Tables.{PublisherTables, SubscriberTables}
use Rattle.merge_model.specs.Subscriber.Taking.{tables_after_reply}
use Rattle.merge_model.specs.World.{World, with_publisher, with_subscriber}
use Rattle.merge_laws.specs.Facts.Knowledge.{changes_of}
use Rattle.merge_model.proofs.Lists.Finding.{at_put_other, at_put_same}
use Rattle.merge_laws.proofs.Received.Subscribing.{number-decided, same_number}
use Rattle.merge_laws.proofs.Known.KnownNotes.{raised}

-- A subscriber goes on, with so many changes more.
pub record GoesOn (more : ℕ) (s t : SubscriberTables) : Type 0 where
  pub same_site : t.site ≡ s.site
  pub changes : t.changes ≡ s.changes + more

abbrev pub found_changes : Option SubscriberTables → ℕ
found_changes found = unwrap_or (option_map (λ (s : SubscriberTables). s.changes) found) 0

found-changes : (subscribers : List (ℕ × SubscriberTables)) (s t : SubscriberTables) (more n : ℕ) (b : Bool) → same_number n s.site.0 b → at_number subscribers s.site.0 ≡ Some s → GoesOn more s t
    → found_changes (at_number (put_number subscribers t.site.0 t) n) ≡ (if b then found_changes (at_number subscribers n) + more else found_changes (at_number subscribers n))
found-changes subscribers s t more n true same at g =
    let own : t.site.0 ≡ n = ap (λ (x : SiteId). x.0) g.same_site ∙ sym same in
    let put : at_number (put_number subscribers t.site.0 t) n ≡ Some t = subst (λ (k : ℕ). at_number (put_number subscribers t.site.0 t) k ≡ Some t) own (at_put_same t.site.0 t subscribers) in
    let was : at_number subscribers n ≡ Some s = ap (λ (k : ℕ). at_number subscribers k) same ∙ at in
    ap found_changes put ∙ g.changes ∙ sym (ap (λ (found : Option SubscriberTables). found_changes found + more) was)
found-changes subscribers s t more n false differs at g =
    ap found_changes (at_put_other t.site.0 n t subscribers (λ e. differs (e ∙ ap (λ (x : SiteId). x.0) g.same_site)))

count-if : (zero own : Bool) (p x more : ℕ) → (zero ≡ true → own ≡ false) → (if zero then p else (if own then x + more else x)) ≡ (if own then (if zero then p else x) + more else (if zero then p else x))
count-if true true p x more none = absurd (grind (arith, none))
count-if true false p x more none = refl
count-if false own p x more none = refl

named-other : (n site : ℕ) → (site ≡ 0 → ⊥) → (n == 0) ≡ true → (n == site) ≡ false
named-other n site named is = grind (arith, nat_tests, named, is)

pub on-counts : (w : World) (s t : SubscriberTables) (more n : ℕ) → (s.site.0 ≡ 0 → ⊥) → at_number w.subscribers s.site.0 ≡ Some s → GoesOn more s t → changes_of (with_subscriber t w) n ≡ raised (changes_of w) s.site.0 more n
on-counts w s t more n named at g =
    ap (λ (k : ℕ). if n == 0 then w.publisher.changes else k) (found-changes w.subscribers s t more n (n == s.site.0) (number-decided n s.site.0) at g)
    ∙ count-if (n == 0) (n == s.site.0) w.publisher.changes (found_changes (at_number w.subscribers n)) more (named-other n s.site.0 named)

-- Without a change more, this holds of a site 0 as well.
abbrev pub SameCounts : World → World → Type 0
SameCounts w v = (n : ℕ) → changes_of v n ≡ changes_of w n

none-more : (b : Bool) (x : ℕ) → (if b then x + 0 else x) ≡ x
none-more true x = omega arith
none-more false x = refl

pub same-counts : (w : World) (s t : SubscriberTables) → at_number w.subscribers s.site.0 ≡ Some s → GoesOn 0 s t → SameCounts w (with_subscriber t w)
same-counts w s t at g n = ap (λ (k : ℕ). if n == 0 then w.publisher.changes else k)
    (found-changes w.subscribers s t 0 n (n == s.site.0) (number-decided n s.site.0) at g ∙ none-more (n == s.site.0) (found_changes (at_number w.subscribers n)))

-- the publisher goes on
publisher-if : (b : Bool) (p x more : ℕ) → (if b then p + more else x) ≡ (if b then (if b then p else x) + more else (if b then p else x))
publisher-if true p x more = refl
publisher-if false p x more = refl

pub publisher-counts : (w : World) (q : PublisherTables) (more n : ℕ) → q.changes ≡ w.publisher.changes + more → changes_of (with_publisher q w) n ≡ raised (changes_of w) 0 more n
publisher-counts w q more n is =
    ap (λ (k : ℕ). if n == 0 then k else found_changes (at_number w.subscribers n)) is ∙ publisher-if (n == 0) w.publisher.changes (found_changes (at_number w.subscribers n)) more

-- The calls of a subscriber.

pub taken-on : (judge : SubscriberJudge) (now : Moment) (m : Reply) (s : SubscriberTables) → GoesOn 0 s (tables_after_reply judge now m s)
taken-on judge now (reply.Joined m) s = record { same_site = refl; changes = omega arith }
taken-on judge now (reply.Uploaded m) s = record { same_site = refl; changes = omega arith }
taken-on judge now (reply.Ranged m) s = record { same_site = refl; changes = omega arith }
taken-on judge now (reply.Downloaded m) s = record { same_site = refl; changes = omega arith }
taken-on judge now (reply.Refused number values) s = record { same_site = refl; changes = omega arith }

version-on : (key : Key) (version : Option Version) (s u : SubscriberTables) → u.site ≡ s.site → u.changes ≡ s.changes + 1 → GoesOn 1 s (with_version_if key version u)
version-on key None s u site changes = record { same_site = site; changes = changes }
version-on key (Some version) s u site changes = record { same_site = site; changes = changes }

pub made-on : (publication : Publication) (now : Moment) (change : Change) (s : SubscriberTables) (d : Value × List (ℕ × Holder)) → GoesOn 1 s (subscriber_made_locally publication change d (subscriber_at_moment now s)).0
made-on publication now change s d =
    let t : SubscriberTables = subscriber_at_moment now s in
    let u : SubscriberTables = record t { changes = t.changes + 1; held = d.1 } in
    version-on (key_of (subscriber_next_dot t) change) (version_after publication (subscriber_next_dot t) d.0 change (subscriber_version_at t (key_of (subscriber_next_dot t) change))) s u refl refl

-- a site's own count is the one of its number
pub own-count : (w : World) (s : SubscriberTables) (b : Bool) → (s.site.0 == 0) ≡ b → (s.site.0 ≡ 0 → ⊥) → at_number w.subscribers s.site.0 ≡ Some s → s.changes ≡ changes_of w s.site.0
own-count w s true is named at = absurd (named (grind (arith, nat_tests, is)))
own-count w s false is named at = grind (arith, is, at)

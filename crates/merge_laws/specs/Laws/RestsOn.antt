-- What the laws rest on: the parts of the invariant that say something of their own, each as a fact of every run.
use Rattle.std.specs.Prelude.{◌≡◌, ◌≤◌, ℕ, ℤ, true, false, Some, is_some, count_by}
use Rattle.std.specs.List.{AllByRecursion}
use Rattle.merge_types.specs.declared.identifiers.Dot.{Dot}
use Rattle.merge_types.specs.declared.row_key.RowKey.{RowKey as Key}
use Rattle.merge_ident.specs.Grants.{is_in}
use Rattle.merge_ident.specs.Holders.{Received as ReceivedRange}
use Rattle.merge_schema.specs.declared.publication.Publication.{Publication}
use Rattle.merge_model.specs.Judge.ByNumbers.{received_by_number}
use Rattle.merge_model.specs.History.{has, is_accepted, past_at}
use Rattle.merge_model.specs.Tables.Keys.{row_at}
use Rattle.merge_model.specs.History.Model.{Model}
use Rattle.merge_model.specs.Laws.Promises.{is_expired_at}
use Rattle.merge_model.specs.Tables.{SubscriberTables}
use Rattle.merge_model.specs.World.{subscriber_at}
use Rattle.merge_laws.specs.Facts.Accounts.{OfAccounts}
use Rattle.merge_laws.specs.Facts.Behind.{Behind}
use Rattle.merge_laws.specs.Facts.Identities.{gives_to, holder_in, holders_at}
use Rattle.merge_laws.specs.Facts.Knowledge.{is_made}
use Rattle.merge_laws.specs.Facts.Purges.{IsInStep}
use Rattle.merge_laws.specs.Facts.Received.{Received}
use Rattle.merge_laws.specs.Facts.Settled.{Settled, changed_of, held_at, made_in, owed_at, touched_at}
use Rattle.merge_laws.specs.Facts.Watermarks.{HoldsWatermarks}

-- What a site's version of a row knows of the changes of other sites was accepted,
abbrev pub KnownIsAccepted : Model → Type 0
KnownIsAccepted m = (site : ℕ) (key : Key) (dot : Dot) → has (past_at m.history site key).known dot ≡ true → (dot.site.0 ≡ site → ⊥) → is_accepted m.history dot ≡ true

-- and what was accepted of a row is known to the publisher's version of it, where the publisher holds the row.
abbrev pub AcceptedIsKnown : Model → Type 0
AcceptedIsKnown m = (key : Key) (dot : Dot) → is_some (row_at m.world.publisher.rows key) ≡ true → is_made m.history.made key dot ≡ true → is_accepted m.history dot ≡ true → has (past_at m.history 0 key).known dot ≡ true

-- A row is at a joined site that is not expired as the publisher has it for the site, unless the site made a change of it that the
-- publisher has not taken, or it was touched for the site above the site's watermark.
abbrev pub SitesAreEqual : Publication → Model → Type 0
SitesAreEqual publication m = (s : SubscriberTables) (key : Key) → subscriber_at m.world s.site ≡ Some s → s.is_joined ≡ true → is_expired_at publication m.world s.site ≡ false
    → changed_of (made_in m.history.made s.site.0) key ≤ received_by_number m.world.publisher s.site.0 → touched_at publication m.world.publisher s.site key ≤ s.watermark
    → held_at s key ≡ owed_at publication m.world.publisher s.site key

-- chains are accounted for: each version has them, and what it knows and does not descend from is kept elsewhere
abbrev pub ChainsAreAccounted : Publication → Model → Type 0
ChainsAreAccounted publication m = OfAccounts publication m.world m.history

-- what messages say that can still act, and what the publisher tells of rows, is in order
abbrev pub RepliesAreTrue : Publication → Model → Type 0
RepliesAreTrue publication m = Settled publication m.world m.history

-- closed generations, moments and watermarks go on together
pub record MomentsAreInStep (m : Model) : Type 0 where
  pub moments : IsInStep m.world.moment.0 m.world.publisher m.history.bases
  pub watermarks : HoldsWatermarks m.world

-- so do received generations
pub record ReceivedIsInStep (m : Model) : Type 0 where
  pub received : Received m.world m.history
  pub behind : Behind m.world

-- Each value of a range that a site holds was granted to it.
abbrev pub HeldWereGranted : Model → Type 0
HeldWereGranted m = (site article : ℕ) (value : ℤ)
    → AllByRecursion (λ (held : ReceivedRange). is_in value held.range ≡ true → 1 ≤ count_by (gives_to site article value) m.world.publisher.grants) (holder_in (holders_at m.world.publisher.held m.world.subscribers site) article).held

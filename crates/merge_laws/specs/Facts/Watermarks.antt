-- A joined site's watermark at the publisher is no more than its own.
use Rattle.std.specs.Prelude.{◌≡◌, ◌≤◌, ◌<◌, ℕ, List, Option, Some, true, IfSome, unwrap_or}
use Rattle.std.specs.List.{AllByRecursion}
use Rattle.merge_types.specs.declared.identifiers.SiteId.{SiteId}
use Rattle.merge_gens.specs.declared.sites.SiteState.{SiteState}
use Rattle.merge_batch.specs.declared.request.Download.{Download}
use Rattle.merge_batch.specs.declared.request.Outstanding.TheVariants as ask
use Rattle.merge_batch.specs.declared.request.Request.TheVariants as request
use Rattle.merge_model.specs.Tables.Keys.{at_number}
use Rattle.merge_model.specs.History.Model.{Model}
use Rattle.merge_model.specs.Laws.Promises.{watermark_of}
use Rattle.merge_model.specs.Publisher.{no_state}
use Rattle.merge_model.specs.Tables.{SubscriberTables}
use Rattle.merge_model.specs.World.{World}
use Rattle.merge_model.specs.declared.letter.Letter.{Letter}
use Rattle.merge_model.specs.declared.letter.Message.{Message}
use Rattle.merge_model.specs.declared.letter.Message.TheVariants.{Asks, Replies}

-- Of a joined site, the publisher's watermark is no more than the site's.
abbrev pub WatermarksAreHeld : Model → Type 0
WatermarksAreHeld m = (n : ℕ) (s : SubscriberTables) → at_number m.world.subscribers n ≡ Some s → s.is_joined ≡ true → watermark_of m.world s.site ≤ s.watermark

-- of a site, by the number of its last join that acted and its watermark at the publisher
pub record HoldsWatermark (joined watermark : ℕ) (s : SubscriberTables) : Type 0 where
  pub at : joined ≤ s.seq
  pub behind : s.is_joined ≡ true → watermark ≤ s.watermark
  -- it made no message since the join acted
  pub anew : s.seq ≤ joined → watermark ≡ 0
  -- an ask that is outstanding begins where the site is
  pub asked : (seq from : ℕ) → s.outstanding ≡ Some (seq, ask.Download from) → from ≡ s.watermark

-- an ask that can still act begins no later than that
pub record AskHolds (joined : ℕ) (m : Download) (s : SubscriberTables) : Type 0 where
  pub made : m.seq ≤ s.seq
  pub low : joined < m.seq → s.is_joined ≡ true → m.from ≤ s.watermark

abbrev pub state_in : List (ℕ × SiteState) → ℕ → SiteState
state_in states n = unwrap_or (at_number states n) no_state

abbrev pub StateHolds : SiteState → SubscriberTables → Type 0
StateHolds state s = HoldsWatermark state.joined_at state.watermark s

abbrev pub MessageHolds : ℕ → SiteId → Option SubscriberTables → Message → Type 0
MessageHolds joined site found (Asks (request.Download m)) = (m.site ≡ site) × IfSome found (AskHolds joined m)
MessageHolds joined site found (Asks m) = Unit {0}
MessageHolds joined site found (Replies m) = Unit {0}

abbrev pub LetterHolds : List (ℕ × SubscriberTables) → List (ℕ × SiteState) → Letter → Type 0
LetterHolds subscribers states letter = MessageHolds (state_in states letter.site.0).joined_at letter.site (at_number subscribers letter.site.0) letter.message

pub record Watermarks (subscribers : List (ℕ × SubscriberTables)) (states : List (ℕ × SiteState)) (pool : List Letter) : Type 0 where
  pub sites : (n : ℕ) → IfSome (at_number subscribers n) (StateHolds (state_in states n))
  pub letters : AllByRecursion (LetterHolds subscribers states) pool

abbrev pub HoldsWatermarks : World → Type 0
HoldsWatermarks w = Watermarks w.subscribers w.publisher.sites w.pool

-- Each range that a site holds was granted to it, whole.
use Rattle.std.specs.List.{AllByRecursion}
use Rattle.std.specs.Ordering.{int_eq}
use Rattle.std.specs.Prelude.{Bool, Some, count_by, ◌&&◌, ◌==◌, ◌≡◌, ℕ}
use Rattle.merge_types.specs.declared.identifiers.SiteId.{SiteId}
use Rattle.merge_ident.specs.Holders.{Received as ReceivedRange}
use Rattle.merge_ident.specs.declared.grants.Grant.{Grant}
use Rattle.merge_ident.specs.declared.grants.Range.{Range}
use Rattle.merge_batch.specs.declared.reply.RangeGrant.{RangeGrant}
use Rattle.merge_batch.specs.declared.reply.Ranged.{Ranged}
use Rattle.merge_batch.specs.declared.reply.Reply.TheVariants as reply
use Rattle.merge_model.specs.History.Model.{Model}
use Rattle.merge_model.specs.World.{letter_at}
use Rattle.merge_model.specs.declared.letter.Message.TheVariants.{Replies}
use Rattle.merge_laws.specs.Facts.Identities.{holder_in, holders_at, told_range}

-- from the same value to the same value
abbrev pub same_range : Range → Range → Bool
same_range one other = int_eq one.begin other.begin && int_eq one.end other.end

-- whether a grant gives a site just this range of an article
abbrev pub gives_range : ℕ → ℕ → Range → Grant → Bool
gives_range site article range grant = (grant.site.0 == site) && ((grant.article == article) && same_range grant.range range)

-- Each range of an article that a site holds, the publisher or a subscriber, one grant gives to this site. A grant has one range, so
-- where two are held, two grants give them.
abbrev pub HeldRangesWereGranted : Model → Type 0
HeldRangesWereGranted m = (site article : ℕ)
    → AllByRecursion (λ (held : ReceivedRange). count_by (gives_range site article held.range) m.world.publisher.grants ≡ 1) (holder_in (holders_at m.world.publisher.held m.world.subscribers site) article).held

-- And so is each range that a reply tells a site of, however late it comes.
abbrev pub ToldRangesWereGranted : Model → Type 0
ToldRangesWereGranted m = (number : ℕ) (site : SiteId) (r : Ranged) → letter_at m.world number ≡ Some (record { site = site; message = Replies (reply.Ranged r) })
    → AllByRecursion (λ (told : RangeGrant). count_by (gives_range site.0 told.article (told_range told)) m.world.publisher.grants ≡ 1) r.grants

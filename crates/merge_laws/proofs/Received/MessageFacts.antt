-- What a message that fits says: of which site it is, and what its site has received and closed.
use Rattle.std.specs.Prelude.{◌≡◌, ◌≤◌, ◌<◌, ℕ, Option, Some, None, true}
use Rattle.std.proofs.Common.{arith}
use Rattle.std.proofs.lemmas.Bool.Decides.{nat_tests}
use Rattle.merge_types.specs.declared.identifiers.SiteId.{SiteId}
use Rattle.merge_batch.specs.declared.request.Join.{Join}
use Rattle.merge_batch.specs.declared.request.Upload.{Upload}
use Rattle.merge_model.specs.History.{History}
use Rattle.merge_model.specs.Tables.Keys.{at_number}
use Rattle.merge_model.specs.Publisher.PublisherJoin.{join_acts}
use Rattle.merge_model.specs.Tables.{PublisherTables, SubscriberTables}
use Rattle.merge_model.specs.World.{World, letter_at}
use Rattle.merge_model.specs.declared.letter.Letter.{Letter}
use Rattle.merge_model.specs.Judge.ByNumbers.{received_by_number}
use Rattle.merge_laws.specs.Facts.Received.{JoinFits, MessageFits, Received, UploadFits, joined_at}
use Rattle.merge_model.proofs.Lists.Finding.{pool-at}

-- A join and an upload are of the site that sent them, which is a subscriber.

pub join-site : (m : Join) (joined : ℕ) (site : SiteId) (found : Option SubscriberTables) → JoinFits joined site m found → m.site ≡ site
join-site m joined site None fits = absurd fits
join-site m joined site (Some s) fits = fits.0

pub upload-site : (m : Upload) (site : SiteId) (found : Option SubscriberTables) → UploadFits site m found → m.site ≡ site
upload-site m site None fits = absurd fits
upload-site m site (Some s) fits = fits.0

pub upload-sent : (m : Upload) (site : SiteId) (found : Option SubscriberTables) → UploadFits site m found → found ≡ None → ⊥
upload-sent m site None fits none = fits
upload-sent m site (Some s) fits none = absurd (grind (arith, none))

-- a letter that comes fits
pub letter-fits : (w : World) (h : History) (number : ℕ) (letter : Letter) → Received w h → letter_at w number ≡ Some letter → MessageFits (joined_at w.publisher letter.site) letter.site (at_number w.subscribers letter.site.0) letter.message
letter-fits w h number letter r at = pool-at (λ (x : Letter). MessageFits (joined_at w.publisher x.site) x.site (at_number w.subscribers x.site.0) x.message) w number letter at r.letters

-- A join that acts is later than the one that acted last, and tells all that was received of its site.

pub acts-later : (m : Join) (p : PublisherTables) → join_acts m p ≡ true → joined_at p m.site < m.seq
acts-later m p acts = grind (arith, nat_tests, acts)

pub join-up : (w : World) (h : History) (m : Join) (found : Option SubscriberTables) → Received w h → at_number w.subscribers m.site.0 ≡ found → JoinFits (joined_at w.publisher m.site) m.site m found → joined_at w.publisher m.site < m.seq → received_by_number w.publisher m.site.0 ≤ m.generation
join-up w h m None r is fits later = absurd fits
join-up w h m (Some s) r is fits later = let taken = (r.subscribers m.site.0 s is).taken in let tells = (fits.2 later).1 in omega (arith, taken, tells)

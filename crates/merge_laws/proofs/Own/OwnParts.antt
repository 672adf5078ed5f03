-- What is known of a site's own changes, part by part, as a step goes on: where changes are made, less counts, and letters are added.
use Rattle.std.specs.Prelude.{◌≡◌, ◌≤◌, ◌<◌, ◌&&◌, ℕ, List, ◌∷◌, Bool, true, Some, refl, is_some, nat_le}
use Rattle.std.specs.List.{AllByRecursion, AllZip}
use Rattle.std.proofs.Common.{arith}
use Rattle.std.proofs.lemmas.Bool.Decides.{nat_tests}
use Rattle.merge_types.specs.declared.identifiers.Dot.{Dot}
use Rattle.merge_types.specs.declared.identifiers.SiteId.{SiteId}
use Rattle.merge_units.specs.declared.version.Version.{Version}
use Rattle.merge_batch.specs.declared.reply.Act.{Act as Order}
use Rattle.merge_batch.specs.declared.reply.Act.TheVariants as order
use Rattle.merge_batch.specs.declared.reply.DownloadItem.{DownloadItem}
use Rattle.merge_batch.specs.declared.reply.Downloaded.{Downloaded}
use Rattle.merge_batch.specs.declared.reply.Reply.TheVariants as reply
use Rattle.merge_batch.specs.declared.request.Request.TheVariants as request
use Rattle.merge_batch.specs.declared.request.Upload.{Upload}
use Rattle.merge_model.specs.History.{History, MadeChange, Past, has, past_at, past_in}
use Rattle.merge_model.specs.Tables.Keys.{at_number, row_at, same_key}
use Rattle.merge_model.specs.History.Model.{Model}
use Rattle.merge_types.specs.declared.row_key.RowKey.{RowKey as Key}
use Rattle.merge_model.specs.Tables.{SubscriberTables}
use Rattle.merge_model.specs.Subscriber.Taking.{key_of_download}
use Rattle.merge_model.specs.World.{World}
use Rattle.merge_model.specs.declared.letter.Message.TheVariants.{Asks, Replies}
use Rattle.merge_model.specs.declared.letter.Letter.{Letter}
use Rattle.merge_model.specs.declared.letter.Message.{Message}
use Rattle.merge_laws.specs.Facts.LineagesStand.{KnowsAll, OfOrder, ReplyAnswers, UploadSends, counts_in, is_of, is_sent}
use Rattle.merge_laws.specs.Facts.Received.{joined_at}
use Rattle.merge_laws.specs.Facts.Standing.{IsKnownLater}
use Rattle.merge_model.proofs.Lists.Finding.{all-weaker}
use Rattle.merge_model.proofs.Lists.{zip-first}

-- all of it but what has acted, which is what is accepted
pub record OwnRest (m : Model) : Type 0 where
  pub making : AllByRecursion (IsKnownLater m.history.made (counts_in m)) m.history.made
  pub own : (n : ℕ) (s : SubscriberTables) (key : Key) → 1 ≤ n → at_number m.world.subscribers n ≡ Some s → is_some (row_at s.rows key) ≡ true → KnowsAll m key (is_of n) (past_at m.history n key).known
  pub uploads : AllZip (λ (letter : Letter) (pasts : List (Key × Past)). UploadSends m pasts letter.message) m.world.pool m.history.letters
  pub replies : AllZip (λ (letter : Letter) (pasts : List (Key × Past)). ReplyAnswers m letter.site.0 pasts letter.message) m.world.pool m.history.letters

abbrev pub at_model : World → History → Model
at_model w h = record { world = w; history = h }

abbrev pub Rest : World → History → Type 0
Rest w h = OwnRest (at_model w h)

-- Changes are made: what holds of the old ones gives what is to hold, and it holds of the new ones.
abbrev pub Grows : (MadeChange → Type 0) → List MadeChange → List MadeChange → Type 1
Grows New made after = (P Q : MadeChange → Type 0) → ((c : MadeChange) → P c → Q c) → ((c : MadeChange) → New c → Q c) → AllByRecursion P made → AllByRecursion Q after

abbrev pub NoneNew : MadeChange → Type 0
NoneNew c = ⊥

pub same-grows : (made : List MadeChange) → Grows NoneNew made made
same-grows made P Q old new all = all-weaker P Q old made all

pub one-grows : (made : List MadeChange) (c : MadeChange) → Grows (λ (x : MadeChange). x ≡ c) made (c ∷ made)
one-grows made c P Q old new all = (new c refl, all-weaker P Q old made all)

-- Letters.

order-on : (P Q : Key → Version → Past → Type 0) → ((key : Key) (version : Version) (past : Past) → P key version past → Q key version past) → (key : Key) (past : Past) (o : Order) → OfOrder P key past o → OfOrder Q key past o
order-on P Q each key past (order.Put lineage live) p = each key _ past p
order-on P Q each key past order.RemoveDeleted p = tt
order-on P Q each key past order.RemoveLeft p = tt

abbrev pub up_to : ℕ → ℕ → MadeChange → Bool
up_to site received change = is_of site change && nat_le change.generation received

module _ (m n : Model) (New : MadeChange → Type 0) (grows : Grows New m.history.made n.history.made) (less : (c : MadeChange) → counts_in n c ≡ true → counts_in m c ≡ true) where
  pub knows-on : (key : Key) (test : MadeChange → Bool) (known more : List Dot) → ((dot : Dot) → has known dot ≡ true → has more dot ≡ true) → ((c : MadeChange) → New c → same_key key c.key ≡ true → test c ≡ true → has more c.dot ≡ true)
      → KnowsAll m key test known → KnowsAll n key test more
  knows-on key test known more wider new all = grows (λ (c : MadeChange). same_key key c.key ≡ true → test c ≡ true → counts_in m c ≡ true → has known c.dot ≡ true) (λ (c : MadeChange). same_key key c.key ≡ true → test c ≡ true → counts_in n c ≡ true → has more c.dot ≡ true)
      (λ c old row is counted. wider c.dot (old row is (less c counted))) (λ c is_new row is counted. new c is_new row is) all

  module _ (F : Letter → Type 0) (joined : (site : SiteId) → joined_at m.world.publisher site ≤ joined_at n.world.publisher site)
      (behind : (site : SiteId) (u : Upload) (c : MadeChange) → F (record { site = site; message = Asks (request.Upload u) }) → New c → is_of u.site.0 c ≡ true → c.generation ≤ u.to → ⊥)
      (later : (site : SiteId) (r : Downloaded) (c : MadeChange) → F (record { site = site; message = Replies (reply.Downloaded r) }) → New c → is_of site.0 c ≡ true → c.generation ≤ r.received → ⊥) where
    pub upload-on : (site : SiteId) (message : Message) (pasts : List (Key × Past)) → F (record { site = site; message = message }) → UploadSends m pasts message → UploadSends n pasts message
    upload-on site (Asks (request.Upload u)) pasts fits sends = λ can. grows
        (λ (c : MadeChange). is_of u.site.0 c ≡ true → u.from < c.generation → c.generation ≤ u.to → counts_in m c ≡ true → is_sent pasts u.items c ≡ true)
        (λ (c : MadeChange). is_of u.site.0 c ≡ true → u.from < c.generation → c.generation ≤ u.to → counts_in n c ≡ true → is_sent pasts u.items c ≡ true)
        (λ c old own low up counted. old own low up (less c counted)) (λ c new own low up counted. absurd (behind site u c fits new own up))
        (sends (let up = joined u.site in grind (arith, nat_tests, up, can)))
    upload-on site (Asks (request.Join u)) pasts fits sends = tt
    upload-on site (Asks (request.Ranges u)) pasts fits sends = tt
    upload-on site (Asks (request.Download u)) pasts fits sends = tt
    upload-on site (Replies r) pasts fits sends = tt

    pub reply-on : (site : SiteId) (message : Message) (pasts : List (Key × Past)) → F (record { site = site; message = message }) → ReplyAnswers m site.0 pasts message → ReplyAnswers n site.0 pasts message
    reply-on site (Replies (reply.Downloaded r)) pasts fits answers =
        let P : Key → Version → Past → Type 0 = λ key version past. KnowsAll m key (up_to site.0 r.received) past.known in
        let Q : Key → Version → Past → Type 0 = λ key version past. KnowsAll n key (up_to site.0 r.received) past.known in
        all-weaker (λ (item : DownloadItem). OfOrder P (key_of_download item) (past_in pasts (key_of_download item)) item.act) (λ (item : DownloadItem). OfOrder Q (key_of_download item) (past_in pasts (key_of_download item)) item.act)
        (λ item here. order-on P Q (λ key version past p. knows-on key (up_to site.0 r.received) past.known past.known (λ dot is. is)
        (λ c new row is. absurd (later site r c fits new (grind (arith, is)) (grind (arith, nat_tests, is)))) p) (key_of_download item) (past_in pasts (key_of_download item)) item.act here) r.items answers
    reply-on site (Replies (reply.Joined r)) pasts fits answers = tt
    reply-on site (Replies (reply.Uploaded r)) pasts fits answers = tt
    reply-on site (Replies (reply.Ranged r)) pasts fits answers = tt
    reply-on site (Replies (reply.Refused number values)) pasts fits answers = tt
    reply-on site (Asks u) pasts fits answers = tt

    pub uploads-on : (pool : List Letter) (letters : List (List (Key × Past))) → AllByRecursion F pool → AllZip (λ (letter : Letter) (pasts : List (Key × Past)). UploadSends m pasts letter.message) pool letters → AllZip (λ (letter : Letter) (pasts : List (Key × Past)). UploadSends n pasts letter.message) pool letters
    uploads-on pool letters fits all = zip-first F (λ (letter : Letter) (pasts : List (Key × Past)). UploadSends m pasts letter.message) (λ (letter : Letter) (pasts : List (Key × Past)). UploadSends n pasts letter.message)
        (λ letter pasts here sends. upload-on letter.site letter.message pasts here sends) pool letters fits all

    pub replies-on : (pool : List Letter) (letters : List (List (Key × Past))) → AllByRecursion F pool → AllZip (λ (letter : Letter) (pasts : List (Key × Past)). ReplyAnswers m letter.site.0 pasts letter.message) pool letters → AllZip (λ (letter : Letter) (pasts : List (Key × Past)). ReplyAnswers n letter.site.0 pasts letter.message) pool letters
    replies-on pool letters fits all = zip-first F (λ (letter : Letter) (pasts : List (Key × Past)). ReplyAnswers m letter.site.0 pasts letter.message) (λ (letter : Letter) (pasts : List (Key × Past)). ReplyAnswers n letter.site.0 pasts letter.message)
        (λ letter pasts here answers. reply-on letter.site letter.message pasts here answers) pool letters fits all

-- The numbers of sites: which can subscribe, and which downloads are for.
use Rattle.std.specs.Prelude.{◌≡◌, ◌≤◌, ℕ, List, Some}
use Rattle.std.specs.List.{AllByRecursion}
use Rattle.merge_batch.specs.declared.reply.Reply.TheVariants as reply
use Rattle.merge_batch.specs.declared.request.Request.TheVariants as request
use Rattle.merge_model.specs.History.{History}
use Rattle.merge_model.specs.Tables.Keys.{at_number}
use Rattle.merge_model.specs.Tables.{SubscriberTables}
use Rattle.merge_model.specs.World.{World}
use Rattle.merge_model.specs.declared.letter.Message.TheVariants.{Asks, Replies}
use Rattle.merge_model.specs.declared.letter.Letter.{Letter}
use Rattle.merge_model.specs.declared.letter.Message.{Message}

-- a subscriber has a number that a publication can give, so that its rows have identifiers
abbrev pub AreNamed : List (ℕ × SubscriberTables) → Type 0
AreNamed subscribers = (n : ℕ) (s : SubscriberTables) → at_number subscribers n ≡ Some s → n ≤ 63

-- no download is for the publisher
abbrev pub IsForSubscriber : ℕ → Message → Type 0
IsForSubscriber site (Asks (request.Download m)) = site ≡ 0 → ⊥
IsForSubscriber site (Replies (reply.Downloaded m)) = site ≡ 0 → ⊥
IsForSubscriber site message = Unit {0}

abbrev pub DownloadsAreNamed : List Letter → Type 0
DownloadsAreNamed pool = AllByRecursion (λ (letter : Letter). IsForSubscriber letter.site.0 letter.message) pool

abbrev pub LettersAreNamed : World → History → Type 0
LettersAreNamed w h = AreNamed w.subscribers × DownloadsAreNamed w.pool

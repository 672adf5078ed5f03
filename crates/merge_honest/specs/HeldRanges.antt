-- What a site holds of identity ranges: each identity article once, in order, and no more ranges than were granted to it.
use Rattle.std.specs.List.{AllByRecursion}
use Rattle.std.specs.List.Sorted.{IsStrictlySortedBy}
use Rattle.std.specs.Map.{keys_of}
use Rattle.std.specs.Ordering.{nat_cmp}
use Rattle.std.specs.Prelude.{List, Some, map, true, ℕ, ◌≡◌, ◌≤◌}
use Rattle.merge_ident.specs.Books.{IsBook}
use Rattle.merge_ident.specs.Grants.{granted_to}
use Rattle.merge_ident.specs.Holders.{Holder}
use Rattle.merge_ident.specs.declared.grants.Grant.{Grant}
use Rattle.merge_schema.specs.declared.publication.Publication.{Publication}
use Rattle.merge_batch.specs.Asks.{has_identity, wanted_article}
use Rattle.merge_batch.specs.declared.reply.RangeGrant.{RangeGrant}
use Rattle.merge_batch.specs.declared.reply.Reply.TheVariants as reply
use Rattle.merge_batch.specs.declared.request.RangeAsk.{RangeAsk}
use Rattle.merge_batch.specs.declared.request.Request.TheVariants as request
use Rattle.merge_batch.specs.declared.request.Want.{Want}
use Rattle.merge_model.specs.Tables.Keys.{at_number}
use Rattle.merge_model.specs.Tables.Publications.{rules_of}
use Rattle.merge_model.specs.Tables.{SubscriberTables}
use Rattle.merge_model.specs.declared.letter.Letter.{Letter}
use Rattle.merge_model.specs.declared.letter.Message.{Message}
use Rattle.merge_model.specs.declared.letter.Message.TheVariants.{Asks, Replies}

-- as many ranges of an identity article as were granted to a site, or fewer
pub record HasGranted (publication : Publication) (grants : List Grant) (site article have : ℕ) : Type 0 where
  pub identity : has_identity publication article ≡ true
  pub granted : have ≤ granted_to article site grants

abbrev pub HolderHas : Publication → List Grant → ℕ → ℕ × Holder → Type 0
HolderHas publication grants site entry = HasGranted publication grants site entry.0 entry.1.have

-- of what a site holds
pub record IsHeldWell (publication : Publication) (grants : List Grant) (site : ℕ) (held : List (ℕ × Holder)) : Type 0 where
  pub ascend : IsStrictlySortedBy nat_cmp (keys_of held)
  pub each : AllByRecursion (HolderHas publication grants site) held

-- and of what an ask for ranges tells of it
abbrev pub WantHas : Publication → List Grant → ℕ → Want → Type 0
WantHas publication grants site want = HasGranted publication grants site want.article want.have

pub record AsksWell (publication : Publication) (grants : List Grant) (site : ℕ) (ask : RangeAsk) : Type 0 where
  pub sender : ask.site.0 ≡ site
  pub ascend : IsStrictlySortedBy nat_cmp (map wanted_article ask.wants)
  pub each : AllByRecursion (WantHas publication grants site) ask.wants

-- a range that an answer tells of has a number that was granted
abbrev pub IsNumbered : List Grant → ℕ → RangeGrant → Type 0
IsNumbered grants site told = told.number ≤ granted_to told.article site grants

abbrev pub MessageIsGranted : Publication → List Grant → ℕ → Message → Type 0
MessageIsGranted publication grants site (Asks (request.Ranges ask)) = AsksWell publication grants site ask
MessageIsGranted publication grants site (Asks m) = Unit {0}
MessageIsGranted publication grants site (Replies (reply.Ranged m)) = AllByRecursion (IsNumbered grants site) m.grants
MessageIsGranted publication grants site (Replies m) = Unit {0}

pub record HeldRanges (publication : Publication) (grants : List Grant) (subscribers : List (ℕ × SubscriberTables)) (pool : List Letter) : Type 0 where
  pub book : IsBook (rules_of publication) grants
  pub held : (n : ℕ) (s : SubscriberTables) → at_number subscribers n ≡ Some s → IsHeldWell publication grants n s.held
  pub letters : AllByRecursion (λ (letter : Letter). MessageIsGranted publication grants letter.site.0 letter.message) pool

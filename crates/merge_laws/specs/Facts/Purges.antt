-- A purge takes nothing that a live site still needs: what a site has not asked for closed no earlier than it was last in step.
use Rattle.std.specs.Prelude.{◌≤◌, ◌<◌, ℕ, List, IfSome, unwrap_or}
use Rattle.std.specs.List.{AllByRecursion}
use Rattle.merge_gens.specs.Book.{Book}
use Rattle.merge_gens.specs.declared.closings.Closing.{Closing}
use Rattle.merge_gens.specs.declared.sites.SiteState.{SiteState}
use Rattle.merge_model.specs.Tables.Keys.{at_number}
use Rattle.merge_model.specs.Tables.{PublisherTables}

abbrev pub AllClosings : (Closing → Type 0) → Book → Type 0
AllClosings P book = AllByRecursion P book.closings

-- one generation closed no later than another that is behind it
abbrev pub ClosedBefore : Closing → Closing → Type 0
ClosedBefore a b = a.generation < b.generation → a.moment.0 ≤ b.moment.0

-- of the closed generations that the publisher keeps
pub record ClosedInOrder (latest : ℕ) (book : Book) : Type 0 where
  pub closed : AllClosings (λ (c : Closing). c.generation ≤ book.filling.last_closed) book
  -- they closed at moments that have been
  pub been : AllClosings (λ (c : Closing). c.moment.0 ≤ latest) book
  pub rising : AllClosings (λ (a : Closing). AllClosings (ClosedBefore a) book) book

-- of a site that joined, by its watermark at the publisher, the moment at which it was last in step, and the last closed generation as it joined
pub record SiteInStep (latest : ℕ) (book : Book) (base watermark last_sync : ℕ) : Type 0 where
  pub been : last_sync ≤ latest
  -- what is above both closed no earlier than the site was in step
  pub since : AllClosings (λ (c : Closing). watermark < c.generation → base < c.generation → last_sync ≤ c.moment.0) book

abbrev pub base_in : List (ℕ × ℕ) → ℕ → ℕ
base_in bases site = unwrap_or (at_number bases site) 0

abbrev pub StateInStep : ℕ → Book → ℕ → SiteState → Type 0
StateInStep latest book base state = SiteInStep latest book base state.watermark state.last_sync

abbrev pub AllInStep : ℕ → Book → List (ℕ × SiteState) → List (ℕ × ℕ) → Type 0
AllInStep latest book sites bases = (n : ℕ) → IfSome (at_number sites n) (StateInStep latest book (base_in bases n))

pub record InStep (moment latest : ℕ) (book : Book) (states : List (ℕ × SiteState)) (bases : List (ℕ × ℕ)) : Type 0 where
  -- the publisher's moment is none that has not been
  pub been : latest ≤ moment
  pub closings : ClosedInOrder latest book
  pub sites : AllInStep latest book states bases

abbrev pub IsInStep : ℕ → PublisherTables → List (ℕ × ℕ) → Type 0
IsInStep moment p bases = InStep moment p.latest.0 p.gens p.sites bases

-- That no request of the pool is refused for a rule of messages, from what each upload that may be taken keeps.
use Rattle.std.specs.List.{AllByRecursion}
use Rattle.std.specs.Prelude.{List, None, Option, [], false, refl, true, ℕ, ◌==◌, ◌≡◌, ◌∷◌}
use Rattle.std.proofs.Common.{arith}
use Rattle.merge_types.specs.declared.identifiers.SiteId.{SiteId}
use Rattle.merge_types.specs.declared.row_key.RowKey.{RowKey as Key}
use Rattle.merge_units.specs.declared.version.Version.{Version}
use Rattle.merge_schema.specs.Valid.{IsValid}
use Rattle.merge_schema.specs.declared.publication.Publication.{Publication}
use Rattle.merge_batch.specs.Asks.{broken_by_join, broken_by_ranges, join_numbers_fit, wants_fit}
use Rattle.merge_batch.specs.Known.{Known as HeldAgainst}
use Rattle.merge_batch.specs.Search.{broken_by_message}
use Rattle.merge_batch.specs.Uploads.{item_rules, upload_rules}
use Rattle.merge_batch.specs.declared.request.Join.{Join}
use Rattle.merge_batch.specs.declared.request.RangeAsk.{RangeAsk}
use Rattle.merge_batch.specs.declared.request.Request.{Request}
use Rattle.merge_batch.specs.declared.request.Request.TheVariants as request
use Rattle.merge_batch.specs.declared.request.Upload.{Upload}
use Rattle.merge_batch.specs.declared.request.UploadItem.{UploadItem}
use Rattle.merge_model.specs.Failing.{Slips}
use Rattle.merge_model.specs.World.Faults.{join_fault, known_by, ranges_fault}
use Rattle.merge_model.specs.History.{Past}
use Rattle.merge_model.specs.Judge.{PublisherJudge}
use Rattle.merge_model.specs.History.Model.{Model}
use Rattle.merge_model.specs.Publisher.{site_refusal}
use Rattle.merge_model.specs.Failing.Runs.{model_behind}
use Rattle.merge_model.specs.Tables.{PublisherTables}
use Rattle.merge_model.specs.World.{Saying}
use Rattle.merge_model.specs.declared.event.Event.{Event}
use Rattle.merge_laws.specs.Laws.Effects.{history_judge}
use Rattle.merge_laws.specs.Laws.{OfEveryValidRun}
use Rattle.merge_laws.proofs.Lineages.LineagesAlways.{Kept, kept-always}
use Rattle.merge_laws.specs.Facts.LineagesStand.{EveryVersion}
use Rattle.merge_owed.specs.Identity.{TakenStands, ValueWasTaken}
use Rattle.merge_owed.proofs.IdentityKept.{taken-stands, values-taken}
use Rattle.merge_honest.specs.Answered.{LettersAnswer}
use Rattle.merge_honest.specs.Bounded.{AreBounded}
use Rattle.merge_honest.specs.Filled.{HasGeneration}
use Rattle.merge_honest.specs.HeldRanges.{HeldRanges}
use Rattle.merge_honest.specs.OwnPairs.{OwnPairs}
use Rattle.merge_honest.proofs.AnsweredAlways.{answered-always}
use Rattle.merge_honest.proofs.BoundedAlways.{bounded-always}
use Rattle.merge_honest.proofs.HasGenerations.{begun-always}
use Rattle.merge_honest.proofs.Named.{AllNamed, named-always}
use Rattle.merge_honest.proofs.OwnPairs.{own-pairs-always}
use Rattle.merge_honest.proofs.UploadWalk.{AllUploads}
use Rattle.merge_honest.specs.Delivered.{IsRequest, NoneIsRefusedFor, breaks}
use Rattle.merge_honest.proofs.Breaking.{Follows, IsOther, fault-never, meets, message-other, upload-other}
use Rattle.merge_honest.proofs.Refusing.{Allows, Never, none-refused}
use Rattle.merge_honest.proofs.KnownSenders.{RulesOf, request-passes}
use Rattle.merge_honest.proofs.SentWell.{Whole, sent-well-always}

-- all that is known of a model behind a run
pub record Known (publication : Publication) (m : Model) : Type 0 where
  pub kept : Kept publication m
  pub whole : Whole publication m
  pub bounded : AreBounded m.world
  pub pairs : OwnPairs m.world.subscribers m.world.pool
  pub named : AllNamed m
  pub begun : AllUploads HasGeneration m.world
  pub held : HeldRanges publication m.world.publisher.grants m.world.subscribers m.world.pool
  pub answered : LettersAnswer m.world.subscribers m.world.pool
  -- identity values were taken, and stand
  pub taken : EveryVersion (λ (key : Key) (version : Version) (past : Past). ValueWasTaken publication m.history.made key version.body) m
  pub stands : AllByRecursion (TakenStands publication m) m.history.made

pub known-always : (publication : Publication) (says : Saying) (tallies : List ℕ) (slips : Slips) (events : List Event) → (resolvers : ℕ) × IsValid resolvers publication → Known publication (model_behind publication says tallies slips events)
known-always publication says tallies slips events valid = record {
  kept = kept-always publication valid says tallies slips events;
  whole = sent-well-always publication says tallies slips events valid;
  bounded = bounded-always publication says tallies slips events valid;
  pairs = own-pairs-always publication says tallies slips events valid;
  named = named-always publication says tallies slips events valid;
  begun = (begun-always publication says tallies slips events valid).1;
  held = (answered-always publication says tallies slips events valid).0;
  answered = (answered-always publication says tallies slips events valid).1;
  taken = values-taken valid.0 publication valid.1 says tallies slips events;
  stands = taken-stands valid.0 publication valid.1 says tallies slips events [] [];
}

pub allows-breaks : (rule : ℕ) → Allows (breaks rule)
allows-breaks rule = record { expired = λ last now. refl; stale = λ seq joined. refl; rows = λ count. refl; ends = λ value. refl }

-- A join has one rule, and so has an ask for ranges.
pub join-other : (rule : ℕ) (m : Join) → ((4 == rule) ≡ false) → Never (breaks rule) (join_fault m)
unfolding broken_by_join
join-other rule m differs = fault-never rule _ (message-other rule ((4, join_numbers_fit m) ∷ []) (grind (arith, differs)))

pub ranges-other : (rule : ℕ) (publication : Publication) (judge : PublisherJudge) (m : RangeAsk) (p : PublisherTables) → ((13 == rule) ≡ false) → Never (breaks rule) (ranges_fault publication judge m p)
unfolding broken_by_ranges
ranges-other rule publication judge m p differs = fault-never rule _ (message-other rule ((13, wants_fit publication (known_by publication judge p) m) ∷ []) (grind (arith, differs)))

-- what the publisher holds an upload against
abbrev pub held_against : Publication → Model → ℕ → HeldAgainst
held_against publication m number = known_by publication (history_judge m number) m.world.publisher

-- An upload breaks another rule, if one: its head, and each item.
abbrev pub HeadKeeps : ℕ → Publication → Model → ℕ → Upload → Type 0
HeadKeeps rule publication m number u = IsOther rule (broken_by_message (upload_rules (held_against publication m number) u))

abbrev pub ItemMeets : ℕ → Publication → Model → ℕ → Upload → Option UploadItem → UploadItem → Type 0
ItemMeets rule publication m number u before item = meets rule (item_rules publication (held_against publication m number) u before item) ≡ true

abbrev pub ItemsMeet : ℕ → Publication → Model → ℕ → Upload → Type 0
ItemsMeet rule publication m number u = Follows (ItemMeets rule publication m number u) None u.items

-- Of each upload and each ask for ranges in the pool that the state of its site does not refuse, and of each join.
abbrev pub UploadsKeep : ℕ → Publication → Model → Type 0
UploadsKeep rule publication m = (number : ℕ) (site : SiteId) (u : Upload) → IsRequest m number site (request.Upload u) → site_refusal publication u.site u.seq m.world.moment m.world.publisher ≡ None
    → HeadKeeps rule publication m number u × ItemsMeet rule publication m number u

abbrev pub JoinsKeep : ℕ → Model → Type 0
JoinsKeep rule m = (number : ℕ) (site : SiteId) (j : Join) → IsRequest m number site (request.Join j) → Never (breaks rule) (join_fault j)

abbrev pub AsksKeep : ℕ → Publication → Model → Type 0
AsksKeep rule publication m = (number : ℕ) (site : SiteId) (a : RangeAsk) → IsRequest m number site (request.Ranges a) → site_refusal publication a.site a.seq m.world.moment m.world.publisher ≡ None
    → Never (breaks rule) (ranges_fault publication (history_judge m number) a m.world.publisher)

-- so no delivery is refused for the rule
pub record RuleKept (rule : ℕ) : Type 0 where
  pub joins : (publication : Publication) (m : Model) → Known publication m → JoinsKeep rule m
  pub asks : (publication : Publication) (m : Model) → Known publication m → AsksKeep rule publication m
  pub uploads : (publication : Publication) (m : Model) → Known publication m → UploadsKeep rule publication m

rules-of : (rule : ℕ) (kept : RuleKept rule) (publication : Publication) (m : Model) (k : Known publication m) (number : ℕ) (site : SiteId) (r : Request) → IsRequest m number site r → RulesOf publication m k.whole number site (breaks rule) r
rules-of rule kept publication m k number site (request.Join j) at = kept.joins publication m k number site j at
rules-of rule kept publication m k number site (request.Upload u) at = λ fine. (let both = kept.uploads publication m k number site u at fine in upload-other rule publication (held_against publication m number) u both.0 both.1)
rules-of rule kept publication m k number site (request.Ranges a) at = λ fine. kept.asks publication m k number site a at fine
rules-of rule kept publication m k number site (request.Download d) at = tt

pub none-breaks : (rule : ℕ) → RuleKept rule → OfEveryValidRun (NoneIsRefusedFor (breaks rule))
none-breaks rule kept resolvers publication valid says tallies slips events =
    let m : Model = model_behind publication says tallies slips events in
    let k : Known publication m = known-always publication says tallies slips events (resolvers, valid) in
    none-refused (breaks rule) (allows-breaks rule) publication says m (λ number site r at. request-passes publication m k.whole number site (breaks rule) (allows-breaks rule) r at (rules-of rule kept publication m k number site r at))

-- a rule of uploads alone: of a model, and of every run
rules-in : (rule : ℕ) → ((4 == rule) ≡ false) → ((13 == rule) ≡ false) → (publication : Publication) (m : Model) (k : Known publication m) → UploadsKeep rule publication m → (number : ℕ) (site : SiteId) (r : Request) → IsRequest m number site r
    → RulesOf publication m k.whole number site (breaks rule) r
rules-in rule no_join no_ask publication m k uploads number site (request.Join j) at = join-other rule j no_join
rules-in rule no_join no_ask publication m k uploads number site (request.Upload u) at = λ fine. (let both = uploads number site u at fine in upload-other rule publication (held_against publication m number) u both.0 both.1)
rules-in rule no_join no_ask publication m k uploads number site (request.Ranges a) at = λ fine. ranges-other rule publication (history_judge m number) a m.world.publisher no_ask
rules-in rule no_join no_ask publication m k uploads number site (request.Download d) at = tt

pub uploads-in : (rule : ℕ) → ((4 == rule) ≡ false) → ((13 == rule) ≡ false) → (publication : Publication) (says : Saying) (m : Model) → Known publication m → UploadsKeep rule publication m → NoneIsRefusedFor (breaks rule) publication says m
uploads-in rule no_join no_ask publication says m k uploads =
    none-refused (breaks rule) (allows-breaks rule) publication says m (λ number site r at. request-passes publication m k.whole number site (breaks rule) (allows-breaks rule) r at (rules-in rule no_join no_ask publication m k uploads number site r at))

pub of-uploads : (rule : ℕ) → ((4 == rule) ≡ false) → ((13 == rule) ≡ false) → ((publication : Publication) (m : Model) → Known publication m → UploadsKeep rule publication m) → OfEveryValidRun (NoneIsRefusedFor (breaks rule))
of-uploads rule no_join no_ask uploads resolvers publication valid says tallies slips events =
    let m : Model = model_behind publication says tallies slips events in
    let k : Known publication m = known-always publication says tallies slips events (resolvers, valid) in
    uploads-in rule no_join no_ask publication says m k (uploads publication m k)

-- a rule of the head that is met, or of each item
pub head-met : (rule : ℕ) (publication : Publication) (m : Model) (number : ℕ) (u : Upload) → meets rule (upload_rules (held_against publication m number) u) ≡ true → HeadKeeps rule publication m number u
head-met rule publication m number u met = message-other rule (upload_rules (held_against publication m number) u) met

-- What the items of an upload do that act, one after the other, as the code goes over them.
use Rattle.std.specs.List.{AllByRecursion, fold}
use Rattle.std.specs.Option.{option_and_then, option_to_list}
use Rattle.std.specs.Prelude.{Bool, List, None, Option, Some, [], false, filter_map, if◌then◌else◌, length, map, max, nat_le, nat_lt, not, slice_index, take, unwrap_or, ℕ, ℤ, ◌&&◌, ◌++◌, ◌+◌, ◌==◌, ◌≡◌, ◌≤◌, ◌∷◌}
use Rattle.merge_types.specs.declared.identifiers.RowId.{RowId}
use Rattle.merge_types.specs.declared.row_key.RowKey.{RowKey as Key}
use Rattle.merge_lineage.specs.Lineage.{number_of}
use Rattle.merge_units.specs.Cases.{case_of, is_conflict}
use Rattle.merge_units.specs.declared.case.Case.{Case}
use Rattle.merge_units.specs.declared.result.Decision.{Decision}
use Rattle.merge_units.specs.declared.result.Decision.TheVariants.{KeepPublisher}
use Rattle.merge_units.specs.declared.site_row.PublisherRow.{PublisherRow}
use Rattle.merge_units.specs.declared.version.Version.{Version}
use Rattle.merge_table.specs.declared.edit.Edit.{Edit}
use Rattle.merge_table.specs.declared.edit.Edit.TheVariants.{Put}
use Rattle.merge_gens.specs.declared.sites.SiteState.{SiteState}
use Rattle.merge_ident.specs.declared.grants.Grant.{Grant}
use Rattle.merge_conflict.specs.Losers.{publisher_site}
use Rattle.merge_conflict.specs.declared.row.ConflictRow.{ConflictRow}
use Rattle.merge_resolve.specs.Asked.{tallies_after, tallies_after_question}
use Rattle.merge_resolve.specs.Questions.{decision_for_question, question_of as asked_of}
use Rattle.merge_resolve.specs.declared.asking.Question.{Question}
use Rattle.merge_schema.specs.declared.publication.Publication.{Publication}
use Rattle.merge_batch.specs.Known.{Known}
use Rattle.merge_batch.specs.Makers.{maker_of}
use Rattle.merge_batch.specs.Uploads.{identity_value}
use Rattle.merge_batch.specs.declared.request.Upload.{Upload}
use Rattle.merge_batch.specs.declared.request.UploadItem.{UploadItem}
use Rattle.merge_model.specs.Publisher.Acts.{Act, Fate, Met, New, Unknown, key_of_item, lost_by, made_by, question_on, version_of_act}
use Rattle.merge_model.specs.Judge.ByNumbers.{by_numbers}
use Rattle.merge_model.specs.Judge.{PublisherJudge}
use Rattle.merge_model.specs.Tables.Keys.{at_number, row_at}
use Rattle.merge_model.specs.Publisher.{empty_publisher}
use Rattle.merge_model.specs.World.{Saying}
use Rattle.merge_steps.specs.Keeps.{FitsHere}
use Rattle.merge_steps.specs.declared.acting.Acting.{Acting}
use Rattle.merge_steps.specs.declared.acting.Arrival.{Arrival}

-- What the rules of an upload ask for.

-- the identity value of the live row that is held
abbrev pub identity_held : Publication → List (Key × PublisherRow) → ℕ → ℕ → Option ℤ
identity_held publication rows article row = option_and_then (λ (held : PublisherRow). identity_value publication article held.version.body) (row_at rows (record { article = article; row = record { 0 = row } }))

abbrev pub known_of : Publication → ℕ → List (Key × PublisherRow) → List (ℕ × SiteState) → List Grant → Known
known_of publication changes rows sites grants = record {
  changes = changes;
  state = at_number sites;
  grants = grants;
  identity = identity_held publication rows;
}

-- One item.

-- whether an item acts: its generation has not acted
abbrev pub acts_in : Arrival → UploadItem → Bool
acts_in arrival item = not (nat_le item.generation arrival.received)

-- whether the uploader made a row with a change that has not acted
abbrev pub is_made_by : Arrival → Key → Bool
is_made_by arrival key = elim (maker_of key.row.0) [
  | None ↦ false
  | Some dot ↦ if dot.site.0 == arrival.site.0 then nat_lt arrival.received_number dot.number else false
]

-- whether an item makes a row
abbrev pub makes_row : Arrival → UploadItem → Option PublisherRow → Bool
makes_row arrival item None = is_made_by arrival (key_of_item item)
makes_row arrival item (Some held) = false

abbrev pub makes_row_in : List (Key × PublisherRow) → Arrival → UploadItem → Bool
makes_row_in rows arrival item = acts_in arrival item && makes_row arrival item (row_at rows (key_of_item item))

-- a judge that sees what versions know
abbrev pub by_lineages : Publication → PublisherJudge
by_lineages publication = by_numbers (empty_publisher publication)

-- a row with a version; in which generation it changed bears on no question and no fate
abbrev pub row_with : Version → PublisherRow
row_with version = record { version = version; changed = 0 }

-- the question on an item, where it conflicts with the row that is held
abbrev pub question_at : Publication → Arrival → UploadItem → Option PublisherRow → Option Question
question_at publication arrival item held = question_on publication (by_lineages publication) arrival.site arrival.moment (key_of_item item) item.version held

abbrev pub question_met : Publication → Arrival → UploadItem → Version → Option Question
question_met publication arrival item held = question_at publication arrival item (Some (row_with held))

-- the question on an item that acts
abbrev pub question_in : Publication → List (Key × PublisherRow) → Arrival → UploadItem → Option Question
question_in publication rows arrival item = if acts_in arrival item then question_at publication arrival item (row_at rows (key_of_item item)) else None

-- what the decision on a question counts as, and how often the resolvers were asked after it
abbrev pub decision_on : Saying → List ℕ → Option Question → Decision
decision_on says tallies None = KeepPublisher
decision_on says tallies (Some question) = decision_for_question question (unwrap_or (says question.place (slice_index tallies question.place) question.case) KeepPublisher)

abbrev pub tallies_on : List ℕ → Option Question → List ℕ
tallies_on tallies None = tallies
tallies_on tallies (Some question) = tallies_after_question tallies question.place

-- the first few of these questions were asked
abbrev pub AskedSome : List ℕ → List ℕ → List Question → Type 0
AskedSome old new questions = (n : ℕ) × (new ≡ tallies_after old (take n (map asked_of questions)))

-- an item that meets the version that is held
abbrev pub met_act : ℕ → UploadItem → Version → Case → Decision → Act
met_act number item held case decision = record {
  key = key_of_item item;
  incoming = item.version;
  fate = Met held case decision (record { site = publisher_site; number = number });
}

-- what becomes of an item, where the publisher's next change has this number
abbrev pub fate_at : Publication → Arrival → Saying → List ℕ → ℕ → UploadItem → Option PublisherRow → Fate
fate_at publication arrival says tallies number item None = if is_made_by arrival (key_of_item item) then New else Unknown
fate_at publication arrival says tallies number item (Some held) =
    Met held.version (case_of held.version item.version) (decision_on says tallies (question_at publication arrival item (Some held))) (record { site = publisher_site; number = number })

abbrev pub act_at : Publication → Arrival → Saying → List ℕ → ℕ → UploadItem → Option PublisherRow → Act
act_at publication arrival says tallies number item held = record {
  key = key_of_item item;
  incoming = item.version;
  fate = fate_at publication arrival says tallies number item held;
}

-- All items.

-- what was decided on an act, where it met a conflict
abbrev pub decided_by : Fate → Option Decision
decided_by New = None
decided_by Unknown = None
decided_by (Met held case decision dot) = if is_conflict case then Some decision else None

-- what is there after an act
abbrev pub with_parts : Acting → Key → Option (Key × Version) → List ConflictRow → Option Decision → ℕ → Acting
with_parts acting key version lost decided made = record {
  versions = acting.versions ++ option_to_list version;
  acted = acting.acted ++ key ∷ [];
  lost = acting.lost ++ lost;
  decisions = acting.decisions ++ option_to_list decided;
  changes = acting.changes + made;
  conflict_count = acting.conflict_count + length lost;
}

abbrev pub with_act : Publication → Arrival → Act → Acting → Acting
with_act publication arrival act acting =
    with_parts acting act.key (version_of_act act) (lost_by publication arrival.site arrival.moment (acting.conflict_count + 1) act act.fate) (decided_by act.fate) (made_by act.fate)

-- an act makes one change of the publisher at most, and adds two losing versions at most
pub record Grows (old new : Acting) : Type 0 where
  pub changes : old.changes ≤ new.changes
  pub one : new.changes ≤ old.changes + 1
  pub conflicts : old.conflict_count ≤ new.conflict_count
  pub two : new.conflict_count ≤ old.conflict_count + 2

-- where all versions so far fit, all do afterwards
abbrev pub KeepsFits : Publication → Acting → Acting → Type 0
KeepsFits publication old new = AllByRecursion (FitsHere publication old.changes) old.versions → AllByRecursion (FitsHere publication new.changes) new.versions

-- where an upload has come to, and how often each resolver was asked
pub record Pass : Type 0 where
  pub acting : Acting
  pub tallies : List ℕ

abbrev pub pass_at : Acting → List ℕ → Pass
pass_at acting tallies = record { acting = acting; tallies = tallies }

abbrev pub after_act : Publication → Arrival → Saying → Pass → UploadItem → Option PublisherRow → Pass
after_act publication arrival says pass item held = record {
  acting = with_act publication arrival (act_at publication arrival says pass.tallies (pass.acting.changes + 1) item held) pass.acting;
  tallies = tallies_on pass.tallies (question_at publication arrival item held);
}

abbrev pub after_item : Publication → List (Key × PublisherRow) → Arrival → Saying → Pass → UploadItem → Pass
after_item publication rows arrival says pass item =
    if acts_in arrival item then after_act publication arrival says pass item (row_at rows (key_of_item item)) else pass

-- the questions on the items that act
abbrev pub questions_in : Publication → List (Key × PublisherRow) → Arrival → List UploadItem → List Question
questions_in publication rows arrival items = filter_map (question_in publication rows arrival) items

unfoldable pub after_items : Publication → List (Key × PublisherRow) → Arrival → Saying → Pass → List UploadItem → Pass
after_items publication rows arrival says pass items = fold (after_item publication rows arrival says) pass items

-- What the sites have.

-- the greatest number of a site in the lineages of the items that act
abbrev pub seen_with : Arrival → ℕ → ℕ → UploadItem → ℕ
seen_with arrival site most item = if acts_in arrival item then max most (number_of item.version.lineage site) else most

unfoldable pub seen_by : Arrival → List UploadItem → ℕ → ℕ → ℕ
seen_by arrival items site seen = fold (seen_with arrival site) seen items

-- what is remembered of a site after an upload
abbrev pub taken_to : Upload → ℕ → SiteState → SiteState
taken_to m site state = if site == m.site.0 then record state { received = m.to; received_number = m.through } else state

abbrev pub state_with : Arrival → Upload → ℕ → SiteState → SiteState
state_with arrival m site state = taken_to m site (record state { seen = seen_by arrival m.items site state.seen })

abbrev pub sites_with : Arrival → Upload → List (ℕ × SiteState) → List (ℕ × SiteState)
sites_with arrival m sites = map (λ (entry : ℕ × SiteState). (entry.0, state_with arrival m entry.0 entry.1)) sites

abbrev pub put_all : List (ℕ × SiteState) → List (Edit ℕ SiteState)
put_all sites = map (λ (entry : ℕ × SiteState). Put entry.0 entry.1) sites

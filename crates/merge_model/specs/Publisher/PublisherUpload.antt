-- An upload comes in.
use Rattle.std.specs.List.{fold, list_any}
use Rattle.std.specs.Prelude.{Bool, List, Option, Result, [], count_by, false, if◌then◌else◌, length, map, max, nat_lt, true, ℕ, ◌&&◌, ◌++◌, ◌+◌, ◌==◌, ◌∷◌}
use Rattle.merge_types.specs.declared.identifiers.Moment.{Moment}
use Rattle.merge_lineage.specs.Lineage.{number_of}
use Rattle.merge_units.specs.declared.result.Decision.{Decision}
use Rattle.merge_gens.specs.declared.sites.SiteState.{SiteState}
use Rattle.merge_schema.specs.declared.publication.Publication.{Publication}
use Rattle.merge_batch.specs.declared.refusal.Refusal.{Refusal}
use Rattle.merge_batch.specs.declared.refusal.Refusal.TheVariants.{Gap, TooManyRows}
use Rattle.merge_batch.specs.declared.reply.Uploaded.{Uploaded}
use Rattle.merge_batch.specs.declared.request.Upload.{Upload}
use Rattle.merge_model.specs.Publisher.Acts.{Act, Met, New, Unknown, acts_of, changes_by, lost_from, versions_of}
use Rattle.merge_types.specs.Limits.{rows_limit}
use Rattle.merge_model.specs.Publisher.Entries.{Changing, changed_by}
use Rattle.merge_model.specs.World.Faults.{upload_fault}
use Rattle.merge_model.specs.Judge.{PublisherJudge}
use Rattle.merge_model.specs.Publisher.{at_moment, counters, site_refusal}
use Rattle.merge_model.specs.Tables.Refusals.{counter_end, first_refusal, refused_if, unless}
use Rattle.merge_model.specs.Tables.{PublisherTables}

-- the greatest number of a site in the lineages of the items that act
abbrev pub seen_in : List Act → ℕ → ℕ → ℕ
seen_in acts site seen = fold (λ (most : ℕ) (act : Act). max most (number_of act.incoming.lineage site)) seen acts

abbrev pub state_seeing : List Act → ℕ × SiteState → ℕ × SiteState
state_seeing acts entry = (entry.0, record entry.1 { seen = seen_in acts entry.0 entry.1.seen })

-- the uploader's generations up to the last one of the upload are received
abbrev pub with_taken : Upload → List (ℕ × SiteState) → List (ℕ × SiteState)
with_taken m sites = map (λ (entry : ℕ × SiteState). if entry.0 == m.site.0 then (entry.0, record entry.1 { received = m.to; received_number = m.through }) else entry) sites

abbrev pub changing_by : Upload → List Act → Changing
changing_by m acts = record {
  versions = versions_of acts;
  acted = map (λ (act : Act). act.key) acts;
  uploader = m.site.0;
}

-- what the acts lost, the publisher's own changes in them, and what the sites have
abbrev pub with_acts : Publication → Upload → List Act → PublisherTables → PublisherTables
with_acts publication m acts p = let lost = lost_from publication m.site p.latest (p.conflict_count + 1) acts in record p {
  changes = p.changes + changes_by acts;
  conflict_count = p.conflict_count + length lost;
  conflicts = p.conflicts ++ lost;
  sites = with_taken m (map (state_seeing acts) p.sites);
}

-- an upload whose generations have all acted changes nothing but the moment
abbrev pub brings_news : PublisherJudge → Upload → Bool
brings_news judge m = nat_lt (judge.received m.site.0) m.to

abbrev pub taken_in : Publication → PublisherJudge → Upload → List Act → PublisherTables → PublisherTables
taken_in publication judge m acts p = changed_by publication judge (changing_by m acts) (with_acts publication m acts p)

abbrev pub tables_after_upload : Publication → PublisherJudge → Upload → List Decision → PublisherTables → PublisherTables
tables_after_upload publication judge m decisions p = if brings_news judge m then taken_in publication judge m (acts_of judge m decisions p) p else p

-- Refusals.

abbrev pub is_new : Act → Bool
is_new act = elim act.fate [
  | New ↦ true
  | Unknown ↦ false
  | Met held case decision dot ↦ false
]

-- new rows would be too many; which items make new rows does not depend on decisions
abbrev pub too_many_new : List Act → PublisherTables → Option Refusal
too_many_new acts p = let rows = length p.rows + count_by is_new acts in
    refused_if (list_any is_new acts && nat_lt rows_limit rows) (TooManyRows rows)

abbrev pub upload_refusal : Publication → PublisherJudge → Moment → Upload → PublisherTables → Option Refusal
upload_refusal publication judge now m p = first_refusal (
    site_refusal publication m.site m.seq now p
    ∷ refused_if (judge.is_gap m.site.0 m.from) (Gap m.from (judge.received m.site.0))
    ∷ upload_fault publication judge m p
    ∷ too_many_new (acts_of judge m [] p) p
    ∷ counter_end (counters p)
    ∷ [])

-- the step, with what the decisions of its conflicts count as, in the order of the items
abbrev pub upload : Publication → PublisherJudge → Moment → Upload → List Decision → PublisherTables → Result (PublisherTables × Uploaded) Refusal
upload publication judge now m decisions p = unless (upload_refusal publication judge now m p)
    (tables_after_upload publication judge m decisions (at_moment now p), record { seq = m.seq; received = max m.to (judge.received m.site.0) })

-- A site joins.
use Rattle.std.specs.Prelude.{Bool, Option, Result, [], filter, if◌then◌else◌, max, nat_lt, not, ◌&&◌, ◌==◌, ◌∷◌}
use Rattle.merge_types.specs.declared.identifiers.Moment.{Moment}
use Rattle.merge_types.specs.declared.identifiers.SiteId.{SiteId}
use Rattle.merge_gens.specs.declared.sites.SiteState.{SiteState}
use Rattle.merge_schema.specs.declared.publication.Publication.{Publication}
use Rattle.merge_batch.specs.declared.refusal.Refusal.{Refusal}
use Rattle.merge_batch.specs.declared.refusal.Refusal.TheVariants.{Stale}
use Rattle.merge_batch.specs.declared.reply.Joined.{Joined}
use Rattle.merge_batch.specs.declared.request.Join.{Join}
use Rattle.merge_model.specs.World.Faults.{join_fault}
use Rattle.merge_model.specs.Publisher.{at_moment, counters, state_of, unknown_site, with_state}
use Rattle.merge_model.specs.Tables.Refusals.{counter_end, first_refusal, refused_if, unless}
use Rattle.merge_gens.specs.declared.moves.Mapping.{Mapping}
use Rattle.merge_gens.specs.declared.moves.RowSite.{RowSite}
use Rattle.merge_gens.specs.Moves.{is_left}
use Rattle.merge_model.specs.Tables.{PublisherTables}

abbrev pub joined_state : Join → Moment → SiteState → SiteState
joined_state m now state = record {
  joined_at = m.seq;
  received = m.generation;
  received_number = m.number;
  seen = max state.seen m.number;
  watermark = 0;
  last_sync = now.0;
}

abbrev pub is_left_of : SiteId → RowSite × Mapping → Bool
is_left_of site entry = (entry.0.site == site.0) && is_left entry.1.kind

abbrev pub without_left : SiteId → PublisherTables → PublisherTables
without_left site p = record p { mappings = filter (λ (entry : RowSite × Mapping). not (is_left_of site entry)) p.mappings }

-- a join acts where it was made after the last one that did
abbrev pub join_acts : Join → PublisherTables → Bool
join_acts m p = nat_lt (state_of p m.site).joined_at m.seq

abbrev pub join_taken : Join → PublisherTables → PublisherTables
join_taken m p = without_left m.site (with_state m.site (joined_state m p.latest (state_of p m.site)) p)

abbrev pub tables_after_join : Join → PublisherTables → PublisherTables
tables_after_join m p = if join_acts m p then join_taken m p else p

abbrev pub join_refusal : Publication → Join → PublisherTables → Option Refusal
join_refusal publication m p = first_refusal (
    unknown_site publication m.site
    ∷ refused_if (nat_lt m.seq (state_of p m.site).joined_at) (Stale m.seq (state_of p m.site).joined_at)
    ∷ join_fault m
    ∷ counter_end (counters p)
    ∷ [])

abbrev pub join : Publication → Moment → Join → PublisherTables → Result (PublisherTables × Joined) Refusal
join publication now m p = unless (join_refusal publication m p) (tables_after_join m (at_moment now p), record { seq = m.seq })

-- When a draft is ready.
use Rattle.std.specs.Prelude.{◌≡◌, ◌++◌, List, [], None, true}
use Rattle.std.specs.Ordering.{nat_cmp}
use Rattle.std.specs.declared.cmp.Ordering.{Ordering}
use Rattle.std.proofs.Common.{arith, ap, ◌∙◌}
use Rattle.std.proofs.lemmas.List.{append-nil}
use Rattle.std.proofs.lemmas.List.Elements.{All-from_recursion}
use Rattle.merge_types.specs.RowKeys.{key_cmp}
use Rattle.merge_types.specs.declared.identifiers.Moment.{Moment}
use Rattle.merge_table.specs.Edits.{IsReady, is_ready, rows_after_all}
use Rattle.merge_table.specs.declared.edit.Edit.{Edit}
use Rattle.merge_gens.specs.Entries.{entry_cmp}
use Rattle.merge_gens.specs.Moves.{row_site_cmp}
use Rattle.merge_gens.specs.Plan as gens
use Rattle.merge_gens.specs.declared.moves.Mapping.{Mapping}
use Rattle.merge_gens.specs.declared.plan.GenerationPlan.{GenerationPlan}
use Rattle.merge_gens.specs.declared.sites.SiteState.{SiteState}
use Rattle.merge_units.specs.declared.site_row.PublisherRow.{PublisherRow}
use Rattle.merge_ident.specs.Holders.{Holder}
use Rattle.merge_ident.specs.Answers.{grants_with_all}
use Rattle.merge_schema.specs.declared.publication.Publication.{Publication}
use Rattle.merge_part.specs.View.{live_in}
use Rattle.merge_model.specs.Tables.{PublisherTables}
use Rattle.merge_pub.specs.After.{after}
use Rattle.merge_pub.specs.Held.{Held, IsDrafted, tables_of}
use Rattle.merge_steps.specs.Indexed.{AreIndexed, AreMoved}
use Rattle.merge_steps.specs.Keeps.{KeepsRules}
use Rattle.merge_steps.specs.LiveRows.{live_pairs}
use Rattle.merge_steps.specs.MoveEntries.{move_entry_cmp}
use Rattle.merge_steps.specs.declared.changes.Changes.{Changes}
use Rattle.merge_steps.specs.declared.changes.Draft.{Draft}

ready-none : {K : Type 0} (V : Type 0) (cmp : K → K → Ordering) (slots : List K) → IsReady cmp slots (let none : List (Edit K V) = [] in none)
unfolding IsReady
ready-none {K = K} V cmp slots = All-from_recursion (λ (edit : Edit K V). is_ready cmp slots edit ≡ true) [] tt

-- Tables that have the same of what the rules ask.
pub same-rules : (publication : Publication) (p q : PublisherTables) → q.changes ≡ p.changes → q.rows ≡ p.rows → q.conflict_count ≡ p.conflict_count → q.conflicts ≡ p.conflicts → q.held ≡ p.held → q.grants ≡ p.grants
    → KeepsRules publication p → KeepsRules publication q
same-rules publication p q changes rows count conflicts held grants keeps = record {
  rows = rw (changes, rows) keeps.rows;
  rising = rw conflicts keeps.rising;
  conflicts = rw (count, conflicts) keeps.conflicts;
  held = rw held keeps.held;
  heard = rw (held, grants) keeps.heard;
}

-- changes that change no row
abbrev pub still_changes : Held → Moment → GenerationPlan → Changes
still_changes h latest plan = record {
  changes = h.changes;
  conflict_count = h.conflict_count;
  latest = latest;
  gens = plan;
  rows = [];
  mappings = [];
  sites = [];
  conflicts = record { rows = [] };
  grants = [];
  held = [];
}

pub still-ready : (h : Held) (d : Draft) (latest : Moment) (plan : GenerationPlan) → live_in h.membership ≡ live_pairs h.rows.rows → AreIndexed h.rows.rows h.changed.entries → AreMoved h.mappings.rows h.moved.rows
    → KeepsRules h.membership.publication (tables_of h) → d.changes ≡ still_changes h latest plan → d.plan ≡ None → d.index.changed.changes ≡ [] → d.index.moved ≡ [] → gens.IsPrepared h.gens plan → IsDrafted h d
still-ready h d latest plan live indexed moved keeps changes none index moves prepared = record {
  rows = rw changes (ready-none PublisherRow key_cmp h.rows.slots);
  mappings = rw changes (ready-none Mapping row_site_cmp h.mappings.slots);
  sites = rw changes (ready-none SiteState nat_cmp h.sites.slots);
  held = rw changes (ready-none Holder nat_cmp h.held.slots);
  gens = rw changes prepared;
  conflicts = rw changes (record { room = omega arith; rising = rw (append-nil h.conflicts.rows) keeps.rising });
  grants = rw changes (record { room = omega arith; follows = tt });
  plan = rw none tt;
  changed = rw index (ready-none (Unit {0}) entry_cmp h.changed.slots);
  moved = rw moves (ready-none (Unit {0}) move_entry_cmp h.moved.slots);
  live = rw (none, changes) live;
  indexed = rw (changes, index) indexed;
  move_indexed = rw (changes, moves) moved;
  keeps = same-rules h.membership.publication (tables_of h) (after d.changes (tables_of h))
      (ap (λ (c : Changes). c.changes) changes)
      (ap (λ (c : Changes). rows_after_all key_cmp h.rows.rows c.rows) changes)
      (ap (λ (c : Changes). c.conflict_count) changes)
      (ap (λ (c : Changes). h.conflicts.rows ++ c.conflicts.rows) changes ∙ append-nil h.conflicts.rows)
      (ap (λ (c : Changes). rows_after_all nat_cmp h.held.rows c.held) changes)
      (ap (λ (c : Changes). grants_with_all h.grants.grants c.grants) changes)
      keeps;
}

pub kept-as : (publication publication2 : Publication) (p q : PublisherTables) → publication2 ≡ publication → q ≡ p → KeepsRules publication p → KeepsRules publication2 q
kept-as publication publication2 p q same tables keeps = rw (same, tables) keeps

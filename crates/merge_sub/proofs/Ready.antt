-- Drafts that change no list, and what holds once a draft is settled.
use Rattle.std.specs.Prelude.{◌≡◌, List, [], ◌++◌, None, ◌≤◌, length}
use Rattle.std.proofs.Common.{ap, sym, subst, arith, rules}
use Rattle.merge_table.specs.Edits.{IsReady}
use Rattle.merge_gens.specs.Index.{entries_after_all}
use Rattle.merge_gens.specs.Plan.{IsPrepared}
use Rattle.merge_gens.specs.declared.plan.GenerationPlan.{GenerationPlan}
use Rattle.merge_conflict.specs.declared.row.ConflictRow.{ConflictRow}
use Rattle.std.proofs.lemmas.List.{append-nil}
use Rattle.merge_conflict.specs.Rising.{AreRising}
use Rattle.merge_model.specs.Tables.{SubscriberTables}
use Rattle.merge_sub.proofs.Opened.{GoesOn, kept-later}
use Rattle.merge_sub.specs.Held.{AreNumbered, Held, IsSound, tables_of}
use Rattle.merge_sub.specs.Drafts.{IsDrafted, after}
use Rattle.merge_sub.specs.declared.state.State.{State}
use Rattle.merge_sub.specs.declared.changes.Changes.{Changes}
use Rattle.merge_sub.specs.declared.changes.Draft.{Draft}

abbrev pub still_changes : State → GenerationPlan → Changes
still_changes state gens = record { state = state; gens = gens; done = None; rows = []; held = []; conflicts = record { rows = [] } }

-- no list changes, and the site makes no change
pub still-ready : (h : Held) (before : SubscriberTables) → tables_of h ≡ before → (d : Draft) (state : State) (gens : GenerationPlan) → d.changes ≡ still_changes state gens → d.index.changes ≡ []
    → state.changes ≡ h.state.changes → state.conflict_count ≡ h.state.conflict_count → state.received ≡ h.state.received → GoesOn before.gens.filling.last_closed gens.filling.last_closed → IsPrepared h.gens gens → AreRising h.conflicts.rows → IsSound h.publication before h.unsent.entries → IsDrafted h d
unfolding IsReady
still-ready h before same d state gens changes index numbers counts received closes prepared rising old =
    let on : GoesOn h.gens.book.filling.last_closed gens.filling.last_closed = subst (λ (s : SubscriberTables). GoesOn s.gens.filling.last_closed gens.filling.last_closed) (sym same) closes in
    let sound : IsSound h.publication (tables_of h) h.unsent.entries = rw same old in
    rw (changes, index) (record {
      gens = prepared;
      rows = search rules;
      held = search rules;
      conflicts = record { room = search rules; rising = search rules };
      unsent = search rules;
      sound = record {
        valid = sound.valid;
        indexed = sound.indexed;
        fitting = sound.fitting;
        made = rw numbers sound.made;
        opened = kept-later h.gens.book.filling.last_closed gens.filling.last_closed on.rises h.rows.rows sound.opened;
        within = omega (arith, received, on.rises, sound.within);
        limited = on.limited sound.limited;
        ranged = sound.ranged;
        numbered = rw counts (subst (λ (rows : List ConflictRow). AreNumbered h.state.conflict_count rows) (sym (append-nil h.conflicts.rows)) sound.numbered);
      };
    })

-- what is held once a draft is settled is sound
pub settled-sound : (old : Held) (d : Draft) → IsDrafted old d → (h : Held) → h ≡ old → (new : Held) → tables_of new ≡ after d.changes (tables_of h) → new.publication ≡ h.publication
    → new.unsent.entries ≡ entries_after_all h.unsent.entries d.index.changes → IsSound new.publication (tables_of new) new.unsent.entries
settled-sound old d drafted h view new tables publication entries = rw (tables, publication, entries, view) drafted.sound

-- Every step of the model keeps what the last lines say, and so does every list of events.
use Rattle.std.specs.Prelude.{◌≡◌, ◌+◌, ◌&&◌, ℕ, List, [], Bool, not, Option, Some, refl, map, flat_map, is_some}
use Rattle.std.specs.List.{fold}
use Rattle.std.proofs.Common.{subst, sym, ap, ◌∙◌}
use Rattle.merge_types.specs.declared.identifiers.SiteId.{SiteId}
use Rattle.merge_types.specs.declared.changes.Change.{Change}
use Rattle.merge_schema.specs.declared.publication.Publication.{Publication}
use Rattle.merge_batch.specs.declared.request.Join.{Join}
use Rattle.merge_batch.specs.declared.request.Upload.{Upload}
use Rattle.merge_model.specs.Failing.{Slips, faulty}
use Rattle.merge_model.specs.Failing.Runs.{model_behind, model_behind_actions}
use Rattle.merge_model.specs.declared.event.Event.{Event}
use Rattle.merge_types.specs.declared.row_key.RowKey.{RowKey as Key}
use Rattle.merge_gens.specs.declared.moves.RowSite.{RowSite}
use Rattle.merge_units.specs.declared.site_row.PublisherRow.{PublisherRow}
use Rattle.merge_gens.specs.declared.moves.Mapping.{Mapping}
use Rattle.merge_gens.specs.Moves.{is_left}
use Rattle.merge_model.specs.Tables.{PublisherTables}
use Rattle.merge_model.specs.Tables.Keys.{put_number}
use Rattle.merge_model.specs.Publisher.Acts.{Act}
use Rattle.merge_model.specs.Judge.{PublisherJudge}
use Rattle.merge_model.specs.Publisher.Entries.{Entries}
use Rattle.merge_model.specs.Laws.{AreSorted}
use Rattle.merge_model.specs.Tables.Publications.{by_site}
use Rattle.merge_model.specs.Publisher.{last_closed}
use Rattle.merge_model.specs.Publisher.PublisherLocal.{Drawn, changing_locally, made_locally, next_dot, with_draw}
use Rattle.merge_model.specs.Publisher.PublisherJoin.{is_left_of, join_taken}
use Rattle.merge_model.specs.Publisher.PublisherUpload.{changing_by, taken_in, with_acts}
use Rattle.merge_model.specs.Publisher.PublisherPurge.{after_purge, is_old, is_old_left, is_old_tombstone}
use Rattle.merge_model.specs.World.{Saying, World, empty_world}
use Rattle.merge_model.specs.History.{History, Line, Past, pasts_with, no_history}
use Rattle.merge_model.specs.Judge.ByHistory.{by_history, by_past, by_made}
use Rattle.merge_model.specs.History.Noting
use Rattle.merge_model.specs.History.Model.{Model, empty_model, model}
use Rattle.merge_model.proofs.Publishers.Sorted.{step-sorted}
use Rattle.merge_model.proofs.Runs.{publisher_stays_sorted}
use Rattle.merge_model.specs.World.Steps.{Action}
use Rattle.merge_model.proofs.Runs.Actions.{failing-actions-keep}
use Rattle.merge_laws.proofs.Runs.Tallied.{received-tallied}
use Rattle.merge_laws.specs.Laws.LastLines.{LastLines}
use Rattle.merge_laws.specs.Facts.Received.{Received}
use Rattle.merge_laws.proofs.LastLines.LastLineAdded.{added, lines-with, rows-past_gone}
use Rattle.merge_laws.proofs.LastLines.LastLineEntries.{entries-fit}
use Rattle.merge_laws.proofs.LastLines.LastLineNotes.{acts-lines, anew-lines, purged-lines, taken-lines}
use Rattle.merge_laws.proofs.Received.Models.{model-fine, received-always}
use Rattle.merge_laws.proofs.Walking.{StepsKeep, acts_in, here, join_noted, step-keeps}
use Rattle.merge_laws.proofs.LastLines.LastLineGone.{all-gone, forgotten-fit, forgotten-rows, forgotten-sites, left-gone, old_places}
use Rattle.merge_laws.proofs.Runs.OfActions.{of-events}

abbrev pub Fits : Publication → PublisherTables → List Line → Type 0
Fits publication p lines = LastLines publication p.rows p.mappings lines

-- with what the received numbers say, and tables in order
abbrev pub LinesBase : World → History → Type 0
LinesBase w h = Received w h × AreSorted w.publisher

abbrev OfLines : Publication → World → History → Type 0
OfLines publication w h = Fits publication w.publisher h.lines

same-lines : (publication : Publication) (p : PublisherTables) (h k : History) → k.lines ≡ h.lines → Fits publication p h.lines → Fits publication p k.lines
same-lines publication p h k same fits = subst (λ (lines : List Line). Fits publication p lines) (sym same) fits

module _ (publication : Publication) (w : World) (h : History) (sorted : AreSorted w.publisher) (fits : Fits publication w.publisher h.lines) where
  -- Local changes at the publisher.

  made-fits : (judge : PublisherJudge) (change : Change) (d : Drawn) → (let more : List Line = Noting.lines_of_entries (last_closed (here w) + 1) (Noting.drawn_entries publication judge change (here w) d) in
      let k : History = Noting.with_change publication (next_dot (here w)) (last_closed (here w) + 1) change d.value h in
      Fits publication (made_locally publication judge change d (here w)).0 (Noting.with_lines more k).lines)
  made-fits judge change d =
      let more : List Line = Noting.lines_of_entries (last_closed (here w) + 1) (Noting.drawn_entries publication judge change (here w) d) in
      let k : History = Noting.with_change publication (next_dot (here w)) (last_closed (here w) + 1) change d.value h in
      subst (λ (ls : List Line). Fits publication (made_locally publication judge change d (here w)).0 ls) (sym (lines-with more k))
      (entries-fit publication judge (changing_locally publication change d.value (here w)) (with_draw d (here w)) (last_closed (here w) + 1) h.lines sorted.mappings_ascend fits)

  -- Joins.

  join-fits : (incoming : List (Key × Past)) (m : Join) → Fits publication (join_taken m (here w)) (join_noted (by_past h incoming) m w.publisher h).lines
  join-fits incoming m =
      let places : List RowSite = map (Noting.gone_for m.site) (Noting.left_rows (by_past h incoming) m.site) in
      let generation : ℕ = last_closed w.publisher + 1 in
      let k : History = record (Noting.with_done m.site.0 0 m.generation h) { bases = put_number h.bases m.site.0 (last_closed w.publisher) } in
      subst (λ (ls : List Line). Fits publication (join_taken m (here w)) ls) (sym (lines-with (map (Noting.gone_line generation) places) k)) (record {
        moves = forgotten-fit (is_left_of m.site) generation places w.publisher.mappings h.lines sorted.mappings_ascend fits.moves
            (λ key site move at. left-gone h.lines m.site key site move (sym (fits.moves key site) ∙ at));
        changes = rows-past_gone generation places w.publisher.rows h.lines fits.changes;
        sites = forgotten-sites publication (λ (e : RowSite × Mapping). not (is_left_of m.site e)) w.publisher.mappings sorted.mappings_ascend fits.sites;
      })

  -- Uploads.

  upload-fits : (judge : PublisherJudge) (incoming : List (Key × Past)) (m : Upload) (acts : List Act) → Fits publication (taken_in publication judge m acts (here w)) (Noting.with_acts_noted publication judge m acts incoming (here w) h).lines
  upload-fits judge incoming m acts =
      let entries : Entries = Noting.acts_entries publication judge m acts (here w) in
      let more : List Line = Noting.lines_of_entries (last_closed (here w) + 1) entries in
      let acted : History = fold (Noting.with_act incoming entries) h acts in
      subst (λ (ls : List Line). Fits publication (taken_in publication judge m acts (here w)) ls) (sym (lines-with more acted ∙ ap (λ (ls : List Line). fold added ls more) (acts-lines incoming entries acts h)))
      (entries-fit publication judge (changing_by m acts) (with_acts publication m acts (here w)) (last_closed (here w) + 1) h.lines sorted.mappings_ascend fits)

  -- A purge.

  purge-fits : Fits publication (after_purge publication (here w)) (Noting.noted_purge publication (by_past h (pasts_with h 0)) (here w) h).lines
  purge-fits =
      let sites : List SiteId = map Noting.site_of_subscription (by_site publication) in
      let places : List RowSite = flat_map (old_places h.lines (is_old publication (here w))) sites in
      let generation : ℕ = last_closed (here w) + 1 in
      let k : History = fold Noting.with_purged h (Noting.old_tombstones publication (here w)) in
      let lines : (Noting.with_lines (map (Noting.gone_line generation) places) k).lines ≡ fold added h.lines (map (Noting.gone_line generation) places) =
      lines-with (map (Noting.gone_line generation) places) k ∙ ap (λ (ls : List Line). fold added ls (map (Noting.gone_line generation) places)) (purged-lines (Noting.old_tombstones publication (here w)) h) in
      subst (λ (ls : List Line). Fits publication (after_purge publication (here w)) ls) (sym lines) (record {
        moves = forgotten-fit (is_old_left publication (here w)) generation places w.publisher.mappings h.lines sorted.mappings_ascend fits.moves
            (λ key site move at. (all-gone h.lines (is_old publication (here w)) key site move (sym (fits.moves key site) ∙ at) sites
            ∙ ap (λ (b : Bool). b && (is_left move.kind && is_old publication (here w) move.generation)) (fits.sites key site (ap (λ (found : Option Mapping). is_some found) at))));
        changes = rows-past_gone generation places (after_purge publication (here w)).rows h.lines (forgotten-rows (λ (row : Key × PublisherRow). not (is_old_tombstone publication (here w) row)) w.publisher.rows h.lines sorted.rows_ascend fits.changes);
        sites = forgotten-sites publication (λ (e : RowSite × Mapping). not (is_old_left publication (here w) e)) w.publisher.mappings sorted.mappings_ascend fits.sites;
      })

module _ (publication : Publication) (says : Saying) where
  pub last_lines-keep : StepsKeep publication says LinesBase (OfLines publication)
  last_lines-keep = record {
    moment = λ w h now b fits. fits;
    own_change = λ w h change d b fits fine is. made-fits publication w h b.1 fits (by_past h (pasts_with h 0)) change d;
    own_closing = λ w h b fits. fits;
    forgetting = λ w h b fits. purge-fits publication w h b.1 fits;
    same = λ w h s b fits at. fits;
    subscriber_change = λ w h s change d b fits at named fine is. fits;
    subscriber_closing = λ w h s b fits at. fits;
    anew = λ w h s b fits at. same-lines publication w.publisher h (Noting.noted_anew (by_made h s.site) s h) (anew-lines (by_history h) s.site (Some s) h) fits;
    sends_join = λ w h s b fits at joining. fits;
    sends_upload = λ w h s b fits at fine. fits;
    sends_ranges = λ w h s b fits at fine. fits;
    sends_ask = λ w h s b fits at fine. fits;
    joins = λ w h number m b fits at fine acts. join-fits publication w h b.1 fits (pasts_with h number) m;
    joins_again = λ w h number m b fits at acts. fits;
    uploads = λ w h number m b fits at fine news. upload-fits publication w h b.1 fits (by_past h (pasts_with h number)) (pasts_with h number) m (acts_in publication says (by_past h (pasts_with h number)) m w);
    uploads_again = λ w h number m b fits at none. fits;
    answers_ranges = λ w h site m b fits. fits;
    answers_ask = λ w h number site m b fits at fine. fits;
    replies = λ w h s number m sent b fits at there out none.
        same-lines publication w.publisher h (Noting.noted_reply (by_made h s.site) s.site (pasts_with h number) m h) (taken-lines (by_history h) s.site (pasts_with h number) m (Some s) h) fits;
  }

begins : (publication : Publication) (tallies : List ℕ) → OfLines publication (empty_world publication tallies) no_history
begins publication tallies = record { moves = λ key site. refl; changes = λ key held. refl; sites = λ key site held. absurd cc }

pub last_lines-by-actions : (publication : Publication) (says : Saying) (tallies : List ℕ) (slips : Slips) (actions : List Action)
    → (let m : Model = model_behind_actions publication says tallies slips actions in Fits publication m.world.publisher m.history.lines)
last_lines-by-actions publication says tallies slips actions =
    (failing-actions-keep publication (model publication says) (λ (m : Model). LinesBase m.world m.history × OfLines publication m.world m.history)
    (λ m action both. (
      (model-fine publication says m action both.0.0, step-sorted publication says (by_history m.history) m.world action both.0.1),
      step-keeps publication says LinesBase (OfLines publication) (λ w h b. b.0) (last_lines-keep publication says) m action both.0 both.1,
    )) (λ m others both. ((received-tallied m.world others m.history both.0.0, both.0.1), both.1)) actions (faulty (empty_model publication tallies) slips)
    ((received-always publication says tallies [] [], publisher_stays_sorted publication says tallies [] []), begins publication tallies)).1

pub last_lines-always : (publication : Publication) (says : Saying) (tallies : List ℕ) (slips : Slips) (events : List Event)
    → (let m : Model = model_behind publication says tallies slips events in Fits publication m.world.publisher m.history.lines)
last_lines-always publication says tallies slips events = of-events publication says tallies slips events (λ (m : Model). Fits publication m.world.publisher m.history.lines) (last_lines-by-actions publication says tallies slips)

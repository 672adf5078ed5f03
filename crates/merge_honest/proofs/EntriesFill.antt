-- Every step keeps that entries fill generations.
use Rattle.std.specs.List.{fold, zip}
use Rattle.std.specs.Prelude.{Bool, List, Some, [], cond, drop, flat_map, length, map, refl, take, ℕ, ◌++◌, ◌+◌, ◌<◌, ◌==◌, ◌≡◌, ◌∷◌}
use Rattle.std.proofs.Common.{ap, arith, length-drop, subst, sym, ◌∙◌}
use Rattle.std.proofs.lemmas.List.{length-take}
use Rattle.std.proofs.lemmas.List.Sums.{sum_by-append, sum_by-cons, sum_by-take-drop}
use Rattle.std.proofs.lemmas.Slice.Zip.{length-zip}
use Rattle.merge_types.specs.Limits.{entry_limit}
use Rattle.merge_types.specs.declared.changes.Change.{Change}
use Rattle.merge_types.specs.declared.row_key.RowKey.{RowKey as Key}
use Rattle.merge_gens.specs.Filling.{filled_by, generations_of}
use Rattle.merge_gens.specs.declared.filling.Filling.{Filling}
use Rattle.merge_gens.specs.declared.moves.MoveKind.{MoveKind}
use Rattle.merge_gens.specs.declared.moves.MoveKind.TheVariants.{Entered, Left}
use Rattle.merge_gens.specs.declared.moves.RowSite.{RowSite}
use Rattle.merge_schema.specs.declared.publication.Publication.{Publication}
use Rattle.merge_batch.specs.declared.request.Join.{Join}
use Rattle.merge_batch.specs.declared.request.Upload.{Upload}
use Rattle.merge_model.specs.Publisher.Acts.{Act}
use Rattle.merge_model.specs.Judge.ByHistory.{by_history, by_made, by_past}
use Rattle.merge_model.specs.Publisher.Entries as entry
use Rattle.merge_model.specs.Publisher.Entries.{Changing, Entries, Parts, Touched, changing_entries, entry_count, moves_of, parts_of, returned_rows, rows_after, touched_by, with_entries}
use Rattle.merge_model.specs.History.{History, Line, Past, no_history, pasts_with}
use Rattle.merge_model.specs.Judge.{PublisherJudge}
use Rattle.merge_model.specs.Tables.Keys.{put_number}
use Rattle.merge_model.specs.History.Noting
use Rattle.merge_model.specs.History.Noting.{changed_line, gone_line, lines_of_entries, moved_line}
use Rattle.merge_model.specs.Tables.Publications.{by_site}
use Rattle.merge_model.specs.Publisher.{last_closed}
use Rattle.merge_model.specs.Publisher.PublisherLocal.{Drawn, changing_locally, made_locally, next_dot, with_draw}
use Rattle.merge_model.specs.Publisher.PublisherUpload.{changing_by, taken_in, with_acts}
use Rattle.merge_model.specs.Tables.{PublisherTables}
use Rattle.merge_model.specs.World.{Saying, World, empty_world}
use Rattle.merge_units.specs.declared.site_row.PublisherRow.{PublisherRow}
use Rattle.merge_laws.proofs.Runs.Ground.{Ground}
use Rattle.merge_laws.proofs.LastLines.LastLineAdded.{added, lines-with}
use Rattle.merge_laws.proofs.LastLines.LastLineNotes.{acts-lines, anew-lines, purged-lines, taken-lines}
use Rattle.merge_laws.proofs.Touched.TouchLists.{generations-many}
use Rattle.merge_laws.proofs.Walking.{StepsKeep, acts_in, here, join_noted}
use Rattle.merge_honest.specs.Entered.{EntriesFill, Fills, entries_in, stands_in}
use Rattle.merge_honest.proofs.Fillings.{fills-closed, fills-more, same-counts, times-cons, times_in}

-- Counts of lines.

module _ (generation : ℕ) where
  pub entries-cons : (line : Line) (lines : List Line) → entries_in (line ∷ lines) generation ≡ cond (stands_in generation line) 1 0 + entries_in lines generation
  entries-cons line lines = sum_by-cons (λ (x : Line). cond (stands_in generation x) 1 0) line lines

  entries-append : (first second : List Line) → entries_in (first ++ second) generation ≡ entries_in first generation + entries_in second generation
  entries-append first second = sum_by-append (λ (x : Line). cond (stands_in generation x) 1 0) first second

  added-counts : (more lines : List Line) → entries_in (fold added lines more) generation ≡ entries_in more generation + entries_in lines generation
  added-counts [] lines = omega arith
  added-counts (line ∷ more) lines =
      let rest = added-counts more (line ∷ lines) in
      let one = entries-cons line lines in
      let all = entries-cons line more in
      omega (arith, rest, one, all)

  -- rows that changed
  changed-counts : (keys : List Key) (generations : List ℕ) → length keys ≡ length generations → entries_in (map changed_line (zip keys generations)) generation ≡ times_in generations generation
  changed-counts [] [] same = refl
  changed-counts [] (first ∷ generations) same = absurd (omega (arith, same))
  changed-counts (key ∷ keys) [] same = absurd (omega (arith, same))
  changed-counts (key ∷ keys) (first ∷ generations) same =
      let here : entries_in (map changed_line (zip (key ∷ keys) (first ∷ generations))) generation ≡ cond (first == generation) 1 0 + entries_in (map changed_line (zip keys generations)) generation = entries-cons (changed_line (key, first)) (map changed_line (zip keys generations)) in
      here ∙ ap (λ (count : ℕ). cond (first == generation) 1 0 + count) (changed-counts keys generations (omega (arith, same))) ∙ sym (times-cons first generations generation)

  -- rows that moved
  move-stands : (place : RowSite) (kind : MoveKind) (first : ℕ) → stands_in generation (moved_line ((place, kind), first)) ≡ (first == generation)
  move-stands place Entered first = refl
  move-stands place Left first = refl

  moved-counts : (moves : List (RowSite × MoveKind)) (generations : List ℕ) → length moves ≡ length generations → entries_in (map moved_line (zip moves generations)) generation ≡ times_in generations generation
  moved-counts [] [] same = refl
  moved-counts [] (first ∷ generations) same = absurd (omega (arith, same))
  moved-counts (move ∷ moves) [] same = absurd (omega (arith, same))
  moved-counts (move ∷ moves) (first ∷ generations) same =
      entries-cons (moved_line (move, first)) (map moved_line (zip moves generations))
      ∙ ap (λ (b : Bool). cond b 1 0 + entries_in (map moved_line (zip moves generations)) generation) (move-stands move.0 move.1 first)
      ∙ ap (λ (count : ℕ). cond (first == generation) 1 0 + count) (moved-counts moves generations (omega (arith, same))) ∙ sym (times-cons first generations generation)

  -- and what is no longer told
  gone-counts : (other : ℕ) (places : List RowSite) → entries_in (map (gone_line other) places) generation ≡ 0
  gone-counts other [] = refl
  gone-counts other (place ∷ places) =
      let here : entries_in (map (gone_line other) (place ∷ places)) generation ≡ 0 + entries_in (map (gone_line other) places) generation = entries-cons (gone_line other place) (map (gone_line other) places) in
      let rest = gone-counts other places in
      omega (arith, here, rest)

  step-counts : (other : ℕ) (changed : List Key) (moves : List (RowSite × MoveKind)) (gone : List RowSite) (generations : List ℕ) → length generations ≡ length changed + length moves
      → (let entries : Entries = record { changed = zip changed (take (length changed) generations); moved = zip moves (drop (length changed) generations); gone = gone } in entries_in (lines_of_entries other entries) generation ≡ times_in generations generation)
  step-counts other changed moves gone generations many =
      let first : List Line = map changed_line (zip changed (take (length changed) generations)) in
      let second : List Line = map moved_line (zip moves (drop (length changed) generations)) in
      let third : List Line = map (gone_line other) gone in
      let rows = changed-counts changed (take (length changed) generations) (omega (arith, length-take (length changed) generations, many)) in
      let places = moved-counts moves (drop (length changed) generations) (omega (arith, length-drop (length changed) generations, many)) in
      let none = gone-counts other gone in
      let two = entries-append first second in
      let all = entries-append (first ++ second) third in
      let halves : times_in (take (length changed) generations) generation + times_in (drop (length changed) generations) generation ≡ times_in generations generation = sum_by-take-drop (λ (x : ℕ). cond (x == generation) 1 0) generations (length changed) in
      omega (arith, rows, places, none, two, all, halves)

-- lines of what is no longer told leave the entries
gone-fill : (other : ℕ) (places : List RowSite) (lines : List Line) (filling : Filling) → Fills (entries_in lines) filling → Fills (entries_in (fold added lines (map (gone_line other) places))) filling
gone-fill other places lines filling f = same-counts (entries_in lines) (entries_in (fold added lines (map (gone_line other) places))) filling f
    (λ generation. (let all = added-counts generation (map (gone_line other) places) lines in let none = gone-counts generation other places in omega (arith, all, none)))

-- The entries of a step.

module _ (publication : Publication) (judge : PublisherJudge) (changing : Changing) (p : PublisherTables) where
  abbrev touched : Touched
  touched = touched_by changing

  abbrev rows : List (Key × PublisherRow)
  rows = rows_after changing p.rows

  abbrev parts : List Parts
  parts = parts_of publication p.rows rows

  abbrev pub step_moves : List (RowSite × MoveKind)
  step_moves = moves_of touched parts (entry.keys_of rows touched.acted)

  abbrev count : ℕ
  count = length touched.changed + length step_moves

  abbrev generations : List ℕ
  generations = generations_of p.gens.filling count

  abbrev entries : Entries
  entries = changing_entries publication judge changing p

  many : length generations ≡ count
  many = generations-many p.gens.filling count

  pub all-counted : entry_count entries ≡ count
  all-counted =
      let rows-enough : length touched.changed ≡ length (take (length touched.changed) generations) = omega (arith, length-take (length touched.changed) generations, many) in
      let moves-enough : length step_moves ≡ length (drop (length touched.changed) generations) = omega (arith, length-drop (length touched.changed) generations, many) in
      omega (arith, length-zip touched.changed (take (length touched.changed) generations), length-zip step_moves (drop (length touched.changed) generations), rows-enough, moves-enough)

  step-fills : (other : ℕ) (lines : List Line) → p.gens.filling.filled < entry_limit → Fills (entries_in lines) p.gens.filling
      → Fills (entries_in (fold added lines (lines_of_entries other entries))) (with_entries entries changing.versions p).gens.filling
  step-fills other lines low f =
      let more : List Line = lines_of_entries other entries in
      subst (λ (n : ℕ). Fills (entries_in (fold added lines more)) (filled_by p.gens.filling n)) (sym all-counted)
      (fills-more p.gens.filling count (entries_in lines) (entries_in (fold added lines more)) low f
      (λ generation. added-counts generation more lines ∙ ap (λ (n : ℕ). n + entries_in lines generation) (step-counts generation other touched.changed step_moves (returned_rows judge touched parts touched.changed) generations many)))

-- Worlds.

abbrev OfLines : PublisherTables → List Line → Type 0
OfLines p lines = Fills (entries_in lines) p.gens.filling

same-lines : (p : PublisherTables) (h k : History) → k.lines ≡ h.lines → OfLines p h.lines → OfLines p k.lines
same-lines p h k same f = subst (OfLines p) (sym same) f

module _ (publication : Publication) (w : World) (h : History) (g : Ground publication w h) (f : EntriesFill w h) where
  low : w.publisher.gens.filling.filled < entry_limit
  low = g.sorted.generations_ascend.unfilled

  made-fill : (judge : PublisherJudge) (change : Change) (d : Drawn) → (let more : List Line = lines_of_entries (last_closed (here w) + 1) (Noting.drawn_entries publication judge change (here w) d) in
      let k : History = Noting.with_change publication (next_dot (here w)) (last_closed (here w) + 1) change d.value h in
      OfLines (made_locally publication judge change d (here w)).0 (Noting.with_lines more k).lines)
  made-fill judge change d =
      let more : List Line = lines_of_entries (last_closed (here w) + 1) (Noting.drawn_entries publication judge change (here w) d) in
      let k : History = Noting.with_change publication (next_dot (here w)) (last_closed (here w) + 1) change d.value h in
      subst (OfLines (made_locally publication judge change d (here w)).0) (sym (lines-with more k))
      (step-fills publication judge (changing_locally publication change d.value (here w)) (with_draw d (here w)) (last_closed (here w) + 1) h.lines low f)

  join-fill : (judge : PublisherJudge) (m : Join) → OfLines w.publisher (join_noted judge m w.publisher h).lines
  join-fill judge m =
      let places : List RowSite = map (Noting.gone_for m.site) (Noting.left_rows judge m.site) in
      let k : History = record (Noting.with_done m.site.0 0 m.generation h) { bases = put_number h.bases m.site.0 (last_closed w.publisher) } in
      subst (OfLines w.publisher) (sym (lines-with (map (gone_line (last_closed w.publisher + 1)) places) k)) (gone-fill (last_closed w.publisher + 1) places h.lines w.publisher.gens.filling f)

  upload-fill : (judge : PublisherJudge) (incoming : List (Key × Past)) (m : Upload) (acts : List Act) → OfLines (taken_in publication judge m acts (here w)) (Noting.with_acts_noted publication judge m acts incoming (here w) h).lines
  upload-fill judge incoming m acts =
      let entries : Entries = Noting.acts_entries publication judge m acts (here w) in
      let more : List Line = lines_of_entries (last_closed (here w) + 1) entries in
      let acted : History = fold (Noting.with_act incoming entries) h acts in
      subst (OfLines (taken_in publication judge m acts (here w))) (sym (lines-with more acted ∙ ap (λ (ls : List Line). fold added ls more) (acts-lines incoming entries acts h)))
      (step-fills publication judge (changing_by m acts) (with_acts publication m acts (here w)) (last_closed (here w) + 1) h.lines low f)

  purge-fill : (judge : PublisherJudge) → OfLines w.publisher (Noting.noted_purge publication judge (here w) h).lines
  purge-fill judge =
      let places : List RowSite = flat_map (Noting.old_left publication judge (here w)) (map Noting.site_of_subscription (by_site publication)) in
      let k : History = fold Noting.with_purged h (Noting.old_tombstones publication (here w)) in
      subst (OfLines w.publisher) (sym (lines-with (map (gone_line (last_closed w.publisher + 1)) places) k ∙ ap (λ (ls : List Line). fold added ls (map (gone_line (last_closed w.publisher + 1)) places)) (purged-lines (Noting.old_tombstones publication (here w)) h)))
      (gone-fill (last_closed w.publisher + 1) places h.lines w.publisher.gens.filling f)

pub entries-keep : (publication : Publication) (says : Saying) → StepsKeep publication says (Ground publication) EntriesFill
entries-keep publication says = record {
  moment = λ w h now g f. f;
  own_change = λ w h change d g f fine is. made-fill publication w h g f (by_past h (pasts_with h 0)) change d;
  own_closing = λ w h g f. fills-closed (entries_in h.lines) w.publisher.gens.filling f;
  forgetting = λ w h g f. purge-fill publication w h g f (by_past h (pasts_with h 0));
  same = λ w h s g f at. f;
  subscriber_change = λ w h s change d g f at named fine is. f;
  subscriber_closing = λ w h s g f at. f;
  anew = λ w h s g f at. same-lines w.publisher h (Noting.noted_anew (by_made h s.site) s h) (anew-lines (by_history h) s.site (Some s) h) f;
  sends_join = λ w h s g f at joining. f;
  sends_upload = λ w h s g f at fine. f;
  sends_ranges = λ w h s g f at fine. f;
  sends_ask = λ w h s g f at fine. f;
  joins = λ w h number m g f at fine acts. join-fill publication w h g f (by_past h (pasts_with h number)) m;
  joins_again = λ w h number m g f at acts. f;
  uploads = λ w h number m g f at fine news. upload-fill publication w h g f (by_past h (pasts_with h number)) (pasts_with h number) m (acts_in publication says (by_past h (pasts_with h number)) m w);
  uploads_again = λ w h number m g f at none. f;
  answers_ranges = λ w h site m g f. f;
  answers_ask = λ w h number site m g f at fine. fills-closed (entries_in h.lines) w.publisher.gens.filling f;
  replies = λ w h s number m sent g f at there out none. same-lines w.publisher h (Noting.noted_reply (by_made h s.site) s.site (pasts_with h number) m h) (taken-lines (by_history h) s.site (pasts_with h number) m (Some s) h) f;
}

pub entries-begin : (publication : Publication) (tallies : List ℕ) → EntriesFill (empty_world publication tallies) no_history
entries-begin publication tallies = record { few = λ generation. omega arith; entered = refl; behind = λ generation up. refl }

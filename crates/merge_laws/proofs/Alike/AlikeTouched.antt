-- A download answers the same by mappings and by lines.
use Rattle.std.specs.Prelude.{◌≡◌, ◌==◌, ◌&&◌, ◌||◌, ℕ, List, [], ◌∷◌, Bool, true, false, Option, Some, None, Result, refl, cond, filter, filter_map, is_some, map, option_map}
use Rattle.std.specs.BTreeMap.{is_at}
use Rattle.std.proofs.Common.{arith, sym, ap, ◌∙◌}
use Rattle.merge_schema.specs.declared.publication.Publication.{Publication}
use Rattle.merge_types.specs.declared.identifiers.SiteId.{SiteId}
use Rattle.merge_batch.specs.declared.refusal.Refusal.{Refusal}
use Rattle.merge_batch.specs.declared.reply.Downloaded.{Downloaded}
use Rattle.merge_batch.specs.declared.reply.Reply.TheVariants as reply
use Rattle.merge_batch.specs.declared.request.Download.{Download}
use Rattle.merge_batch.specs.declared.request.Request.TheVariants as request
use Rattle.merge_model.specs.Judge.ByHistory.{by_past, last_line, moved_rows_by_line, touch_by_line, touched_outside}
use Rattle.merge_model.specs.Judge.ByNumbers.{by_numbers, mapping_at, moved_rows_by_mapping, touch_by_mapping, touch_outside}
use Rattle.merge_model.specs.Publisher.Entries
use Rattle.merge_model.specs.History.{History, Line, Past}
use Rattle.merge_model.specs.Judge.{PublisherJudge}
use Rattle.merge_gens.specs.Moves.{row_site_cmp}
use Rattle.merge_model.specs.Tables.Keys.{at_row_site, has_key, row_at, same_key}
use Rattle.merge_model.specs.Publisher.PublisherDownload.{TouchedRow, download_refusal, inside_keys, reply_by, reply_to, tables_after_download, touched_row, touched_rows}
use Rattle.merge_model.specs.Tables.Refusals.{unless}
use Rattle.merge_model.specs.World.Steps.{deliver_request, post_reply}
use Rattle.merge_types.specs.declared.row_key.RowKey.{RowKey as Key}
use Rattle.merge_gens.specs.declared.moves.Mapping.{Mapping}
use Rattle.merge_gens.specs.declared.moves.RowSite.{RowSite}
use Rattle.merge_model.specs.Tables.{PublisherTables}
use Rattle.merge_model.specs.World.{Saying, World}
use Rattle.merge_laws.proofs.Alike.AlikeDownloads.{told-same}
use Rattle.merge_laws.proofs.Alike.AlikeFields.{received-alike, touch-alike}
use Rattle.merge_model.proofs.Entries.Downloads.{inside-held}
use Rattle.merge_laws.proofs.Runs.Ground.{Ground}
use Rattle.merge_model.proofs.Lists.KeyLists.{keys-once, some-head}
use Rattle.merge_laws.proofs.LastLines.LastLineGone.{told-of}
use Rattle.merge_model.proofs.Lists.PlaceLookUps.{place-is}
use Rattle.merge_model.proofs.Lists.Tests.{or-first, or-second}
use Rattle.merge_laws.proofs.Walking.{here}

-- A row that has a mapping or a line for a site is among the moved ones.

abbrev moved_keys : List (RowSite × Mapping) → List Key
moved_keys entries = map (λ (entry : RowSite × Mapping). entry.0.key) entries

mapped-step : (s at : Bool) (key : Key) (e : RowSite × Mapping) (kept : List (RowSite × Mapping)) (found : Option Mapping) → at ≡ (same_key key e.0.key && s) → has_key (moved_keys kept) key ≡ is_some found
    → has_key (moved_keys (let all : List (RowSite × Mapping) = cond s (e ∷ kept) kept in all)) key ≡ (at || is_some found)
mapped-step true at key e kept found is h = grind (arith, is, h)
mapped-step false at key e kept found is h = grind (arith, is, h)

mapped : (mappings : List (RowSite × Mapping)) (key : Key) (site : ℕ) → has_key (moved_keys (filter (λ (entry : RowSite × Mapping). entry.0.site == site) mappings)) key ≡ is_some (at_row_site mappings (record { key = key; site = site }))
mapped [] key site = refl
mapped (e ∷ es) key site =
    let place : RowSite = record { key = key; site = site } in
    mapped-step (e.0.site == site) (is_at (row_site_cmp place) e.0) key e (filter (λ (entry : RowSite × Mapping). entry.0.site == site) es) (at_row_site es place) (place-is key site e.0) (mapped es key site)
    ∙ sym (some-head (is_at (row_site_cmp place) e.0) e.1 (at_row_site es place))

some-outside : (found : Option Mapping) → is_some (touch_outside found) ≡ true → is_some found ≡ true
some-outside None is = is
some-outside (Some move) is = refl

some-line : (found : Option Line) → is_some (touched_outside found) ≡ true → is_some found ≡ true
some-line None is = is
some-line (Some line) is = refl

some-mapped : {A B : Type 0} (f : A → B) (found : Option A) → is_some (option_map f found) ≡ is_some found
some-mapped f None = refl
some-mapped f (Some a) = refl

module _ (publication : Publication) (w : World) (h : History) (g : Ground publication w h) (incoming : List (Key × Past)) (site : SiteId) where
  abbrev inside : List Key
  inside = inside_keys publication site w.publisher

  row-same : (key : Key) → touched_row (by_numbers w.publisher) site inside key ≡ touched_row (by_past h incoming) site inside key
  row-same key = ap (λ (touch : Option ℕ). option_map (λ (generation : ℕ). (let row : TouchedRow = record { key = key; is_in = has_key inside key; generation = generation } in row)) touch) (touch-alike publication w h g key site)

  -- what is touched is held, or told of
  touched-mapped : (key : Key) (is_in : Bool) → has_key inside key ≡ is_in → is_some (touch_by_mapping w.publisher key site.0 is_in) ≡ true
      → (is_some (row_at w.publisher.rows key) || has_key (moved_rows_by_mapping w.publisher site.0) key) ≡ true
  touched-mapped key true at is = or-first (is_some (row_at w.publisher.rows key)) (has_key (moved_rows_by_mapping w.publisher site.0) key) (inside-held publication site w.publisher key at)
  touched-mapped key false at is = or-second (is_some (row_at w.publisher.rows key)) (has_key (moved_rows_by_mapping w.publisher site.0) key)
      (mapped w.publisher.mappings key site.0 ∙ some-outside (mapping_at w.publisher key site.0) is)

  touched-lined : (key : Key) (is_in : Bool) → has_key inside key ≡ is_in → is_some (touch_by_line h key site.0 is_in) ≡ true
      → (is_some (row_at w.publisher.rows key) || has_key (moved_rows_by_line h site.0) key) ≡ true
  touched-lined key true at is = or-first (is_some (row_at w.publisher.rows key)) (has_key (moved_rows_by_line h site.0) key) (inside-held publication site w.publisher key at)
  touched-lined key false at is = or-second (is_some (row_at w.publisher.rows key)) (has_key (moved_rows_by_line h site.0) key)
      (sym (keys-once (moved_rows_by_line h site.0) key) ∙ told-of h.lines key site.0 ∙ some-line (last_line h key site.0) is)

  row-touched : (judge : PublisherJudge) (key : Key) → is_some (touched_row judge site inside key) ≡ is_some (judge.touch key site.0 (has_key inside key))
  row-touched judge key = some-mapped (λ (generation : ℕ). (let row : TouchedRow = record { key = key; is_in = has_key inside key; generation = generation } in row)) (judge.touch key site.0 (has_key inside key))

  rows-same : touched_rows publication (by_numbers w.publisher) site w.publisher ≡ touched_rows publication (by_past h incoming) site w.publisher
  rows-same =
      ap (λ (f : Key → Option TouchedRow). filter_map f (Entries.keys_of w.publisher.rows (moved_rows_by_mapping w.publisher site.0))) (λ i key. row-same key i)
      ∙ told-same (touched_row (by_past h incoming) site inside) w.publisher.rows (moved_rows_by_mapping w.publisher site.0) (moved_rows_by_line h site.0) g.sorted.rows_ascend
      (λ key is. touched-mapped key (has_key inside key) refl (sym (row-touched (by_numbers w.publisher) key) ∙ ap (λ (row : Option TouchedRow). is_some row) (row-same key) ∙ is))
      (λ key is. touched-lined key (has_key inside key) refl (sym (row-touched (by_past h incoming) key) ∙ is))

module _ (publication : Publication) (says : Saying) (w : World) (h : History) (g : Ground publication w h) (incoming : List (Key × Past)) (m : Download) where
  abbrev after : PublisherTables
  after = tables_after_download m (here w)

  reply-same : reply_to publication (by_numbers w.publisher) m after ≡ reply_to publication (by_past h incoming) m after
  reply-same =
      ap (λ (rows : List TouchedRow). reply_by (by_numbers w.publisher) m after rows) (rows-same publication w h g incoming m.site)
      ∙ ap (λ (n : ℕ). (let told : Downloaded = record (reply_by (by_numbers w.publisher) m after (touched_rows publication (by_past h incoming) m.site w.publisher)) { received = n } in told)) (received-alike publication w h g m.site.0)

  pub download-alike : (site : SiteId) → deliver_request publication says (by_numbers w.publisher) site (request.Download m) w ≡ deliver_request publication says (by_past h incoming) site (request.Download m) w
  download-alike site = ap (λ (told : Downloaded). (let done : Result (PublisherTables × Downloaded) Refusal = unless (download_refusal publication w.moment m w.publisher) (after, told) in
      post_reply site (λ (made : Downloaded). reply.Downloaded made) w done)) reply-same

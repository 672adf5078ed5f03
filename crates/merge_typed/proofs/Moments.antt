-- The moments that the publisher keeps fit: its calls keep it.
use Rattle.std.specs.BTreeMap.{is_at}
use Rattle.std.specs.List.{AllByRecursion, range_with_len}
use Rattle.std.specs.Ordering.{nat_cmp}
use Rattle.std.specs.Prelude.{Bool, IfOk, List, false, find, if◌then◌else◌, map, max, true, unwrap_or, ℕ, ◌&&◌, ◌+◌, ◌-◌, ◌<◌, ◌==◌, ◌^◌}
use Rattle.std.proofs.Common.{arith}
use Rattle.merge_types.specs.declared.changes.Change.{Change}
use Rattle.merge_types.specs.declared.identifiers.Moment.{Moment}
use Rattle.merge_types.specs.declared.identifiers.SiteId.{SiteId}
use Rattle.merge_types.specs.declared.row_key.RowKey.{RowKey as Key}
use Rattle.merge_units.specs.declared.result.Decision.{Decision}
use Rattle.merge_units.specs.declared.version.Version.{Version}
use Rattle.merge_gens.specs.Book.{Book, closing_at, closings_between, moment_of, moved_to}
use Rattle.merge_gens.specs.Filling.{filled_by, filling_after_close as closed_filling}
use Rattle.merge_gens.specs.declared.closings.Closing.{Closing}
use Rattle.merge_gens.specs.declared.filling.Filling.{Filling}
use Rattle.merge_gens.specs.declared.sites.SiteState.{SiteState}
use Rattle.merge_schema.specs.declared.publication.Publication.{Publication}
use Rattle.merge_batch.specs.declared.reply.Downloaded.{Downloaded}
use Rattle.merge_batch.specs.declared.reply.Joined.{Joined}
use Rattle.merge_batch.specs.declared.reply.Ranged.{Ranged}
use Rattle.merge_batch.specs.declared.reply.Uploaded.{Uploaded}
use Rattle.merge_batch.specs.declared.request.Download.{Download}
use Rattle.merge_batch.specs.declared.request.Join.{Join}
use Rattle.merge_batch.specs.declared.request.RangeAsk.{RangeAsk}
use Rattle.merge_batch.specs.declared.request.Upload.{Upload}
use Rattle.merge_model.specs.Publisher.Acts.{Act, acts_of}
use Rattle.merge_model.specs.Publisher.Entries.{Changing, Entries, changed_by, changing_entries, entry_count, with_entries}
use Rattle.merge_model.specs.Judge.{PublisherJudge}
use Rattle.merge_model.specs.Tables.Keys.{at_number}
use Rattle.merge_model.specs.Publisher.{at_moment, close_generation, counters, last_closed, no_state, state_of, tables_after_close, with_state}
use Rattle.merge_model.specs.Publisher.PublisherDownload.{download, download_refusal, in_step, reply_to, state_after_download, tables_after_download}
use Rattle.merge_model.specs.Publisher.PublisherJoin.{join, join_acts, join_refusal, join_taken, joined_state, tables_after_join}
use Rattle.merge_model.specs.Publisher.PublisherLocal.{changing_locally, local, with_draw}
use Rattle.merge_model.specs.Publisher.PublisherPurge.{purge}
use Rattle.merge_model.specs.Publisher.PublisherRanges.{plans, ranges, ranges_refusal, reply_to_ranges, with_grants}
use Rattle.merge_model.specs.Publisher.PublisherUpload.{brings_news, changing_by, state_seeing, tables_after_upload, taken_in, upload, upload_refusal, with_acts, with_taken}
use Rattle.merge_model.specs.Tables.Refusals.{counter_end}
use Rattle.merge_model.specs.Tables.{PublisherTables}
use Rattle.merge_model.proofs.Lists.{OfSome, all-append, all-filter, all-map, all-unit, some-map}
use Rattle.merge_typed.specs.Typed.{MomentFits}
use Rattle.merge_typed.proofs.Calls.{local-ok, unless-ok}
use Rattle.merge_typed.proofs.Entries.{all-find, or-else, values-found, values-put}
use Rattle.merge_typed.proofs.OwnValues.{max-low}

abbrev ClosingFits : Closing → Type 0
ClosingFits closing = MomentFits closing.moment

abbrev StateFits : SiteState → Type 0
StateFits state = state.last_sync < 2 ^ 64

abbrev SitesFit : List (ℕ × SiteState) → Type 0
SitesFit sites = AllByRecursion (λ (site : ℕ × SiteState). StateFits site.1) sites

pub record OwnMoments (p : PublisherTables) : Type 0 where
  pub closings : AllByRecursion ClosingFits p.gens.closings
  pub sites : SitesFit p.sites
  pub latest : MomentFits p.latest

at-moment : (now : Moment) (p : PublisherTables) → MomentFits now → OwnMoments p → OwnMoments (at_moment now p)
at-moment now p low f = record { closings = f.closings; sites = f.sites; latest = max-low now.0 p.latest.0 low f.latest }

-- generations that close
moved-on : (book : Book) (filling : Filling) (moment : Moment) → MomentFits moment → AllByRecursion ClosingFits book.closings → AllByRecursion ClosingFits (moved_to book filling moment).closings
moved-on book filling moment low all =
    let numbers : List ℕ = range_with_len (book.filling.last_closed + 1) (filling.last_closed - book.filling.last_closed) in
    all-append ClosingFits book.closings (closings_between book.filling.last_closed filling.last_closed moment) all (all-map (λ (n : ℕ). Unit {0}) ClosingFits (closing_at moment) (λ n none. low) numbers (all-unit numbers))

entries-with : (entries : Entries) (versions : List (Key × Version)) (p : PublisherTables) → OwnMoments p → OwnMoments (with_entries entries versions p)
entries-with entries versions p f = record { closings = moved-on p.gens (filled_by p.gens.filling (entry_count entries)) p.latest f.latest f.closings; sites = f.sites; latest = f.latest }

changed-by : (publication : Publication) (judge : PublisherJudge) (changing : Changing) (p : PublisherTables) → OwnMoments p → OwnMoments (changed_by publication judge changing p)
changed-by publication judge changing p f = entries-with (changing_entries publication judge changing p) changing.versions p f

closes : (p : PublisherTables) → OwnMoments p → OwnMoments (tables_after_close p)
closes p f = record { closings = moved-on p.gens (closed_filling p.gens.filling) p.latest f.latest f.closings; sites = f.sites; latest = f.latest }

-- an upload
if-taken : (b : Bool) (one other : ℕ × SiteState) → StateFits one.1 → StateFits other.1 → StateFits (if b then one else other).1
if-taken true one other is more = is
if-taken false one other is more = more

taken-fit : (m : Upload) (sites : List (ℕ × SiteState)) → SitesFit sites → SitesFit (with_taken m sites)
taken-fit m sites all = all-map (λ (site : ℕ × SiteState). StateFits site.1) (λ (site : ℕ × SiteState). StateFits site.1) (λ (entry : ℕ × SiteState). if entry.0 == m.site.0 then (entry.0, record entry.1 { received = m.to; received_number = m.through }) else entry)
    (λ site is. if-taken (site.0 == m.site.0) (site.0, record site.1 { received = m.to; received_number = m.through }) site is is) sites all

seen-fit : (acts : List Act) (sites : List (ℕ × SiteState)) → SitesFit sites → SitesFit (map (state_seeing acts) sites)
seen-fit acts sites all = all-map (λ (site : ℕ × SiteState). StateFits site.1) (λ (site : ℕ × SiteState). StateFits site.1) (state_seeing acts) (λ site is. is) sites all

upload-by : (publication : Publication) (judge : PublisherJudge) (m : Upload) (decisions : List Decision) (q : PublisherTables) (b : Bool) → OwnMoments q → OwnMoments (if b then taken_in publication judge m (acts_of judge m decisions q) q else q)
upload-by publication judge m decisions q false f = f
upload-by publication judge m decisions q true f =
    let acts : List Act = acts_of judge m decisions q in
    changed-by publication judge (changing_by m acts) (with_acts publication m acts q) (record { closings = f.closings; sites = taken-fit m (map (state_seeing acts) q.sites) (seen-fit acts q.sites f.sites); latest = f.latest })

-- a join
join-by : (m : Join) (q : PublisherTables) (b : Bool) → OwnMoments q → OwnMoments (if b then join_taken m q else q)
join-by m q true f = record { closings = f.closings; sites = values-put StateFits nat_cmp m.site.0 (joined_state m q.latest (state_of q m.site)) q.sites f.latest f.sites; latest = f.latest }
join-by m q false f = f

-- a download
if-low : (b : Bool) (one other : ℕ) → one < 2 ^ 64 → other < 2 ^ 64 → (if b then one else other) < 2 ^ 64
if-low true one other is more = is
if-low false one other is more = more

abbrev IsLow : ℕ → Type 0
IsLow n = n < 2 ^ 64

kept-low : (closings : List Closing) (generation : ℕ) → AllByRecursion ClosingFits closings → OfSome IsLow (moment_of closings generation)
kept-low closings generation all = some-map ClosingFits IsLow (λ (c : Closing). c.moment.0) (λ c is. is) (find (λ (c : Closing). c.generation == generation) closings) (all-find ClosingFits (λ (c : Closing). c.generation == generation) closings all)

step-low : (m : Download) (p : PublisherTables) → OwnMoments p → in_step m p < 2 ^ 64
step-low m p f = if-low ((m.from == last_closed p) && (p.gens.filling.filled == 0)) p.latest.0 (unwrap_or (moment_of p.gens.closings m.from) 0) f.latest
    (or-else IsLow (moment_of p.gens.closings m.from) 0 (kept-low p.gens.closings m.from f.closings) (omega arith))

state-fits : (p : PublisherTables) (site : SiteId) → SitesFit p.sites → StateFits (state_of p site)
state-fits p site all = or-else StateFits (at_number p.sites site.0) no_state (values-found StateFits (is_at (nat_cmp site.0)) p.sites all) (omega arith)

asks : (m : Download) (p : PublisherTables) → OwnMoments p → OwnMoments (tables_after_download m p)
asks m p f =
    let state : SiteState = state_of p m.site in
    closes (with_state m.site (state_after_download m p state) p) (record {
      closings = f.closings;
      sites = values-put StateFits nat_cmp m.site.0 (state_after_download m p state) p.sites (max-low state.last_sync (in_step m p) (state-fits p m.site f.sites) (step-low m p f)) f.sites;
      latest = f.latest;
    })

module _ (publication : Publication) (now : Moment) (p : PublisherTables) (low : MomentFits now) (f : OwnMoments p) where
  pub moments-local : (judge : PublisherJudge) (change : Change) → IfOk (local publication judge now change p) (λ done. OwnMoments done.0)
  moments-local judge change = local-ok publication judge now change p OwnMoments
      (λ fine d is. (let g = at-moment now p low f in changed-by publication judge (changing_locally publication change d.value (at_moment now p)) (with_draw d (at_moment now p)) (record { closings = g.closings; sites = g.sites; latest = g.latest })))

  pub moments-closed : IfOk (close_generation now p) (λ done. OwnMoments done.0)
  moments-closed = unless-ok (λ (done : PublisherTables × ℕ). OwnMoments done.0) (counter_end (counters p)) (tables_after_close (at_moment now p), last_closed (tables_after_close (at_moment now p))) (λ fine. closes (at_moment now p) (at-moment now p low f))

  pub moments-purged : OwnMoments (purge publication now p).0
  moments-purged = (let g = at-moment now p low f in record { closings = all-filter ClosingFits _ p.gens.closings f.closings; sites = g.sites; latest = g.latest })

  pub moments-joined : (m : Join) → IfOk (join publication now m p) (λ done. OwnMoments done.0 × Unit {0})
  moments-joined m = unless-ok (λ (done : PublisherTables × Joined). OwnMoments done.0 × Unit {0}) (join_refusal publication m p) (tables_after_join m (at_moment now p), record { seq = m.seq }) (λ fine. (join-by m (at_moment now p) (join_acts m (at_moment now p)) (at-moment now p low f), tt))

  pub moments-uploaded : (judge : PublisherJudge) (m : Upload) (decisions : List Decision) → IfOk (upload publication judge now m decisions p) (λ done. OwnMoments done.0 × Unit {0})
  moments-uploaded judge m decisions =
      unless-ok (λ (done : PublisherTables × Uploaded). OwnMoments done.0 × Unit {0}) (upload_refusal publication judge now m p) (tables_after_upload publication judge m decisions (at_moment now p), record { seq = m.seq; received = max m.to (judge.received m.site.0) })
      (λ fine. (upload-by publication judge m decisions (at_moment now p) (brings_news judge m) (at-moment now p low f), tt))

  pub moments-ranged : (judge : PublisherJudge) (m : RangeAsk) → IfOk (ranges publication judge now m p) (λ done. OwnMoments done.0 × Unit {0})
  moments-ranged judge m = (let g = at-moment now p low f in
      unless-ok (λ (done : PublisherTables × Ranged). OwnMoments done.0 × Unit {0}) (ranges_refusal publication judge now m p) (with_grants (plans publication m p) (at_moment now p), reply_to_ranges m (plans publication m p))
      (λ fine. (record { closings = g.closings; sites = g.sites; latest = g.latest }, tt)))

  pub moments-asked : (judge : PublisherJudge) (m : Download) → IfOk (download publication judge now m p) (λ done. OwnMoments done.0 × Unit {0})
  moments-asked judge m =
      let after : PublisherTables = tables_after_download m (at_moment now p) in
      unless-ok (λ (done : PublisherTables × Downloaded). OwnMoments done.0 × Unit {0}) (download_refusal publication now m p) (after, reply_to publication judge m after) (λ fine. (asks m (at_moment now p) (at-moment now p low f), tt))

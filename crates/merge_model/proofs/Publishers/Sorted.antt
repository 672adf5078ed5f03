-- The publisher's lists of pairs stay in order.
use Rattle.std.specs.Prelude.{◌≡◌, ◌≤◌, ◌<◌, ℕ, List, [], ◌∷◌, Bool, true, false, Result, Ok, Err, refl, IfOk, map, filter, cond, nat_le}
use Rattle.std.specs.List.{fold, zip}
use Rattle.std.specs.List.Sorted.{IsStrictlySortedBy}
use Rattle.std.specs.Map.{keys_of}
use Rattle.std.specs.declared.cmp.Ordering.{Ordering}
use Rattle.std.specs.Ordering.{nat_cmp}
use Rattle.std.specs.Cmp.{IsTotalOrder, then_total, on_total, nat_cmp_total}
use Rattle.std.proofs.Common.{arith, subst, sym, ap, ◌∙◌}
use Rattle.std.proofs.lemmas.Bool.Decides.{nat_tests}
use Rattle.merge_table.proofs.Room.{AreAbove}
use Rattle.merge_types.specs.declared.identifiers.Moment.{Moment}
use Rattle.merge_types.specs.declared.changes.Change.{Change}
use Rattle.merge_units.specs.declared.version.Version.{Version}
use Rattle.merge_batch.specs.declared.refusal.Refusal.{Refusal}
use Rattle.merge_batch.specs.declared.request.Join.{Join}
use Rattle.merge_batch.specs.declared.request.Upload.{Upload}
use Rattle.merge_batch.specs.declared.request.RangeAsk.{RangeAsk}
use Rattle.merge_batch.specs.declared.request.Download.{Download}
use Rattle.merge_gens.specs.declared.filling.Filling.{Filling}
use Rattle.merge_gens.specs.declared.sites.SiteState.{SiteState}
use Rattle.merge_gens.specs.Filling as fill
use Rattle.merge_gens.specs.declared.closings.Closing.{Closing}
use Rattle.merge_gens.specs.Book.{Book, IsSound, book_after_entries, closed_now}
use Rattle.merge_gens.proofs.ClosedGenerations.{sound_kept, sound_moved}
use Rattle.std.specs.BTreeMap.{is_at}
use Rattle.merge_table.proofs.Sorted.{sorted_put, sorted_take}
use Rattle.merge_schema.specs.declared.publication.Publication.{Publication}
use Rattle.merge_types.specs.declared.row_key.RowKey.{RowKey as Key}
use Rattle.merge_gens.specs.declared.moves.RowSite.{RowSite}
use Rattle.merge_units.specs.declared.site_row.PublisherRow.{PublisherRow}
use Rattle.merge_gens.specs.declared.moves.MoveKind.{MoveKind}
use Rattle.merge_gens.specs.declared.moves.Mapping.{Mapping}
use Rattle.merge_model.specs.Tables.{PublisherTables}
use Rattle.merge_types.specs.RowKeys.{key_cmp}
use Rattle.merge_gens.specs.Moves.{row_site_cmp}
use Rattle.merge_model.specs.Tables.Keys.{drop_row_site, put_row}
use Rattle.merge_model.specs.Judge.{PublisherJudge}
use Rattle.merge_model.specs.Publisher.Entries.{Entries, changing_entries, entry_count, with_rows, with_move, with_entries}
use Rattle.merge_model.specs.Publisher.Acts.{Act, acts_of}
use Rattle.merge_model.specs.Publisher.{at_moment, tables_after_close}
use Rattle.merge_model.specs.Publisher.PublisherLocal.{draw_for_change, Drawn, made_locally, with_draw, changing_locally}
use Rattle.merge_model.specs.Publisher.PublisherJoin.{join_taken}
use Rattle.merge_model.specs.Publisher.PublisherUpload.{taken_in, with_acts, with_taken, state_seeing, changing_by}
use Rattle.merge_model.specs.Publisher.PublisherRanges.{plans, with_grants}
use Rattle.merge_model.specs.Publisher.PublisherDownload.{tables_after_download}
use Rattle.merge_model.specs.Publisher.PublisherPurge.{purge, cutoff}
use Rattle.merge_model.specs.World.{World, Judges, Saying}
use Rattle.merge_model.specs.World.Steps.{Action, step_by}
use Rattle.merge_model.specs.Laws.{AreSorted}
use Rattle.merge_model.proofs.Publishers.PublisherSteps.{step-holds}
use Rattle.merge_model.proofs.Publishers.{local-ok, close-ok, join-ok, upload-ok, ranges-ok, download-ok}

pub key_total : IsTotalOrder key_cmp
key_total = then_total (on_total (λ (k : Key). k.article) nat_cmp_total) (on_total (λ (k : Key). k.row.0) nat_cmp_total)

pub row_site_total : IsTotalOrder row_site_cmp
row_site_total = then_total (on_total (λ (p : RowSite). p.key) key_total) (on_total (λ (p : RowSite). p.site) nat_cmp_total)

-- a filter of pairs keeps them in order
above-filter : {K V : Type 0} (cmp : K → K → Ordering) (test : K × V → Bool) (k : K) (es : List (K × V)) → AreAbove cmp k (keys_of es) → AreAbove cmp k (keys_of (filter test es))
above-filter cmp test k [] above = tt
above-filter {K = K} {V = V} cmp test k (e ∷ es) above = elim (test e) as (λ b. AreAbove cmp k (keys_of (let kept : List (K × V) = cond b (e ∷ filter test es) (filter test es) in kept))) [
  | true ↦ (above.0, above-filter cmp test k es above.1)
  | false ↦ above-filter cmp test k es above.1
]

sorted-filter : {K V : Type 0} (cmp : K → K → Ordering) (test : K × V → Bool) (es : List (K × V)) → IsStrictlySortedBy cmp (keys_of es) → IsStrictlySortedBy cmp (keys_of (filter test es))
unfolding IsStrictlySortedBy
sorted-filter cmp test [] sorted = tt
sorted-filter {K = K} {V = V} cmp test (e ∷ es) sorted = elim (test e) as (λ b. IsStrictlySortedBy cmp (keys_of (let kept : List (K × V) = cond b (e ∷ filter test es) (filter test es) in kept))) [
  | true ↦ (above-filter cmp test e.0 es sorted.0, sorted-filter cmp test es sorted.1)
  | false ↦ sorted-filter cmp test es sorted.1
]

-- rows and mappings that are put and dropped
rows-sorted : (rows : List (Key × PublisherRow)) (changed : List ((Key × Version) × ℕ)) → IsStrictlySortedBy key_cmp (keys_of rows) → IsStrictlySortedBy key_cmp (keys_of (with_rows rows changed))
rows-sorted rows [] sorted = sorted
rows-sorted rows (row ∷ changed) sorted = let new : PublisherRow = record { version = row.0.1; changed = row.1 } in
    rows-sorted (put_row rows row.0.0 new) changed (sorted_put key_cmp key_total row.0.0 new rows sorted)

moves-sorted : (mappings : List (RowSite × Mapping)) (moved : List ((RowSite × MoveKind) × ℕ)) → IsStrictlySortedBy row_site_cmp (keys_of mappings) → IsStrictlySortedBy row_site_cmp (keys_of (fold with_move mappings moved))
moves-sorted mappings [] sorted = sorted
moves-sorted mappings (move ∷ moved) sorted = let new : Mapping = record { kind = move.0.1; generation = move.1 } in
    moves-sorted (with_move mappings move) moved (sorted_put row_site_cmp row_site_total move.0.0 new mappings sorted)

gone-sorted : (mappings : List (RowSite × Mapping)) (gone : List RowSite) → IsStrictlySortedBy row_site_cmp (keys_of mappings) → IsStrictlySortedBy row_site_cmp (keys_of (fold drop_row_site mappings gone))
gone-sorted mappings [] sorted = sorted
gone-sorted mappings (place ∷ gone) sorted = gone-sorted (drop_row_site mappings place) gone (sorted_take row_site_cmp row_site_total (is_at (row_site_cmp place)) mappings sorted)

-- generations
pub entered-sound : (book : Book) (count : ℕ) (moment : Moment) → IsSound book → IsSound (book_after_entries book count moment)
entered-sound book count moment sound = sound_moved book (fill.filled_by book.filling count) moment sound (omega arith) (omega arith)

pub closed_filling-small : (filling : Filling) → filling.filled < 1000 → (fill.filling_after_close filling).filled < 1000
closed_filling-small filling h = grind (arith, nat_tests)

pub closed_filling-rises : (filling : Filling) → filling.last_closed ≤ (fill.filling_after_close filling).last_closed
closed_filling-rises filling = grind (arith, nat_tests)

pub closed-sound : (book : Book) (moment : Moment) → IsSound book → IsSound (closed_now book moment)
closed-sound book moment sound = sound_moved book (fill.filling_after_close book.filling) moment sound (closed_filling-small book.filling sound.unfilled) (closed_filling-rises book.filling)

-- the entries of a step
entries-sorted : (entries : Entries) (versions : List (Key × Version)) (p : PublisherTables) → AreSorted p → AreSorted (with_entries entries versions p)
entries-sorted entries versions p s = record {
  rows_ascend = rows-sorted p.rows (zip versions (map (λ (entry : Key × ℕ). entry.1) entries.changed)) s.rows_ascend;
  mappings_ascend = gone-sorted (fold with_move p.mappings entries.moved) entries.gone (moves-sorted p.mappings entries.moved s.mappings_ascend);
  sites_ascend = s.sites_ascend;
  generations_ascend = entered-sound p.gens (entry_count entries) p.latest s.generations_ascend;
}

-- what leaves these lists alone
moment-sorted : (p : PublisherTables) (now : Moment) → AreSorted p → AreSorted (at_moment now p)
moment-sorted p now s = record {
  rows_ascend = s.rows_ascend;
  mappings_ascend = s.mappings_ascend;
  sites_ascend = s.sites_ascend;
  generations_ascend = s.generations_ascend;
}

draw-sorted : (d : Drawn) (p : PublisherTables) → AreSorted p → AreSorted (with_draw d p)
draw-sorted d p s = record {
  rows_ascend = s.rows_ascend;
  mappings_ascend = s.mappings_ascend;
  sites_ascend = s.sites_ascend;
  generations_ascend = s.generations_ascend;
}

made-sorted : (publication : Publication) (judge : PublisherJudge) (change : Change) (d : Drawn) (p : PublisherTables) → AreSorted p → AreSorted (made_locally publication judge change d p).0
made-sorted publication judge change d p s =
    entries-sorted (changing_entries publication judge (changing_locally publication change d.value p) (with_draw d p)) (changing_locally publication change d.value p).versions (with_draw d p) (draw-sorted d p s)

drawn-sorted : (publication : Publication) (judge : PublisherJudge) (now : Moment) (change : Change) (p : PublisherTables) (draw : Result Drawn Refusal) → AreSorted p
    → IfOk draw (λ d. AreSorted (made_locally publication judge change d (at_moment now p)).0)
drawn-sorted publication judge now change p (Ok d) s = made-sorted publication judge change d (at_moment now p) (moment-sorted p now s)
drawn-sorted publication judge now change p (Err refusal) s = tt

-- the states of the sites keep their sites
seeing-keys : (acts : List Act) (sites : List (ℕ × SiteState)) → keys_of (map (state_seeing acts) sites) ≡ keys_of sites
seeing-keys acts [] = refl
seeing-keys acts (e ∷ es) = ap (λ (ks : List ℕ). e.0 ∷ ks) (seeing-keys acts es)

taken-keys : (m : Upload) (sites : List (ℕ × SiteState)) → keys_of (with_taken m sites) ≡ keys_of sites
taken-keys m [] = refl
taken-keys m (e ∷ es) = grind (arith, nat_tests, taken-keys m es)

acts-sorted : (publication : Publication) (judge : PublisherJudge) (m : Upload) (acts : List Act) (p : PublisherTables) → AreSorted p → AreSorted (with_acts publication m acts p)
acts-sorted publication judge m acts p s = record {
  rows_ascend = s.rows_ascend;
  mappings_ascend = s.mappings_ascend;
  sites_ascend = subst (λ (ks : List ℕ). IsStrictlySortedBy nat_cmp ks) (sym (taken-keys m (map (state_seeing acts) p.sites) ∙ seeing-keys acts p.sites)) s.sites_ascend;
  generations_ascend = s.generations_ascend;
}

taken-sorted : (publication : Publication) (judge : PublisherJudge) (m : Upload) (acts : List Act) (p : PublisherTables) → AreSorted p → AreSorted (taken_in publication judge m acts p)
taken-sorted publication judge m acts p s =
    entries-sorted (changing_entries publication judge (changing_by m acts) (with_acts publication m acts p)) (changing_by m acts).versions (with_acts publication m acts p) (acts-sorted publication judge m acts p s)

join-sorted : (m : Join) (p : PublisherTables) → AreSorted p → AreSorted (join_taken m p)
join-sorted m p s = record {
  rows_ascend = s.rows_ascend;
  mappings_ascend = sorted-filter row_site_cmp _ p.mappings s.mappings_ascend;
  sites_ascend = sorted_put nat_cmp nat_cmp_total m.site.0 _ p.sites s.sites_ascend;
  generations_ascend = s.generations_ascend;
}

asked-sorted : (m : Download) (p : PublisherTables) → AreSorted p → AreSorted (tables_after_download m p)
asked-sorted m p s = record {
  rows_ascend = s.rows_ascend;
  mappings_ascend = s.mappings_ascend;
  sites_ascend = sorted_put nat_cmp nat_cmp_total m.site.0 _ p.sites s.sites_ascend;
  generations_ascend = closed-sound p.gens p.latest s.generations_ascend;
}

closed-sorted : (p : PublisherTables) → AreSorted p → AreSorted (tables_after_close p)
closed-sorted p s = record {
  rows_ascend = s.rows_ascend;
  mappings_ascend = s.mappings_ascend;
  sites_ascend = s.sites_ascend;
  generations_ascend = closed-sound p.gens p.latest s.generations_ascend;
}

grants-sorted : (publication : Publication) (m : RangeAsk) (p q : PublisherTables) → AreSorted q → AreSorted (with_grants (plans publication m p) q)
grants-sorted publication m p q s = record {
  rows_ascend = s.rows_ascend;
  mappings_ascend = s.mappings_ascend;
  sites_ascend = s.sites_ascend;
  generations_ascend = s.generations_ascend;
}

purge-sorted : (publication : Publication) (now : Moment) (p : PublisherTables) → AreSorted p → AreSorted (purge publication now p).0
purge-sorted publication now p s = record {
  rows_ascend = sorted-filter key_cmp _ p.rows s.rows_ascend;
  mappings_ascend = sorted-filter row_site_cmp _ p.mappings s.mappings_ascend;
  sites_ascend = s.sites_ascend;
  generations_ascend = sound_kept p.gens (λ (closing : Closing). nat_le (cutoff publication (at_moment now p)).0 closing.moment.0) s.generations_ascend;
}

pub step-sorted : (publication : Publication) (says : Saying) (judges : Judges) (w : World) (action : Action) → AreSorted w.publisher → AreSorted (step_by publication says judges w action).0.publisher
step-sorted publication says judges w action s = step-holds publication AreSorted
    (λ judge now change p k. local-ok AreSorted publication judge now change p (drawn-sorted publication judge now change p (draw_for_change publication p change) k))
    (λ now p k. close-ok AreSorted now p (closed-sorted (at_moment now p) (moment-sorted p now k)))
    (λ now m p k. join-ok AreSorted publication now m p (join-sorted m (at_moment now p) (moment-sorted p now k)) (moment-sorted p now k))
    (λ judge now m decisions p k. upload-ok AreSorted publication judge now m decisions p
    (taken-sorted publication judge m (acts_of judge m decisions (at_moment now p)) (at_moment now p) (moment-sorted p now k)) (moment-sorted p now k))
    (λ judge now m p k. ranges-ok AreSorted publication judge now m p (grants-sorted publication m p (at_moment now p) (moment-sorted p now k)))
    (λ judge now m p k. download-ok AreSorted publication judge now m p (asked-sorted m (at_moment now p) (moment-sorted p now k)))
    (λ now p k. purge-sorted publication now p k)
    says judges w action s

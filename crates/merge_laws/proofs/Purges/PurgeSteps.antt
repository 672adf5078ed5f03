-- What each step of the publisher keeps: what a site has not asked for closed no earlier than it was last in step.
use Rattle.std.specs.Prelude.{◌≡◌, ◌≤◌, ◌<◌, ◌==◌, ◌&&◌, max, ℕ, List, Bool, true, false, Option, Some, None, refl, if◌then◌else◌, IfSome, unwrap_or, map}
use Rattle.std.proofs.Common.{arith, subst, sym, ap}
use Rattle.std.proofs.lemmas.Bool.Decides.{nat_tests}
use Rattle.merge_types.specs.declared.identifiers.Moment.{Moment}
use Rattle.merge_gens.specs.declared.closings.Closing.{Closing}
use Rattle.merge_gens.specs.declared.filling.Filling.{Filling}
use Rattle.merge_gens.specs.declared.sites.SiteState.{SiteState}
use Rattle.merge_gens.specs.Book.{Book, book_after_entries, book_after_purge, moved_to}
use Rattle.merge_gens.specs.Filling as fill
use Rattle.merge_batch.specs.declared.request.Download.{Download}
use Rattle.merge_batch.specs.declared.request.Join.{Join}
use Rattle.merge_batch.specs.declared.request.Upload.{Upload}
use Rattle.merge_schema.specs.declared.publication.Publication.{Publication}
use Rattle.merge_model.specs.Publisher.Acts.{Act}
use Rattle.merge_model.specs.Judge.{PublisherJudge}
use Rattle.merge_model.specs.Tables.Keys.{at_number, put_number}
use Rattle.merge_model.specs.Publisher.{at_moment, last_closed, no_state, state_of, tables_after_close}
use Rattle.merge_model.specs.Publisher.PublisherDownload.{in_step, state_after_download, tables_after_download}
use Rattle.merge_model.specs.Publisher.PublisherJoin.{join_taken, joined_state}
use Rattle.merge_model.specs.Publisher.PublisherPurge.{after_purge, cutoff}
use Rattle.merge_model.specs.Publisher.PublisherUpload.{state_seeing, taken_in, with_acts, with_taken}
use Rattle.merge_model.specs.Tables.{PublisherTables}
use Rattle.merge_model.proofs.Publishers.Sorted.{closed_filling-rises}
use Rattle.merge_laws.specs.Facts.Purges.{AllClosings, ClosedInOrder, SiteInStep, StateInStep, AllInStep, InStep, IsInStep, base_in}
use Rattle.merge_model.proofs.Lists.Finding.{all-weaker, at_put_other, at_put_same}
use Rattle.merge_model.proofs.Lists.{all-both, all-of}
use Rattle.merge_laws.proofs.Purges.PurgeLists.{moved-in-order, moved-in-step, purged-in-order, purged-in-step, order-later, step-later, closed_at, found-been, found-before, if-put, if-weaker, if-map}

-- The moment rises.
pub moment-in-step : (moment : Moment) (p : PublisherTables) (bases : List (ℕ × ℕ)) → IsInStep moment.0 p bases → IsInStep moment.0 (at_moment moment p) bases
moment-in-step moment p bases s =
    let up : p.latest.0 ≤ max moment.0 p.latest.0 = omega arith in
    record {
      been = omega (arith, s.been);
      closings = order-later p.latest.0 (max moment.0 p.latest.0) p.gens up s.closings;
      sites = λ n. if-weaker (StateInStep p.latest.0 p.gens (base_in bases n)) (StateInStep (max moment.0 p.latest.0) p.gens (base_in bases n))
          (λ state f. step-later p.latest.0 (max moment.0 p.latest.0) p.gens (base_in bases n) state.watermark state.last_sync up f) (at_number p.sites n) (s.sites n);
    }

pub passed-in-step : (moment after latest : ℕ) (book : Book) (sites : List (ℕ × SiteState)) (bases : List (ℕ × ℕ)) → moment ≤ after → InStep moment latest book sites bases → InStep after latest book sites bases
passed-in-step moment after latest book sites bases up s = record { been = omega (arith, s.been, up); closings = s.closings; sites = s.sites }

-- Generations close.
moved-all : (moment : ℕ) (latest : Moment) (book : Book) (filling : Filling) (sites : List (ℕ × SiteState)) (bases : List (ℕ × ℕ)) → book.filling.last_closed ≤ filling.last_closed
    → InStep moment latest.0 book sites bases → InStep moment latest.0 (moved_to book filling latest) sites bases
moved-all moment latest book filling sites bases up s = record {
  been = s.been;
  closings = moved-in-order latest.0 book filling latest refl up s.closings;
  sites = λ n. if-weaker (StateInStep latest.0 book (base_in bases n)) (StateInStep latest.0 (moved_to book filling latest) (base_in bases n))
      (λ state f. moved-in-step latest.0 book filling latest refl up (base_in bases n) state.watermark state.last_sync f) (at_number sites n) (s.sites n);
}

pub entered-in-step : (moment count : ℕ) (latest : Moment) (book : Book) (sites : List (ℕ × SiteState)) (bases : List (ℕ × ℕ)) → InStep moment latest.0 book sites bases → InStep moment latest.0 (book_after_entries book count latest) sites bases
entered-in-step moment count latest book sites bases s = moved-all moment latest book (fill.filled_by book.filling count) sites bases (omega arith) s

pub closed-in-step : (moment : ℕ) (p : PublisherTables) (bases : List (ℕ × ℕ)) → IsInStep moment p bases → IsInStep moment (tables_after_close p) bases
closed-in-step moment p bases s = moved-all moment p.latest p.gens (fill.filling_after_close p.gens.filling) p.sites bases (closed_filling-rises p.gens.filling) s

-- A purge.
pub purge-in-step : (moment : ℕ) (publication : Publication) (p : PublisherTables) (bases : List (ℕ × ℕ)) → IsInStep moment p bases → IsInStep moment (after_purge publication p) bases
purge-in-step moment publication p bases s =
    let until : Moment = cutoff publication p in
    record {
      been = s.been;
      closings = purged-in-order p.latest.0 p.gens until s.closings;
      sites = λ n. if-weaker (StateInStep p.latest.0 p.gens (base_in bases n)) (StateInStep p.latest.0 (book_after_purge p.gens until) (base_in bases n))
          (λ state f. purged-in-step p.latest.0 p.gens until (base_in bases n) state.watermark state.last_sync f) (at_number p.sites n) (s.sites n);
    }

-- An upload moves neither watermarks nor when sites were in step.

pub if-entry : (Q : ℕ × SiteState → Type 0) (b : Bool) (x y : ℕ × SiteState) → Q x → Q y → Q (if b then x else y)
if-entry Q true x y first second = first
if-entry Q false x y first second = second

abbrev pub taken_entry : Upload → ℕ × SiteState → ℕ × SiteState
taken_entry m entry = if entry.0 == m.site.0 then (entry.0, record entry.1 { received = m.to; received_number = m.through }) else entry

pub taken-sites : (latest : ℕ) (book : Book) (m : Upload) (acts : List Act) (sites : List (ℕ × SiteState)) (bases : List (ℕ × ℕ)) → AllInStep latest book sites bases → AllInStep latest book (with_taken m (map (state_seeing acts) sites)) bases
taken-sites latest book m acts sites bases all n =
    let P : SiteState → Type 0 = StateInStep latest book (base_in bases n) in
    if-map P (taken_entry m)
    (λ e. if-entry (λ (x : ℕ × SiteState). x.0 ≡ e.0) (e.0 == m.site.0) (e.0, record e.1 { received = m.to; received_number = m.through }) e refl refl)
    (λ e f. if-entry (λ (x : ℕ × SiteState). P x.1) (e.0 == m.site.0) (e.0, record e.1 { received = m.to; received_number = m.through }) e f f)
    n (map (state_seeing acts) sites)
    (if-map P (state_seeing acts) (λ e. refl) (λ e f. f) n sites (all n))

pub taken-in-step : (moment : ℕ) (publication : Publication) (judge : PublisherJudge) (m : Upload) (acts : List Act) (p : PublisherTables) (bases : List (ℕ × ℕ)) → IsInStep moment p bases → IsInStep moment (taken_in publication judge m acts p) bases
taken-in-step moment publication judge m acts p bases s =
    let q : PublisherTables = with_acts publication m acts p in
    entered-in-step moment _ p.latest p.gens q.sites bases (record { been = s.been; closings = s.closings; sites = taken-sites p.latest.0 p.gens m acts p.sites bases s.sites })

-- A site asks: it is in step now where it has all, else up to the generation from which it asks.

state-in-step : (latest : ℕ) (book : Book) (base : ℕ) (found : Option SiteState) → IfSome found (StateInStep latest book base) → StateInStep latest book base (unwrap_or found no_state)
state-in-step latest book base None f = record { been = omega arith; since = all-of (λ (c : Closing). 0 < c.generation → base < c.generation → 0 ≤ c.moment.0) (λ c above behind. omega arith) book.closings }
state-in-step latest book base (Some state) f = f

abbrev step_by_test : Bool → ℕ → Book → ℕ → ℕ
step_by_test b latest book from = if b then latest else closed_at book.closings from

step-been : (b : Bool) (latest : ℕ) (book : Book) (from : ℕ) → ClosedInOrder latest book → step_by_test b latest book from ≤ latest
step-been true latest book from o = omega arith
step-been false latest book from o = found-been latest from book.closings o.been

is-last : (from last filled : ℕ) → ((from == last) && (filled == 0)) ≡ true → from ≡ last
is-last from last filled e = grind (arith, nat_tests, e)

step-since : (b : Bool) (latest : ℕ) (book : Book) (from : ℕ) → ((from == book.filling.last_closed) && (book.filling.filled == 0)) ≡ b → ClosedInOrder latest book
    → AllClosings (λ (c : Closing). from < c.generation → step_by_test b latest book from ≤ c.moment.0) book
step-since true latest book from e o = all-weaker (λ (c : Closing). c.generation ≤ book.filling.last_closed) (λ (c : Closing). from < c.generation → latest ≤ c.moment.0)
    (λ c low above. absurd (let same : from ≡ book.filling.last_closed = is-last from book.filling.last_closed book.filling.filled e in omega (arith, low, above, same))) book.closings o.closed
step-since false latest book from e o = found-before from book.closings book.closings o.rising

pub synced-in-step : (m : Download) (p : PublisherTables) (base : ℕ) (state : SiteState) → ClosedInOrder p.latest.0 p.gens → StateInStep p.latest.0 p.gens base state → StateInStep p.latest.0 p.gens base (state_after_download m p state)
synced-in-step m p base state o f =
    let test : Bool = (m.from == last_closed p) && (p.gens.filling.filled == 0) in
    let up : in_step m p ≤ p.latest.0 = step-been test p.latest.0 p.gens m.from o in
    record {
      been = omega (arith, f.been, up);
      since = all-both (λ (c : Closing). state.watermark < c.generation → base < c.generation → state.last_sync ≤ c.moment.0) (λ (c : Closing). m.from < c.generation → in_step m p ≤ c.moment.0)
          (λ (c : Closing). max state.watermark m.from < c.generation → base < c.generation → max state.last_sync (in_step m p) ≤ c.moment.0)
          (λ c old new above behind. (let first : state.last_sync ≤ c.moment.0 = old (omega (arith, above)) behind in
          let second : in_step m p ≤ c.moment.0 = new (omega (arith, above)) in omega (arith, first, second))) p.gens.closings f.since (step-since test p.latest.0 p.gens m.from refl o);
    }

pub asked-in-step : (moment : ℕ) (m : Download) (p : PublisherTables) (bases : List (ℕ × ℕ)) → IsInStep moment p bases → IsInStep moment (tables_after_download m p) bases
asked-in-step moment m p bases s =
    let state : SiteState = state_after_download m p (state_of p m.site) in
    closed-in-step moment (record p { sites = put_number p.sites m.site.0 state }) bases (record {
      been = s.been;
      closings = s.closings;
      sites = if-put (λ (n : ℕ). StateInStep p.latest.0 p.gens (base_in bases n)) m.site.0 state p.sites
          (synced-in-step m p (base_in bases m.site.0) (state_of p m.site) s.closings (state-in-step p.latest.0 p.gens (base_in bases m.site.0) (at_number p.sites m.site.0) (s.sites m.site.0)))
          (λ n differs. s.sites n);
    })

-- A join acts: all that has closed is at most the base.

joined-here : (latest : ℕ) (book : Book) (base : ℕ) → base ≡ book.filling.last_closed → ClosedInOrder latest book → SiteInStep latest book base 0 latest
joined-here latest book base is o = record {
  been = omega arith;
  since = all-weaker (λ (c : Closing). c.generation ≤ book.filling.last_closed) (λ (c : Closing). 0 < c.generation → base < c.generation → latest ≤ c.moment.0)
      (λ c low above behind. absurd (omega (arith, low, behind, is))) book.closings o.closed;
}

pub joined-in-step : (moment : ℕ) (m : Join) (p : PublisherTables) (bases : List (ℕ × ℕ)) → IsInStep moment p bases → IsInStep moment (join_taken m p) (put_number bases m.site.0 (last_closed p))
joined-in-step moment m p bases s =
    let state : SiteState = joined_state m p.latest (state_of p m.site) in
    let after : List (ℕ × ℕ) = put_number bases m.site.0 (last_closed p) in
    let put : base_in after m.site.0 ≡ last_closed p = ap (λ (found : Option ℕ). unwrap_or found 0) (at_put_same m.site.0 (last_closed p) bases) in
    record {
      been = s.been;
      closings = s.closings;
      sites = if-put (λ (n : ℕ). StateInStep p.latest.0 p.gens (base_in after n)) m.site.0 state p.sites (joined-here p.latest.0 p.gens (base_in after m.site.0) put s.closings)
          (λ n differs. subst (λ (base : ℕ). IfSome (at_number p.sites n) (StateInStep p.latest.0 p.gens base)) (sym (ap (λ (found : Option ℕ). unwrap_or found 0) (at_put_other m.site.0 n (last_closed p) bases differs))) (s.sites n));
    }

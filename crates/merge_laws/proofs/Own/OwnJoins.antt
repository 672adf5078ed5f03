-- A join, and a purge, keep what is known of own changes: less counts after a join, and a purge takes pasts of the publisher alone.
use Rattle.std.specs.Prelude.{◌≡◌, ◌==◌, ◌+◌, ◌∷◌, ℕ, List, [], true, refl, flat_map, map}
use Rattle.std.specs.List.{fold}
use Rattle.std.proofs.Common.{arith, subst, sym, ◌∙◌}
use Rattle.merge_schema.specs.declared.publication.Publication.{Publication}
use Rattle.merge_batch.specs.declared.reply.Reply.TheVariants as reply
use Rattle.merge_batch.specs.declared.request.Join.{Join}
use Rattle.merge_batch.specs.declared.request.Request.TheVariants as request
use Rattle.merge_model.specs.Judge.ByHistory.{by_past}
use Rattle.merge_model.specs.History.{History, Line, Past, pasts_with}
use Rattle.merge_model.specs.Judge.{PublisherJudge}
use Rattle.merge_model.specs.Tables.Keys.{put_number}
use Rattle.merge_model.specs.History.Model.{Model}
use Rattle.merge_model.specs.History.Noting
use Rattle.merge_model.specs.Tables.Publications.{by_site}
use Rattle.merge_model.specs.Publisher.{last_closed}
use Rattle.merge_model.specs.Publisher.PublisherJoin.{join_acts, join_taken}
use Rattle.merge_model.specs.Publisher.PublisherPurge.{purge}
use Rattle.merge_types.specs.declared.row_key.RowKey.{RowKey as Key}
use Rattle.merge_model.specs.Tables.{PublisherTables}
use Rattle.merge_model.specs.World.{World, with_publisher}
use Rattle.merge_model.specs.declared.letter.Message.TheVariants.{Asks, Replies}
use Rattle.merge_laws.specs.Facts.LineagesStand.{KnowsAll, is_of}
use Rattle.merge_laws.proofs.Received.Arrivals.{joined-rises}
use Rattle.merge_laws.proofs.Accepted.GivenUp.{counts-before, join-numbers, stays-where}
use Rattle.merge_laws.proofs.Runs.Ground.{Ground}
use Rattle.merge_laws.proofs.Received.MessageFacts.{acts-later}
use Rattle.merge_laws.proofs.Own.OwnParts.{NoneNew, Rest, at_model, replies-on, same-grows, uploads-on}
use Rattle.merge_laws.proofs.Own.OwnPasts.{SameBut, lines-on, past-but, put-but}
use Rattle.merge_laws.proofs.Own.OwnQuiet.{AnyLetter, any-letters, posted, quiet}
use Rattle.merge_laws.proofs.Received.Subscribing.{number-decided}
use Rattle.merge_laws.proofs.Walking.{Sends, comes, here, join_noted}

-- A join.

pub join-kept : (publication : Publication) (w : World) (h : History) (number : ℕ) (m : Join) → Ground publication w h → Rest w h → comes w number m.site (Asks (request.Join m)) → join_acts m w.publisher ≡ true
    → Sends Rest m.site (Replies (reply.Joined (record { seq = m.seq }))) (with_publisher (join_taken m (here w)) w) (join_noted (by_past h (pasts_with h number)) m w.publisher h)
join-kept publication w h number m g p at acts =
    let judge : PublisherJudge = by_past h (pasts_with h number) in
    let q : PublisherTables = join_taken m (here w) in
    let v : World = with_publisher q w in
    let done : History = Noting.with_done m.site.0 0 m.generation h in
    let based : History = record done { bases = put_number h.bases m.site.0 (last_closed w.publisher) } in
    posted v (join_noted judge m w.publisher h) m.site (Replies (reply.Joined (record { seq = m.seq }))) tt tt
    (lines-on (λ (k : History). Rest v k) (map (Noting.gone_line (last_closed w.publisher + 1)) (map (Noting.gone_for m.site) (Noting.left_rows judge m.site))) based
    (λ others. (let k : History = record based { lines = others } in
    quiet w h q w.tallies w.moment done.done others based.bases
    (counts-before w v h k (stays-where w.publisher q h k (join-numbers w h number m g.received g.numbered at acts) refl))
    (λ site. joined-rises m (here w) site (site.0 == m.site.0) (number-decided site.0 m.site.0) (acts-later m w.publisher acts)) p)))

-- A purge.

purged-on : (P : History → Type 0) (keys : List Key) (h : History) → ((pasts : List (ℕ × List (Key × Past))) (purged : List Key) → SameBut 0 h.pasts pasts → P (record h { pasts = pasts; purged = purged })) → P (fold Noting.with_purged h keys)
purged-on P [] h each = each h.pasts h.purged (λ n differs. refl)
purged-on P (key ∷ keys) h each = purged-on P keys (Noting.with_purged h key) (λ pasts purged same. each pasts purged (λ n differs. same n differs ∙ put-but 0 _ h.pasts h.pasts (λ i apart. refl) n differs))

taken-kept : (w : World) (h : History) (q : PublisherTables) (pasts : List (ℕ × List (Key × Past))) (purged : List Key) (lines : List Line) → q.sites ≡ w.publisher.sites → SameBut 0 h.pasts pasts → Rest (with_publisher q w) h → Rest (with_publisher q w) (record h { pasts = pasts; purged = purged; lines = lines })
taken-kept w h q pasts purged lines same but p =
    let v : World = with_publisher q w in
    let k : History = record h { pasts = pasts; purged = purged; lines = lines } in
    let m : Model = at_model v h in
    let n : Model = at_model v k in
    record {
      making = p.making;
      own = λ site s key low at held. subst (λ (y : Past). KnowsAll n key (is_of site) y.known) (sym (past-but 0 h k but site key (λ none. omega (arith, low, none)))) (p.own site s key low at held);
      uploads = uploads-on m n NoneNew (same-grows h.made) (λ c is. is) AnyLetter (λ site. omega arith) (λ site u c fits new own up. absurd new) (λ site r c fits new own up. absurd new) w.pool h.letters (any-letters w.pool) p.uploads;
      replies = replies-on m n NoneNew (same-grows h.made) (λ c is. is) AnyLetter (λ site. omega arith) (λ site u c fits new own up. absurd new) (λ site r c fits new own up. absurd new) w.pool h.letters (any-letters w.pool) p.replies;
    }

pub purge-kept : (publication : Publication) (w : World) (h : History) (judge : PublisherJudge) → Rest w h → Rest (with_publisher (purge publication w.moment w.publisher).0 w) (Noting.noted_purge publication judge (here w) h)
purge-kept publication w h judge p =
    let q : PublisherTables = (purge publication w.moment w.publisher).0 in
    let v : World = with_publisher q w in
    let keys : List Key = Noting.old_tombstones publication (here w) in
    let base : Rest v h = quiet w h q w.tallies w.moment h.done h.lines h.bases (λ c is. is) (λ site. omega arith) p in
    lines-on (λ (k : History). Rest v k) (map (Noting.gone_line (last_closed (here w) + 1)) (flat_map (Noting.old_left publication judge (here w)) (map Noting.site_of_subscription (by_site publication)))) (fold Noting.with_purged h keys)
    (λ others. purged-on (λ (k : History). Rest v (record k { lines = others })) keys h (λ pasts purged but. taken-kept w h q pasts purged others refl but base))

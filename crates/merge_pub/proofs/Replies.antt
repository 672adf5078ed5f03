-- The reply to a download, by its parts.
use Rattle.std.specs.Prelude.{◌≡◌, ℕ, List, filter, map}
use Rattle.std.proofs.Common.{ap, ◌∙◌}
use Rattle.merge_batch.specs.declared.reply.Downloaded.{Downloaded}
use Rattle.merge_batch.specs.declared.reply.DownloadItem.{DownloadItem}
use Rattle.merge_batch.specs.declared.request.Download.{Download}
use Rattle.merge_schema.specs.declared.publication.Publication.{Publication}
use Rattle.merge_model.specs.Judge.ByNumbers.{by_numbers}
use Rattle.merge_model.specs.Publisher.{last_closed, tables_after_close}
use Rattle.merge_model.specs.Publisher.PublisherDownload.{batch_end, is_between, item_of, reply_to, touched_rows}
use Rattle.merge_model.specs.Tables.{PublisherTables}
use Rattle.merge_pub.specs.Touches.{touched_up_to}

pub replied : (publication : Publication) (p : PublisherTables) (m : Download) (last received to : ℕ) (items : List DownloadItem) → last ≡ last_closed (tables_after_close p) → received ≡ (by_numbers p).received m.site.0
    → to ≡ batch_end (touched_up_to publication p m.site m.from) m.from last → items ≡ map (item_of p) (filter (is_between m.from to) (touched_rows publication (by_numbers p) m.site p))
    → (let reply : Downloaded = record { seq = m.seq; from = m.from; to = to; last = last; received = received; items = items } in reply ≡ reply_to publication (by_numbers p) m (tables_after_close p))
replied publication p m last received to items ends took reaches are =
    ap (λ (is : List DownloadItem). (let reply : Downloaded = record { seq = m.seq; from = m.from; to = to; last = last; received = received; items = is } in reply)) are
    ∙ ap (λ (t : ℕ). (let reply : Downloaded = record { seq = m.seq; from = m.from; to = t; last = last; received = received; items = map (item_of p) (filter (is_between m.from t) (touched_rows publication (by_numbers p) m.site p)) } in reply))
    (reaches ∙ ap (batch_end (touched_up_to publication p m.site m.from) m.from) ends)
    ∙ ap (λ (l : ℕ). (let reply : Downloaded = record {
      seq = m.seq;
      from = m.from;
      to = batch_end (touched_up_to publication p m.site m.from) m.from (last_closed (tables_after_close p));
      last = l;
      received = received;
      items = map (item_of p) (filter (is_between m.from (batch_end (touched_up_to publication p m.site m.from) m.from (last_closed (tables_after_close p)))) (touched_rows publication (by_numbers p) m.site p));
    } in reply)) ends
    ∙ ap (λ (r : ℕ). (let reply : Downloaded = record {
      seq = m.seq;
      from = m.from;
      to = batch_end (touched_up_to publication p m.site m.from) m.from (last_closed (tables_after_close p));
      last = last_closed (tables_after_close p);
      received = r;
      items = map (item_of p) (filter (is_between m.from (batch_end (touched_up_to publication p m.site m.from) m.from (last_closed (tables_after_close p)))) (touched_rows publication (by_numbers p) m.site p));
    } in reply)) took

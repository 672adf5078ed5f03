-- Every step adds the same rows to a conflict table and to what the history has as lost.
use Rattle.std.specs.Prelude.{◌≡◌, ◌==◌, ◌+◌, ℕ, List, Option, Some, None, refl, flat_map, map}
use Rattle.std.specs.List.{fold}
use Rattle.std.proofs.Common.{sym, ap, ◌∙◌}
use Rattle.merge_types.specs.declared.changes.Change.{Change}
use Rattle.merge_types.specs.declared.identifiers.Dot.{Dot}
use Rattle.merge_types.specs.declared.identifiers.Moment.{Moment}
use Rattle.merge_types.specs.declared.identifiers.SiteId.{SiteId}
use Rattle.merge_types.specs.declared.values.Value.{Value}
use Rattle.merge_units.specs.declared.version.Version.{Version}
use Rattle.merge_conflict.specs.declared.row.ConflictRow.{ConflictRow}
use Rattle.merge_ident.specs.Holders.{Holder}
use Rattle.merge_schema.specs.declared.publication.Publication.{Publication}
use Rattle.merge_batch.specs.declared.reply.Reply.{Reply}
use Rattle.merge_batch.specs.declared.reply.Reply.TheVariants as reply
use Rattle.merge_batch.specs.declared.request.Join.{Join}
use Rattle.merge_batch.specs.declared.request.Outstanding.TheVariants as ask
use Rattle.merge_batch.specs.declared.request.Upload.{Upload}
use Rattle.merge_batch.specs.declared.request.Request.TheVariants as request
use Rattle.merge_model.specs.Publisher.Acts.{Act, lost_from}
use Rattle.merge_model.specs.Judge.ByHistory.{by_made, by_past}
use Rattle.merge_model.specs.Tables.Changes.{key_of, version_after}
use Rattle.merge_model.specs.Publisher.Entries.{Entries}
use Rattle.merge_model.specs.History.{History, Line, Past, no_history, pasts_with}
use Rattle.merge_model.specs.Judge.{PublisherJudge, SubscriberJudge}
use Rattle.merge_model.specs.Tables.Keys.{at_number, put_number}
use Rattle.merge_model.specs.History.Model.{Model, model_step}
use Rattle.merge_model.specs.History.Noting
use Rattle.merge_model.specs.Laws.Promises.{key_of_conflict}
use Rattle.merge_model.specs.Tables.Publications.{by_site}
use Rattle.merge_model.specs.Publisher.{last_closed, tables_after_close}
use Rattle.merge_model.specs.Publisher.PublisherDownload.{reply_to, tables_after_download}
use Rattle.merge_model.specs.Publisher.PublisherJoin.{join_taken}
use Rattle.merge_model.specs.Publisher.PublisherLocal.{Drawn, made_locally, next_dot}
use Rattle.merge_model.specs.Publisher.PublisherPurge.{purge}
use Rattle.merge_model.specs.Publisher.PublisherRanges.{plans, reply_to_ranges, with_grants}
use Rattle.merge_model.specs.Publisher.PublisherUpload.{taken_in}
use Rattle.merge_model.specs.Subscriber.Reinit.{discarded_rows_from, discarded_versions, result_of_reinit}
use Rattle.merge_model.specs.Subscriber.Sending.{join_of, upload_sent, want_of, with_message}
use Rattle.merge_model.specs.World.Steps.{Action}
use Rattle.merge_model.specs.Subscriber.{subscriber_at_moment, subscriber_closed, subscriber_last_closed, subscriber_made_locally, subscriber_next_dot, subscriber_version_at, with_version_if}
use Rattle.merge_types.specs.declared.row_key.RowKey.{RowKey as Key}
use Rattle.merge_model.specs.Tables.{PublisherTables, SubscriberTables}
use Rattle.merge_model.specs.Subscriber.Taking.{tables_after_reply}
use Rattle.merge_model.specs.World.{Saying, World, empty_world, subscriber_at, with_publisher, with_subscriber}
use Rattle.merge_model.specs.declared.letter.Message.TheVariants.{Asks, Replies}
use Rattle.merge_model.specs.declared.letter.Message.{Message}
use Rattle.merge_laws.specs.Invariants.TablesAgree.{TableAgrees, TablesAgree, keys_lost}
use Rattle.merge_model.proofs.Lists.Finding.{found-named}
use Rattle.merge_laws.proofs.Runs.Ground.{Ground}
use Rattle.merge_laws.proofs.Received.Models.{begins-with}
use Rattle.merge_laws.proofs.Received.Subscribing.{number-decided, version-conflicts}
use Rattle.merge_laws.proofs.ConflictTables.TableRows.{acts-lose, agrees-more, discarded-lose, lines-lost, purged-lost, reply-lost, same-lost}
use Rattle.merge_laws.proofs.Told.ToldSites.{put-here}
use Rattle.merge_laws.proofs.Unsent.UnsentKept.{reply-site, version-site}
use Rattle.merge_laws.proofs.Walking.{Sends, StepsKeep, acts_in, here, join_noted, own_noted, step-keeps, told_by, uploaded_world}

abbrev NoFact : Key → Version → Past → Type 0
NoFact key version past = Unit {0}

-- The publisher goes on, or a subscriber, with its table.

publisher-goes : (w : World) (h k : History) (q : PublisherTables) → at_number w.subscribers 0 ≡ None → TableAgrees 0 k q.conflicts → ((m : ℕ) → (m ≡ 0 → ⊥) → keys_lost k m ≡ keys_lost h m) → TablesAgree w h → TablesAgree (with_publisher q w) k
publisher-goes w h k q none new others t = record {
  publisher = new;
  subscribers = λ n s at. t.subscribers n s at ∙ sym (others n (found-named w.subscribers n s none at));
}

subscriber-goes : (w : World) (h k : History) (n : ℕ) (s : SubscriberTables) → (n ≡ 0 → ⊥) → TableAgrees n k s.conflicts → ((m : ℕ) → (m ≡ n → ⊥) → keys_lost k m ≡ keys_lost h m) → TablesAgree w h
    → TablesAgree (record w { subscribers = put_number w.subscribers n s }) k
subscriber-goes w h k n s named new others t = record {
  publisher = t.publisher ∙ sym (others 0 (λ is. named (sym is)));
  subscribers = λ m v at. put-here NoFact w n s (λ (j : ℕ) (x : SubscriberTables). TableAgrees j k x.conflicts) m v (m == n) (number-decided m n) new (λ differs there. t.subscribers m v there ∙ sym (others m differs)) at;
}

-- Where nothing is lost and no table changes.

publisher-stays : (w : World) (h k : History) (q : PublisherTables) → q.conflicts ≡ w.publisher.conflicts → k.lost ≡ h.lost → TablesAgree w h → TablesAgree (with_publisher q w) k
publisher-stays w h k q same lost t = record {
  publisher = ap (λ (rows : List ConflictRow). map key_of_conflict rows) same ∙ t.publisher ∙ sym (same-lost k h 0 lost);
  subscribers = λ n s at. t.subscribers n s at ∙ sym (same-lost k h n lost);
}

subscriber-stays : (w : World) (h k : History) (s v : SubscriberTables) → subscriber_at w s.site ≡ Some s → v.site.0 ≡ s.site.0 → v.conflicts ≡ s.conflicts → k.lost ≡ h.lost → TablesAgree w h → TablesAgree (with_subscriber v w) k
subscriber-stays w h k s v at site same lost t =
    let there : at_number w.subscribers v.site.0 ≡ Some s = ap (λ (n : ℕ). at_number w.subscribers n) site ∙ at in record {
      publisher = t.publisher ∙ sym (same-lost k h 0 lost);
      subscribers = λ m x found. put-here NoFact w v.site.0 v (λ (j : ℕ) (y : SubscriberTables). TableAgrees j k y.conflicts) m x (m == v.site.0) (number-decided m v.site.0)
          (ap (λ (rows : List ConflictRow). map key_of_conflict rows) same ∙ t.subscribers v.site.0 s there ∙ sym (same-lost k h v.site.0 lost)) (λ differs found. t.subscribers m x found ∙ sym (same-lost k h m lost)) found;
    }

world-stays : (w v : World) (h : History) → v.publisher ≡ w.publisher → v.subscribers ≡ w.subscribers → TablesAgree w h → TablesAgree v h
world-stays w v h publisher subscribers t = record {
  publisher = ap (λ (p : PublisherTables). map key_of_conflict p.conflicts) publisher ∙ t.publisher;
  subscribers = λ n s at. t.subscribers n s (ap (λ (es : List (ℕ × SubscriberTables)). at_number es n) (sym subscribers) ∙ at);
}

letter-goes : (w : World) (h : History) (site : SiteId) (message : Message) → TablesAgree w h → Sends TablesAgree site message w h
letter-goes w h site message t = record { publisher = t.publisher; subscribers = t.subscribers }

-- the table of a subscriber stays where a reply is taken
reply-conflicts : (judge : SubscriberJudge) (now : Moment) (m : Reply) (s : SubscriberTables) → (tables_after_reply judge now m s).conflicts ≡ s.conflicts
reply-conflicts judge now (reply.Joined m) s = refl
reply-conflicts judge now (reply.Uploaded m) s = refl
reply-conflicts judge now (reply.Ranged m) s = refl
reply-conflicts judge now (reply.Downloaded m) s = refl
reply-conflicts judge now (reply.Refused code values) s = refl

module _ (publication : Publication) (says : Saying) (w : World) (h : History) (b : Ground publication w h) (t : TablesAgree w h) where
  own-change : (change : Change) (d : Drawn) → (let judge : PublisherJudge = by_past h (pasts_with h 0) in TablesAgree (with_publisher (made_locally publication judge change d (here w)).0 w) (own_noted publication judge change d (here w) h))
  own-change change d =
      let judge : PublisherJudge = by_past h (pasts_with h 0) in
      let p : PublisherTables = here w in
      publisher-stays w h (own_noted publication judge change d p h) (made_locally publication judge change d p).0 refl
      (lines-lost (Noting.lines_of_entries (last_closed p + 1) (Noting.drawn_entries publication judge change p d)) (Noting.with_change publication (next_dot p) (last_closed p + 1) change d.value h)) t

  forgets : TablesAgree (with_publisher (purge publication w.moment w.publisher).0 w) (Noting.noted_purge publication (by_past h (pasts_with h 0)) (here w) h)
  forgets =
      let judge : PublisherJudge = by_past h (pasts_with h 0) in
      let p : PublisherTables = here w in
      let keys : List Key = Noting.old_tombstones publication p in
      let lines : List Line = map (Noting.gone_line (last_closed p + 1)) (flat_map (Noting.old_left publication judge p) (map Noting.site_of_subscription (by_site publication))) in
      publisher-stays w h (Noting.noted_purge publication judge p h) (purge publication w.moment w.publisher).0 refl (lines-lost lines (fold Noting.with_purged h keys) ∙ purged-lost keys h) t

  joins : (number : ℕ) (m : Join) → TablesAgree (with_publisher (join_taken m (here w)) w) (join_noted (by_past h (pasts_with h number)) m w.publisher h)
  joins number m =
      let judge : PublisherJudge = by_past h (pasts_with h number) in
      let k : History = record (Noting.with_done m.site.0 0 m.generation h) { bases = put_number h.bases m.site.0 (last_closed w.publisher) } in
      publisher-stays w h (join_noted judge m w.publisher h) (join_taken m (here w)) refl
      (lines-lost (map (Noting.gone_line (last_closed w.publisher + 1)) (map (Noting.gone_for m.site) (Noting.left_rows judge m.site))) k) t

  uploads : (number : ℕ) (m : Upload) → (let judge : PublisherJudge = by_past h (pasts_with h number) in
      TablesAgree (with_publisher (taken_in publication judge m (acts_in publication says judge m w) (here w)) w) (Noting.with_acts_noted publication judge m (acts_in publication says judge m w) (pasts_with h number) (here w) h))
  uploads number m =
      let incoming : List (Key × Past) = pasts_with h number in
      let judge : PublisherJudge = by_past h incoming in
      let p : PublisherTables = here w in
      let acts : List Act = acts_in publication says judge m w in
      let q : PublisherTables = taken_in publication judge m acts p in
      let entries : Entries = Noting.acts_entries publication judge m acts p in
      let k : History = fold (Noting.with_act incoming entries) h acts in
      let after : History = Noting.with_acts_noted publication judge m acts incoming p h in
      let loses = acts-lose publication m.site p.latest incoming entries (p.conflict_count + 1) acts h in
      let lost : after.lost ≡ k.lost = lines-lost (Noting.lines_of_entries (last_closed p + 1) entries) k in
      publisher-goes w h after q b.none (agrees-more 0 h k p.conflicts (lost_from publication m.site p.latest (p.conflict_count + 1) acts) loses t.publisher ∙ sym (same-lost after k 0 lost)) (λ m differs. same-lost after k m lost ∙ loses.others m differs) t

  -- A subscriber.
  module _ (s : SubscriberTables) (at : subscriber_at w s.site ≡ Some s) where
    stays : (v : SubscriberTables) → v.site.0 ≡ s.site.0 → v.conflicts ≡ s.conflicts → TablesAgree (with_subscriber v w) h
    stays v site same = subscriber-stays w h h s v at site same refl t

    sub-change : (change : Change) (d : Value × List (ℕ × Holder)) → TablesAgree (with_subscriber (subscriber_made_locally publication change d (subscriber_at_moment w.moment s)).0 w) (Noting.with_change publication (subscriber_next_dot s) (subscriber_last_closed s + 1) change d.0 h)
    sub-change change d =
        let dot : Dot = subscriber_next_dot s in
        let key : Key = key_of dot change in
        let u : SubscriberTables = record (subscriber_at_moment w.moment s) { changes = s.changes + 1; held = d.1 } in
        let version : Option Version = version_after publication dot d.0 change (subscriber_version_at s key) in
        subscriber-stays w h (Noting.with_change publication dot (subscriber_last_closed s + 1) change d.0 h) s (with_version_if key version u) at (version-site key version u) (version-conflicts key version u) refl t

    anew : (let judge : SubscriberJudge = by_made h s.site in TablesAgree (with_subscriber (result_of_reinit judge (subscriber_at_moment w.moment s)).0 w) (Noting.noted_anew judge s h))
    anew =
        let judge : SubscriberJudge = by_made h s.site in
        let c : SubscriberTables = subscriber_at_moment w.moment s in
        let rows : List ConflictRow = discarded_rows_from c (c.conflict_count + 1) (discarded_versions judge c) in
        let loses = discarded-lose c s.site (c.conflict_count + 1) (discarded_versions judge c) h in
        let after : History = fold (Noting.with_discarded s.site) h (discarded_versions judge c) in
        subscriber-goes w h (Noting.noted_anew judge s h) s.site.0 (result_of_reinit judge c).0 (found-named w.subscribers s.site.0 s b.none at)
        (agrees-more s.site.0 h after s.conflicts rows loses (t.subscribers s.site.0 s at)) loses.others t

    replies : (number : ℕ) (m : Reply) → (let judge : SubscriberJudge = by_made h s.site in TablesAgree (with_subscriber (tables_after_reply judge w.moment m s) w) (Noting.noted_reply judge s.site (pasts_with h number) m h))
    replies number m =
        let judge : SubscriberJudge = by_made h s.site in
        subscriber-stays w h (Noting.noted_reply judge s.site (pasts_with h number) m h) s (tables_after_reply judge w.moment m s) at (reply-site judge w.moment m s) (reply-conflicts judge w.moment m s) (reply-lost judge s.site (pasts_with h number) m h) t

pub tables-keep : (publication : Publication) (says : Saying) → StepsKeep publication says (Ground publication) TablesAgree
tables-keep publication says = record {
  moment = λ w h now b t. world-stays w (record w { moment = now }) h refl refl t;
  own_change = λ w h change d b t fine is. own-change publication says w h b t change d;
  own_closing = λ w h b t. publisher-stays w h h (tables_after_close (here w)) refl refl t;
  forgetting = λ w h b t. forgets publication says w h b t;
  same = λ w h s b t at. stays publication says w h b t s at s refl refl;
  subscriber_change = λ w h s change d b t at named fine is. sub-change publication says w h b t s at change d;
  subscriber_closing = λ w h s b t at. stays publication says w h b t s at (subscriber_closed (subscriber_at_moment w.moment s)) refl refl;
  anew = λ w h s b t at. anew publication says w h b t s at;
  sends_join = λ w h s b t at joining. letter-goes (with_subscriber (with_message ask.Join s) w) h s.site (Asks (request.Join (join_of s))) (stays publication says w h b t s at (with_message ask.Join s) refl refl);
  sends_upload = λ w h s b t at fine. (let made : SubscriberTables × Upload = upload_sent (by_made h s.site) (subscriber_closed (subscriber_at_moment w.moment s)) in
      letter-goes (with_subscriber made.0 w) h s.site (Asks (request.Upload made.1)) (stays publication says w h b t s at made.0 refl refl));
  sends_ranges = λ w h s b t at fine. (let v : SubscriberTables = with_message ask.Ranges s in
      letter-goes (with_subscriber v w) h s.site (Asks (request.Ranges (record { site = s.site; seq = s.seq + 1; wants = map want_of s.held }))) (stays publication says w h b t s at v refl refl));
  sends_ask = λ w h s b t at fine. (let v : SubscriberTables = with_message (ask.Download s.watermark) s in
      letter-goes (with_subscriber v w) h s.site (Asks (request.Download (record { site = s.site; seq = s.seq + 1; from = s.watermark }))) (stays publication says w h b t s at v refl refl));
  joins = λ w h number m b t at fine acts. letter-goes (with_publisher (join_taken m (here w)) w) (join_noted (by_past h (pasts_with h number)) m w.publisher h) m.site (Replies (reply.Joined (record { seq = m.seq }))) (joins publication says w h b t number m);
  joins_again = λ w h number m b t at acts. letter-goes (with_publisher (here w) w) h m.site (Replies (reply.Joined (record { seq = m.seq }))) (publisher-stays w h h (here w) refl refl t);
  uploads = λ w h number m b t at fine news. (let judge : PublisherJudge = by_past h (pasts_with h number) in
      let acts : List Act = acts_in publication says judge m w in
      let q : PublisherTables = taken_in publication judge m acts (here w) in
      let k : History = Noting.with_acts_noted publication judge m acts (pasts_with h number) (here w) h in
      let v : World = uploaded_world publication says judge m q w in
      letter-goes v k m.site (Replies (reply.Uploaded (told_by judge m))) (world-stays (with_publisher q w) v k refl refl (uploads publication says w h b t number m)));
  uploads_again = λ w h number m b t at none. (let judge : PublisherJudge = by_past h (pasts_with h number) in
      let v : World = uploaded_world publication says judge m (here w) w in
      letter-goes v h m.site (Replies (reply.Uploaded (told_by judge m))) (world-stays (with_publisher (here w) w) v h refl refl (publisher-stays w h h (here w) refl refl t)));
  answers_ranges = λ w h site m b t. (let q : PublisherTables = with_grants (plans publication m w.publisher) (here w) in
      letter-goes (with_publisher q w) h site (Replies (reply.Ranged (reply_to_ranges m (plans publication m w.publisher)))) (publisher-stays w h h q refl refl t));
  answers_ask = λ w h number site m b t at fine. (let q : PublisherTables = tables_after_download m (here w) in
      letter-goes (with_publisher q w) h site (Replies (reply.Downloaded (reply_to publication (by_past h (pasts_with h number)) m q))) (publisher-stays w h h q refl refl t));
  replies = λ w h s number m sent b t at there out none. replies publication says w h b t s at number m;
}

pub tables-step : (publication : Publication) (says : Saying) (m : Model) (action : Action) → Ground publication m.world m.history → TablesAgree m.world m.history → (let n : Model = (model_step publication says m action).0 in TablesAgree n.world n.history)
tables-step publication says m action g t = step-keeps publication says (Ground publication) TablesAgree (λ w h b. b.received) (tables-keep publication says) m action g t

pub tables-begin : (publication : Publication) (tallies : List ℕ) → TablesAgree (empty_world publication tallies) no_history
tables-begin publication tallies = record {
  publisher = refl;
  subscribers = λ n s at. begins-with publication (λ (k : ℕ) (v : SubscriberTables). TableAgrees k no_history v.conflicts) (λ k site keyed. refl) n s at;
}

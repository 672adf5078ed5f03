-- What is accepted stays so as a site takes a reply, which has what the publisher had.
use Rattle.std.specs.Prelude.{◌≡◌, ◌==◌, ◌&&◌, ◌||◌, ℕ, List, [], Bool, true, false, Some, None, refl, map}
use Rattle.std.specs.List.{AllByRecursion, fold, list_any}
use Rattle.std.proofs.Common.{arith, subst, sym, ap, ◌∙◌}
use Rattle.merge_types.specs.declared.identifiers.Dot.{Dot}
use Rattle.merge_schema.specs.declared.publication.Publication.{Publication}
use Rattle.merge_batch.specs.Makers.{maker_of}
use Rattle.merge_batch.specs.Replies.{broken_by_reply}
use Rattle.merge_batch.specs.declared.reply.Downloaded.{Downloaded}
use Rattle.merge_batch.specs.declared.reply.Reply.{Reply}
use Rattle.merge_batch.specs.declared.reply.Reply.TheVariants as reply
use Rattle.merge_batch.specs.declared.request.Outstanding.{Outstanding}
use Rattle.merge_batch.specs.declared.request.Outstanding.TheVariants as ask
use Rattle.merge_model.specs.Judge.ByHistory.{by_made}
use Rattle.merge_model.specs.Judge.ByNumbers.{received_by_number}
use Rattle.merge_model.specs.World.Faults.{reply_fault}
use Rattle.merge_model.specs.History.{History, MadeChange, Past, has, is_accepted, past_in, pasts_at, pasts_with}
use Rattle.merge_model.specs.Judge.{SubscriberJudge}
use Rattle.merge_model.specs.History.Noting
use Rattle.merge_types.specs.declared.row_key.RowKey.{RowKey as Key}
use Rattle.merge_units.specs.declared.site_row.SubscriberRow.{SubscriberRow}
use Rattle.merge_model.specs.Tables.{PublisherTables, SubscriberTables}
use Rattle.merge_model.specs.Subscriber.Taking.{row_above, seq_of, tables_after_reply}
use Rattle.merge_model.specs.World.{World, subscriber_at, with_subscriber}
use Rattle.merge_model.specs.declared.letter.Letter.{Letter}
use Rattle.merge_model.specs.declared.letter.Message.TheVariants.{Replies}
use Rattle.merge_laws.specs.Facts.Knowledge.{was_made}
use Rattle.merge_laws.specs.Facts.LineagesStand.{OthersAccepted}
use Rattle.merge_laws.specs.Invariants.Accepted.{Accepted, SendsAccepted, SendsInserts}
use Rattle.merge_laws.specs.Facts.Behind.{StaysBehind}
use Rattle.merge_laws.specs.Invariants.KnownMakers.{Ascend, KnownMakers}
use Rattle.merge_laws.specs.Facts.Received.{joined_at}
use Rattle.merge_laws.proofs.Accepted.AcceptedParts.{PastFits, SiteFits, accepted-fits, all-fit, count-on, fits-on, nothing-fits, others-zero, past-among, send-on, subscriber-accepted}
use Rattle.merge_model.proofs.Lists.Finding.{all-weaker, letter-zip}
use Rattle.merge_laws.proofs.Runs.Ground.{Ground}
use Rattle.merge_laws.proofs.Walking.NotesLeave.{items-leave}
use Rattle.merge_laws.proofs.Own.OwnItems.{InsertActed}
use Rattle.merge_laws.proofs.Pasts.PastLists.{drop-ascends, each-dropped, each-put, put-ascends}
use Rattle.merge_laws.proofs.Pasts.PastNotes.{reply-pasts}
use Rattle.merge_laws.proofs.Walking.{comes}
use Rattle.merge_laws.proofs.Pasts.WorldLists.{all-subscribers}

-- A download is not taken before the site has joined.

no-download : (publication : Publication) (m : Downloaded) (s : SubscriberTables) → reply_fault publication ask.Join (reply.Downloaded m) s ≡ None → ⊥
unfolding broken_by_reply
no-download publication m s e = grind (arith, e)

download-joined : (publication : Publication) (received joined : ℕ) (sent : Outstanding) (m : Downloaded) (s : SubscriberTables) (b : Bool) → s.is_joined ≡ b → s.outstanding ≡ Some (m.seq, sent) → reply_fault publication sent (reply.Downloaded m) s ≡ None → StaysBehind received joined s → s.is_joined ≡ true
download-joined publication received joined sent m s true is out none f = is
download-joined publication received joined sent m s false is out none f = absurd (no-download publication m s (subst (λ (o : Outstanding). reply_fault publication o (reply.Downloaded m) s ≡ None) (f.only_joins m.seq sent is out) none))

same-fits : (p : PublisherTables) (h k : History) → k.accepted ≡ h.accepted → (n : ℕ) (past : Past) → PastFits p h n past → PastFits p k n past
same-fits p h k same n past fits =
    let is : (dot : Dot) → is_accepted k dot ≡ is_accepted h dot = λ dot. ap (λ (dots : List Dot). (dot.site.0 == 0) || has dots dot) same in
    fits-on p p h k n past (λ dot was. is dot ∙ was) (λ dot counted. (let e = is dot in grind (arith, e, counted))) fits

parts-inserts : (h k : History) → k.made ≡ h.made → k.accepted ≡ h.accepted → k.done ≡ h.done → AllByRecursion (InsertActed h) h.made → AllByRecursion (InsertActed k) k.made
parts-inserts h k made accepted done all = subst (λ (x : List MadeChange). AllByRecursion (InsertActed k) x) (sym made)
    (all-weaker (InsertActed h) (InsertActed k) (λ c acted maker is named. ap (λ (x : List (ℕ × ℕ)). list_any (λ (entry : ℕ × ℕ). (entry.0 == c.dot.site.0) && (entry.1 == c.generation)) x) done
    ∙ acted maker (sym (ap (λ (dots : List Dot). (c.dot.site.0 == 0) || has dots c.dot) accepted) ∙ is) named) h.made all)

pub download-accepts : (publication : Publication) (w : World) (h : History) (s : SubscriberTables) (number : ℕ) (m : Downloaded) (sent : Outstanding) → Ground publication w h → KnownMakers w h → Accepted w h → subscriber_at w s.site ≡ Some s → comes w number s.site (Replies (reply.Downloaded m))
    → s.outstanding ≡ Some (m.seq, sent) → reply_fault publication sent (reply.Downloaded m) s ≡ None
    → (let judge : SubscriberJudge = by_made h s.site in Accepted (with_subscriber (tables_after_reply judge w.moment (reply.Downloaded m) s) w) (Noting.noted_reply judge s.site (pasts_with h number) (reply.Downloaded m) h))
download-accepts publication w h s number m sent g makers i at came out none =
    let judge : SubscriberJudge = by_made h s.site in
    let n : ℕ = s.site.0 in
    let incoming : List (Key × Past) = pasts_with h number in
    let k : History = fold (Noting.with_item_past judge m.received n incoming) h m.items in
    let t : SubscriberTables = tables_after_reply judge w.moment (reply.Downloaded m) s in
    let v : World = with_subscriber t w in
    let letter : Letter = record { site = s.site; message = Replies (reply.Downloaded m) } in
    let joins : s.is_joined ≡ true = download-joined publication (received_by_number w.publisher n) (joined_at w.publisher (record { 0 = n })) sent m s s.is_joined refl out none (g.behind.subscribers n s at) in
    let rows : AllByRecursion (λ (row : Key × Past). OthersAccepted h 0 row.1.known) incoming = letter-zip (λ (x : Letter) (pasts : List (Key × Past)). SendsAccepted h pasts x.message) w h number letter i.sent came in
    let all : (key : Key) → PastFits w.publisher h n (past_in incoming key) =
    λ key. accepted-fits w.publisher h n (past_in incoming key) (others-zero h (past_in incoming key).known (past-among (λ (past : Past). OthersAccepted h 0 past.known) (λ dot is other. absurd (grind (arith, is))) incoming rows key)) in
    let S : ℕ → List (Key × Past) → Type 0 = λ x ps. Ascend ps × SiteFits w.publisher h x ps in
    let kept : (x : ℕ) → S x (pasts_at k x) = reply-pasts S judge m.received n incoming
    (λ key ps old. (put-ascends ps key (past_in incoming key) old.0, each-put (λ (q : Key) (past : Past). PastFits w.publisher h n past) ps key (past_in incoming key) (all key) old.1))
    (λ key ps old. (drop-ascends ps key old.0, each-dropped (λ (q : Key) (past : Past). PastFits w.publisher h n past) ps key old.0 (λ q. nothing-fits w.publisher h n) old.1))
    m.items h (λ x. (makers.sorted x, all-fit w h i x)) in
    let accepted : k.accepted ≡ h.accepted = items-leave (λ (x : History). x.accepted) judge m.received n incoming (λ x pasts. refl) m.items h in
    let made : k.made ≡ h.made = items-leave (λ (x : History). x.made) judge m.received n incoming (λ x pasts. refl) m.items h in
    let letters : k.letters ≡ h.letters = items-leave (λ (x : History). x.letters) judge m.received n incoming (λ x pasts. refl) m.items h in
    let done : k.done ≡ h.done = items-leave (λ (x : History). x.done) judge m.received n incoming (λ x pasts. refl) m.items h in
    let others : (x : ℕ) → (x ≡ n → ⊥) → pasts_at k x ≡ pasts_at h x =
    reply-pasts (λ (x : ℕ) (ps : List (Key × Past)). (x ≡ n → ⊥) → ps ≡ pasts_at h x) judge m.received n incoming (λ key ps old differs. absurd (differs refl)) (λ key ps old differs. absurd (differs refl)) m.items h (λ x differs. refl) in
    let fits : (x : ℕ) (key : Key) → PastFits w.publisher k x (past_in (pasts_at k x) key) = λ x key. same-fits w.publisher h k accepted x (past_in (pasts_at k x) key) ((kept x).1 key) in
    let same : (dot : Dot) → is_accepted k dot ≡ is_accepted h dot = λ dot. ap (λ (dots : List Dot). (dot.site.0 == 0) || has dots dot) accepted in
    record {
      counts = record {
        here = λ x. (fits 0 x).0;
        there = λ x key low. (fits x key).0;
        holds = λ x key other low is. (fits x key).1 low other is;
        counts = count-on w v h k (λ site. omega arith) (λ dot counted. (let e = same dot in grind (arith, e, counted))) refl letters i.counts.counts;
        joining = all-subscribers (λ (x : ℕ) (u : SubscriberTables). u.is_joined ≡ false → u.rows ≡ []) w.subscribers n t (λ waits. absurd (grind (arith, waits, joins))) (λ x u differs found. i.counts.joining x u found);
        makers = subst (λ (x : List MadeChange). AllByRecursion (λ (change : MadeChange). (maker : Dot) → maker_of change.key.row.0 ≡ Some maker → has change.past.known maker ≡ true) x) (sym made) i.counts.makers;
        inserts = parts-inserts h k made accepted done i.counts.inserts;
      };
      bare = all-subscribers (λ (x : ℕ) (u : SubscriberTables). u.is_joined ≡ false → pasts_at k x ≡ []) w.subscribers n t (λ waits. absurd (grind (arith, waits, joins))) (λ x u differs found waits. others x differs ∙ i.bare x u found waits);
      sent = send-on w v h k (λ dot is. same dot ∙ is) refl letters i.sent;
      made = λ dot is. ap (λ (x : List MadeChange). was_made x dot) made ∙ i.made dot (sym (ap (λ (dots : List Dot). has dots dot) accepted) ∙ is);
      inserts = subst (λ (x : List MadeChange). AllByRecursion (λ (y : Letter). SendsInserts x y.message) w.pool) (sym made) i.inserts;
    }

empty-above : (received : ℕ) (rows : List (Key × SubscriberRow)) → rows ≡ [] → map (row_above received) rows ≡ []
empty-above received rows is = ap (λ (x : List (Key × SubscriberRow)). map (row_above received) x) is

pub reply-accepts : (publication : Publication) (w : World) (h : History) (s : SubscriberTables) (number : ℕ) (m : Reply) (sent : Outstanding) → Ground publication w h → KnownMakers w h → Accepted w h → subscriber_at w s.site ≡ Some s → comes w number s.site (Replies m)
    → s.outstanding ≡ Some (seq_of m, sent) → reply_fault publication sent m s ≡ None
    → (let judge : SubscriberJudge = by_made h s.site in Accepted (with_subscriber (tables_after_reply judge w.moment m s) w) (Noting.noted_reply judge s.site (pasts_with h number) m h))
reply-accepts publication w h s number (reply.Joined m) sent g makers i at came out none = subscriber-accepted w h s (tables_after_reply (by_made h s.site) w.moment (reply.Joined m) s) at refl (λ waits. absurd (grind (arith, waits))) i
reply-accepts publication w h s number (reply.Uploaded m) sent g makers i at came out none = subscriber-accepted w h s (tables_after_reply (by_made h s.site) w.moment (reply.Uploaded m) s) at refl (λ waits. (waits, λ bare. empty-above m.received s.rows bare)) i
reply-accepts publication w h s number (reply.Ranged m) sent g makers i at came out none = subscriber-accepted w h s (tables_after_reply (by_made h s.site) w.moment (reply.Ranged m) s) at refl (λ waits. (waits, λ bare. bare)) i
reply-accepts publication w h s number (reply.Downloaded m) sent g makers i at came out none = download-accepts publication w h s number m sent g makers i at came out none
reply-accepts publication w h s number (reply.Refused code values) sent g makers i at came out none = subscriber-accepted w h s (tables_after_reply (by_made h s.site) w.moment (reply.Refused code values) s) at refl (λ waits. (waits, λ bare. bare)) i

-- Steps that make no change and put no row keep what is known of own changes; and a letter is added.
use Rattle.std.specs.Prelude.{◌≡◌, ◌≤◌, ◌==◌, ◌++◌, ◌∷◌, ℕ, List, [], Bool, true, false, Some, is_some}
use Rattle.std.specs.List.{AllByRecursion}
use Rattle.std.proofs.Common.{arith, subst, sym, ap, ◌∙◌}
use Rattle.merge_types.specs.declared.identifiers.Moment.{Moment}
use Rattle.merge_types.specs.declared.identifiers.SiteId.{SiteId}
use Rattle.merge_model.specs.History.{History, Line, MadeChange, Past, past_at}
use Rattle.merge_model.specs.Tables.Keys.{at_number, put_number, row_at}
use Rattle.merge_model.specs.History.Model.{Model, pasts_in, with_letter}
use Rattle.merge_types.specs.declared.row_key.RowKey.{RowKey as Key}
use Rattle.merge_units.specs.declared.site_row.SubscriberRow.{SubscriberRow}
use Rattle.merge_model.specs.Tables.{PublisherTables, SubscriberTables}
use Rattle.merge_model.specs.World.{World, subscriber_at, with_subscriber}
use Rattle.merge_model.specs.declared.letter.Letter.{Letter}
use Rattle.merge_model.specs.declared.letter.Message.{Message}
use Rattle.merge_laws.specs.Facts.LineagesStand.{KnowsAll, ReplyAnswers, UploadSends, counts_in, is_of}
use Rattle.merge_laws.specs.Facts.Received.{joined_at}
use Rattle.merge_model.proofs.Lists.Finding.{at_put_other, at_put_same}
use Rattle.merge_model.proofs.Lists.{all-of, zip-more}
use Rattle.merge_laws.proofs.Own.OwnKnowing.{making-less}
use Rattle.merge_laws.proofs.Own.OwnParts.{NoneNew, Rest, at_model, knows-on, replies-on, reply-on, same-grows, upload-on, uploads-on}
use Rattle.merge_laws.proofs.Received.Subscribing.{number-decided, same_number}

abbrev pub AnyLetter : Letter → Type 0
AnyLetter letter = Unit {0}

pub any-letters : (pool : List Letter) → AllByRecursion AnyLetter pool
any-letters pool = all-of AnyLetter (λ letter. tt) pool

-- The publisher goes on: it has the same rows, or fewer.
pub quiet : (w : World) (h : History) (q : PublisherTables) (tallies : List ℕ) (now : Moment) (done : List (ℕ × ℕ)) (lines : List Line) (bases : List (ℕ × ℕ))
    → (let v : World = record w { publisher = q; tallies = tallies; moment = now } in let k : History = record h { done = done; lines = lines; bases = bases } in
    ((c : MadeChange) → counts_in (at_model v k) c ≡ true → counts_in (at_model w h) c ≡ true) → ((site : SiteId) → joined_at w.publisher site ≤ joined_at q site) → Rest w h → Rest v k)
quiet w h q tallies now done lines bases less joined p =
    let v : World = record w { publisher = q; tallies = tallies; moment = now } in
    let k : History = record h { done = done; lines = lines; bases = bases } in
    let m : Model = at_model w h in
    let n : Model = at_model v k in
    record {
      making = making-less h.made (counts_in m) (counts_in n) less p.making;
      own = λ site s key low at held. knows-on m n NoneNew (same-grows h.made) less key (is_of site) (past_at h site key).known (past_at h site key).known (λ dot is. is) (λ c none row is. absurd none) (p.own site s key low at held);
      uploads = uploads-on m n NoneNew (same-grows h.made) less AnyLetter joined (λ site u c fits new own up. absurd new) (λ site r c fits new own up. absurd new) w.pool h.letters (any-letters w.pool) p.uploads;
      replies = replies-on m n NoneNew (same-grows h.made) less AnyLetter joined (λ site u c fits new own up. absurd new) (λ site r c fits new own up. absurd new) w.pool h.letters (any-letters w.pool) p.replies;
    }

-- A fact of each subscriber, where one goes on.
on-at : (P : ℕ → SubscriberTables → Type 0) (subscribers : List (ℕ × SubscriberTables)) (site : ℕ) (t : SubscriberTables) → P site t → ((n : ℕ) (u : SubscriberTables) → (n ≡ site → ⊥) → at_number subscribers n ≡ Some u → P n u)
    → (n : ℕ) (u : SubscriberTables) (b : Bool) → same_number n site b → at_number (put_number subscribers site t) n ≡ Some u → P n u
on-at P subscribers site t here others n u true same found =
    let put : at_number (put_number subscribers site t) n ≡ Some t = ap (λ (k : ℕ). at_number (put_number subscribers site t) k) same ∙ at_put_same site t subscribers in
    let is_t : Some t ≡ Some u = sym put ∙ found in
    let both : t ≡ u = cc in
    subst (λ (x : SubscriberTables). P n x) both (subst (λ (k : ℕ). P k t) (sym same) here)
on-at P subscribers site t here others n u false differs found = others n u differs (sym (at_put_other site n t subscribers differs) ∙ found)

pub on-each : (P : ℕ → SubscriberTables → Type 0) (subscribers : List (ℕ × SubscriberTables)) (site : ℕ) (t : SubscriberTables) → t.site.0 ≡ site → P site t → ((n : ℕ) (u : SubscriberTables) → (n ≡ site → ⊥) → at_number subscribers n ≡ Some u → P n u)
    → (n : ℕ) (u : SubscriberTables) → at_number (put_number subscribers t.site.0 t) n ≡ Some u → P n u
on-each P subscribers site t same here others n u found =
    on-at P subscribers site t here others n u (n == site) (number-decided n site) (ap (λ (k : ℕ). at_number (put_number subscribers k t) n) (sym same) ∙ found)

-- A subscriber goes on with the same rows.

abbrev pub OwnsRows : World → History → ℕ → List (Key × SubscriberRow) → Type 0
OwnsRows w h n rows = (key : Key) → 1 ≤ n → is_some (row_at rows key) ≡ true → KnowsAll (at_model w h) key (is_of n) (past_at h n key).known

pub stays-here : (w : World) (h : History) (s t : SubscriberTables) → subscriber_at w s.site ≡ Some s → t.site.0 ≡ s.site.0 → t.rows ≡ s.rows → Rest w h → Rest (with_subscriber t w) h
stays-here w h s t at same rows p =
    let v : World = with_subscriber t w in
    let m : Model = at_model w h in
    let n : Model = at_model v h in
    let here : OwnsRows v h s.site.0 t.rows = subst (λ (es : List (Key × SubscriberRow)). OwnsRows v h s.site.0 es) (sym rows) (λ key low held. p.own s.site.0 s key low at held) in
    record {
      making = p.making;
      own = λ site u key low found held. on-each (λ (k : ℕ) (x : SubscriberTables). OwnsRows v h k x.rows) w.subscribers s.site.0 t same here (λ k x differs is key low held. p.own k x key low is held) site u found key low held;
      uploads = uploads-on m n NoneNew (same-grows h.made) (λ c is. is) AnyLetter (λ site. omega arith) (λ site u c fits new own up. absurd new) (λ site r c fits new own up. absurd new) w.pool h.letters (any-letters w.pool) p.uploads;
      replies = replies-on m n NoneNew (same-grows h.made) (λ c is. is) AnyLetter (λ site. omega arith) (λ site u c fits new own up. absurd new) (λ site r c fits new own up. absurd new) w.pool h.letters (any-letters w.pool) p.replies;
    }

-- A letter more.
pub posted : (w : World) (h : History) (site : SiteId) (message : Message) → UploadSends (at_model w h) (pasts_in h site message) message → ReplyAnswers (at_model w h) site.0 (pasts_in h site message) message → Rest w h
    → (let letter : Letter = record { site = site; message = message } in Rest (record w { pool = w.pool ++ letter ∷ [] }) (with_letter letter h))
posted w h site message sends answers p =
    let letter : Letter = record { site = site; message = message } in
    let v : World = record w { pool = w.pool ++ letter ∷ [] } in
    let k : History = with_letter letter h in
    let m : Model = at_model w h in
    let n : Model = at_model v k in
    let pasts : List (Key × Past) = pasts_in h site message in
    record {
      making = p.making;
      own = p.own;
      uploads = zip-more (λ (x : Letter) (ps : List (Key × Past)). UploadSends n ps x.message) w.pool h.letters letter pasts
          (uploads-on m n NoneNew (same-grows h.made) (λ c is. is) AnyLetter (λ at. omega arith) (λ at u c fits new own up. absurd new) (λ at r c fits new own up. absurd new) w.pool h.letters (any-letters w.pool) p.uploads)
          (upload-on m n NoneNew (same-grows h.made) (λ c is. is) AnyLetter (λ at. omega arith) (λ at u c fits new own up. absurd new) (λ at r c fits new own up. absurd new) site message pasts tt sends);
      replies = zip-more (λ (x : Letter) (ps : List (Key × Past)). ReplyAnswers n x.site.0 ps x.message) w.pool h.letters letter pasts
          (replies-on m n NoneNew (same-grows h.made) (λ c is. is) AnyLetter (λ at. omega arith) (λ at u c fits new own up. absurd new) (λ at r c fits new own up. absurd new) w.pool h.letters (any-letters w.pool) p.replies)
          (reply-on m n NoneNew (same-grows h.made) (λ c is. is) AnyLetter (λ at. omega arith) (λ at u c fits new own up. absurd new) (λ at r c fits new own up. absurd new) site message pasts tt answers);
    }

-- An upload keeps what is said of accepted changes: what its items knew is accepted, and known where the publisher holds their rows.
use Rattle.std.specs.Prelude.{◌≡◌, ◌≤◌, ◌<◌, ◌==◌, ◌+◌, ◌||◌, ℕ, List, Bool, true, false, refl, is_some}
use Rattle.std.specs.List.{AllByRecursion, fold, list_any}
use Rattle.std.proofs.Common.{arith, subst, sym, ap, ◌∙◌}
use Rattle.merge_types.specs.declared.identifiers.Dot.{Dot}
use Rattle.merge_units.specs.declared.result.Decision.{Decision}
use Rattle.merge_schema.specs.declared.publication.Publication.{Publication}
use Rattle.merge_batch.specs.declared.request.Request.TheVariants as request
use Rattle.merge_batch.specs.declared.request.Upload.{Upload}
use Rattle.merge_batch.specs.declared.request.UploadItem.{UploadItem}
use Rattle.merge_model.specs.Publisher.Acts.{Act, acting_items, changes_by, is_new_row, key_of_item}
use Rattle.merge_model.specs.Judge.ByHistory.{by_past}
use Rattle.merge_model.specs.Publisher.Entries.{Entries}
use Rattle.merge_model.specs.History.{History, Line, MadeChange, Past, has, past_at, past_in, pasts_at, pasts_with}
use Rattle.merge_model.specs.Judge.{PublisherJudge}
use Rattle.merge_model.specs.Tables.Keys.{at_number, row_at, same_key}
use Rattle.merge_model.specs.History.Noting
use Rattle.merge_model.specs.Publisher.{last_closed}
use Rattle.merge_model.specs.Publisher.PublisherUpload.{changing_by, taken_in, with_acts}
use Rattle.merge_model.specs.World.Steps.{kept_decisions, upload_questions}
use Rattle.merge_types.specs.declared.row_key.RowKey.{RowKey as Key}
use Rattle.merge_units.specs.declared.site_row.PublisherRow.{PublisherRow}
use Rattle.merge_model.specs.World.{Saying, World}
use Rattle.merge_model.specs.declared.letter.Message.TheVariants.{Asks}
use Rattle.merge_laws.specs.Invariants.Accepting.{AcceptsWell, Accepting, IsFine, KnowsAccepted, accepts}
use Rattle.merge_laws.specs.Facts.Knowledge.{AllKnow, changes_of, same_dot}
use Rattle.merge_laws.specs.Facts.Standing.{IsKnownLater}
use Rattle.merge_laws.proofs.Known.ChangeDots.{are-alone}
use Rattle.merge_model.proofs.Lists.Finding.{all-weaker}
use Rattle.merge_laws.proofs.Accepted.GivenUp.{knows_of, upload-accepts}
use Rattle.merge_laws.proofs.Pasts.HeldRows.{changed-held}
use Rattle.merge_model.proofs.Lists.KeyLookUps.{keys-same}
use Rattle.merge_laws.proofs.Known.KnownRows.{letter-knows}
use Rattle.merge_model.proofs.Lists.{all-both, each-found}
use Rattle.merge_laws.proofs.Received.MessageFacts.{letter-fits, upload-sent}
use Rattle.merge_laws.proofs.Walking.Noted.{NotesKeep, acts-keep, acts-own}
use Rattle.merge_laws.proofs.Walking.NotesLeave.{lines-accepted}
use Rattle.merge_laws.proofs.Own.OwnAccepted.{Counted, either-site}
use Rattle.merge_laws.proofs.Own.OwnActs.{ActsKnow, acts-bring, acts-know, items-brought, own-accepts}
use Rattle.merge_laws.proofs.Own.OwnItems.{items-closed, items-made, items-row, new-unaccepted, of_row, row-item}
use Rattle.merge_laws.proofs.Own.OwnKnowing.{every-site, numbers-within}
use Rattle.merge_laws.proofs.Own.OwnPasts.{lines-on}
use Rattle.merge_laws.proofs.Own.OwnRows.{versions-new}
use Rattle.merge_laws.proofs.Walking.{acts_in, comes, here}

pub any-notes : (accepted : List Dot) → NotesKeep (λ (k : History). (dot : Dot) → has accepted dot ≡ true → list_any (λ (x : MadeChange). same_dot x.dot dot) k.made ≡ true)
any-notes accepted = record {
  of_lines = λ k lines a. a;
  of_pasts = λ k pasts a. a;
  of_lost = λ k lost a. a;
  of_accepted = λ k more a. a;
  of_purged = λ k purged a. a;
  of_made = λ k change own a dot is. (let was = a dot is in grind (arith, was));
}

-- the uploader is not the publisher
pub upload-named : (publication : Publication) (w : World) (h : History) (number : ℕ) (m : Upload) → Counted publication w h → comes w number m.site (Asks (request.Upload m)) → m.site.0 ≡ 0 → ⊥
upload-named publication w h number m b at own =
    upload-sent m m.site (at_number w.subscribers m.site.0) (letter-fits w h number (record { site = m.site; message = Asks (request.Upload m) }) b.0.received at) (ap (λ (n : ℕ). at_number w.subscribers n) own ∙ b.0.none)

module _ (publication : Publication) (says : Saying) (w : World) (h : History) (number : ℕ) (m : Upload) (b : Counted publication w h) (p : AcceptsWell w h) (named : m.site.0 ≡ 0 → ⊥) where
  abbrev incoming : List (Key × Past)
  incoming = pasts_with h number

  abbrev judge : PublisherJudge
  judge = by_past h incoming

  abbrev items : List UploadItem
  items = acting_items judge m

  abbrev decisions : List Decision
  decisions = kept_decisions says w.tallies (upload_questions publication judge w.moment m w.publisher)

  abbrev acts : List Act
  acts = acts_in publication says judge m w

  abbrev entries : Entries
  entries = Noting.acts_entries publication judge m acts (here w)

  abbrev lines : List Line
  lines = Noting.lines_of_entries (last_closed (here w) + 1) entries

  -- the history as the items have acted
  abbrev pub acted : History
  acted = fold (Noting.with_act incoming entries) h acts

  abbrev accepted : List Dot
  accepted = acted.accepted

  pub accepts-anew : (dot : Dot) → has accepted dot ≡ (has h.accepted dot || list_any (λ (item : UploadItem). knows_of incoming dot (key_of_item item)) items)
  accepts-anew dot = ap (λ (dots : List Dot). has dots dot) (sym (lines-accepted lines acted)) ∙ upload-accepts publication says judge m incoming w h dot

  rises : (dot : Dot) → accepts h.accepted dot ≡ true → accepts accepted dot ≡ true
  rises dot is = let anew = accepts-anew dot in grind (arith, anew, is)

  item-accepts : (dot : Dot) → list_any (λ (item : UploadItem). knows_of incoming dot (key_of_item item)) items ≡ true → accepts accepted dot ≡ true
  item-accepts dot is = let anew = accepts-anew dot in grind (arith, anew, is)

  came : AllKnow h.made incoming
  came = letter-knows h number b.0.known.knowledge

  fine-one : (x : MadeChange) → IsFine h.accepted x → (list_any (λ (item : UploadItem). knows_of incoming x.dot (key_of_item item)) items ≡ true → (dot : Dot) → has x.past.known dot ≡ true → list_any (λ (item : UploadItem). knows_of incoming dot (key_of_item item)) items ≡ true)
      → IsFine accepted x
  fine-one x f closed = record {
    others = λ dot known differs. rises dot (f.others dot known differs);
    closed = λ accept dot known. elim (accepts h.accepted x.dot) as (λ (t : Bool). accepts h.accepted x.dot ≡ t → accepts accepted dot ≡ true) [
      | true ↦ (λ e. rises dot (f.closed e dot known))
      | false ↦ (λ e. (let anew = accepts-anew x.dot in item-accepts dot (closed (grind (arith, anew, accept, e)) dot known)))
    ] refl;
  }

  fine-all : AllByRecursion (IsFine accepted) h.made
  fine-all = all-both (IsFine h.accepted) (λ (x : MadeChange). list_any (λ (item : UploadItem). knows_of incoming x.dot (key_of_item item)) items ≡ true → (dot : Dot) → has x.past.known dot ≡ true → list_any (λ (item : UploadItem). knows_of incoming dot (key_of_item item)) items ≡ true)
      (IsFine accepted) fine-one h.made p.fine (items-closed h.made incoming came items)

  -- what is accepted anew, an item of its row knows; and of a row that is new nothing was accepted
  abbrev IsAnew : MadeChange → Type 0
  IsAnew x = (accepts h.accepted x.dot ≡ false → accepts accepted x.dot ≡ true → list_any (of_row incoming x.key x.dot) items ≡ true)
      × ((q : Key) → is_some (row_at w.publisher.rows q) ≡ false → is_new_row judge m.site q ≡ true → same_key q x.key ≡ true → accepts h.accepted x.dot ≡ true → ⊥)

  own-anew : (c : MadeChange) → c.dot.site.0 ≡ 0 → is_some (row_at w.publisher.rows c.key) ≡ true → IsAnew c
  own-anew c own there = (
    λ not_yet accept. absurd (let was = own-accepts h.accepted c.dot own in grind (arith, was, not_yet)),
    λ q none new row accept. absurd (let same : same_key q c.key ≡ true = row in let gone : is_some (row_at w.publisher.rows c.key) ≡ false = ap (λ (k : Key). is_some (row_at w.publisher.rows k)) (sym (keys-same q c.key same)) ∙ none in grind (arith, there, gone)),
  )

  anew-all : AllByRecursion IsAnew h.made
  anew-all = all-both (λ (x : MadeChange). list_any (λ (item : UploadItem). knows_of incoming x.dot (key_of_item item)) items ≡ true → list_any (of_row incoming x.key x.dot) items ≡ true)
      (λ (x : MadeChange). (q : Key) → is_new_row judge m.site q ≡ true → same_key q x.key ≡ true → accepts h.accepted x.dot ≡ true → ⊥) IsAnew
      (λ x row none. (λ not_yet accept. (let anew = accepts-anew x.dot in row (grind (arith, anew, accept, not_yet))), λ q gone new same is. none q new same is)) h.made
      (items-row h.made incoming came items (are-alone (changes_of w) h b.0.known.numbered)) (new-unaccepted h incoming m.site named b.1.inserts b.1.makers b.0.known.knowledge p.fine)

  -- as the items act
  module _ (counts : MadeChange → Bool) (making : AllByRecursion (IsKnownLater h.made counts) h.made) where
    begins : ActsKnow w.publisher.rows h.accepted accepted counts h.pasts IsAnew (w.publisher.changes + 1) h
    begins = record {
      making = making;
      next = omega arith;
      below = all-weaker (λ (x : MadeChange). x.dot.site.0 ≡ 0 → (1 ≤ x.dot.number) × (x.dot.number ≤ w.publisher.changes)) (λ (x : MadeChange). x.dot.site.0 ≡ 0 → x.dot.number < w.publisher.changes + 1)
          (λ x within zero_site. (let up = (within zero_site).1 in omega (arith, up))) h.made (numbers-within (changes_of w) h 0 b.0.known.numbered);
      held = λ key there. p.held key there;
      here = λ key dot known. rises dot (either-site (dot.site.0 == 0) h.accepted dot refl (λ differs. b.1.here key dot known differs));
      fine = fine-all;
      others = λ n differs. refl;
      also = anew-all;
    }

    pub acted-knows : ActsKnow w.publisher.rows h.accepted accepted counts h.pasts IsAnew (w.publisher.changes + 1 + changes_by acts) acted
    acted-knows = acts-know w.publisher.rows h.accepted accepted counts h.pasts IsAnew own-anew judge m.site (here w) incoming entries (w.publisher.changes + 1) decisions items h refl
        (all-weaker (λ (item : UploadItem). (test : UploadItem → Bool) → test item ≡ true → list_any test items ≡ true) (λ (item : UploadItem). (dot : Dot) → has (past_in incoming (key_of_item item)).known dot ≡ true → accepts accepted dot ≡ true)
        (λ item found dot known. item-accepts dot (found (λ (other : UploadItem). knows_of incoming dot (key_of_item other)) known)) items (each-found items))
        begins

  numbered-all : AllByRecursion (IsKnownLater h.made (λ (c : MadeChange). false)) h.made
  numbered-all = all-weaker (λ (c : MadeChange). 1 ≤ c.dot.number) (IsKnownLater h.made (λ (c : MadeChange). false)) (λ c first. record { numbered = first; later = λ is. absurd (grind (arith, is)) }) h.made
      (every-site (λ (c : MadeChange). 1 ≤ c.dot.number) h.made (λ site. all-weaker (λ (c : MadeChange). c.dot.site.0 ≡ site → (1 ≤ c.dot.number) × (c.dot.number ≤ changes_of w site)) (λ (c : MadeChange). c.dot.site.0 ≡ site → 1 ≤ c.dot.number)
      (λ c within same. (within same).0) h.made (numbers-within (changes_of w) h site b.0.known.numbered)))

  -- the rows that are held afterwards
  anew-known : (q : Key) (x : MadeChange) → (is_some (row_at w.publisher.rows q) || is_new_row judge m.site q) ≡ true → same_key q x.key ≡ true → list_any (of_row incoming x.key x.dot) items ≡ true → has (past_at acted 0 q).known x.dot ≡ true
  anew-known q x there row is =
      let keys : q ≡ x.key = keys-same q x.key row in
      let both = row-item incoming q x.dot items (ap (λ (k : Key). list_any (of_row incoming k x.dot) items) keys ∙ is) in
      let brings = items-brought judge m.site (here w) (w.publisher.changes + 1) decisions items q there both.0 in
      acts-bring incoming q x.dot both.1 judge m.site (here w) entries (w.publisher.changes + 1) decisions items h (λ none. absurd (grind (arith, brings, none)))

  row-known : (q : Key) (held : Bool) → is_some (row_at w.publisher.rows q) ≡ held → (held ≡ false → is_new_row judge m.site q ≡ true) → KnowsAccepted acted.made accepted q (past_at acted 0 q).known
  row-known q true at new =
      let a = acted-knows (λ (c : MadeChange). false) numbered-all in
      all-both (λ (x : MadeChange). same_key q x.key ≡ true → accepts h.accepted x.dot ≡ true → has (past_at acted 0 q).known x.dot ≡ true) IsAnew (λ (x : MadeChange). same_key q x.key ≡ true → accepts accepted x.dot ≡ true → has (past_at acted 0 q).known x.dot ≡ true)
      (λ x before anew row accept. elim (accepts h.accepted x.dot) as (λ (t : Bool). accepts h.accepted x.dot ≡ t → has (past_at acted 0 q).known x.dot ≡ true) [
        | true ↦ (λ e. before row e)
        | false ↦ (λ e. anew-known q x (grind (arith, at)) row (anew.0 e accept))
      ] refl) acted.made (a.held q at) a.also
  row-known q false at new =
      let a = acted-knows (λ (c : MadeChange). false) numbered-all in
      all-weaker IsAnew (λ (x : MadeChange). same_key q x.key ≡ true → accepts accepted x.dot ≡ true → has (past_at acted 0 q).known x.dot ≡ true)
      (λ x anew row accept. elim (accepts h.accepted x.dot) as (λ (t : Bool). accepts h.accepted x.dot ≡ t → has (past_at acted 0 q).known x.dot ≡ true) [
        | true ↦ (λ e. absurd (anew.1 q at (new refl) row e))
        | false ↦ (λ e. anew-known q x (let is = new refl in grind (arith, at, is)) row (anew.0 e accept))
      ] refl) acted.made a.also

  held-new : (q : Key) → is_some (row_at (taken_in publication judge m acts (here w)).rows q) ≡ true → is_some (row_at w.publisher.rows q) ≡ false → is_new_row judge m.site q ≡ true
  held-new q there none =
      let both = changed-held publication judge (changing_by m acts) (with_acts publication m acts (here w)) q there in
      versions-new judge m.site (here w) (w.publisher.changes + 1) decisions items q none (grind (arith, both, none))

  pub upload-accepting : (v : World) → v.publisher.rows ≡ (taken_in publication judge m acts (here w)).rows → AcceptsWell v (Noting.with_acts_noted publication judge m acts incoming (here w) h)
  upload-accepting v same =
      let rows : List (Key × PublisherRow) = (taken_in publication judge m acts (here w)).rows in
      let a = acted-knows (λ (c : MadeChange). false) numbered-all in
      let well : Accepting rows acted.made accepted (pasts_at acted 0) = record {
        fine = a.fine;
        were_made = acts-keep (λ (k : History). (dot : Dot) → has accepted dot ≡ true → list_any (λ (x : MadeChange). same_dot x.dot dot) k.made ≡ true) (any-notes accepted) incoming entries acts h (acts-own judge m decisions (here w))
            (λ dot is. (let anew = accepts-anew dot in elim (has h.accepted dot) as (λ (t : Bool). has h.accepted dot ≡ t → list_any (λ (x : MadeChange). same_dot x.dot dot) h.made ≡ true) [
              | true ↦ (λ e. p.were_made dot e)
              | false ↦ (λ e. items-made h.made incoming came dot items (grind (arith, anew, is, e)))
            ] refl));
        held = λ q there. row-known q (is_some (row_at w.publisher.rows q)) refl (held-new q there);
      } in
      lines-on (λ (x : History). Accepting v.publisher.rows x.made x.accepted (pasts_at x 0)) lines acted
      (λ others. subst (λ (es : List (Key × PublisherRow)). Accepting es acted.made accepted (pasts_at acted 0)) (sym same) well)

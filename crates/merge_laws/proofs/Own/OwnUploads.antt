-- An upload that acts keeps what is known of own changes: decided values are changes of the publisher, which knew all its own of the row.
use Rattle.std.specs.Prelude.{◌≡◌, ◌≤◌, ◌==◌, ◌+◌, ◌&&◌, ◌||◌, ℕ, List, Bool, true, not, None, refl, nat_le}
use Rattle.std.specs.List.{AllByRecursion, AllZip, fold}
use Rattle.std.proofs.Common.{arith, subst, sym, ap, ◌∙◌}
use Rattle.merge_types.specs.declared.identifiers.Dot.{Dot}
use Rattle.merge_types.specs.declared.identifiers.SiteId.{SiteId}
use Rattle.merge_schema.specs.declared.publication.Publication.{Publication}
use Rattle.merge_batch.specs.declared.request.Request.TheVariants as request
use Rattle.merge_batch.specs.declared.request.Upload.{Upload}
use Rattle.merge_batch.specs.declared.reply.Reply.TheVariants as reply
use Rattle.merge_model.specs.Publisher.Acts.{Act}
use Rattle.merge_model.specs.Judge.ByHistory.{by_past}
use Rattle.merge_model.specs.Judge.ByNumbers.{received_number_by_number}
use Rattle.merge_model.specs.Publisher.Entries.{Entries}
use Rattle.merge_model.specs.History.{History, Line, MadeChange, Past, has, past_at, pasts_with}
use Rattle.merge_model.specs.Judge.{PublisherJudge}
use Rattle.merge_model.specs.History.Model.{Model}
use Rattle.merge_model.specs.History.Noting
use Rattle.merge_model.specs.Publisher.{last_closed}
use Rattle.merge_model.specs.Publisher.PublisherUpload.{brings_news, taken_in, upload_refusal}
use Rattle.merge_model.specs.World.Steps.{kept_decisions, upload_questions}
use Rattle.merge_types.specs.declared.row_key.RowKey.{RowKey as Key}
use Rattle.merge_model.specs.Tables.{PublisherTables}
use Rattle.merge_model.specs.World.{Saying, World}
use Rattle.merge_model.specs.declared.letter.Message.TheVariants.{Asks, Replies}
use Rattle.merge_model.specs.declared.letter.Letter.{Letter}
use Rattle.merge_laws.specs.Facts.LineagesStand.{KnowsAll, ReplyAnswers, UploadSends, counts_in, is_of}
use Rattle.merge_laws.specs.Facts.Received.{joined_at}
use Rattle.merge_model.proofs.Lists.Finding.{all-weaker}
use Rattle.merge_laws.proofs.Accepted.GivenUp.{counts-before, upload-given}
use Rattle.merge_laws.proofs.Walking.Noted.{NotesKeep, acts-keep, acts-own}
use Rattle.merge_laws.proofs.Walking.NotesLeave.{lines-accepted}
use Rattle.merge_laws.proofs.Own.OwnAcceptedUploads.{acted-knows, upload-named}
use Rattle.merge_laws.proofs.Own.OwnBase.{Base, LetterFacts, letter-facts, own-behind, own-later}
use Rattle.merge_laws.proofs.Own.OwnKnowing.{making-less}
use Rattle.merge_laws.proofs.Own.OwnParts.{Grows, Rest, at_model, knows-on, replies-on, uploads-on}
use Rattle.merge_laws.proofs.Own.OwnPasts.{lines-on, past-but}
use Rattle.merge_laws.proofs.Own.OwnQuiet.{posted, quiet}
use Rattle.merge_laws.proofs.Received.Publishing.{upload-joined}
use Rattle.merge_laws.proofs.Walking.{Sends, acts_in, comes, here, told_by, uploaded_world}

grow-notes : (P : MadeChange → Type 0) → ((c : MadeChange) → c.dot.site.0 ≡ 0 → P c) → NotesKeep (λ (k : History). AllByRecursion P k.made)
grow-notes P new = record {
  of_lines = λ k lines a. a;
  of_pasts = λ k pasts a. a;
  of_lost = λ k lost a. a;
  of_accepted = λ k accepted a. a;
  of_purged = λ k purged a. a;
  of_made = λ k change own a. (new change own, a);
}

letter-notes : (h : History) → NotesKeep (λ (k : History). k.letters ≡ h.letters)
letter-notes h = record {
  of_lines = λ k lines a. a;
  of_pasts = λ k pasts a. a;
  of_lost = λ k lost a. a;
  of_accepted = λ k accepted a. a;
  of_purged = λ k purged a. a;
  of_made = λ k change own a. a;
}

module _ (publication : Publication) (says : Saying) (w : World) (h : History) (number : ℕ) (m : Upload) (b : Base publication w h) (p : Rest w h) (at : comes w number m.site (Asks (request.Upload m))) where
  abbrev judge : PublisherJudge
  judge = by_past h (pasts_with h number)

  abbrev acts : List Act
  acts = acts_in publication says judge m w

  abbrev entries : Entries
  entries = Noting.acts_entries publication judge m acts (here w)

  abbrev publisher_after : PublisherTables
  publisher_after = taken_in publication judge m acts (here w)

  abbrev world_after : World
  world_after = uploaded_world publication says judge m publisher_after w

  -- the history as the items have acted
  abbrev after : History
  after = fold (Noting.with_act (pasts_with h number) entries) h acts

  abbrev OwnNew : MadeChange → Type 0
  OwnNew c = c.dot.site.0 ≡ 0

  acts-grow : Grows OwnNew h.made after.made
  acts-grow P Q old new all = acts-keep (λ (k : History). AllByRecursion Q k.made) (grow-notes Q new) (pasts_with h number) entries acts h
      (acts-own judge m (kept_decisions says w.tallies (upload_questions publication judge w.moment m w.publisher)) (here w)) (all-weaker P Q old h.made all)

  letters-stay : after.letters ≡ h.letters
  letters-stay = acts-keep (λ (k : History). k.letters ≡ h.letters) (letter-notes h) (pasts_with h number) entries acts h (acts-own judge m (kept_decisions says w.tallies (upload_questions publication judge w.moment m w.publisher)) (here w)) refl

  abbrev lines : List Line
  lines = Noting.lines_of_entries (last_closed (here w) + 1) entries

  named : m.site.0 ≡ 0 → ⊥
  named = upload-named publication w h number m b.0 at

  joins : (site : SiteId) → joined_at w.publisher site ≤ joined_at publisher_after site
  joins site = let same = upload-joined m acts w.publisher.sites site.0 in omega (arith, same)

  module _ (less : (c : MadeChange) → counts_in (at_model world_after after) c ≡ true → counts_in (at_model w h) c ≡ true) where
    pub acted-kept : Rest world_after after
    acted-kept =
        let n : Model = at_model world_after after in
        let knows = acted-knows publication says w h number m b.0 b.1.0 named (counts_in n) (making-less h.made (counts_in (at_model w h)) (counts_in n) less p.making) in
        let facts : AllByRecursion (LetterFacts w) w.pool = letter-facts publication w h b in
        record {
          making = knows.making;
          own = λ site x key first is held. subst (λ (y : Past). KnowsAll n key (is_of site) y.known) (sym (past-but 0 h after knows.others site key (λ none. omega (arith, first, none))))
              (knows-on (at_model w h) n OwnNew acts-grow less key (is_of site) (past_at h site key).known (past_at h site key).known (λ dot known. known)
              (λ y new row own. absurd (own-later site y (λ none. omega (arith, first, none)) new own)) (p.own site x key first is held));
          uploads = subst (λ (letters : List (List (Key × Past))). AllZip (λ (x : Letter) (ps : List (Key × Past)). UploadSends n ps x.message) w.pool letters) (sym letters-stay) (uploads-on (at_model w h) n OwnNew acts-grow less (LetterFacts w) joins
              (λ site u x fits new own to. own-behind w site u x b.0.0.none fits.0 new own) (λ site r x fits new own to. own-later site.0 x fits.1.1 new own) w.pool h.letters facts p.uploads);
          replies = subst (λ (letters : List (List (Key × Past))). AllZip (λ (x : Letter) (ps : List (Key × Past)). ReplyAnswers n x.site.0 ps x.message) w.pool letters) (sym letters-stay) (replies-on (at_model w h) n OwnNew acts-grow less (LetterFacts w) joins
              (λ site u x fits new own to. own-behind w site u x b.0.0.none fits.0 new own) (λ site r x fits new own to. own-later site.0 x fits.1.1 new own) w.pool h.letters facts p.replies);
        }

  module _ (fine : upload_refusal publication judge w.moment m w.publisher ≡ None) (news : brings_news judge m ≡ true) where
    abbrev noted : History
    noted = Noting.with_acts_noted publication judge m acts (pasts_with h number) (here w) h

    -- whether a change counts, by what is accepted
    abbrev counts_with : List Dot → MadeChange → Bool
    counts_with accepted c = not (not ((c.dot.site.0 == 0) || has accepted c.dot) && nat_le c.dot.number (received_number_by_number publisher_after c.dot.site.0))

    less : (c : MadeChange) → counts_in (at_model world_after after) c ≡ true → counts_in (at_model w h) c ≡ true
    less c counted =
        let stays = upload-given publication says w h number m b.0.0.received b.0.0.numbered b.0.1.counts at fine news in
        counts-before w world_after h noted stays c (ap (λ (dots : List Dot). counts_with dots c) (lines-accepted lines after) ∙ counted)

    pub upload-kept : Sends Rest m.site (Replies (reply.Uploaded (told_by judge m))) world_after noted
    upload-kept = posted world_after noted m.site (Replies (reply.Uploaded (told_by judge m))) tt tt
        (lines-on (λ (x : History). Rest world_after (Noting.with_done m.site.0 m.from m.to x)) lines after
        (λ others. quiet world_after after publisher_after world_after.tallies world_after.moment (Noting.with_done m.site.0 m.from m.to (record after { lines = others })).done others after.bases (λ c is. is) (λ site. omega arith) (acted-kept less)))

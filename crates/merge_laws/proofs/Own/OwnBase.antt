-- What is known where own changes are proved to be known: the base, and what it says of letters.
use Rattle.std.specs.Prelude.{◌≡◌, ◌≤◌, ◌<◌, ℕ, true, Option, Some, None}
use Rattle.std.specs.List.{AllByRecursion}
use Rattle.std.proofs.Common.{arith, subst, sym, ap, ◌∙◌}
use Rattle.merge_types.specs.declared.identifiers.SiteId.{SiteId}
use Rattle.merge_schema.specs.declared.publication.Publication.{Publication}
use Rattle.merge_batch.specs.declared.request.Upload.{Upload}
use Rattle.merge_model.specs.Judge.ByNumbers.{received_by_number}
use Rattle.merge_model.specs.History.{History, MadeChange}
use Rattle.merge_model.specs.Tables.Keys.{at_number}
use Rattle.merge_model.specs.Subscriber.{subscriber_last_closed}
use Rattle.merge_model.specs.Tables.{SubscriberTables}
use Rattle.merge_model.specs.World.{World}
use Rattle.merge_model.specs.declared.letter.Letter.{Letter}
use Rattle.merge_laws.specs.Invariants.Accepting.{AcceptsWell}
use Rattle.merge_laws.specs.Facts.Behind.{TellsActed}
use Rattle.merge_laws.specs.Facts.LetterNumbers.{IsForSubscriber, LettersAreNamed}
use Rattle.merge_laws.specs.Facts.LineagesStand.{is_of}
use Rattle.merge_laws.specs.Facts.Received.{LetterFits, UploadFits}
use Rattle.merge_model.proofs.Lists.{all-both}
use Rattle.merge_laws.proofs.Received.MessageFacts.{upload-sent, upload-site}
use Rattle.merge_laws.proofs.Own.OwnAccepted.{Counted}
use Rattle.merge_model.proofs.Lists.Tests.{numbers-same}

abbrev pub Base : Publication → World → History → Type 0
Base publication w h = Counted publication w h × (AcceptsWell w h × LettersAreNamed w h)

abbrev pub LetterFacts : World → Letter → Type 0
LetterFacts w letter = LetterFits w.subscribers w.publisher letter × (TellsActed (received_by_number w.publisher letter.site.0) letter.site letter.message × IsForSubscriber letter.site.0 letter.message)

pub letter-facts : (publication : Publication) (w : World) (h : History) → Base publication w h → AllByRecursion (LetterFacts w) w.pool
letter-facts publication w h b =
    let Tells : Letter → Type 0 = λ letter. TellsActed (received_by_number w.publisher letter.site.0) letter.site letter.message in
    let Named : Letter → Type 0 = λ letter. IsForSubscriber letter.site.0 letter.message in
    all-both (LetterFits w.subscribers w.publisher) (λ (letter : Letter). Tells letter × Named letter) (LetterFacts w) (λ letter one other. (one, other)) w.pool b.0.0.received.letters
    (all-both Tells Named (λ (letter : Letter). Tells letter × Named letter) (λ letter one other. (one, other)) w.pool b.0.0.behind.letters b.1.1.1)

-- an upload ends at a generation that its site has closed
upload-closed : (site : SiteId) (u : Upload) (found : Option SubscriberTables) (s : SubscriberTables) → UploadFits site u found → found ≡ Some s → u.to ≤ subscriber_last_closed s
upload-closed site u None s fits is = absurd fits
upload-closed site u (Some t) s fits is = let same : t ≡ s = cc in subst (λ (x : SubscriberTables). u.to ≤ subscriber_last_closed x) same fits.1

module _ (w : World) (site : SiteId) where
  -- a change in the open generation is behind none of its site's uploads
  pub open-behind : (u : Upload) (s : SubscriberTables) (c : MadeChange) → UploadFits site u (at_number w.subscribers site.0) → at_number w.subscribers s.site.0 ≡ Some s → c.dot.site.0 ≡ s.site.0 → subscriber_last_closed s < c.generation → is_of u.site.0 c ≡ true → c.generation ≤ u.to → ⊥
  open-behind u s c fits at own above is up =
      let same : s.site.0 ≡ site.0 = sym own ∙ numbers-same c.dot.site.0 u.site.0 is ∙ ap (λ (x : SiteId). x.0) (upload-site u site (at_number w.subscribers site.0) fits) in
      let closed : u.to ≤ subscriber_last_closed s = upload-closed site u (at_number w.subscribers site.0) s fits (ap (λ (n : ℕ). at_number w.subscribers n) (sym same) ∙ at) in
      absurd (omega (arith, closed, above, up))

  -- the publisher makes no upload
  pub own-behind : (u : Upload) (c : MadeChange) → at_number w.subscribers 0 ≡ None → UploadFits site u (at_number w.subscribers site.0) → c.dot.site.0 ≡ 0 → is_of u.site.0 c ≡ true → ⊥
  own-behind u c none fits own is =
      let same : site.0 ≡ 0 = ap (λ (x : SiteId). x.0) (sym (upload-site u site (at_number w.subscribers site.0) fits)) ∙ sym (numbers-same c.dot.site.0 u.site.0 is) ∙ own in
      upload-sent u site (at_number w.subscribers site.0) fits (ap (λ (n : ℕ). at_number w.subscribers n) same ∙ none)

pub own-later : (site : ℕ) (c : MadeChange) → (site ≡ 0 → ⊥) → c.dot.site.0 ≡ 0 → is_of site c ≡ true → ⊥
own-later site c named own is = named (sym (numbers-same c.dot.site.0 site is) ∙ own)

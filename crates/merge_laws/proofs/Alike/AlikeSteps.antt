-- The machine's step from the tables of a model is the model's step with the history left out.
use Rattle.std.specs.Prelude.{◌≡◌, ℕ, List, Bool, Option, Some, None, refl}
use Rattle.std.proofs.Common.{arith, sym, ap, ◌∙◌}
use Rattle.merge_schema.specs.declared.publication.Publication.{Publication}
use Rattle.merge_types.specs.declared.changes.Change.{Change}
use Rattle.merge_types.specs.declared.identifiers.SiteId.{SiteId}
use Rattle.merge_batch.specs.Asks.{broken_by_ranges}
use Rattle.merge_batch.specs.declared.refusal.Refusal.TheVariants.{UnknownSite}
use Rattle.merge_batch.specs.declared.request.RangeAsk.{RangeAsk}
use Rattle.merge_batch.specs.declared.request.Request.{Request}
use Rattle.merge_batch.specs.declared.request.Request.TheVariants as request
use Rattle.merge_model.specs.Laws.Bridge.{StepsAlike, SubscriberDecidesAlike}
use Rattle.merge_model.specs.Judge.ByHistory.{by_history, by_past}
use Rattle.merge_model.specs.Judge.ByNumbers.{by_numbers}
use Rattle.merge_model.specs.History.{History, Past, pasts_with}
use Rattle.merge_model.specs.Tables.Keys.{at_number}
use Rattle.merge_model.specs.History.Model.{Model}
use Rattle.merge_model.specs.World.Steps.{Action, CloseAt, Deliver, Forget, Look, Make, MakeAnew, Pass, Send, deliver_letter, deliver_reply, deliver_request, make_anew, make_at, send_from, step_by}
use Rattle.merge_model.specs.declared.outcome.Outcome.TheVariants.{NoLetter, Refuses}
use Rattle.merge_model.specs.declared.outcome.Outcome.{Outcome}
use Rattle.merge_types.specs.declared.row_key.RowKey.{RowKey as Key}
use Rattle.merge_model.specs.Tables.{SubscriberTables}
use Rattle.merge_model.specs.World.{Judges, Saying, World, by_tables, letter_at, subscriber_at}
use Rattle.merge_model.specs.declared.letter.Message.TheVariants.{Asks, Replies}
use Rattle.merge_model.specs.declared.letter.Letter.{Letter}
use Rattle.merge_model.specs.declared.letter.Message.{Message}
use Rattle.merge_laws.specs.Facts.LineagesStand.{AllTold, LineagesStand, Owns}
use Rattle.merge_laws.specs.Invariants.Seen.{Seen}
use Rattle.merge_laws.proofs.Alike.AlikeArrivals.{deliver-same}
use Rattle.merge_laws.proofs.Alike.AlikeFields.{left-alike}
use Rattle.merge_laws.proofs.Alike.AlikeItems.{items-agree, sites-agree}
use Rattle.merge_laws.proofs.Alike.AlikeSubscribers.{anew-alike, reply-alike, send-alike}
use Rattle.merge_laws.proofs.Alike.AlikeTouched.{download-alike}
use Rattle.merge_laws.proofs.Runs.Ground.{Ground}
use Rattle.merge_laws.proofs.Received.Steps.{own-at}
use Rattle.merge_laws.proofs.Unsent.UnsentKept.{decides-alike}

-- a range request asks what was granted alone
ranges-alike : (publication : Publication) (says : Saying) (w : World) (h : History) (incoming : List (Key × Past)) (site : SiteId) (m : RangeAsk)
    → deliver_request publication says (by_numbers w.publisher) site (request.Ranges m) w ≡ deliver_request publication says (by_past h incoming) site (request.Ranges m) w
unfolding broken_by_ranges
ranges-alike publication says w h incoming site m = refl

-- of a subscriber that there is
found-alike : (w : World) (site : SiteId) (found : Option SubscriberTables) (one other : SubscriberTables → World × Outcome) → ((s : SubscriberTables) → found ≡ Some s → one s ≡ other s)
    → (let done : World × Outcome = elim found [ None ↦ (w, Refuses (UnknownSite site)) | Some s ↦ one s ] in done) ≡ (let done : World × Outcome = elim found [ None ↦ (w, Refuses (UnknownSite site)) | Some s ↦ other s ] in done)
found-alike w site None one other each = refl
found-alike w site (Some s) one other each = each s refl

module _ (publication : Publication) (says : Saying) (m : Model) (g : Ground publication m.world m.history) (told : AllTold m) (stand : LineagesStand m) (owns : Owns m) (seen : Seen m.world.publisher.sites m.history.accepted) where
  abbrev w : World
  w = m.world

  abbrev h : History
  h = m.history

  -- no subscriber is the publisher
  not-own : (site : SiteId) (s : SubscriberTables) → subscriber_at w site ≡ Some s → s.site.0 ≡ 0 → ⊥
  not-own site s at zero =
      let keyed : s.site.0 ≡ site.0 = (g.received.subscribers site.0 s at).keyed in
      let none : at_number w.subscribers site.0 ≡ None = ap (λ (n : ℕ). at_number w.subscribers n) (sym keyed ∙ zero) ∙ g.none in
      absurd (grind (arith, none, at))

  subscriber-alike : (site : SiteId) (s : SubscriberTables) → subscriber_at w site ≡ Some s → SubscriberDecidesAlike m s
  subscriber-alike site s at = decides-alike m (g.received, (g.numbered, g.rows)) g.unsent s (not-own site s at) (own-at w h g.received site s at)

  abbrev with_left : (Key → ℕ → Bool) → Judges
  with_left left = record (by_tables w) { publisher = λ (number : ℕ). record (by_numbers w.publisher) { has_left = left } }

  make-alike : (site : SiteId) (change : Change) → make_at publication (by_tables w) site change w ≡ make_at publication (by_history h) site change w
  make-alike site change = ap (λ (left : Key → ℕ → Bool). make_at publication (with_left left) site change w) (λ i key n. left-alike publication w h g key n i)

  request-alike : (number : ℕ) (site : SiteId) (r : Request) → letter_at w number ≡ Some (record { site = site; message = Asks r })
      → deliver_request publication says (by_numbers w.publisher) site r w ≡ deliver_request publication says (by_past h (pasts_with h number)) site r w
  request-alike number site (request.Join r) at = refl
  request-alike number site (request.Upload r) at = deliver-same publication says (by_numbers w.publisher) (by_past h (pasts_with h number)) site r w (sites-agree publication m g (pasts_with h number) seen)
      (λ fine sound. items-agree publication m g told stand owns number site r at fine sound)
  request-alike number site (request.Ranges r) at = ranges-alike publication says w h (pasts_with h number) site r
  request-alike number site (request.Download r) at = download-alike publication says w h g (pasts_with h number) r site

  message-alike : (number : ℕ) (site : SiteId) (message : Message) → letter_at w number ≡ Some (record { site = site; message = message })
      → (let letter : Letter = record { site = site; message = message } in deliver_letter publication says (by_tables w) number w letter ≡ deliver_letter publication says (by_history h) number w letter)
  message-alike number site (Asks r) at = request-alike number site r at
  message-alike number site (Replies r) at = found-alike w site (subscriber_at w site) (deliver_reply publication (by_tables w) r w) (deliver_reply publication (by_history h) r w) (λ s there. reply-alike m s (subscriber-alike site s there) publication w r)

  letter-alike : (number : ℕ) (found : Option Letter) → letter_at w number ≡ found
      → (let one : World × Outcome = elim found [ None ↦ (w, NoLetter) | Some letter ↦ deliver_letter publication says (by_tables w) number w letter ] in one)
      ≡ (let other : World × Outcome = elim found [ None ↦ (w, NoLetter) | Some letter ↦ deliver_letter publication says (by_history h) number w letter ] in other)
  letter-alike number None at = refl
  letter-alike number (Some letter) at = message-alike number letter.site letter.message at

  action-alike : (action : Action) → step_by publication says (by_tables w) w action ≡ step_by publication says (by_history h) w action
  action-alike (Pass seconds) = refl
  action-alike (Make site change) = make-alike site change
  action-alike (CloseAt site) = refl
  action-alike (Send site sending) = found-alike w site (subscriber_at w site) (send_from (by_tables w) sending w) (send_from (by_history h) sending w) (λ s there. send-alike m s (subscriber-alike site s there) w sending)
  action-alike (Deliver number) = letter-alike number (letter_at w number) refl
  action-alike (MakeAnew site) = found-alike w site (subscriber_at w site) (make_anew (by_tables w) w) (make_anew (by_history h) w) (λ s there. anew-alike m s (subscriber-alike site s there) w)
  action-alike Forget = refl
  action-alike Look = refl

pub steps-alike : (publication : Publication) (says : Saying) (m : Model) (action : Action) → Ground publication m.world m.history → AllTold m → LineagesStand m → Owns m → Seen m.world.publisher.sites m.history.accepted → StepsAlike publication says m action
steps-alike publication says m action g told stand owns seen = action-alike publication says m g told stand owns seen action

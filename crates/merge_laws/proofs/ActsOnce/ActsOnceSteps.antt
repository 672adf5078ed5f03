-- The delivery of an upload, taken apart: it is refused, or it is taken. Rows whose items have all acted stay, and an upload whose generations have all acted is only answered, or refused.
use Rattle.std.specs.Prelude.{All, cond, ◌≡◌, ◌≤◌, ◌<◌, ◌+◌, ◌++◌, ℕ, List, [], ◌∷◌, Bool, true, false, not, Option, Some, None, refl, if◌then◌else◌, filter, filter_map, length, map, max}
use Rattle.std.specs.List.{AllByRecursion}
use Rattle.std.proofs.Common.{arith, sym, subst, ap, ◌∙◌}
use Rattle.std.proofs.lemmas.Bool.Decides.{nat_tests}
use Rattle.std.proofs.lemmas.List.Elements.{All-head, All-tail}
use Rattle.merge_types.specs.declared.identifiers.SiteId.{SiteId}
use Rattle.merge_units.specs.declared.result.Decision.{Decision}
use Rattle.merge_resolve.specs.Asked.{tallies_after}
use Rattle.merge_schema.specs.declared.publication.Publication.{Publication}
use Rattle.merge_batch.specs.Known.{Known as Remembered}
use Rattle.merge_batch.specs.Search.{broken_at, broken_by_items, broken_by_message, first_broken}
use Rattle.merge_batch.specs.Uploads.{broken_by_upload, has_generations, is_in_interval, item_rules, upload_rules}
use Rattle.merge_batch.specs.declared.refusal.Refusal.{Refusal}
use Rattle.merge_batch.specs.declared.refusal.Refusal.TheVariants.{Gap}
use Rattle.merge_batch.specs.declared.reply.Reply.TheVariants as reply
use Rattle.merge_batch.specs.declared.reply.Uploaded.{Uploaded}
use Rattle.merge_batch.specs.declared.request.Upload.{Upload}
use Rattle.merge_batch.specs.declared.request.UploadItem.{UploadItem}
use Rattle.merge_batch.proofs.AllMet.{all_good, all_met, met-at, none_first, none_mapped, none_second}
use Rattle.merge_model.specs.Publisher.Acts.{Act, acting_items, acts_of, question_of}
use Rattle.merge_model.specs.Judge.ByHistory.{by_history, by_past, received_by_done}
use Rattle.merge_model.specs.World.Faults.{known_by, upload_fault}
use Rattle.merge_model.specs.History.{History, is_done, pasts_with}
use Rattle.merge_model.specs.Judge.{PublisherJudge}
use Rattle.merge_model.specs.Tables.Keys.{same_key}
use Rattle.merge_model.specs.History.Model.{Model, did_something, noted_if, noted_letter, with_letter, with_posted}
use Rattle.merge_model.specs.History.Noting
use Rattle.merge_model.specs.Publisher.{counters, site_refusal}
use Rattle.merge_model.specs.Publisher.PublisherUpload.{brings_news, tables_after_upload, taken_in, too_many_new, upload_refusal}
use Rattle.merge_model.specs.Tables.Refusals.{counter_end, refused_if, unless}
use Rattle.merge_model.specs.World.Steps.{deliver_letter, kept_decisions, post, unless_refused, upload_questions}
use Rattle.merge_resolve.specs.Questions.{question_of as asked_of}
use Rattle.merge_model.specs.declared.outcome.Outcome.TheVariants.{NoLetter, Posted, Refuses}
use Rattle.merge_model.specs.declared.outcome.Outcome.{Outcome}
use Rattle.merge_types.specs.declared.row_key.RowKey.{RowKey as Key}
use Rattle.merge_model.specs.Tables.{PublisherTables}
use Rattle.merge_model.specs.World.{Saying, World}
use Rattle.merge_model.specs.declared.letter.Letter.{Letter}
use Rattle.merge_model.specs.declared.letter.Message.TheVariants.{Replies}
use Rattle.merge_laws.specs.Laws.ActsOnce.{ActedRowsStay, ActedUploadsOnlyAnswer, AllActed, IsUpload, OnlyAnswers, step_of_delivery, of_row, row_has_acted}
use Rattle.merge_laws.proofs.ActsOnce.ActsOnceRows.{acting-elsewhere, acts-elsewhere, noted-stays, tables-stay}
use Rattle.merge_model.proofs.Runs.Refusals.{first-none}
use Rattle.merge_laws.proofs.Walking.Noted.{acts-own}
use Rattle.merge_laws.proofs.Received.Publishing.{member-step}
use Rattle.merge_laws.proofs.Told.ToldItems.{fault-none}
use Rattle.merge_laws.proofs.Walking.{acts_in, here, posted-noted, told_by, uploaded_world}

-- What an upload that is not refused is: it has a generation, and its items stand in its generations.

module _ (publication : Publication) (known : Remembered) (u : Upload) where
  item-inside : (before : Option UploadItem) (item : UploadItem) → first_broken (item_rules publication known u before item) ≡ None → is_in_interval u item ≡ true
  item-inside before item none = met-at (item_rules publication known u before item) 3 (8, is_in_interval u item) (all_met (item_rules publication known u before item) none) refl

  message-fine : first_broken (upload_rules known u) ≡ None → u.from < u.to
  message-fine none = let met : has_generations u ≡ true = met-at (upload_rules known u) 0 (1, has_generations u) (all_met (upload_rules known u) none) refl in grind (arith, nat_tests, met)

  unbroken : broken_by_upload publication known u ≡ None → (u.from < u.to) × All (λ (item : UploadItem). is_in_interval u item ≡ true) u.items
  unfolding broken_by_upload
  unbroken none = (
    message-fine (none_mapped (broken_at 0) (first_broken (upload_rules known u)) (none_first (broken_by_message (upload_rules known u)) (broken_by_items (item_rules publication known u) u.items) none)),
    all_good (λ (item : UploadItem). is_in_interval u item ≡ true) (item_rules publication known u) item-inside 1 None u.items (none_second (broken_by_message (upload_rules known u)) (broken_by_items (item_rules publication known u) u.items) none),
  )

module _ (publication : Publication) (says : Saying) (m : Model) (number : ℕ) (site : SiteId) (u : Upload) where
  abbrev pub judge : PublisherJudge
  judge = by_past m.history (pasts_with m.history number)

  abbrev pub refusal : Option Refusal
  refusal = upload_refusal publication judge m.world.moment u m.world.publisher

  abbrev pub decisions : List Decision
  decisions = kept_decisions says m.world.tallies (upload_questions publication judge m.world.moment u m.world.publisher)

  abbrev pub noted_after : History
  noted_after = Noting.noted_upload publication judge u decisions (pasts_with m.history number) (here m.world) m.history

  abbrev pub world_after : World
  world_after = uploaded_world publication says judge u (tables_after_upload publication judge u decisions (here m.world)) m.world

  abbrev pub answer : Letter
  answer = record { site = site; message = Replies (reply.Uploaded (told_by judge u)) }

  abbrev pub taken_by : Option Refusal → Model × Outcome
  taken_by (Some why) = (m, Refuses why)
  taken_by None = (record { world = (post site answer.message world_after).0; history = with_letter answer noted_after }, Posted (length m.world.pool + 1))

  abbrev noted_done : World × Outcome → History → Model × Outcome
  noted_done done noted = (record { world = done.0; history = with_posted done.0 done.1 (noted_if (did_something done.1) noted m.history) }, done.1)

  abbrev stepped : Option Letter → Model × Outcome
  stepped found = noted_done (let done : World × Outcome = elim found [ None ↦ (m.world, NoLetter) | Some letter ↦ deliver_letter publication says (by_history m.history) number m.world letter ] in done)
      (let noted : History = elim found [ None ↦ m.history | Some letter ↦ noted_letter publication says (by_history m.history) number m.world letter m.history ] in noted)

  taken-by : (why : Option Refusal)
      → noted_done (unless_refused m.world (unless why (tables_after_upload publication judge u decisions (here m.world), told_by judge u)) (λ (made : PublisherTables × Uploaded). post site (Replies (reply.Uploaded made.1)) (uploaded_world publication says judge u made.0 m.world))) noted_after
      ≡ taken_by why
  taken-by (Some why) = refl
  taken-by None = ap (λ (k : History). (let after : Model = record { world = (post site answer.message world_after).0; history = k } in (after, Posted (length m.world.pool + 1)))) (posted-noted site answer.message world_after noted_after)

  pub delivered-by : IsUpload m number site u → step_of_delivery publication says m number ≡ taken_by refusal
  delivered-by at = ap stepped at ∙ taken-by refusal

  pub is-fine : refusal ≡ None → (u.from < u.to) × All (λ (item : UploadItem). is_in_interval u item ≡ true) u.items
  is-fine fine =
      let all = first-none (site_refusal publication u.site u.seq m.world.moment m.world.publisher) _ fine in
      let gap = first-none (refused_if (judge.is_gap u.site.0 u.from) (Gap u.from (judge.received u.site.0))) (upload_fault publication judge u m.world.publisher ∷ too_many_new (acts_of judge u [] m.world.publisher) m.world.publisher ∷ counter_end (counters m.world.publisher) ∷ []) all.1 in
      let fault = first-none (upload_fault publication judge u m.world.publisher) (too_many_new (acts_of judge u [] m.world.publisher) m.world.publisher ∷ counter_end (counters m.world.publisher) ∷ []) gap.1 in
      unbroken publication (known_by publication judge m.world.publisher) u (fault-none (broken_by_upload publication (known_by publication judge m.world.publisher) u) fault.0)

  -- A row whose items have all acted.

  module _ (key : Key) (acted : row_has_acted m.history u key ≡ true) where
    abbrev acts : List Act
    acts = acts_in publication says judge u m.world

    elsewhere : AllByRecursion (λ (act : Act). same_key key act.key ≡ false) acts
    elsewhere = acts-elsewhere key judge u.site (here m.world) (m.world.publisher.changes + 1) decisions (acting_items judge u) (acting-elsewhere key m.history u.site.0 u.items acted)

    news-stay : (news : Bool) → (let p : PublisherTables = if news then taken_in publication judge u acts (here m.world) else here m.world in
        let h : History = if news then Noting.with_acts_noted publication judge u acts (pasts_with m.history number) (here m.world) m.history else m.history in of_row p h key ≡ of_row m.world.publisher m.history key)
    news-stay true = noted-stays key (taken_in publication judge u acts (here m.world)) publication judge u acts (pasts_with m.history number) (here m.world) m.history (acts-own judge u decisions (here m.world)) elsewhere
        ∙ tables-stay key publication judge u acts (here m.world) m.history elsewhere
    news-stay false = refl

    row-stays : (why : Option Refusal) → (let n : Model = (taken_by why).0 in of_row n.world.publisher n.history key ≡ of_row m.world.publisher m.history key)
    row-stays (Some why) = refl
    row-stays None = news-stay (brings_news judge u)

  -- An upload whose generations have all acted.

  module _ (acted : AllActed m.history u) where
    item-acted : (item : UploadItem) → is_in_interval u item ≡ true → not (is_done m.history u.site.0 item.generation) ≡ false
    item-acted item inside =
        let above : u.from < item.generation = grind (arith, nat_tests, inside) in
        let within : item.generation ≤ u.to = grind (arith, nat_tests, inside) in
        ap not (acted item.generation above within)

    none-acts : (items : List UploadItem) → All (λ (item : UploadItem). is_in_interval u item ≡ true) items → filter (λ (item : UploadItem). not (is_done m.history u.site.0 item.generation)) items ≡ []
    none-acts [] inside = refl
    none-acts (item ∷ items) inside =
        let rest : List UploadItem = filter (λ (x : UploadItem). not (is_done m.history u.site.0 x.generation)) items in
        ap (λ (b : Bool). (let kept : List UploadItem = cond b (item ∷ rest) rest in kept)) (item-acted item (All-head (λ (x : UploadItem). is_in_interval u x ≡ true) item items inside))
        ∙ none-acts items (All-tail (λ (x : UploadItem). is_in_interval u x ≡ true) item items inside)

    last-acted : u.from < u.to → u.to ≤ received_by_done m.history u.site.0
    last-acted up = member-step u.site.0 0 u.to m.history.done (acted u.to up (omega arith))

    -- by whether it brings news, by its items that act, and by the generation that is told
    abbrev by_parts : Bool → List UploadItem → ℕ → Model
    by_parts news items told =
        let letter : Letter = record { site = site; message = Replies (reply.Uploaded (record { seq = u.seq; received = told })) } in
        let p : PublisherTables = if news then taken_in publication judge u (acts_in publication says judge u m.world) (here m.world) else here m.world in
        let h : History = if news then Noting.with_acts_noted publication judge u (acts_in publication says judge u m.world) (pasts_with m.history number) (here m.world) m.history else m.history in
        record {
          world = record m.world {
            publisher = p;
            tallies = tallies_after m.world.tallies (map asked_of (filter_map (question_of publication judge u.site (here m.world)) items));
            pool = m.world.pool ++ letter ∷ [];
          };
          history = with_letter letter h;
        }

    only-answer : (why : Option Refusal) → refusal ≡ why → OnlyAnswers site u m (taken_by why)
    only-answer (Some why) is = refl
    only-answer None is =
        let fine = is-fine is in
        let last : u.to ≤ received_by_done m.history u.site.0 = last-acted fine.0 in
        let old : brings_news judge u ≡ false = grind (arith, nat_tests, last) in
        let told : max u.to (received_by_done m.history u.site.0) ≡ received_by_done m.history u.site.0 = grind (arith, nat_tests, last) in
        ap (λ (news : Bool). by_parts news (acting_items judge u) (max u.to (received_by_done m.history u.site.0))) old
        ∙ ap (λ (items : List UploadItem). by_parts false items (max u.to (received_by_done m.history u.site.0))) (none-acts u.items fine.1)
        ∙ ap (λ (n : ℕ). by_parts false [] n) told

pub acted-rows-stay : ActedRowsStay
acted-rows-stay publication says m number site u key at acted = subst (λ (done : Model × Outcome). of_row done.0.world.publisher done.0.history key ≡ of_row m.world.publisher m.history key) (sym (delivered-by publication says m number site u at))
    (row-stays publication says m number site u key acted (refusal publication says m number site u))

pub acted-uploads-only-answer : ActedUploadsOnlyAnswer
acted-uploads-only-answer publication says m number site u at acted = subst (λ (done : Model × Outcome). OnlyAnswers site u m done) (sym (delivered-by publication says m number site u at))
    (only-answer publication says m number site u acted (refusal publication says m number site u) refl)

-- A journal with an entry more.
use Rattle.std.proofs.Common.{◌≡◌, ◌+◌, ◌++◌, ◌∷◌, ◌∙◌, ◌≤◌, [], List, Result, Ok, Err, ℕ, ap, arith, length, map, refl, sym, length-append}
use Rattle.std.proofs.Math.Path.{fun_ext}
use Rattle.merge_types.specs.declared.identifiers.Moment.{Moment}
use Rattle.merge_resolve.specs.declared.case.ConflictCase.{ConflictCase}
use Rattle.merge_schema.specs.declared.publication.Publication.{Publication}
use Rattle.merge_batch.specs.declared.refusal.Refusal.{Refusal}
use Rattle.merge_batch.specs.declared.reply.Reply.{Reply}
use Rattle.merge_batch.specs.declared.request.Request.{Request}
use Rattle.merge_model.specs.World.Calls.{result_of_request}
use Rattle.merge_model.specs.Tables.{PublisherTables}
use Rattle.merge_model.specs.World.{Saying}
use Rattle.merge_draft.specs.Drafting.{DraftingView, decisions_on, result_with_decisions}
use Rattle.merge_draft.proofs.Decided.{handled-is, refused-whatever}
use Rattle.merge_desk.specs.Marks.{mark_on}
use Rattle.merge_desk.specs.Replay.{AreDecided, answer_to, decisions_if_made, entry_decisions, mark_in, marks_from, replay, tables_and_reply}
use Rattle.merge_desk.specs.Views.{IsJournal, IsKeptDesk}
use Rattle.merge_desk.specs.declared.entry.Entry.{Entry}

-- An entry's decisions make its step again.

decided-by : (publication : Publication) (says : Saying) (tallies : List ℕ) (now : Moment) (m : Request) (p : PublisherTables) (made : Result (PublisherTables × Reply) Refusal)
    → result_of_request publication says tallies now m p ≡ made
    → tables_and_reply p (result_with_decisions publication now m (decisions_if_made made (decisions_on publication says tallies now m p)) p) ≡ tables_and_reply p made
decided-by publication says tallies now m p (Ok done) e = ap (tables_and_reply p) (sym (handled-is publication says tallies now m p) ∙ e)
decided-by publication says tallies now m p (Err why) e =
    ap (tables_and_reply p) (refused-whatever publication now m (decisions_on publication says tallies now m p) [] p why (sym (handled-is publication says tallies now m p) ∙ e))

pub answered-again : (publication : Publication) (says : Saying) (tallies : List ℕ) (now : Moment) (m : Request) (p : PublisherTables)
    → tables_and_reply p (result_with_decisions publication now m (entry_decisions publication says tallies now m p) p) ≡ tables_and_reply p (result_of_request publication says tallies now m p)
answered-again publication says tallies now m p = decided-by publication says tallies now m p (result_of_request publication says tallies now m p) refl

-- An entry is added.

pub replay-push : (publication : Publication) (p : PublisherTables) (es : List Entry) (e : Entry) → replay publication p (es ++ e ∷ []) ≡ (answer_to publication (replay publication p es) e).0
replay-push publication p [] e = refl
replay-push publication p (x ∷ es) e = replay-push publication (answer_to publication p x).0 es e

pub marks-push : (publication : Publication) (p : PublisherTables) (place : ℕ) (es : List Entry) (e : Entry)
    → marks_from publication p place (es ++ e ∷ []) ≡ marks_from publication p place es ++ mark_on (place + length es) e.moment e.request (answer_to publication (replay publication p es) e).1 ∷ []
marks-push publication p place [] e =
    let here : place ≡ place + 0 = omega arith in
    ap (λ n. mark_on n e.moment e.request (answer_to publication p e).1 ∷ []) here
marks-push publication p place (x ∷ es) e =
    let there : place + 1 + length es ≡ place + length (x ∷ es) = omega arith in
    let tail = marks-push publication (answer_to publication p x).0 (place + 1) es e in
    ap (λ ms. mark_on place x.moment x.request (answer_to publication p x).1 ∷ ms)
    (tail ∙ ap (λ n. marks_from publication (answer_to publication p x).0 (place + 1) es ++ mark_on n e.moment e.request (answer_to publication (replay publication (answer_to publication p x).0 es) e).1 ∷ []) there)

pub told-push : (es : List Entry) (e : Entry) → map mark_in (es ++ e ∷ []) ≡ map mark_in es ++ e.mark ∷ []
told-push [] e = refl
told-push (x ∷ es) e = ap (λ ms. x.mark ∷ ms) (told-push es e)

pub decided-push : (publication : Publication) (says : Saying) (p : PublisherTables) (es : List Entry) (e : Entry) (tallies : List ℕ)
    → e.decisions ≡ entry_decisions publication says tallies e.moment e.request (replay publication p es) → AreDecided publication says p es → AreDecided publication says p (es ++ e ∷ [])
decided-push publication says p [] e tallies is none = ((tallies, is), tt)
decided-push publication says p (x ∷ es) e tallies is (first, rest) = (first, decided-push publication says (answer_to publication p x).0 es e tallies is rest)

pub decided_none : (publication : Publication) (says : Saying) (p : PublisherTables) (es : List Entry) → es ≡ [] → AreDecided publication says p es
decided_none publication says p es none = rw none tt

pub journal-next : (publication : Publication) (says : Saying) (opening : PublisherTables) (es now : List Entry) (e : Entry) (old new : PublisherTables) (answer : Reply) (tallies : List ℕ)
    → now ≡ es ++ e ∷ [] → (new, answer) ≡ answer_to publication old e → e.mark ≡ mark_on (length es + 1) e.moment e.request answer
    → e.decisions ≡ entry_decisions publication says tallies e.moment e.request old
    → IsJournal publication says opening es old → IsJournal publication says opening now new
journal-next publication says opening es now e old new answer tallies is done marked decisions was =
    let there : length es + 1 ≡ 1 + length es = omega arith in
    let left : new ≡ (answer_to publication old e).0 = ap (λ (d : PublisherTables × Reply). d.0) done in
    let told : answer ≡ (answer_to publication old e).1 = ap (λ (d : PublisherTables × Reply). d.1) done in
    record {
      tables = rw is (left ∙ ap (λ p. (answer_to publication p e).0) was.tables ∙ sym (replay-push publication opening es e));
      marks = rw is (told-push es e ∙ ap (λ ms. ms ++ e.mark ∷ []) was.marks
          ∙ ap (λ m. marks_from publication opening 1 es ++ m ∷ []) (marked ∙ ap (λ n. mark_on n e.moment e.request answer) there
          ∙ ap (λ r. mark_on (1 + length es) e.moment e.request r) (told ∙ ap (λ p. (answer_to publication p e).1) was.tables))
          ∙ sym (marks-push publication opening 1 es e));
      decided = rw is (decided-push publication says opening es e tallies (decisions ∙ ap (λ p. entry_decisions publication says tallies e.moment e.request p) was.tables) was.decided);
    }

-- A desk after one more answer. `left` is what a request that was worked out leaves of tables, with its reply.
pub desk-next : (publication : Publication) (opening : PublisherTables) (says : Saying) (count : ℕ) (old new : DraftingView) (mid : PublisherTables) (es now : List Entry) (calls more faults spent later : ℕ)
    (e : Entry) (m : Request) (answer : Reply) (left : PublisherTables → PublisherTables × Reply)
    → IsKeptDesk publication opening says count old es calls faults spent → now ≡ es ++ e ∷ [] → e.request ≡ m
    → e.decisions ≡ entry_decisions old.publication old.says old.tallies e.moment m old.tables → e.mark ≡ mark_on (length es + 1) e.moment m answer
    → left old.tables ≡ tables_and_reply old.tables (result_of_request old.publication old.says old.tallies e.moment m old.tables) → mid ≡ old.tables → left mid ≡ (new.tables, answer)
    → new.publication ≡ old.publication → new.says ≡ old.says → more ≡ calls + 1 → old.faults ≤ new.faults → spent + 1 ≤ later
    → IsKeptDesk publication opening says count new now more faults later
desk-next publication opening says count old new mid es now calls more faults spent later e m answer left was pushed same decisions marked worked still put same-publication same-says counted rise spends =
    let stood : left old.tables ≡ (new.tables, answer) = ap left (sym still) ∙ put in
    let again : answer_to old.publication old.tables e ≡ tables_and_reply old.tables (result_of_request old.publication old.says old.tallies e.moment m old.tables) =
    ap (λ q. tables_and_reply old.tables (result_with_decisions old.publication e.moment q e.decisions old.tables)) same
    ∙ ap (λ ds. tables_and_reply old.tables (result_with_decisions old.publication e.moment m ds old.tables)) decisions
    ∙ answered-again old.publication old.says old.tallies e.moment m old.tables in
    let done : (new.tables, answer) ≡ answer_to publication old.tables e = sym stood ∙ worked ∙ sym again ∙ ap (λ q. answer_to q old.tables e) was.of-publication in
    let decided_so : e.decisions ≡ entry_decisions publication says old.tallies e.moment e.request old.tables =
    decisions
    ∙ ap (λ q. entry_decisions q old.says old.tallies e.moment m old.tables) was.of-publication
    ∙ ap (λ s. entry_decisions publication s old.tallies e.moment m old.tables) was.of-says
    ∙ ap (λ q. entry_decisions publication says old.tallies e.moment q old.tables) (sym same) in
    record {
      of-publication = same-publication ∙ was.of-publication;
      of-says = same-says ∙ was.of-says;
      kept = journal-next publication says opening es now e old.tables new.tables answer old.tallies pushed done (marked ∙ ap (λ q. mark_on (length es + 1) e.moment q answer) (sym same)) decided_so was.kept;
      counted = omega (arith, ap length pushed, length-append es (e ∷ []), was.counted, counted);
      few = omega (arith, was.few, rise);
      paid = omega (arith, ap length pushed, length-append es (e ∷ []), was.paid, spends);
    }

pub same-says : (f g : Saying) → ((k n : ℕ) (asked : ConflictCase) → f k n asked ≡ g k n asked) → f ≡ g
same-says f g each = fun_ext (λ k. fun_ext (λ n. fun_ext (λ asked. each k n asked)))

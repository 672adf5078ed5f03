-- A request of a site at the publisher, by the step that was worked out for it and by what became of that.
use Rattle.std.proofs.Common.{◌≡◌, ◌∙◌, ◌||◌, ℕ, List, Bool, true, false, sym, ap, subst}
use Rattle.std.specs.List.{list_any}
use Rattle.std.specs.Prelude.{Err, IfOk, IsOk, Ok, OnOk, Option, Result, take}
use Rattle.merge_types.specs.declared.identifiers.Moment.{Moment}
use Rattle.merge_ident.specs.declared.grants.GrantPlan.{GrantPlan}
use Rattle.merge_resolve.specs.Asked.{tallies_after}
use Rattle.merge_schema.specs.declared.publication.Publication.{Publication}
use Rattle.merge_batch.specs.declared.refusal.Refusal.{Refusal}
use Rattle.merge_batch.specs.declared.reply.Ranged.{Ranged}
use Rattle.merge_batch.specs.declared.reply.Reply.{Reply}
use Rattle.merge_batch.specs.declared.request.RangeAsk.{RangeAsk}
use Rattle.merge_batch.specs.declared.request.Request.{Request}
use Rattle.merge_batch.specs.declared.request.Request.TheVariants as request
use Rattle.merge_model.specs.World.Calls.{Called, Counted, as_reply, is_later, is_new_grant, request_commits, result_of_request}
use Rattle.merge_model.specs.Laws.{AreSorted}
use Rattle.merge_model.specs.Publisher.PublisherRanges.{plans}
use Rattle.merge_model.specs.Tables.{PublisherTables}
use Rattle.merge_model.specs.World.{Saying}
use Rattle.merge_model.proofs.Failing.Quiet.{requests-quiet}
use Rattle.merge_ports.specs.Entries.{Map}
use Rattle.merge_pub.specs.After.{after}
use Rattle.merge_pub.specs.Held.{Held, publication_of, tables_of}
use Rattle.merge_steps.specs.declared.changes.Draft.{Draft}
use Rattle.merge_world.specs.Views.{PublisherView}
use Rattle.merge_site.specs.Calls.{IsRefused, WorkedOut}
use Rattle.merge_site.specs.Publishers.{tables_after_draft}
use Rattle.merge_site.proofs.PublisherCalls.{seen-called, view_of}

-- A request that commits nothing changes nothing.
pub request-still : {A : Type 0} (message : A → Reply) (says : Saying) (tallies : List ℕ) (moment : Moment) (m : Request) (h now : Held) (by : Result (PublisherTables × A) Refusal) (worked : Result (Draft × A) Refusal) (commits : Bool)
    → result_of_request (publication_of h) says tallies moment m (tables_of h) ≡ as_reply message by → AreSorted (tables_of h) → tables_of now ≡ tables_of h
    → IfOk worked (λ made. commits ≡ request_commits (publication_of h) moment m (tables_of h) made.1) → IfOk worked (λ made. by ≡ Ok (tables_after_draft (tables_of h) made))
    → IfOk worked (λ made. commits ≡ false → after made.0.changes (tables_of now) ≡ tables_of now)
request-still message says tallies moment m h now by (Err why) commits handles sorted same is made = tt
request-still message says tallies moment m h now by (Ok worked) commits handles sorted same is made = λ quiet.
    subst (λ (t : PublisherTables). after worked.0.changes t ≡ t) (sym same)
    (requests-quiet (publication_of h) says tallies moment m (tables_of h) (after worked.0.changes (tables_of h), message worked.1) sorted (handles ∙ ap (as_reply message) made) (sym is ∙ quiet))

-- Whether ranges commit is seen by the plans that were worked out for them.
pub ranges-commit : (moment : Moment) (m : RangeAsk) (h now : Held) (worked : Result (Draft × Ranged) Refusal) (commits : Bool) → tables_of now ≡ tables_of h
    → IfOk worked (λ made. commits ≡ (is_later moment (tables_of now).latest || list_any (λ (plan : GrantPlan). is_new_grant plan.answer) made.0.changes.grants))
    → IfOk worked (λ made. made.0.changes.grants ≡ plans (publication_of h) m (tables_of h))
    → IfOk worked (λ made. commits ≡ request_commits (publication_of h) moment (request.Ranges m) (tables_of h) made.1)
ranges-commit moment m h now (Err why) commits same is planned = tt
ranges-commit moment m h now (Ok worked) commits same is planned =
    is
    ∙ ap (λ (t : PublisherTables). is_later moment t.latest || list_any (λ (plan : GrantPlan). is_new_grant plan.answer) worked.0.changes.grants) same
    ∙ ap (λ (planned : List GrantPlan). is_later moment (tables_of h).latest || list_any (λ (plan : GrantPlan). is_new_grant plan.answer) planned) planned

commits-so : {D A : Type 0} (worked : Result (D × A) Refusal) (commits : Bool) (of : A → Bool) → IfOk worked (λ made. commits ≡ of made.1) → IfOk worked (λ made. commits ≡ true → of made.1 ≡ true)
commits-so (Err why) commits of is = tt
commits-so (Ok made) commits of is = λ yes. sym is ∙ yes

module _ {A : Type 0} {kept : Option Map} (old : PublisherView) (h now new : Held) (before after' : ℕ) (seen : view_of h before kept ≡ old) (same : tables_of now ≡ tables_of h) where
  pub request-called : (moment : Moment) (m : Request) (by : Publication → PublisherTables → Result (PublisherTables × A) Refusal) (commits : Bool) (worked : Result (Draft × A) Refusal) (result : Result A Refusal)
      → IfOk worked (λ made. by (publication_of h) (tables_of h) ≡ Ok (tables_after_draft (tables_of h) made))
      → ((why : Refusal) → worked ≡ Err why → IsRefused (by (publication_of h) (tables_of h)) why)
      → ((b : Result (PublisherTables × A) Refusal) (o : A → Bool) → WorkedOut (tables_after_draft (tables_of now)) b worked → IfOk worked (λ made. commits ≡ true → o made.1 ≡ true) → Called b o (tables_of now) (tables_of new) before after' result)
      → IfOk worked (λ made. commits ≡ request_commits (publication_of h) moment m (tables_of h) made.1)
      → Called (by old.publication old.tables) (request_commits old.publication moment m old.tables) old.tables (tables_of new) old.faults after' result
  request-called moment m by commits worked result made refused called is =
      seen-called old h now new before after' seen same (λ (v : PublisherView). by v.publication v.tables) (λ (v : PublisherView). request_commits v.publication moment m v.tables) commits worked result made refused called
      (commits-so worked commits (λ (answer : A). request_commits (publication_of h) moment m (tables_of h) answer) is)

-- How often resolvers were asked.

counted_by : {X T A Q : Type 0} (by : Result (T × A) Refusal) (questions : List (ℕ × Q)) (tallies told : List ℕ) (worked : Result X Refusal) (result : Result A Refusal)
    → OnOk worked (told ≡ tallies_after tallies questions) → ((n : ℕ) × (told ≡ tallies_after tallies (take n questions))) → ((other : Refusal) → by ≡ Err other → told ≡ tallies) → OnOk result (IsOk worked)
    → Counted by questions tallies told result
counted_by by questions tallies told (Ok made) (Ok done) asked some none was = asked
counted_by by questions tallies told (Err why) (Ok done) asked some none was = let no : false ≡ true = was in absurd cc
counted_by by questions tallies told worked (Err why) asked some none was = (some, none)

pub request-counted : {X A Q : Type 0} (old v : PublisherView) → v ≡ old → (by : PublisherView → Result (PublisherTables × A) Refusal) (questions : PublisherView → List (ℕ × Q)) (tallies told : List ℕ) (worked : Result X Refusal) (result : Result A Refusal)
    → OnOk worked (told ≡ tallies_after tallies (questions v)) → ((n : ℕ) × (told ≡ tallies_after tallies (take n (questions v)))) → ((other : Refusal) → by v ≡ Err other → told ≡ tallies) → OnOk result (IsOk worked)
    → Counted (by old) (questions old) tallies told result
request-counted old v seen by questions tallies told worked result asked some none was =
    subst (λ (w : PublisherView). Counted (by w) (questions w) tallies told result) seen (counted_by (by v) (questions v) tallies told worked result asked some none was)

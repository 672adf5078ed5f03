-- What the answer to a report of rows shows, where it shows rows.
use Rattle.std.proofs.Common.{◌≡◌, ◌⊎◌, ◌++◌, ◌∷◌, Bool, List, None, Ok, Result, Some, [], ap, false, inl, inr, refl, sym, true, ℕ, ◌∙◌, subst}
use Rattle.merge_types.specs.declared.identifiers.SiteId.{SiteId}
use Rattle.merge_schema.specs.declared.publication.Publication.{Publication}
use Rattle.merge_batch.specs.declared.refusal.Refusal.{Refusal}
use Rattle.merge_model.specs.World.Events.{answered_look, answered_show, answered_unless_refused, happens, is_site, machine, report_of_site}
use Rattle.merge_model.specs.Failing.{Faulty, Slip, Slips, faulty, is_allowed, slip_if, slip_refusal}
use Rattle.merge_model.specs.World.Naming.{article_by}
use Rattle.merge_model.specs.Failing.Reach.{stepping}
use Rattle.merge_model.specs.World.Steps.{Look}
use Rattle.merge_model.specs.Tables.{PublisherTables, SubscriberTables}
use Rattle.merge_model.specs.World.{Saying, World}
use Rattle.merge_model.specs.declared.answer.Answer.{Answer}
use Rattle.merge_model.specs.declared.answer.Answer.TheVariants.{Refused, Rows as Shows}
use Rattle.merge_model.specs.declared.answer.ShownRow.{ShownRow}
use Rattle.merge_model.specs.declared.event.Event.TheVariants as event
use Rattle.merge_model.specs.declared.outcome.Outcome.TheVariants.{Passed}
use Rattle.merge_model.specs.Script.Play.{names_of}
use Rattle.merge_model.specs.Script.Text.{text_of}
use Rattle.merge_world.proofs.Happenings.{where-if}
use Rattle.merge_world.proofs.Shows.{nobody}
use Rattle.merge_world.specs.Happenings.{Comes, Happened}
use Rattle.merge_world.specs.Reports.{publisher_told, subscriber_told, told_at}
use Rattle.merge_world.specs.Views.{HandedView, SitesView, world_of}
use Rattle.merge_world.specs.declared.reports.Report.TheVariants.{Rows}
use Rattle.merge_command.specs.Shown.{shown_text}

-- the answer is this one, or a refusal
abbrev IsSaid : Answer → Answer → Type 0
IsSaid said answer = (answer ≡ said) ⊎ ((why : Refusal) × (answer ≡ Refused why))

-- an event that looks is answered, or refused
module _ (p : Publication) (says : Saying) (answer : Faulty World → Answer) (w : World) (said : Answer) (same : (l : Slips) → answer (faulty w l) ≡ said) where
  slipped-look : (slip : Slip) (l : Slips) (allowed : Bool) → IsSaid said (answered_unless_refused p (stepping p says) answer (slip_if p (machine p says) allowed l slip Look w (w, Passed))).1
  slipped-look slip l true = inr (slip_refusal slip, refl)
  slipped-look slip l false = inl (same l)

  looks : (l : Slips) → IsSaid said (answered_look p (stepping p says) answer (faulty w l)).1
  looks [] = inl (same [])
  looks (None ∷ l) = inl (same l)
  looks (Some slip ∷ l) = slipped-look slip l (is_allowed p w Look slip Passed)

module _ (u : SitesView) (site : SiteId) (name : List ℕ) (place : ℕ) (known : is_site u.publication site ≡ true) (named : article_by u.publication name ≡ Ok place) where
  abbrev asking : (says : Saying) → Faulty World → Answer
  asking says w = report_of_site u.publication (stepping u.publication says) site (λ (t : PublisherTables). publisher_told u.publication (Rows place) t) (λ (t : SubscriberTables). subscriber_told u.publication (Rows place) t) w

  is-asked : (says : Saying) (w : Faulty World) → happens u.publication (stepping u.publication says) w (event.Show site name) ≡ answered_look u.publication (stepping u.publication says) (asking says) w
  is-asked says w = ap (where-if u.publication says site w (λ (v : Faulty World). answered_show u.publication (stepping u.publication says) site v (article_by u.publication name))) known
      ∙ ap (λ (r : Result ℕ (List ℕ)). answered_show u.publication (stepping u.publication says) site w r) named

  comes-said : (says : Saying) (tallies : List ℕ) (v : World) (answer : Answer) (a b : ℕ) → Comes u.publication says (world_of u tallies) (event.Show site name) v answer a b → IsSaid (told_at u site (Rows place)) answer
  unfolding Comes
  comes-said says tallies v answer a b r =
      let w = world_of u tallies in
      let is : (answered_look u.publication (stepping u.publication says) (asking says) (faulty w (r.slips ++ []))).1 ≡ answer =
      ap (λ (done : Faulty World × Answer). done.1) (sym (is-asked says (faulty w (r.slips ++ []))) ∙ r.goes []) in
      subst (λ (x : Answer). IsSaid (told_at u site (Rows place)) x) is (looks u.publication says (asking says) w (told_at u site (Rows place)) (λ l. refl) (r.slips ++ []))

  only-rows : (answer : Answer) (rows : List ShownRow) → answer ≡ Shows rows → IsSaid (told_at u site (Rows place)) answer → answer ≡ told_at u site (Rows place)
  only-rows answer rows shows (inl is) = is
  only-rows answer rows shows (inr (why, is)) = absurd (cc (is, shows))

  pub shown : (v : SitesView) (answer : Answer) (rows : List ShownRow) → answer ≡ Shows rows → ((h : HandedView) → Happened (event.Show site name) u v h h answer) → Shows rows ≡ told_at u site (Rows place)
  shown v answer rows shows happened = sym shows ∙ only-rows answer rows shows (comes-said nobody.says nobody.tallies (world_of v nobody.tallies) answer u.faults v.faults (happened nobody).comes)

-- the answer's text is that of the rows
pub rows-written : (v : SitesView) (site : SiteId) (place : ℕ) (answer : Answer) (p : Publication) (W : List ℕ → Type 0) → answer ≡ told_at v site (Rows place) → p ≡ v.publication → W (text_of (names_of p) answer) → W (shown_text v site place)
rows-written v site place answer p W is same written =
    subst (λ (q : Publication). W (text_of (names_of q) (told_at v site (Rows place)))) same (subst (λ (x : Answer). W (text_of (names_of p) x)) is written)

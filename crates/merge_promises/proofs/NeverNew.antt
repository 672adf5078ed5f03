-- A row that the publisher holds, or of which it accepted a change, is never new: the change that made it was accepted, and so has acted.
use Rattle.std.specs.Prelude.{Bool, None, Option, Some, false, if◌then◌else◌, is_some, refl, true, ℕ, ◌&&◌, ◌==◌, ◌≡◌, ◌≤◌}
use Rattle.std.specs.List.{AllByRecursion}
use Rattle.std.proofs.Common.{ap, arith, subst, sym}
use Rattle.std.proofs.lemmas.Bool.Decides.{nat_tests}
use Rattle.merge_types.specs.declared.identifiers.Dot.{Dot}
use Rattle.merge_types.specs.declared.identifiers.SiteId.{SiteId}
use Rattle.merge_types.specs.declared.row_key.RowKey.{RowKey as Key}
use Rattle.merge_schema.specs.declared.publication.Publication.{Publication}
use Rattle.merge_batch.specs.Makers.{maker_of}
use Rattle.merge_model.specs.History.{MadeChange, has, is_accepted, past_at, pasts_with}
use Rattle.merge_model.specs.History.Model.{Model}
use Rattle.merge_model.specs.Judge.{PublisherJudge}
use Rattle.merge_model.specs.Publisher.Acts.{is_new_row}
use Rattle.merge_model.specs.Tables.Keys.{row_at, same_key}
use Rattle.merge_laws.specs.Facts.Knowledge.{Knowledge, is_made, same_dot}
use Rattle.merge_laws.specs.Facts.LineagesStand.{KnownCounts}
use Rattle.merge_laws.specs.Invariants.Accepting.{accepts}
use Rattle.merge_laws.specs.Laws.Effects.{history_judge}
use Rattle.merge_laws.proofs.Accounts.AccountElements.{all-in, any-out}
use Rattle.merge_laws.proofs.Known.KnownRows.{held-knows}
use Rattle.merge_laws.proofs.Lineages.LineagesAlways.{Kept, ground}
use Rattle.merge_laws.proofs.Own.OwnItems.{new-unaccepted}
use Rattle.merge_laws.proofs.Pasts.DotTests.{dots-same}
use Rattle.merge_promises.specs.Tombstones.{AcceptedAreNeverNew, HeldAreNeverNew}

pub not-true : (b : Bool) → (b ≡ true → ⊥) → b ≡ false
not-true true never = absurd (never refl)
not-true false never = refl

-- a row whose identifier carries no change is none that an upload makes
none-made : (judge : PublisherJudge) (site : SiteId) (key : Key) → maker_of key.row.0 ≡ None → is_new_row judge site key ≡ false
none-made judge site key none =
    ap (λ (found : Option Dot). (let new : Bool = elim found [ None ↦ false | Some dot ↦ if dot.site.0 == site.0 then judge.is_unmet site.0 dot.number else false ] in new)) none

module _ (publication : Publication) (m : Model) (k : Kept publication m) where
  counts : KnownCounts m
  counts = k.accepted.accepted.counts

  knowledge : Knowledge m.history
  knowledge = (ground publication m k).known.knowledge

  abbrev NotNew : SiteId → ℕ → MadeChange → Type 0
  NotNew site number x = (q : Key) → is_new_row (history_judge m number) site q ≡ true → same_key q x.key ≡ true → accepts m.history.accepted x.dot ≡ true → ⊥

  not-new : (site : SiteId) (number : ℕ) → 1 ≤ site.0 → AllByRecursion (NotNew site number) m.history.made
  not-new site number named = new-unaccepted m.history (pasts_with m.history number) site (λ is. absurd (omega (arith, named, is))) counts.inserts counts.makers knowledge k.grounded.1.0.fine

  pub accepted-never : AcceptedAreNeverNew m
  accepted-never key dot made accepted site number named = not-true (is_new_row (history_judge m number) site key) (λ new. any-out ⊥ (λ (change : MadeChange). same_dot change.dot dot && same_key key change.key) m.history.made made (λ change inside is. (
      let same : change.dot ≡ dot = dots-same change.dot dot (grind (arith, is)) in
      all-in (NotNew site number) m.history.made change (not-new site number named) inside key new (grind (arith, is)) (subst (λ (d : Dot). is_accepted m.history d ≡ true) (sym same) accepted))))

  -- the change that made a row that is held is accepted
  pub maker-accepted : (key : Key) (dot : Dot) (b : Bool) → (dot.site.0 == 0) ≡ b → has (past_at m.history 0 key).known dot ≡ true → is_accepted m.history dot ≡ true
  maker-accepted key dot true is known = grind (arith, is)
  maker-accepted key dot false is known = counts.here key dot known (λ own. absurd (grind (arith, nat_tests, is, own)))

  held-by : (key : Key) (found : Option Dot) → maker_of key.row.0 ≡ found → is_some (row_at m.world.publisher.rows key) ≡ true → (site : SiteId) (number : ℕ) → 1 ≤ site.0 → is_new_row (history_judge m number) site key ≡ false
  held-by key None is held site number named = none-made (history_judge m number) site key is
  held-by key (Some dot) is held site number named =
      let known : has (past_at m.history 0 key).known dot ≡ true = k.accepted.makers.here key held dot is in
      let made : is_made m.history.made key dot ≡ true = (held-knows m.history 0 key knowledge).made_here dot known in
      accepted-never key dot made (maker-accepted key dot (dot.site.0 == 0) refl known) site number named

  pub held-never : HeldAreNeverNew m
  held-never key held site number named = held-by key (maker_of key.row.0) refl held site number named

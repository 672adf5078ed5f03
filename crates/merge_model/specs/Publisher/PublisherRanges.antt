-- A site asks for identity ranges.
use Rattle.std.specs.Prelude.{Err, List, None, Ok, Option, Result, Some, [], filter_map, map, ℕ, ◌∷◌}
use Rattle.merge_types.specs.declared.identifiers.Moment.{Moment}
use Rattle.merge_types.specs.declared.identifiers.SiteId.{SiteId}
use Rattle.merge_ident.specs.Answers.{Answer, ask_of, grants_with_all, plans_of}
use Rattle.merge_ident.specs.declared.grants.Ask.{Ask}
use Rattle.merge_ident.specs.declared.grants.GrantAnswer.TheVariants.{Granted, Kept}
use Rattle.merge_ident.specs.declared.grants.IdentityFault.TheVariants.{NoRange}
use Rattle.merge_ident.specs.declared.grants.GrantPlan.{GrantPlan}
use Rattle.merge_ident.specs.declared.grants.Range.{Range}
use Rattle.merge_schema.specs.declared.publication.Publication.{Publication}
use Rattle.merge_batch.specs.declared.refusal.Refusal.{Refusal}
use Rattle.merge_batch.specs.declared.reply.Ended.{Ended}
use Rattle.merge_batch.specs.declared.reply.RangeGrant.{RangeGrant}
use Rattle.merge_batch.specs.declared.reply.Ranged.{Ranged}
use Rattle.merge_batch.specs.declared.request.RangeAsk.{RangeAsk}
use Rattle.merge_batch.specs.declared.request.Want.{Want}
use Rattle.merge_model.specs.World.Faults.{ranges_fault}
use Rattle.merge_model.specs.Judge.{PublisherJudge}
use Rattle.merge_model.specs.Tables.Publications.{rules_of}
use Rattle.merge_model.specs.Publisher.{at_moment, counters, site_refusal}
use Rattle.merge_model.specs.Tables.Refusals.{counter_end, first_refusal, unless}
use Rattle.merge_model.specs.Tables.{PublisherTables}

abbrev pub ask_by : SiteId → Want → Ask
ask_by site want = ask_of site want.article want.have want.due

-- each ask is answered over the grants that those before it leave
abbrev pub plans : Publication → RangeAsk → PublisherTables → List GrantPlan
plans publication m p = plans_of (rules_of publication) p.grants (map (ask_by m.site) m.wants)

abbrev pub grant_of : ℕ → ℕ → Range → RangeGrant
grant_of article number range = record { article = article; number = number; begin = range.begin; end = range.end }

-- a range that was granted, or that was granted before and not heard of
abbrev pub granted_by : ℕ → Answer → Option RangeGrant
granted_by article (Ok (Granted number range)) = Some (grant_of article number range)
granted_by article (Ok (Kept number range)) = Some (grant_of article number range)
granted_by article answer = None

-- no range is left
abbrev pub ended_by : ℕ → Answer → Option Ended
ended_by article (Err (NoRange next greatest)) = Some (record { article = article; next = next; greatest = greatest })
ended_by article answer = None

abbrev pub reply_to_ranges : RangeAsk → List GrantPlan → Ranged
reply_to_ranges m planned = record {
  seq = m.seq;
  grants = filter_map (λ (plan : GrantPlan). granted_by plan.ask.article plan.answer) planned;
  ended = filter_map (λ (plan : GrantPlan). ended_by plan.ask.article plan.answer) planned;
}

abbrev pub with_grants : List GrantPlan → PublisherTables → PublisherTables
with_grants planned p = record p { grants = grants_with_all p.grants planned }

abbrev pub ranges_refusal : Publication → PublisherJudge → Moment → RangeAsk → PublisherTables → Option Refusal
ranges_refusal publication judge now m p = first_refusal (
    site_refusal publication m.site m.seq now p
    ∷ ranges_fault publication judge m p
    ∷ counter_end (counters p)
    ∷ [])

abbrev pub ranges : Publication → PublisherJudge → Moment → RangeAsk → PublisherTables → Result (PublisherTables × Ranged) Refusal
ranges publication judge now m p = unless (ranges_refusal publication judge now m p)
    (with_grants (plans publication m p) (at_moment now p), reply_to_ranges m (plans publication m p))

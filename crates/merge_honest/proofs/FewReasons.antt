-- What is left that a request may be refused for, and that each other is answered.
use Rattle.std.specs.List.{AllByRecursion, list_any}
use Rattle.std.specs.Prelude.{Bool, List, None, [], false, refl, true, ℕ, ◌==◌, ◌≡◌, ◌∷◌}
use Rattle.std.proofs.Common.{ap, arith, subst, sym, ◌∙◌}
use Rattle.std.proofs.lemmas.Bool.Decides.{nat_tests}
use Rattle.merge_batch.specs.declared.refusal.Refusal.{Refusal}
use Rattle.merge_batch.specs.declared.refusal.Refusal.TheVariants.{BadBatch}
use Rattle.merge_batch.specs.declared.request.UploadItem.{UploadItem}
use Rattle.merge_laws.specs.Laws.{OfEveryValidRun}
use Rattle.merge_laws.proofs.Accounts.AccountElements.{any-out, all-in}
use Rattle.merge_model.proofs.Lists.{all-unit}
use Rattle.merge_model.proofs.Lists.Tests.{numbers-same}
use Rattle.merge_honest.specs.Delivered.{FirstReasonIsTold, NoneIsRefusedFor, breaks, is_unexpected}
use Rattle.merge_honest.proofs.AskRules.{no-ask-misfits}
use Rattle.merge_honest.proofs.Breaking.{follows-all}
use Rattle.merge_honest.proofs.KnownItems.{no-unknown-tops, no-unseen-lineages}
use Rattle.merge_honest.proofs.MadeUploads.{no-many-generations, no-many-items, no-row-falls, no-upload-without, none-stands-outside}
use Rattle.merge_honest.proofs.MakerRules.{no-unheard-maker}
use Rattle.merge_honest.proofs.NumberRules.{no-lineage-misfits, no-number-too-great}
use Rattle.merge_honest.proofs.Refusing.{delivered-why}
use Rattle.merge_honest.proofs.RowRules.{no-row-misfits}
use Rattle.merge_honest.proofs.Rules.{ItemMeets, head-met, of-uploads}
use Rattle.merge_honest.proofs.KnownSenders.{passes-always}

-- whatever is neither allowed nor a rule of messages
abbrev is_strange : Refusal → Bool
is_strange (BadBatch item broken) = false
is_strange other = is_unexpected other

none-strange : OfEveryValidRun (NoneIsRefusedFor is_strange)
none-strange = passes-always is_strange (record { expired = λ last now. refl; stale = λ seq joined. refl; rows = λ count. refl; ends = λ value. refl }) (λ item rule. refl)

-- Each rule of messages is kept.

abbrev pub IsKept : ℕ → Type 0
IsKept rule = OfEveryValidRun (NoneIsRefusedFor (breaks rule))

abbrev message_rules : List ℕ
message_rules = 1 ∷ 2 ∷ 3 ∷ 4 ∷ 5 ∷ 6 ∷ 7 ∷ 8 ∷ 9 ∷ 10 ∷ 11 ∷ 12 ∷ 13 ∷ []

all-kept : IsKept 12 → AllByRecursion IsKept message_rules
all-kept twelve = (no-upload-without, (no-many-generations, (no-many-items, (no-number-too-great, (no-row-falls, (no-row-misfits, (no-lineage-misfits, (none-stands-outside, (no-unknown-tops, (no-unheard-maker, (no-unseen-lineages, (twelve, (no-ask-misfits, tt)))))))))))))

-- and there is no other
no-other : (rule : ℕ) → list_any (λ (other : ℕ). other == rule) message_rules ≡ false → IsKept rule
no-other rule none = of-uploads rule (grind (arith, nat_tests, none)) (grind (arith, nat_tests, none)) (λ publication m k number site u at fine. (
  head-met rule publication m number u (grind (arith, nat_tests, none)),
  follows-all (λ (item : UploadItem). Unit {0}) (ItemMeets rule publication m number u) (λ before item unit. grind (arith, nat_tests, none)) None u.items (all-unit u.items),
))

kept-by : (rule : ℕ) (b : Bool) → IsKept 12 → list_any (λ (other : ℕ). other == rule) message_rules ≡ b → IsKept rule
kept-by rule true twelve is = any-out (IsKept rule) (λ (other : ℕ). other == rule) message_rules is (λ other inside same. subst IsKept (numbers-same other rule same) (all-in IsKept message_rules other (all-kept twelve) inside))
kept-by rule false twelve is = no-other rule is

unexpected-by : (why : Refusal) → is_strange why ≡ false → ((item rule : ℕ) → why ≡ BadBatch item rule → is_unexpected (BadBatch item rule) ≡ false) → is_unexpected why ≡ false
unexpected-by (BadBatch item rule) strange bad = bad item rule refl
unexpected-by why strange bad = strange

-- a rule that is broken is not broken
never-itself : (item rule : ℕ) (why : Refusal) → why ≡ BadBatch item rule → breaks rule why ≡ false → is_unexpected (BadBatch item rule) ≡ false
never-itself item rule why same is = absurd (let differs : (rule == rule) ≡ false = ap (breaks rule) (sym same) ∙ is in grind (arith, nat_tests, differs))

pub none-unexpected : IsKept 12 → OfEveryValidRun (NoneIsRefusedFor is_unexpected)
none-unexpected twelve resolvers publication valid says tallies slips events number site r why at e = unexpected-by why (none-strange resolvers publication valid says tallies slips events number site r why at e)
    (λ item rule same. never-itself item rule why same (kept-by rule (list_any (λ (other : ℕ). other == rule) message_rules) twelve refl resolvers publication valid says tallies slips events number site r why at e))

pub first-reason : FirstReasonIsTold
first-reason publication says m number site r why at e = delivered-why publication says m number site r why at e

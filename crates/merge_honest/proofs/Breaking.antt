-- Messages that keep a rule are not refused for it.
use Rattle.std.specs.List.{AllByRecursion, list_all}
use Rattle.std.specs.Option.{option_or}
use Rattle.std.specs.Prelude.{Bool, List, None, Option, Some, [], false, not, option_map, refl, true, ℕ, ◌+◌, ◌==◌, ◌||◌, ◌≡◌, ◌∷◌}
use Rattle.std.proofs.Common.{arith, subst}
use Rattle.std.proofs.lemmas.Bool.Decides.{nat_tests}
use Rattle.merge_schema.specs.declared.publication.Publication.{Publication}
use Rattle.merge_batch.specs.Known.{Known}
use Rattle.merge_batch.specs.Search.{broken_at, broken_by_items, broken_by_message, broken_from, first_broken}
use Rattle.merge_batch.specs.Uploads.{broken_by_upload, item_rules, upload_rules}
use Rattle.merge_batch.specs.declared.refusal.Refusal.TheVariants.{BadBatch}
use Rattle.merge_batch.specs.declared.request.Upload.{Upload}
use Rattle.merge_batch.specs.declared.request.UploadItem.{UploadItem}
use Rattle.merge_batch.specs.declared.rules.BrokenRule.{BrokenRule}
use Rattle.merge_model.specs.World.Faults.{fault_of}
use Rattle.merge_model.proofs.Lists.Finding.{some_same}
use Rattle.merge_honest.specs.Delivered.{breaks}
use Rattle.merge_honest.proofs.Refusing.{Never, none-never, some-never}

-- the rule with this number is met
abbrev pub meets : ℕ → List (ℕ × Bool) → Bool
meets rule rules = list_all (λ (other : ℕ × Bool). not (other.0 == rule) || other.1) rules

-- what is broken is another rule
abbrev pub IsOther : ℕ → Option BrokenRule → Type 0
IsOther rule found = (broken : BrokenRule) → found ≡ Some broken → (broken.rule == rule) ≡ false

none-other : (rule : ℕ) → IsOther rule None
none-other rule broken e = absurd cc

first-other : (rule : ℕ) (rules : List (ℕ × Bool)) (n : ℕ) → meets rule rules ≡ true → first_broken rules ≡ Some n → (n == rule) ≡ false
first-other rule [] n met e = absurd cc
first-other rule ((number, true) ∷ rules) n met e = first-other rule rules n (grind (arith, met)) e
first-other rule ((number, false) ∷ rules) n met e =
    let differs : (number == rule) ≡ false = grind (arith, met) in
    subst (λ (k : ℕ). (k == rule) ≡ false) (some_same number n e) differs

at-other : (rule place : ℕ) (found : Option ℕ) → ((n : ℕ) → found ≡ Some n → (n == rule) ≡ false) → IsOther rule (option_map (broken_at place) found)
at-other rule place None each broken e = absurd cc
at-other rule place (Some n) each broken e = subst (λ (b : BrokenRule). (b.rule == rule) ≡ false) (some_same (broken_at place n) broken e) (each n refl)

or-other : (rule : ℕ) (one other : Option BrokenRule) → IsOther rule one → IsOther rule other → IsOther rule (option_or one other)
or-other rule (Some broken) other first second = first
or-other rule None other first second = second

pub message-other : (rule : ℕ) (rules : List (ℕ × Bool)) → meets rule rules ≡ true → IsOther rule (broken_by_message rules)
message-other rule rules met = at-other rule 0 (first_broken rules) (λ n e. first-other rule rules n met e)

-- of each item with the one before it
abbrev pub Follows : {X : Type 0} → (Option X → X → Type 0) → Option X → List X → Type 0
Follows P before [] = Unit {0}
Follows P before (x ∷ xs) = P before x × Follows P (Some x) xs

pub follows-all : {X : Type 0} (P : X → Type 0) (Q : Option X → X → Type 0) → ((before : Option X) (x : X) → P x → Q before x) → (before : Option X) (xs : List X) → AllByRecursion P xs → Follows Q before xs
follows-all P Q each before [] all = tt
follows-all P Q each before (x ∷ xs) all = (each before x all.0, follows-all P Q each (Some x) xs all.1)

from-other : {X : Type 0} (rule : ℕ) (rules : Option X → X → List (ℕ × Bool)) (place : ℕ) (before : Option X) (items : List X) → Follows (λ (b : Option X) (x : X). meets rule (rules b x) ≡ true) before items → IsOther rule (broken_from rules place before items)
from-other rule rules place before [] met = none-other rule
from-other {X} rule rules place before (item ∷ items) met =
    or-other rule (option_map (broken_at place) (first_broken (rules before item))) (broken_from rules (place + 1) (Some item) items)
    (at-other rule place (first_broken (rules before item)) (λ n e. first-other rule (rules before item) n met.0 e))
    (from-other {X = X} rule rules (place + 1) (Some item) items met.1)

pub items-other : {X : Type 0} (rule : ℕ) (rules : Option X → X → List (ℕ × Bool)) (items : List X) → Follows (λ (b : Option X) (x : X). meets rule (rules b x) ≡ true) None items → IsOther rule (broken_by_items rules items)
items-other rule rules items met = from-other rule rules 1 None items met

pub fault-never : (rule : ℕ) (found : Option BrokenRule) → IsOther rule found → Never (breaks rule) (fault_of found)
fault-never rule None other = none-never (breaks rule)
fault-never rule (Some broken) other = some-never (breaks rule) (BadBatch broken.item broken.rule) (other broken refl)

-- an upload whose head breaks another rule, if one, and each of whose items meets the rule
pub upload-other : (rule : ℕ) (publication : Publication) (known : Known) (m : Upload) → IsOther rule (broken_by_message (upload_rules known m))
    → Follows (λ (before : Option UploadItem) (item : UploadItem). meets rule (item_rules publication known m before item) ≡ true) None m.items → Never (breaks rule) (fault_of (broken_by_upload publication known m))
unfolding broken_by_upload
upload-other rule publication known m head items = fault-never rule _
    (or-other rule (broken_by_message (upload_rules known m)) (broken_by_items (item_rules publication known m) m.items) head (items-other rule (item_rules publication known m) m.items items))

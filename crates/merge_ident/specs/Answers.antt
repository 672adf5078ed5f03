-- What a site is answered that asks for a range.
use Rattle.std.specs.Prelude.{◌≡◌, ℕ, ◌+◌, ◌-◌, Bool, true, false, ◌==◌, if◌then◌else◌, nat_le, pos, List, [], ◌∷◌, Option, Some, None, Result, Ok, Err, ◌⊎◌, find}
use Rattle.std.specs.Ordering.{nat_cmp}
use Rattle.std.specs.declared.cmp.Ordering.{Ordering}
use Rattle.std.specs.declared.cmp.Ordering.TheVariants.{Less, Equal, Greater}
use Rattle.merge_types.specs.declared.identifiers.SiteId.{SiteId}
use Rattle.merge_ident.specs.declared.grants.Grant.{Grant}
use Rattle.merge_ident.specs.declared.grants.Rule.{Rule}
use Rattle.merge_ident.specs.declared.grants.Ask.{Ask}
use Rattle.merge_ident.specs.declared.grants.GrantPlan.{GrantPlan}
use Rattle.merge_ident.specs.declared.grants.GrantAnswer.{GrantAnswer}
use Rattle.merge_ident.specs.declared.grants.GrantAnswer.TheVariants.{Granted, Kept, NotDue}
use Rattle.merge_ident.specs.declared.grants.IdentityFault.{IdentityFault}
use Rattle.merge_ident.specs.declared.grants.IdentityFault.TheVariants.{NoRange, TooMany, NoMemory}
use Rattle.merge_ident.specs.Grants.{natural, granted_to, is_numbered, greatest_end, with_grant}

abbrev pub ask_of : SiteId → ℕ → ℕ → Bool → Ask
ask_of site article have due = record { site = site; article = article; have = have; due = due }

-- what a call answers
abbrev pub Answer : Type 0
Answer = Result GrantAnswer IdentityFault

-- the rule of an article
abbrev pub rule_of : List Rule → ℕ → Option Rule
rule_of rules article = find (λ rule. rule.article == article) rules

-- how long a site's ranges are
abbrev pub size_for : Rule → ℕ → ℕ
size_for rule site = if site == 0 then rule.pub_range else rule.range

-- where a range begins behind the greatest end so far; the first one begins at the seed
abbrev pub next_begin : Rule → ℕ → ℕ
next_begin rule greatest = if greatest == 0 then natural rule.seed else greatest + 1

-- where that range ends
abbrev pub next_end : Rule → ℕ → ℕ → ℕ
next_end rule site greatest = next_begin rule greatest + size_for rule site - 1

-- the next range, if it does not pass the greatest value
abbrev pub next_answer : Rule → ℕ → ℕ → ℕ → Answer
next_answer rule site number greatest =
    if nat_le (next_end rule site greatest) (natural rule.greatest)
    then Ok (Granted number (record { begin = pos (next_begin rule greatest); end = pos (next_end rule site greatest) }))
    else Err (NoRange (next_begin rule greatest) rule.greatest)

-- an article without a rule has no ranges
abbrev pub ruled_answer : Option Rule → ℕ → ℕ → ℕ → Answer
ruled_answer None site number greatest = Ok NotDue
ruled_answer (Some rule) site number greatest = next_answer rule site number greatest

-- a grant that the site did not hear of
abbrev pub kept_answer : Option Grant → Answer
kept_answer None = Ok NotDue
kept_answer (Some grant) = Ok (Kept grant.number grant.range)

-- the table, by how what the site heard of compares with what it got, and by whether it is due
abbrev pub answer_by : Ordering → Bool → Answer → Answer → Answer → Answer
answer_by Less due kept too_many next = kept
answer_by Greater due kept too_many next = too_many
answer_by Equal false kept too_many next = Ok NotDue
answer_by Equal true kept too_many next = next

-- what an ask is answered over these grants
abbrev pub answer_of : List Rule → List Grant → Ask → Answer
answer_of rules grants ask =
    answer_by (nat_cmp ask.have (granted_to ask.article ask.site.0 grants)) ask.due
    (kept_answer (find (is_numbered ask.article ask.site.0 (ask.have + 1)) grants))
    (Err (TooMany (granted_to ask.article ask.site.0 grants)))
    (ruled_answer (rule_of rules ask.article) ask.site.0 (ask.have + 1) (greatest_end ask.article grants))

-- the grant that an answer makes
abbrev pub new_grant : Ask → Answer → Option Grant
new_grant ask (Ok (Granted number range)) = Some (record { article = ask.article; site = ask.site; number = number; range = range })
new_grant ask _ = None

abbrev pub with_new : List Grant → Option Grant → List Grant
with_new grants None = grants
with_new grants (Some grant) = with_grant grants grant

-- the grants after an answer
abbrev pub grants_after : List Grant → Ask → Answer → List Grant
grants_after grants ask answer = with_new grants (new_grant ask answer)

-- a new grant is written down, which takes memory; nothing else does
abbrev pub NeedsMemory : Answer → Type 0
NeedsMemory (Ok (Granted number range)) = Unit {0}
NeedsMemory _ = ⊥

-- the answer that is owed, or want of memory where it needs memory
abbrev pub IsAnswer : Answer → Answer → Type 0
IsAnswer answer owed = (answer ≡ owed) ⊎ ((answer ≡ Err NoMemory) × NeedsMemory owed)

-- an ask with what it is answered
abbrev pub plan_of : List Rule → List Grant → Ask → GrantPlan
plan_of rules grants ask = record { ask = ask; answer = answer_of rules grants ask }

-- the grants after what was planned for one ask, and after what was planned for several
abbrev pub grants_with : List Grant → GrantPlan → List Grant
grants_with grants planned = grants_after grants planned.ask planned.answer

abbrev pub grants_with_all : List Grant → List GrantPlan → List Grant
grants_with_all grants [] = grants
grants_with_all grants (planned ∷ plans) = grants_with_all (grants_with grants planned) plans

-- the plans of several asks, each over the grants that those before it leave
abbrev pub plans_of : List Rule → List Grant → List Ask → List GrantPlan
plans_of rules grants [] = []
plans_of rules grants (ask ∷ asks) = plan_of rules grants ask ∷ plans_of rules (grants_with grants (plan_of rules grants ask)) asks

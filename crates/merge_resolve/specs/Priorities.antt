-- The priorities of the two sides of a conflict.
use Rattle.std.specs.Prelude.{ℕ, ◌==◌, if◌then◌else◌, max, List, find, Option, Some, None, unwrap_or}
use Rattle.std.specs.List.{fold}
use Rattle.std.specs.Option.{option_and_then}
use Rattle.merge_types.specs.declared.identifiers.Dot.{Dot}
use Rattle.merge_schema.specs.declared.publication.Publication.{Publication}
use Rattle.merge_schema.specs.declared.publication.Subscription.{Subscription}
use Rattle.merge_schema.specs.declared.publication.SubscriptionKind.TheVariants as kind

abbrev pub subscription_at : Publication → ℕ → Option Subscription
subscription_at publication site = find (λ (subscription : Subscription). subscription.site.0 == site) publication.subscriptions

-- the priority of a server; a client has none
abbrev pub server_priority : Subscription → Option ℕ
server_priority subscription = elim subscription.kind [
  | kind.Server ↦ Some subscription.priority
  | kind.Client ↦ None
]

abbrev pub priority_at : Publication → ℕ → Option ℕ
priority_at publication site = option_and_then server_priority (subscription_at publication site)

-- the publisher's own changes, and those of clients, weigh most
abbrev pub top_priority : Publication → Dot → ℕ
top_priority publication top = if top.site.0 == 0 then 10000 else unwrap_or (priority_at publication top.site.0) 10000

abbrev pub greatest_priority : Publication → List Dot → ℕ
greatest_priority publication tops = fold (λ (most : ℕ) (top : Dot). max most (top_priority publication top)) 0 tops

-- a site without a priority comes last
abbrev pub incoming_priority : Publication → ℕ → ℕ
incoming_priority publication site = unwrap_or (priority_at publication site) 0

-- The subscriber is alone.
use Rattle.std.proofs.Common.{[], ap, rules, subst, sym, true, ◌++◌, ◌∙◌, ◌∷◌, ◌≡◌, List}
use Rattle.merge_schema.specs.Places.{is_subscription}
use Rattle.merge_schema.specs.declared.publication.Publication.{Publication}
use Rattle.merge_world.specs.Views.{SubscriberView}
use Rattle.merge_program.proofs.Sites.{subscriber-read-of}
use Rattle.merge_program.proofs.alone.open_subscriber.Goals as goal

pub start_subscriber-requires-clause-subscribes : goal.start_subscriber-requires-clause-subscribes
start_subscriber-requires-clause-subscribes g c = subst (λ (p : Publication). is_subscription p c.args.site.0 ≡ true) (sym c.in_ok-own.ensures) c.requires.subscribes

pub returns-clause-read : goal.returns-clause-read
returns-clause-read g c =
    let none : c.new-subscribers.result.items ≡ [] = search rules in
    let empty : c.new-pool.result.items ≡ [] = search rules in
    let e = c.in_ok-subscriber.ensures in
    let one = c.put.ensures ∙ ap (λ (l : List SubscriberView). l ++ c.in_ok-subscriber.subscriber ∷ []) (c.in_ok-make_room.ensures.items ∙ none) in
    subscriber-read-of _ _ _ _ _ c.in_ok-subscriber.subscriber _ _ (search rules) c.in_ok-own.ensures one empty e.tables e.site e.publication e.faults

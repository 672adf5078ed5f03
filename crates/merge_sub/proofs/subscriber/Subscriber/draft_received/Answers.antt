use Rattle.std.specs.Prelude.{◌++◌, List, Some, filter_map, refl}
use Rattle.std.proofs.Common.{ap, rules, ◌∙◌}
use Rattle.merge_types.specs.declared.row_key.RowKey.{RowKey}
use Rattle.merge_table.specs.declared.edit.Edit.{Edit}
use Rattle.merge_units.specs.declared.site_row.SubscriberRow.{SubscriberRow}
use Rattle.merge_sub.proofs.Taken.{taken-draft, taken-ready}
use Rattle.merge_sub.specs.Taking.{let_go, order_of}
use Rattle.merge_sub.proofs.subscriber.Subscriber.draft_received.Goals as goal

pub prepare-requires-3-clause-sound : goal.prepare-requires-3-clause-sound
prepare-requires-3-clause-sound c =
    taken-ready _ _ c.self.view_is c.self.invariant
    (record { publication = c.self.inside.publication; site = c.self.inside.site; state = c.self.inside.state; gens = c.prepare.new.self; rows = c.self.inside.rows; unsent = c.self.inside.unsent; conflicts = c.prepare-2.new.self; held = c.self.inside.held })
    (search rules) c.args.state (record { changes = c.requires.changes; conflicts = c.requires.conflicts }) c.requires.closed
    c.in_ok-keys.keys.items c.in_ok-keys.ensures c.args.items.now c.requires.orders
    (record { state = c.args.state; gens = c.in_ok-gens.gens; done = Some c.args.state.received; rows = c.add_orders.new.edits; held = c.empty-2.result; conflicts = c.in_ok-conflicts.conflicts })
    (record {
      own = refl;
      gens = c.in_ok-gens.ensures.plan;
      done = refl;
      rows =
          c.in_ok-add_orders.ensures
          ∙ ap (λ (front : List (Edit RowKey SubscriberRow)). front ++ filter_map (order_of c.self.inside.rows.rows c.args.state.received) c.args.items.now)
          (c.in_ok-rows.ensures ∙ ap (filter_map (let_go c.self.inside.rows.rows c.args.state.received)) c.deref-2.ensures.value);
      held = c.empty-2.ensures;
      conflicts = c.in_ok-conflicts.ensures.plan ∙ c.empty.ensures;
    })
    c.in_ok-index.index (search rules)

pub returns-clause-made : goal.returns-clause-made
returns-clause-made c =
    taken-draft _ _ c.self.view_is c.args.state c.in_ok-keys.keys.items c.in_ok-keys.ensures c.args.items.now
    (record { state = c.args.state; gens = c.in_ok-gens.gens; done = Some c.args.state.received; rows = c.add_orders.new.edits; held = c.empty-2.result; conflicts = c.in_ok-conflicts.conflicts })
    (record {
      own = refl;
      gens = c.in_ok-gens.ensures.plan;
      done = refl;
      rows =
          c.in_ok-add_orders.ensures
          ∙ ap (λ (front : List (Edit RowKey SubscriberRow)). front ++ filter_map (order_of c.self.inside.rows.rows c.args.state.received) c.args.items.now)
          (c.in_ok-rows.ensures ∙ ap (filter_map (let_go c.self.inside.rows.rows c.args.state.received)) c.deref-2.ensures.value);
      held = c.empty-2.ensures;
      conflicts = c.in_ok-conflicts.ensures.plan ∙ c.empty.ensures;
    })
    c.in_ok-draft.draft.changes c.in_ok-draft.ensures.changes

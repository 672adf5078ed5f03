-- The numbers in reports are those of the history.
use Rattle.std.specs.Prelude.{List, Option, Some, length, option_map, unwrap_or, ◌+◌, ◌≡◌, ℕ}
use Rattle.std.proofs.Common.{ap, arith, sym, ◌∙◌}
use Rattle.merge_types.specs.declared.row_key.RowKey.{RowKey as Key}
use Rattle.merge_gens.specs.declared.sites.SiteState.{SiteState}
use Rattle.merge_model.specs.Tables.Keys.{at_number}
use Rattle.merge_model.specs.History.Model.{Model}
use Rattle.merge_model.specs.Failing.Runs.{model_behind_actions}
use Rattle.merge_model.specs.Subscriber.{subscriber_last_closed}
use Rattle.merge_model.proofs.Lists.Finding.{found-named}
use Rattle.merge_laws.specs.Laws.{OfEveryValidActions}
use Rattle.merge_laws.proofs.Lineages.LineagesAlways.{ground, kept-by-actions, publisher-alike}
use Rattle.merge_laws.proofs.Unsent.UnsentKept.{decides-alike, unsent-by-actions}
use Rattle.merge_owed.specs.Forgotten.{PublisherTellsDone, SubscribersTellMade}

-- a number of a state that is kept
kept-number : (field : SiteState → ℕ) (found : Option SiteState) (state : SiteState) → found ≡ Some state → field state ≡ unwrap_or (option_map field found) 0
kept-number field found state at = sym (ap (λ (o : Option SiteState). unwrap_or (option_map field o) 0) at)

pub publisher-tells : OfEveryValidActions PublisherTellsDone
publisher-tells resolvers publication valid says tallies slips actions site state at =
    let m : Model = model_behind_actions publication says tallies slips actions in
    let alike = publisher-alike publication m (kept-by-actions publication (resolvers, valid) says tallies slips actions) in record {
      received = kept-number (λ (s : SiteState). s.received) _ state at ∙ alike.received site;
      number = kept-number (λ (s : SiteState). s.received_number) _ state at ∙ alike.received_number site;
      seen = λ some. kept-number (λ (s : SiteState). s.seen) _ state at ∙ alike.seen site some;
    }

pub subscribers-tell : OfEveryValidActions SubscribersTellMade
subscribers-tell resolvers publication valid says tallies slips actions n s at =
    let m : Model = model_behind_actions publication says tallies slips actions in
    let g = ground publication m (kept-by-actions publication (resolvers, valid) says tallies slips actions) in
    let i = unsent-by-actions publication says tallies slips actions in
    let own : s.site.0 ≡ n = (g.received.subscribers n s at).keyed in
    let there : at_number m.world.subscribers s.site.0 ≡ Some s = ap (λ (k : ℕ). at_number m.world.subscribers k) own ∙ at in
    ap (λ (rows : List (Key × ℕ)). length rows) ((decides-alike m i.0 i.1 s (λ zero. found-named m.world.subscribers n s g.none at (sym own ∙ zero)) there).changed_between s.received (subscriber_last_closed s + 1) (omega arith))

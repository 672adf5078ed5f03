use Rattle.std.proofs.Common.{◌≡◌, ◌∷◌, Some, true, cond, length, refl, sym, ap, ◌∙◌, drop, ◌+◌}
use Rattle.std.specs.Prelude.{find}
use Rattle.std.proofs.lemmas.Option.{slice_get_read}
use Rattle.merge_part.specs.Subscribers.{is_site}
use Rattle.merge_part.proofs.Walks.{drop_next}
use Rattle.merge_part.proofs.subscribers.place_of.Goals as goal

pub returns-then-eq-clause-some : goal.returns-then-eq-clause-some
returns-then-eq-clause-some c =
    let split : drop c.loop-place.place c.args.subscriptions.now ≡ c.index-subscriptions-place.result ∷ drop (c.loop-place.place + 1) c.args.subscriptions.now
    = drop_next c.args.subscriptions.now c.loop-place.place c.index-subscriptions-place.result c.loop-place-test.true c.index-subscriptions-place.is in
    let passes : is_site c.args.site c.index-subscriptions-place.result ≡ true = sym c.eq.ensures ∙ c.if-eq.true in
    record {
      subscription = c.index-subscriptions-place.result;
      stands = slice_get_read c.args.subscriptions.now (length c.args.subscriptions.now) c.loop-place.place c.index-subscriptions-place.result refl c.loop-place-test.true c.index-subscriptions-place.is;
      first =
          sym c.loop-place.invariant
          ∙ ap (find (is_site c.args.site)) split
          ∙ ap (λ b. cond b (Some c.index-subscriptions-place.result) (find (is_site c.args.site) (drop (c.loop-place.place + 1) c.args.subscriptions.now))) passes;
    }

-- The rule that an ask for ranges keeps: it names identity articles, each once, with no more ranges than were granted. Rule 13.
use Rattle.std.specs.List.{list_all}
use Rattle.std.specs.Prelude.{List, None, [], map, refl, true, ℕ, ◌≡◌, ◌∷◌}
use Rattle.std.proofs.Common.{arith, subst, sym}
use Rattle.std.proofs.lemmas.Bool.Decides.{nat_tests}
use Rattle.merge_ident.specs.declared.grants.Grant.{Grant}
use Rattle.merge_schema.specs.declared.publication.Publication.{Publication}
use Rattle.merge_batch.specs.Asks.{broken_by_ranges, want_fits, wanted_article, wants_fit}
use Rattle.merge_batch.specs.Known.{Known as HeldAgainst}
use Rattle.merge_batch.specs.Search.{are_distinct}
use Rattle.merge_batch.specs.declared.request.RangeAsk.{RangeAsk}
use Rattle.merge_batch.specs.declared.request.Request.TheVariants as request
use Rattle.merge_batch.specs.declared.request.UploadItem.{UploadItem}
use Rattle.merge_batch.specs.declared.request.Want.{Want}
use Rattle.merge_model.specs.World.Faults.{ranges_fault}
use Rattle.merge_model.specs.History.Model.{Model}
use Rattle.merge_model.specs.declared.letter.Letter.{Letter}
use Rattle.merge_model.specs.declared.letter.Message.TheVariants.{Asks}
use Rattle.merge_model.proofs.Lists.Finding.{all-weaker, pool-at}
use Rattle.merge_model.proofs.Lists.{all-unit}
use Rattle.merge_laws.specs.Laws.Effects.{history_judge}
use Rattle.merge_laws.specs.Laws.{OfEveryValidRun}
use Rattle.merge_honest.specs.Delivered.{NoneIsRefusedFor, breaks}
use Rattle.merge_honest.specs.HeldRanges.{AsksWell, MessageIsGranted, WantHas}
use Rattle.merge_honest.proofs.Breaking.{fault-never, follows-all, message-other}
use Rattle.merge_honest.proofs.KnownItems.{all-true}
use Rattle.merge_honest.proofs.RangeAnswers.{ascend-distinct}
use Rattle.merge_honest.proofs.Refusing.{Never}
use Rattle.merge_honest.proofs.Rules.{AsksKeep, ItemMeets, Known, head-met, held_against, join-other, none-breaks}

want-fits : (publication : Publication) (known : HeldAgainst) (site : ℕ) (want : Want) → WantHas publication known.grants site want → want_fits publication known site want ≡ true
want-fits publication known site want has =
    let identity = has.identity in
    let granted = has.granted in
    grind (arith, nat_tests, identity, granted)

wants-fit : (publication : Publication) (known : HeldAgainst) (ask : RangeAsk) → AsksWell publication known.grants ask.site.0 ask → wants_fit publication known ask ≡ true
wants-fit publication known ask well =
    let all : list_all (want_fits publication known ask.site.0) ask.wants ≡ true = all-true (want_fits publication known ask.site.0) ask.wants
    (all-weaker (WantHas publication known.grants ask.site.0) (λ (want : Want). want_fits publication known ask.site.0 want ≡ true) (λ want has. want-fits publication known ask.site.0 want has) ask.wants well.each) in
    let distinct : are_distinct (map wanted_article ask.wants) ≡ true = ascend-distinct (map wanted_article ask.wants) well.ascend in
    grind (arith, all, distinct)

ranges-kept : (publication : Publication) (m : Model) (number : ℕ) (ask : RangeAsk) → wants_fit publication (held_against publication m number) ask ≡ true → Never (breaks 13) (ranges_fault publication (history_judge m number) ask m.world.publisher)
unfolding broken_by_ranges
ranges-kept publication m number ask is = fault-never 13 _ (message-other 13 ((13, wants_fit publication (held_against publication m number) ask) ∷ []) (grind (arith, is)))

asks-keep : (publication : Publication) (m : Model) → Known publication m → AsksKeep 13 publication m
asks-keep publication m k number site ask at fine =
    let grants : List Grant = m.world.publisher.grants in
    let well : AsksWell publication grants site.0 ask = pool-at (λ (letter : Letter). MessageIsGranted publication grants letter.site.0 letter.message) m.world number (record { site = site; message = Asks (request.Ranges ask) }) at k.held.letters in
    ranges-kept publication m number ask (wants-fit publication (held_against publication m number) ask (subst (λ (n : ℕ). AsksWell publication grants n ask) (sym well.sender) well))

pub no-ask-misfits : OfEveryValidRun (NoneIsRefusedFor (breaks 13))
no-ask-misfits = none-breaks 13 (record {
  joins = λ publication m k number site j at. join-other 13 j refl;
  asks = asks-keep;
  uploads = λ publication m k number site u at fine. (
    head-met 13 publication m number u refl,
    follows-all (λ (item : UploadItem). Unit {0}) (ItemMeets 13 publication m number u) (λ before item unit. refl) None u.items (all-unit u.items),
  );
})

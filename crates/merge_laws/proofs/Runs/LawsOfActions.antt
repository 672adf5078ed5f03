-- Laws of every list of actions that follow at once from what is known of the model behind it.
use Rattle.std.specs.Prelude.{◌≡◌, ◌≤◌, ℕ, ℤ, [], true, count_by, nat_le}
use Rattle.std.specs.List.{AllByRecursion}
use Rattle.std.proofs.Common.{arith, sym, ◌∙◌}
use Rattle.std.proofs.lemmas.Bool.Decides.{nat_tests}
use Rattle.merge_schema.specs.declared.publication.Publication.{Publication}
use Rattle.merge_model.specs.Judge.ByNumbers.{received_by_number}
use Rattle.merge_model.specs.Judge.ByHistory.{by_history}
use Rattle.merge_model.specs.Failing.{faulty}
use Rattle.merge_model.specs.Laws.{AreSorted, SubscriberIsSorted}
use Rattle.merge_model.specs.History.Model.{Model, empty_model, model}
use Rattle.merge_model.specs.Laws.Promises.{IdentitiesApart, NoneActsTwice, OldIsPast, RangesApart}
use Rattle.merge_model.specs.Failing.Runs.{model_behind_actions}
use Rattle.merge_model.specs.Tables.{SubscriberTables}
use Rattle.merge_model.proofs.Runs.Actions.{failing-actions-keep}
use Rattle.merge_model.proofs.Publishers.DoneOnce.{Once, none_acts_twice, step-once}
use Rattle.merge_model.proofs.Runs.{publisher_stays_sorted}
use Rattle.merge_model.proofs.Publishers.Sorted.{step-sorted}
use Rattle.merge_laws.specs.Facts.Behind.{Behind}
use Rattle.merge_laws.specs.Facts.Identities.{OfEveryRuledActions, TakenWereGranted, gives_to, holder_in, holders_at, takes_at}
use Rattle.merge_laws.specs.Facts.Knowledge.{KnownWereMade, MadeAreNumbered}
use Rattle.merge_laws.specs.Laws.LastLines.{ChangedIsLastChange, LeftByLine, MappingIsLastLine, TouchedInsideByLine, TouchedOutsideByLine}
use Rattle.merge_laws.specs.Laws.{ActedIsDone, ClosingsKeepTheLast, GapIsDone, JoinedTakesActed, KnowsOnlyMade, OfEveryActions, ReceivedIsDone, ReceivedNumberIsDone, SubscribersDecideAlike, TakesOnlyClosed, UnmetIsDone, UploadsTellTheLast}
use Rattle.merge_laws.specs.Facts.Received.{Received}
use Rattle.merge_laws.specs.Facts.Watermarks.{WatermarksAreHeld}
use Rattle.merge_laws.proofs.Received.BehindKept.{behind-by-actions}
use Rattle.merge_laws.proofs.Identities.IdentityCalls.{held-granted}
use Rattle.merge_laws.proofs.Identities.IdentitySteps.{Apart, identities-by-actions}
use Rattle.merge_laws.proofs.Identities.IdentitySums.{heard-granted, taken-once}
use Rattle.merge_laws.proofs.Known.KnownSteps.{known-by-actions}
use Rattle.merge_laws.proofs.LastLines.LastLineReads as reads
use Rattle.merge_laws.proofs.LastLines.LastLineSteps.{last_lines-by-actions}
use Rattle.merge_laws.proofs.Lineages.LineagesKept.{lineages-by-actions}
use Rattle.merge_laws.proofs.Received.Models.{gap-is, received-by-actions}
use Rattle.merge_laws.proofs.Numbered.Numbers.{unmet-by-number, upload-says}
use Rattle.merge_laws.proofs.Purges.PurgeModels.{in_step-by-actions, old-is-past}
use Rattle.merge_laws.proofs.Numbered.Tellings.{numbered-by-actions}
use Rattle.merge_laws.proofs.Numbered.Through.{last-is-done}
use Rattle.merge_laws.proofs.Unsent.UnsentKept.{decides-alike, unsent-by-actions}
use Rattle.merge_laws.proofs.Watermarks.WatermarkModels as marks
use Rattle.merge_laws.proofs.Received.Worlds.{received-is}

-- Received generations.

pub received-is-done : OfEveryActions (λ publication says m. ReceivedIsDone m)
received-is-done publication says tallies slips actions site =
    let m : Model = model_behind_actions publication says tallies slips actions in
    sym (received-is m.history m.world.publisher site (received-by-actions publication says tallies slips actions).done)

pub acted-is-done : OfEveryActions (λ publication says m. ActedIsDone m)
acted-is-done publication says tallies slips actions site generation from = sym ((received-by-actions publication says tallies slips actions).done site generation from)

pub gap-is-done : OfEveryActions (λ publication says m. GapIsDone m)
gap-is-done publication says tallies slips actions site from =
    let m : Model = model_behind_actions publication says tallies slips actions in
    gap-is m.history m.world.publisher site from (received-by-actions publication says tallies slips actions).done

pub takes-only-closed : OfEveryActions (λ publication says m. TakesOnlyClosed m)
takes-only-closed publication says tallies slips actions site s at = (let f = (received-by-actions publication says tallies slips actions).subscribers site s at in (f.own, f.taken))

within : (generation taken received : ℕ) → generation ≤ taken → taken ≤ received → nat_le generation received ≡ true
within generation taken received up below = grind (arith, nat_tests, up, below)

joined-acted : (m : Model) → Received m.world m.history → Behind m.world → JoinedTakesActed m
joined-acted m r i site generation s at joins from up = r.done site generation from ∙ within generation s.received (received_by_number m.world.publisher site) up ((i.subscribers site s at).behind joins)

pub joined-takes-acted : OfEveryActions (λ publication says m. JoinedTakesActed m)
joined-takes-acted publication says tallies slips actions = (let i = behind-by-actions publication says tallies slips actions in joined-acted (model_behind_actions publication says tallies slips actions) i.0 i.1)

-- Numbers of changes.

pub number-is-done : OfEveryActions (λ publication says m. ReceivedNumberIsDone m)
number-is-done publication says tallies slips actions site =
    let m : Model = model_behind_actions publication says tallies slips actions in
    let i = numbered-by-actions publication says tallies slips actions in
    i.1.taken site ∙ sym (last-is-done m.history m.world.publisher site i.0.done (i.1.first site))

pub unmet-is-done : OfEveryActions (λ publication says m. UnmetIsDone m)
unmet-is-done publication says tallies slips actions site asked from =
    let m : Model = model_behind_actions publication says tallies slips actions in
    let i = numbered-by-actions publication says tallies slips actions in
    unmet-by-number m.world m.history i.0 i.1 site asked from

pub closings-keep-the-last : OfEveryActions (λ publication says m. ClosingsKeepTheLast m)
closings-keep-the-last publication says tallies slips actions site generation s at low up = ((numbered-by-actions publication says tallies slips actions).1.subscribers site s at).keeps generation low up

pub uploads-tell-the-last : OfEveryActions (λ publication says m. UploadsTellTheLast m)
uploads-tell-the-last publication says tallies slips actions number site u at goes =
    let m : Model = model_behind_actions publication says tallies slips actions in
    let i = numbered-by-actions publication says tallies slips actions in
    upload-says m.world m.history i.0 i.1 number site u at goes

-- What subscribers decide.
pub subscribers-alike : OfEveryActions (λ publication says m. SubscribersDecideAlike m)
subscribers-alike publication says tallies slips actions s from at =
    let i = unsent-by-actions publication says tallies slips actions in
    decides-alike (model_behind_actions publication says tallies slips actions) i.0 i.1 s (λ own. grind (arith, from, own)) at

-- Mappings and last lines.

pub mappings-told : OfEveryActions (λ publication says m. MappingIsLastLine m)
mappings-told publication says tallies slips actions = reads.mappings-told publication (model_behind_actions publication says tallies slips actions) (last_lines-by-actions publication says tallies slips actions)

pub changes-told : OfEveryActions (λ publication says m. ChangedIsLastChange m)
changes-told publication says tallies slips actions = reads.changes-told publication (model_behind_actions publication says tallies slips actions) (last_lines-by-actions publication says tallies slips actions)

pub left-by-line : OfEveryActions (λ publication says m. LeftByLine m)
left-by-line publication says tallies slips actions = reads.left-by-line publication (model_behind_actions publication says tallies slips actions) (last_lines-by-actions publication says tallies slips actions)

pub inside-by-line : OfEveryActions (λ publication says m. TouchedInsideByLine m)
inside-by-line publication says tallies slips actions = reads.inside-by-line publication (model_behind_actions publication says tallies slips actions) (last_lines-by-actions publication says tallies slips actions)

pub outside-by-line : OfEveryActions (λ publication says m. TouchedOutsideByLine m)
outside-by-line publication says tallies slips actions = reads.outside-by-line publication (model_behind_actions publication says tallies slips actions) (last_lines-by-actions publication says tallies slips actions)

-- What is known.

pub made-are-numbered : OfEveryActions (λ publication says m. MadeAreNumbered m)
made-are-numbered publication says tallies slips actions = (known-by-actions publication says tallies slips actions).numbered

pub known-were-made : OfEveryActions (λ publication says m. KnownWereMade m)
known-were-made publication says tallies slips actions = (known-by-actions publication says tallies slips actions).knowledge

pub knows-only-made : OfEveryActions (λ publication says m. KnowsOnlyMade m)
knows-only-made publication says tallies slips actions = (lineages-by-actions publication says tallies slips actions).1

-- What is old, and watermarks.

pub old-past : OfEveryActions (λ publication says m. OldIsPast publication m)
old-past publication says tallies slips actions = old-is-past publication (model_behind_actions publication says tallies slips actions) (in_step-by-actions publication says tallies slips actions)

pub watermarks-held : OfEveryActions (λ publication says m. WatermarksAreHeld m)
watermarks-held publication says tallies slips actions =
    marks.watermarks-held (model_behind_actions publication says tallies slips actions) (received-by-actions publication says tallies slips actions) (marks.watermarks-by-actions publication says tallies slips actions)

-- Identity values.

module _ (publication : Publication) (m : Model) (i : Apart publication m.world m.history.made) where
  -- what a site's inserts took was granted to it
  taken-granted : (site article : ℕ) (value : ℤ) → count_by (takes_at site article value) m.history.made ≤ count_by (gives_to site article value) m.world.publisher.grants
  taken-granted site article value =
      let holder = holder_in (holders_at m.world.publisher.held m.world.subscribers site) article in
      let heard = held-granted m.world.publisher.grants m.history.made site article holder value (i.held site article) in
      omega (arith, heard, heard-granted article value site holder.have m.world.publisher.grants)

  apart : IdentitiesApart m
  apart article value = taken-once article value m.world.publisher.grants (i.book.grants_fit.disjoint article value) m.history.made (λ site. taken-granted site article value)

  granted : TakenWereGranted m
  granted site article value some = omega (arith, some, taken-granted site article value)

pub identities-apart : OfEveryRuledActions IdentitiesApart
identities-apart publication fit says tallies slips actions = apart publication (model_behind_actions publication says tallies slips actions) (identities-by-actions publication fit says tallies slips actions)

pub taken-were-granted : OfEveryRuledActions TakenWereGranted
taken-were-granted publication fit says tallies slips actions = granted publication (model_behind_actions publication says tallies slips actions) (identities-by-actions publication fit says tallies slips actions)

pub ranges-apart : OfEveryRuledActions RangesApart
ranges-apart publication fit says tallies slips actions = (identities-by-actions publication fit says tallies slips actions).book.grants_fit.disjoint

-- No generation is noted twice as acted, and lists ascend.

pub acts-once : OfEveryActions (λ publication says m. NoneActsTwice m)
acts-once publication says tallies slips actions = failing-actions-keep publication (model publication says) (λ (m : Model). Once m.history.done) (λ m action h. step-once publication says m action h) (λ m others h. h) actions
    (faulty (empty_model publication tallies) slips) (none_acts_twice publication says tallies [] [])

pub lists-sorted : OfEveryActions (λ publication says m. AreSorted m.world.publisher)
lists-sorted publication says tallies slips actions = failing-actions-keep publication (model publication says) (λ (m : Model). AreSorted m.world.publisher) (λ m action h. step-sorted publication says (by_history m.history) m.world action h) (λ m others h. h) actions
    (faulty (empty_model publication tallies) slips) (publisher_stays_sorted publication says tallies [] [])

pub sub-lists-sorted : OfEveryActions (λ publication says m. AllByRecursion (λ (entry : ℕ × SubscriberTables). SubscriberIsSorted entry.1) m.world.subscribers)
sub-lists-sorted publication says tallies slips actions = (unsent-by-actions publication says tallies slips actions).0.1.1

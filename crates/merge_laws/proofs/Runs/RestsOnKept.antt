-- Parts of the invariant, as facts of every run.
use Rattle.std.specs.Prelude.{◌≡◌, ◌≤◌, ◌&&◌, ◌+◌, ◌-◌, ◌++◌, ℕ, zero, suc, ℤ, List, [], ◌∷◌, true, count_by, length}
use Rattle.std.specs.List.{AllByRecursion}
use Rattle.std.proofs.Common.{arith, subst, sym}
use Rattle.merge_types.specs.declared.identifiers.Dot.{Dot}
use Rattle.merge_ident.specs.Grants.{is_in}
use Rattle.merge_ident.specs.Holders.{Holder, Received as ReceivedRange, has_values, held_after_take, new_holder, unused, used_once_more}
use Rattle.merge_ident.specs.Runs.{after_all, after_event, received_in, times_received}
use Rattle.merge_ident.specs.declared.grants.Grant.{Grant}
use Rattle.merge_ident.specs.declared.grants.Range.{Range}
use Rattle.merge_ident.specs.declared.ranges.RangeEvent.{RangeEvent}
use Rattle.merge_ident.specs.declared.ranges.RangeEvent.TheVariants.{Take, Receive}
use Rattle.merge_schema.specs.declared.publication.Publication.{Publication}
use Rattle.merge_model.specs.Failing.{faulty}
use Rattle.merge_model.specs.History.{MadeChange, has, is_accepted, past_at}
use Rattle.merge_model.specs.Tables.Keys.{at_number, same_key}
use Rattle.merge_model.specs.History.Model.{Model, empty_model, model}
use Rattle.merge_model.specs.Failing.Runs.{model_behind_actions}
use Rattle.merge_model.proofs.Entries.EntryLists.{all-dropped}
use Rattle.merge_model.proofs.Lists.Finding.{all-more}
use Rattle.merge_model.proofs.Lists.{all-filter}
use Rattle.merge_model.proofs.Runs.Actions.{failing-actions-keep}
use Rattle.merge_laws.specs.Facts.Accounts.{OfAccounts}
use Rattle.merge_laws.specs.Facts.Identities.{Held, gives_to, holder_in, holders_at}
use Rattle.merge_laws.specs.Facts.Knowledge.{same_dot}
use Rattle.merge_laws.specs.Laws.{OfEveryActions, OfEveryValidActions, OfEveryValidRun}
use Rattle.merge_laws.specs.Facts.LineagesStand.{KnownCounts}
use Rattle.merge_laws.specs.Laws.RestsOn.{AcceptedIsKnown, ChainsAreAccounted, HeldWereGranted, KnownIsAccepted, MomentsAreInStep, ReceivedIsInStep, RepliesAreTrue, SitesAreEqual}
use Rattle.merge_laws.specs.Facts.Settled.{Settled, SiteHolds, made_in, site_view}
use Rattle.merge_laws.proofs.Accounts.AccountBase.{Base}
use Rattle.merge_laws.proofs.Accounts.AccountElements.{all-in, any-out}
use Rattle.merge_laws.proofs.Accounts.AccountSteps.{accounts-begin, accounts-keep}
use Rattle.merge_laws.proofs.Received.BehindKept.{behind-by-actions}
use Rattle.merge_laws.proofs.Pasts.DotTests.{dots-same}
use Rattle.merge_laws.proofs.Runs.Ground.{Ground}
use Rattle.merge_laws.proofs.Identities.IdentityCalls.{counts-cons}
use Rattle.merge_laws.proofs.Identities.IdentitySteps.{Apart, identities-by-actions}
use Rattle.merge_laws.proofs.Identities.IdentitySums.{heard-granted}
use Rattle.merge_laws.proofs.Lineages.LineagesAlways.{Kept, ground, kept-always, kept-by-actions, kept-step, kept-tallied, owns}
use Rattle.merge_laws.proofs.Settled.SettledExpired.{expired-later}
use Rattle.merge_laws.proofs.Settled.SettledLaw.{settled-by-actions}
use Rattle.merge_laws.proofs.Settled.SettledWorlds.{if-found}
use Rattle.merge_laws.proofs.Runs.ValidRules.{valid-rules}
use Rattle.merge_laws.proofs.Walking.{step-keeps}
use Rattle.merge_laws.proofs.Runs.OfActions.{of-valid-runs}
use Rattle.merge_laws.proofs.Accounts.AccountsAlways.{base}

-- What is known was accepted, and what was accepted is known where the row is held.

module _ (publication : Publication) (m : Model) (k : Kept publication m) where
  counts : KnownCounts m
  counts = k.accepted.accepted.counts

  known-here : KnownIsAccepted m
  known-here zero key dot known differs = counts.here key dot known differs
  known-here (suc n) key dot known differs = counts.there (suc n) key (omega arith) dot known differs

  accepted-here : AcceptedIsKnown m
  accepted-here key dot held made accepted = any-out (has (past_at m.history 0 key).known dot ≡ true) (λ (change : MadeChange). same_dot change.dot dot && same_key key change.key) m.history.made made (λ change inside is. (
      let one : same_dot change.dot dot ≡ true = grind (arith, is) in
      let row : same_key key change.key ≡ true = grind (arith, is) in
      let same : change.dot ≡ dot = dots-same change.dot dot one in
      let knows : has (past_at m.history 0 key).known change.dot ≡ true =
      all-in (λ (c : MadeChange). same_key key c.key ≡ true → is_accepted m.history c.dot ≡ true → has (past_at m.history 0 key).known c.dot ≡ true) m.history.made change (k.grounded.1.0.held key held) inside row
      (subst (λ (d : Dot). is_accepted m.history d ≡ true) (sym same) accepted) in
      subst (λ (d : Dot). has (past_at m.history 0 key).known d ≡ true) same knows))

pub known-accepted-by-actions : OfEveryValidActions (λ publication says m. KnownIsAccepted m)
known-accepted-by-actions resolvers publication valid says tallies slips actions = known-here publication (model_behind_actions publication says tallies slips actions) (kept-by-actions publication (resolvers, valid) says tallies slips actions)

pub known-accepted : OfEveryValidRun (λ publication says m. KnownIsAccepted m)
known-accepted = of-valid-runs (λ publication says m. KnownIsAccepted m) known-accepted-by-actions

pub accepted-known-by-actions : OfEveryValidActions (λ publication says m. AcceptedIsKnown m)
accepted-known-by-actions resolvers publication valid says tallies slips actions = accepted-here publication (model_behind_actions publication says tallies slips actions) (kept-by-actions publication (resolvers, valid) says tallies slips actions)

pub accepted-known : OfEveryValidRun (λ publication says m. AcceptedIsKnown m)
accepted-known = of-valid-runs (λ publication says m. AcceptedIsKnown m) accepted-known-by-actions

-- Chains are accounted for.

pub chains-accounted : OfEveryValidActions (λ publication says m. ChainsAreAccounted publication m)
chains-accounted resolvers publication valid says tallies slips actions =
    let all : Kept publication (model_behind_actions publication says tallies slips actions) × OfAccounts publication (model_behind_actions publication says tallies slips actions).world (model_behind_actions publication says tallies slips actions).history =
    failing-actions-keep publication (model publication says) (λ (n : Model). Kept publication n × OfAccounts publication n.world n.history)
    (λ n action k. (
      kept-step publication n k.0 says action,
      step-keeps publication says (Base publication) (OfAccounts publication) (λ w h b. b.0.received) (accounts-keep publication says) n action (base publication n k.0) k.1,
    )) (λ n others k. (kept-tallied publication n others k.0, k.1)) actions (faulty (empty_model publication tallies) slips) (kept-always publication (resolvers, valid) says tallies [] [], accounts-begin publication tallies (resolvers, valid)) in
    all.1

-- Sites are equal, but for what is under way.

module _ (publication : Publication) (m : Model) (g : Ground publication m.world m.history) (i : Settled publication m.world m.history) where
  equal-here : SitesAreEqual publication m
  equal-here s key at joins live changed touched =
      let n : ℕ = s.site.0 in
      let holds : SiteHolds (site_view publication m.world.publisher (made_in m.history.made n) n) s = if-found (SiteHolds (site_view publication m.world.publisher (made_in m.history.made n) n)) (at_number m.world.subscribers n) s at (i.sites.sites n) in
      holds.equal (expired-later publication m.world.publisher.latest m.world.moment (at_number m.world.publisher.sites n) g.in_step.been live) joins key changed touched

pub sites-equal : OfEveryValidActions (λ publication says m. SitesAreEqual publication m)
sites-equal resolvers publication valid says tallies slips actions =
    let both = settled-by-actions publication says tallies slips actions (resolvers, valid) in
    equal-here publication (model_behind_actions publication says tallies slips actions) both.0 both.1

pub replies-true : OfEveryValidActions (λ publication says m. RepliesAreTrue publication m)
replies-true resolvers publication valid says tallies slips actions = (settled-by-actions publication says tallies slips actions (resolvers, valid)).1

pub moments-step : OfEveryValidActions (λ publication says m. MomentsAreInStep m)
moments-step resolvers publication valid says tallies slips actions =
    let g = (settled-by-actions publication says tallies slips actions (resolvers, valid)).0 in
    record { moments = g.in_step; watermarks = g.watermarks }

pub received-step : OfEveryActions (λ publication says m. ReceivedIsInStep m)
received-step publication says tallies slips actions = (let i = behind-by-actions publication says tallies slips actions in record { received = i.0; behind = i.1 })

-- The ranges that a site holds are among those that it received.

module _ (P : Range → Type 0) where
  abbrev AllHeld : List ReceivedRange → Type 0
  AllHeld held = AllByRecursion (λ (received : ReceivedRange). P received.range) held

  take-holds : (held : List ReceivedRange) → AllHeld held → AllHeld (held_after_take held)
  take-holds [] all = tt
  take-holds (first ∷ rest) all = all-filter (λ (received : ReceivedRange). P received.range) has_values (used_once_more first ∷ rest) all

  calls-hold : (holder : Holder) (calls : List RangeEvent) → AllHeld holder.held → AllByRecursion P (received_in calls) → AllHeld (after_all holder calls).held
  calls-hold holder [] held received = held
  calls-hold holder (Take ∷ calls) held received = calls-hold (after_event holder Take) calls (take-holds holder.held held) received
  calls-hold holder (Receive number range ∷ calls) held received = calls-hold (after_event holder (Receive number range)) calls
      (all-dropped (λ (r : ReceivedRange). P r.range) (length (holder.held ++ unused range ∷ []) - 2) (holder.held ++ unused range ∷ []) (all-more (λ (r : ReceivedRange). P r.range) holder.held (unused range) held received.0)) received.1

-- a range that has a value counts
counted-first : (value : ℤ) (range : Range) (ranges : List Range) → is_in value range ≡ true → 1 ≤ times_received value (range ∷ ranges)
counted-first value range ranges is = grind (arith, counts-cons (is_in value) range ranges, is)

counted-more : (value : ℤ) (range : Range) (ranges : List Range) → times_received value ranges ≤ times_received value (range ∷ ranges)
counted-more value range ranges = omega (arith, counts-cons (is_in value) range ranges)

all-counted : (value : ℤ) (most : ℕ) (ranges : List Range) → times_received value ranges ≤ most → AllByRecursion (λ (range : Range). is_in value range ≡ true → 1 ≤ most) ranges
all-counted value most [] up = tt
all-counted value most (range ∷ ranges) up = (
  (λ is. omega (arith, up, counted-first value range ranges is)),
  all-counted value most ranges (omega (arith, up, counted-more value range ranges)),
)

held-within : (grants : List Grant) (made : List MadeChange) (site article : ℕ) (holder : Holder) (value : ℤ) → Held grants made site article holder
    → AllByRecursion (λ (held : ReceivedRange). is_in value held.range ≡ true → 1 ≤ count_by (gives_to site article value) grants) holder.held
held-within grants made site article holder value k =
    let up : times_received value (received_in k.calls) ≤ count_by (gives_to site article value) grants = omega (arith, k.received value, heard-granted article value site holder.have grants) in
    subst (λ (h : Holder). AllByRecursion (λ (held : ReceivedRange). is_in value held.range ≡ true → 1 ≤ count_by (gives_to site article value) grants) h.held) k.left
    (calls-hold (λ (range : Range). is_in value range ≡ true → 1 ≤ count_by (gives_to site article value) grants) (new_holder holder.threshold) k.calls tt (all-counted value (count_by (gives_to site article value) grants) (received_in k.calls) up))

held-here : (publication : Publication) (m : Model) → Apart publication m.world m.history.made → HeldWereGranted m
held-here publication m i site article value = held-within m.world.publisher.grants m.history.made site article (holder_in (holders_at m.world.publisher.held m.world.subscribers site) article) value (i.held site article)

pub held-granted-always : OfEveryValidActions (λ publication says m. HeldWereGranted m)
held-granted-always resolvers publication valid says tallies slips actions =
    held-here publication (model_behind_actions publication says tallies slips actions) (identities-by-actions publication (valid-rules resolvers publication valid) says tallies slips actions)

-- Why a subscriber did not start.
use Rattle.std.proofs.Common.{Err, Option, Result, ap, arith, false, inl, inr, min, refl, subst, sym, true, ℕ, ◌+◌, ◌-◌, ◌^◌, ◌≡◌, ◌≤◌, ◌⊎◌}
use Rattle.merge_types.specs.declared.identifiers.SiteId.{SiteId}
use Rattle.merge_batch.specs.declared.refusal.Refusal.{Refusal}
use Rattle.merge_batch.specs.declared.refusal.Refusal.TheVariants.{UnknownSite}
use Rattle.merge_schema.specs.Places.{is_subscription}
use Rattle.merge_schema.specs.declared.publication.Publication.{Publication}
use Rattle.merge_ports.specs.Entries.{Map}
use Rattle.merge_ports.specs.Faults.{Rose}
use Rattle.merge_ports.specs.Opened.{HasStoreCause, with_faults}
use Rattle.merge_ports.specs.declared.outside.Counts.{Counts}
use Rattle.merge_ports.specs.declared.outside.OpenFault.{OpenFault}
use Rattle.merge_ports.specs.declared.outside.OpenFault.TheVariants as opening
use Rattle.merge_keeper.specs.SubscriberStart.{subscriber_loaded}
use Rattle.merge_model.specs.Publisher.{new_holders}
use Rattle.merge_site.specs.Loading.{LoadsNot}
use Rattle.merge_sync.specs.Stops.{stop_of_opening, stop_of_start}
use Rattle.merge_sync.specs.Stores.{IsUnstarted}
use Rattle.merge_sync.specs.declared.stop.Stop.{Stop}

module _ (publication : Publication) (site : SiteId) (stored : Option Map) where
  -- the store was not opened
  unopened-by : {K : Type 0} (old new : Counts) (fault : OpenFault) (r : Result K OpenFault) → r ≡ Err fault → HasStoreCause old new r → IsUnstarted publication site (stop_of_opening fault) stored old.stores new.stores
  unopened-by old new opening.Failed r is cause = cause.failed is
  unopened-by old new opening.NoMemory r is cause = tt

  pub unopened-so : {K : Type 0} (old new : Counts) (fault : OpenFault) (stop : Stop) → stop ≡ stop_of_opening fault → (r : Result K OpenFault) → r ≡ Err fault → HasStoreCause old new r → IsUnstarted publication site stop stored old.stores new.stores
  unopened-so old new fault stop is r was cause = subst (λ (s : Stop). IsUnstarted publication site s stored old.stores new.stores) (sym is) (unopened-by old new fault r was cause)

  -- its site is no subscription, or it does not load
  module _ (first count : ℕ) (none : first ≡ 0) (old mid new : Counts) (opened : mid.stores ≡ old.stores) (back : new ≡ with_faults count mid) where
    rose : first + 1 ≤ count → Rose old.stores new.stores
    rose more = let stores : new.stores ≡ min (mid.stores + count) (2 ^ 64 - 1) = ap (λ (c : Counts). c.stores) back in omega (arith, more, none, opened, stores)

    abbrev By : Refusal → Type 0
    By why = IsUnstarted publication site (stop_of_start why) stored old.stores new.stores

    unstarted-by : (why : Refusal) → LoadsNot (subscriber_loaded publication site (new_holders publication)) stored why first count → By why
    unstarted-by why (inl (inl (is, still))) = subst (λ (w : Refusal). By w) (sym is) tt
    unstarted-by why (inl (inr (is, more))) = subst (λ (w : Refusal). By w) (sym is) (rose more)
    unstarted-by why (inr (still, (key, is, read))) = subst (λ (w : Refusal). By w) (sym is) (key, refl, read)

    pub unstarted-so : {K : Type 0} (kept keeper : K) (told : Option Map) (why : Refusal) (stop : Stop) → stop ≡ stop_of_start why → told ≡ stored
        → ((why ≡ UnknownSite site) × (is_subscription publication site.0 ≡ false) × (kept ≡ keeper)) ⊎ ((is_subscription publication site.0 ≡ true) × LoadsNot (subscriber_loaded publication site (new_holders publication)) told why first count)
        → IsUnstarted publication site stop stored old.stores new.stores
    unstarted-so kept keeper told why stop is same (inl (unknown, absent, still)) = subst (λ (s : Stop). IsUnstarted publication site s stored old.stores new.stores) (sym is) (subst (λ (w : Refusal). By w) (sym unknown) absent)
    unstarted-so kept keeper told why stop is same (inr (known, not)) =
        subst (λ (s : Stop). IsUnstarted publication site s stored old.stores new.stores) (sym is)
        (unstarted-by why (subst (λ (o : Option Map). LoadsNot (subscriber_loaded publication site (new_holders publication)) o why first count) same not))

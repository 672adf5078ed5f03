-- Why a site did not start.
use Rattle.std.proofs.Common.{Bool, Err, Option, Result, ap, arith, false, inl, inr, min, refl, subst, sym, true, ℕ, ◌+◌, ◌-◌, ◌^◌, ◌∙◌, ◌≡◌, ◌≤◌, ◌⊎◌}
use Rattle.merge_types.specs.declared.identifiers.SiteId.{SiteId}
use Rattle.merge_batch.specs.declared.refusal.Refusal.{Refusal}
use Rattle.merge_batch.specs.declared.refusal.Refusal.TheVariants as refusal
use Rattle.merge_keeper.specs.Start.{Loaded}
use Rattle.merge_ports.specs.Entries.{Map}
use Rattle.merge_ports.specs.Faults.{Rose}
use Rattle.merge_ports.specs.Opened.{HasStoreCause, with_faults}
use Rattle.merge_ports.specs.declared.outside.Counts.{Counts}
use Rattle.merge_ports.specs.declared.outside.OpenFault.{OpenFault}
use Rattle.merge_ports.specs.declared.outside.OpenFault.TheVariants as opening
use Rattle.merge_site.specs.Loading.{LoadsNot}
use Rattle.merge_program.specs.declared.ending.Ending.{Ending}
use Rattle.merge_program.specs.Endings.{ending_of_opening, stopped_by}
use Rattle.merge_program.specs.Opening.{IsUnopened, IsUnopenedFor}

module _ {T : Type 0} (load : Map → Loaded T) (stored : Option Map) where
  -- the store was not opened
  unopened-by : {K : Type 0} (old new : Counts) (fault : OpenFault) (r : Result K OpenFault) → r ≡ Err fault → HasStoreCause old new r → IsUnopenedFor load (ending_of_opening fault) stored old.stores new.stores
  unopened-by old new opening.Failed r is cause = cause.failed is
  unopened-by old new opening.NoMemory r is cause = tt

  pub unopened-so : {K : Type 0} (map : Option Map) (old new : Counts) (fault : OpenFault) (ending : Ending) → ending ≡ ending_of_opening fault → (r : Result K OpenFault) → r ≡ Err fault → HasStoreCause old new r → map ≡ stored
      → IsUnopened load ending stored map old.stores new.stores
  unopened-so map old new fault ending is r was cause same = record {
    cause = subst (λ (e : Ending). IsUnopenedFor load e stored old.stores new.stores) (sym is) (unopened-by old new fault r was cause);
    same = same;
  }

  -- it does not load
  module _ (first count : ℕ) (none : first ≡ 0) (old mid new : Counts) (opened : mid.stores ≡ old.stores) (back : new ≡ with_faults count mid) where
    rose : first + 1 ≤ count → Rose old.stores new.stores
    rose more = let stores : new.stores ≡ min (mid.stores + count) (2 ^ 64 - 1) = ap (λ (c : Counts). c.stores) back in omega (arith, more, none, opened, stores)

    stopped-by : (why : Refusal) → LoadsNot load stored why first count → IsUnopenedFor load (stopped_by why) stored old.stores new.stores
    stopped-by why (inl (inl (is, still))) = subst (λ (w : Refusal). IsUnopenedFor load (stopped_by w) stored old.stores new.stores) (sym is) tt
    stopped-by why (inl (inr (is, more))) = subst (λ (w : Refusal). IsUnopenedFor load (stopped_by w) stored old.stores new.stores) (sym is) (rose more)
    stopped-by why (inr (still, (key, is, read))) = subst (λ (w : Refusal). IsUnopenedFor load (stopped_by w) stored old.stores new.stores) (sym is) (key, refl, read)

    pub stopped-so : (map kept told : Option Map) (why : Refusal) (ending : Ending) → ending ≡ stopped_by why → told ≡ stored → LoadsNot load told why first count → map ≡ kept → kept ≡ told → IsUnopened load ending stored map old.stores new.stores
    stopped-so map kept told why ending is same not given unchanged = record {
      cause = subst (λ (e : Ending). IsUnopenedFor load e stored old.stores new.stores) (sym is) (stopped-by why (subst (λ (o : Option Map). LoadsNot load o why first count) same not));
      same = given ∙ (unchanged ∙ same);
    }

    -- the same of a site that is a subscription
    pub subscribed-so : {K : Type 0} (other keeper : K) (site : SiteId) (subscribes : Bool) → subscribes ≡ true → (map kept told : Option Map) (why : Refusal) (ending : Ending) → ending ≡ stopped_by why → told ≡ stored
        → ((why ≡ refusal.UnknownSite site) × (subscribes ≡ false) × (other ≡ keeper)) ⊎ ((subscribes ≡ true) × LoadsNot load told why first count) → map ≡ kept → kept ≡ told → IsUnopened load ending stored map old.stores new.stores
    subscribed-so other keeper site subscribes known map kept told why ending is same (inl (unknown, absent, still)) given unchanged = absurd (cc (known, absent))
    subscribed-so other keeper site subscribes known map kept told why ending is same (inr (too, not)) given unchanged = stopped-so map kept told why ending is same not given unchanged

-- A purge and a join forget nothing that is owed.
use Rattle.std.specs.Prelude.{◌≡◌, ◌≤◌, ◌<◌, ◌||◌, ℕ, zero, suc, Bool, true, false, [], Option, Some, None, nat_le, refl, if◌then◌else◌}
use Rattle.std.proofs.Common.{arith, subst, sym, ap, ◌∙◌, inl, inr}
use Rattle.std.proofs.lemmas.Bool.Decides.{nat_tests}
use Rattle.merge_types.specs.declared.identifiers.SiteId.{SiteId}
use Rattle.merge_types.specs.declared.row_key.RowKey.{RowKey as Key}
use Rattle.merge_schema.specs.declared.publication.Publication.{Publication}
use Rattle.merge_batch.specs.declared.request.Join.{Join}
use Rattle.merge_batch.specs.declared.request.Request.TheVariants as request
use Rattle.merge_model.specs.Tables.Keys.{at_number}
use Rattle.merge_model.specs.History.Model.{Model}
use Rattle.merge_model.specs.Laws.Promises.{IsPast, base_of, is_expired_at, watermark_of}
use Rattle.merge_model.specs.Publisher.PublisherJoin.{join_acts, join_taken}
use Rattle.merge_model.specs.Publisher.PublisherPurge.{purge}
use Rattle.merge_model.specs.Failing.Runs.{model_behind_actions}
use Rattle.merge_model.specs.Tables.{PublisherTables, SubscriberTables}
use Rattle.merge_model.specs.World.{subscriber_at}
use Rattle.merge_model.specs.declared.letter.Letter.{Letter}
use Rattle.merge_model.specs.declared.letter.Message.TheVariants.{Asks}
use Rattle.merge_model.proofs.Lists.Finding.{pool-at, some_same}
use Rattle.merge_laws.specs.Laws.{OfEveryValidActions}
use Rattle.merge_laws.specs.Laws.Leavings.{JoinsTakeNothingOwed, PurgesTakeNothingOwed, StaysOwed}
use Rattle.merge_laws.specs.Facts.Received.{JoinFits, LetterFits, joined_at}
use Rattle.merge_laws.specs.Facts.Settled.{Settled, SiteHolds, TouchedInOrder, made_in, site_view, touched_at}
use Rattle.merge_laws.proofs.Runs.Ground.{Ground}
use Rattle.merge_laws.proofs.Purges.PurgeModels.{old-is-past}
use Rattle.merge_laws.proofs.Settled.SettledLaw.{settled-by-actions}
use Rattle.merge_laws.proofs.Settled.SettledWorlds.{if-found}
use Rattle.merge_laws.proofs.Touched.TouchTables.{IsForgotten, joined-other, joined-owed, purge-owed, purge-touched}
use Rattle.merge_laws.proofs.Watermarks.WatermarkModels.{watermarks-held}

-- a generation that is past lies no higher than a site's watermark, where what left is behind the site's last join
past-low : (generation watermark base held : ℕ) → nat_le generation watermark || nat_le generation base ≡ true → watermark ≤ held → (1 ≤ generation → base < generation) → generation ≤ held
past-low zero watermark base held past up left = omega arith
past-low (suc k) watermark base held past up left = grind (arith, nat_tests, past, up, left (omega arith))

module _ (publication : Publication) (m : Model) (g : Ground publication m.world m.history) (i : Settled publication m.world m.history) (s : SubscriberTables) (key : Key) (at : subscriber_at m.world s.site ≡ Some s) where
  abbrev p : PublisherTables
  p = m.world.publisher

  abbrev q : PublisherTables
  q = (purge publication m.world.moment m.world.publisher).0

  order : TouchedInOrder publication p (base_of m.history s.site) s.site
  order = if-found (λ x. TouchedInOrder publication p (base_of m.history x.site) x.site) (subscriber_at m.world s.site) s at (i.publisher s.site.0)

  -- what a purge forgets is not owed
  forgotten-low : s.is_joined ≡ true → is_expired_at publication m.world s.site ≡ false → IsForgotten publication m.world.moment p s.site key → touched_at publication p s.site key ≤ s.watermark
  forgotten-low joins live gone =
      let past : IsPast m s.site (touched_at publication p s.site key) = old-is-past publication m g.in_step s.site (touched_at publication p s.site key) live gone.2 in
      past-low (touched_at publication p s.site key) (watermark_of m.world s.site) (base_of m.history s.site) s.watermark past.reached (watermarks-held m g.received g.watermarks s.site.0 s at joins) (order.left key gone.0)

  pub purge-stays : s.is_joined ≡ true → is_expired_at publication m.world s.site ≡ false → s.watermark < touched_at publication p s.site key → StaysOwed publication p q s.site key
  purge-stays joins live owed = record {
    touched = elim (purge-touched publication m.world.moment p g.sorted s.site key) [
      | inl same ↦ same
      | inr gone ↦ absurd (omega (arith, owed, forgotten-low joins live gone))
    ];
    owed = purge-owed publication m.world.moment p g.sorted s.site key;
  }

  holds : SiteHolds (site_view publication p (made_in m.history.made s.site.0) s.site.0) s
  holds = if-found (SiteHolds (site_view publication p (made_in m.history.made s.site.0) s.site.0)) (subscriber_at m.world s.site) s at (i.sites.sites s.site.0)

  -- a join that acts
  module _ (site : SiteId) (j : Join) (acts : join_acts j p ≡ true) where
    still-joining : s.site.0 ≡ j.site.0 → (found : Option SubscriberTables) → at_number m.world.subscribers site.0 ≡ found → JoinFits (joined_at p site) site j found → s.is_joined ≡ false
    still-joining same None is fits = absurd fits
    still-joining same (Some t) is fits =
        let sites : s.site.0 ≡ site.0 = same ∙ ap (λ (x : SiteId). x.0) fits.0 in
        let here : at_number m.world.subscribers site.0 ≡ Some s = ap (λ (n : ℕ). at_number m.world.subscribers n) (sym sites) ∙ at in
        let tables : t ≡ s = some_same t s (sym is ∙ here) in
        let less : joined_at p site < j.seq = subst (λ (x : SiteId). joined_at p x < j.seq) fits.0 (grind (arith, nat_tests, acts)) in
        ap (λ (x : SubscriberTables). x.is_joined) (sym tables) ∙ (fits.2 less).0

    pub joining-empty : s.site.0 ≡ j.site.0 → JoinFits (joined_at p site) site j (at_number m.world.subscribers site.0) → s.rows ≡ []
    joining-empty same fits = holds.empty (still-joining same (at_number m.world.subscribers site.0) refl fits)

    pub joined-stays : (s.site.0 ≡ j.site.0 → ⊥) → (b : Bool) → StaysOwed publication p (if b then join_taken j p else p) s.site key
    joined-stays differs true = record { touched = joined-other publication j p g.sorted s.site differs key; owed = joined-owed publication j p s.site key }
    joined-stays differs false = record { touched = refl; owed = refl }

pub purges-take-nothing : OfEveryValidActions (λ publication says m. PurgesTakeNothingOwed publication m)
purges-take-nothing resolvers publication valid says tallies slips actions s key at joins live owed =
    let both = settled-by-actions publication says tallies slips actions (resolvers, valid) in
    purge-stays publication (model_behind_actions publication says tallies slips actions) both.0 both.1 s key at joins live owed

pub joins-take-nothing : OfEveryValidActions (λ publication says m. JoinsTakeNothingOwed publication m)
joins-take-nothing resolvers publication valid says tallies slips actions number site j sent acts s key at =
    let m : Model = model_behind_actions publication says tallies slips actions in
    let both = settled-by-actions publication says tallies slips actions (resolvers, valid) in
    let letter : Letter = record { site = site; message = Asks (request.Join j) } in
    let fits : LetterFits m.world.subscribers m.world.publisher letter = pool-at (LetterFits m.world.subscribers m.world.publisher) m.world number letter sent both.0.received.letters in (
      (λ same. joining-empty publication m both.0 both.1 s key at site j acts same fits),
      (λ differs. joined-stays publication m both.0 both.1 s key at site j acts differs (join_acts j m.world.publisher)),
    )

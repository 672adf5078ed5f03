-- Sites that have done nothing are those of the model's empty world, in their order.
use Rattle.std.proofs.Common.{List, [], ap, arith, get_or, length, map, refl, subst, sym, ℕ, ◌<◌, ◌∷◌, ◌≡◌, zero, suc}
use Rattle.std.specs.Map.{keys_of}
use Rattle.std.specs.Ordering.{nat_cmp}
use Rattle.std.specs.List.Sorted.{IsStrictlySortedBy}
use Rattle.std.specs.declared.cmp.Ordering.TheVariants.{Less}
use Rattle.std.proofs.lemmas.Bool.Decides.{nat_tests}
use Rattle.std.proofs.lemmas.Map.Keys.{Less-from_sorted}
use Rattle.merge_schema.specs.declared.publication.Publication.{Publication}
use Rattle.merge_schema.specs.declared.publication.Subscription.{Subscription}
use Rattle.merge_model.specs.Tables.Publications.{by_site}
use Rattle.merge_model.specs.Subscriber.{empty_subscriber}
use Rattle.merge_model.specs.Tables.{SubscriberTables}
use Rattle.merge_model.specs.World.{empty_world}
use Rattle.merge_model.proofs.Lists.SitesInOrder.{AreKeyed, sites-ascend, sites-keyed}
use Rattle.merge_world.specs.Views.{IsOrdered, entry_of, publication_of, site_of, world_of}
use Rattle.merge_program.specs.Fresh.{fresh_view}
use Rattle.merge_program.specs.Stores.{fresh_at, fresh_subscribers}

module _ (publication : Publication) where
  abbrev empty_at : ℕ × Subscription → ℕ × SubscriberTables
  empty_at e = (e.0, empty_subscriber publication e.1.site)

  entries : (es : List (ℕ × Subscription)) → AreKeyed es → map entry_of (map (fresh_at publication) es) ≡ map empty_at es
  entries [] keyed = refl
  entries (e ∷ es) keyed = rw (entries es keyed.1) (ap (λ (n : ℕ). (n, empty_subscriber publication e.1.site) ∷ map empty_at es) keyed.0)

  sites : (es : List (ℕ × Subscription)) → AreKeyed es → map site_of (map (fresh_at publication) es) ≡ keys_of es
  sites [] keyed = refl
  sites (e ∷ es) keyed = rw (sites es keyed.1) (ap (λ (n : ℕ). n ∷ keys_of es) keyed.0)

  pub fresh-sites : map site_of (fresh_subscribers publication) ≡ keys_of (by_site publication)
  fresh-sites = sites (by_site publication) (sites-keyed publication)

  publications : (es : List (ℕ × Subscription)) (i : ℕ) → get_or (map publication_of (map (fresh_at publication) es)) i publication ≡ publication
  publications [] i = refl
  publications (e ∷ es) zero = refl
  publications (e ∷ es) (suc i) = publications es i

  pub fresh-world : (tallies : List ℕ) → world_of (fresh_view publication) tallies ≡ empty_world publication tallies
  fresh-world tallies = ap (λ (l : List (ℕ × SubscriberTables)). record (empty_world publication tallies) { subscribers = l }) (entries (by_site publication) (sites-keyed publication))

  above : (ks : List ℕ) (i j : ℕ) → IsStrictlySortedBy nat_cmp ks → i < j → j < length ks → get_or ks i 0 < get_or ks j 0
  above ks i j sorted lt in_list = let less : nat_cmp (get_or ks i 0) (get_or ks j 0) ≡ Less = Less-from_sorted nat_cmp ks i j 0 sorted lt in_list in grind (arith, nat_tests, less)

  ascending : (ks : List ℕ) → ks ≡ keys_of (by_site publication) → (i j : ℕ) → i < j → j < length ks → get_or ks i 0 < get_or ks j 0
  ascending ks is i j lt in_list = above ks i j (subst (λ (l : List ℕ). IsStrictlySortedBy nat_cmp l) (sym is) (sites-ascend publication)) lt in_list

  pub fresh-ordered : IsOrdered (fresh_view publication)
  fresh-ordered = record {
    ascending = ascending (map site_of (fresh_subscribers publication)) fresh-sites;
    same = λ i lt. publications (by_site publication) i;
  }

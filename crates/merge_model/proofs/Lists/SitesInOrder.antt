-- The subscriptions by site stand at their sites, in their order.
use Rattle.std.specs.Prelude.{List, [], refl, ℕ, ◌∷◌, ◌≡◌}
use Rattle.std.specs.Cmp.{nat_cmp_total}
use Rattle.std.specs.List.{AllByRecursion, fold}
use Rattle.std.specs.List.Sorted.{IsStrictlySortedBy}
use Rattle.std.specs.Map.{keys_of}
use Rattle.std.specs.declared.cmp.Ordering.{Ordering}
use Rattle.std.specs.declared.cmp.Ordering.TheVariants.{Less, Equal, Greater}
use Rattle.std.specs.Ordering.{match_ordering, nat_cmp}
use Rattle.std.proofs.lemmas.Map.Lookups.{exact_unsigned}
use Rattle.merge_table.proofs.Sorted.{sorted_put}
use Rattle.merge_schema.specs.declared.publication.Publication.{Publication}
use Rattle.merge_schema.specs.declared.publication.Subscription.{Subscription}
use Rattle.merge_model.specs.Tables.Keys.{put_number}
use Rattle.merge_model.specs.Tables.Publications.{by_site}

abbrev pub AreKeyed : List (ℕ × Subscription) → Type 0
AreKeyed es = AllByRecursion (λ (e : ℕ × Subscription). e.1.site.0 ≡ e.0) es

keyed-step : (s : Subscription) (e : ℕ × Subscription) (es new : List (ℕ × Subscription)) (r : Ordering) → nat_cmp s.site.0 e.0 ≡ r → AreKeyed (e ∷ es) → AreKeyed new
    → AreKeyed (match_ordering r ((s.site.0, s) ∷ e ∷ es) ((e.0, s) ∷ es) (e ∷ new))
keyed-step s e es new Less is keyed more = (refl, keyed)
keyed-step s e es new Equal is keyed more = (exact_unsigned s.site.0 e.0 is, keyed.1)
keyed-step s e es new Greater is keyed more = (keyed.0, more)

keyed-put : (s : Subscription) (es : List (ℕ × Subscription)) → AreKeyed es → AreKeyed (put_number es s.site.0 s)
keyed-put s [] keyed = (refl, tt)
keyed-put s (e ∷ es) keyed = keyed-step s e es (put_number es s.site.0 s) (nat_cmp s.site.0 e.0) refl keyed (keyed-put s es keyed.1)

keyed-all : (subscriptions : List Subscription) (es : List (ℕ × Subscription)) → AreKeyed es → AreKeyed (fold (λ (others : List (ℕ × Subscription)) (s : Subscription). put_number others s.site.0 s) es subscriptions)
keyed-all [] es keyed = keyed
keyed-all (s ∷ subscriptions) es keyed = keyed-all subscriptions (put_number es s.site.0 s) (keyed-put s es keyed)

sorted-all : (subscriptions : List Subscription) (es : List (ℕ × Subscription)) → IsStrictlySortedBy nat_cmp (keys_of es)
    → IsStrictlySortedBy nat_cmp (keys_of (fold (λ (others : List (ℕ × Subscription)) (s : Subscription). put_number others s.site.0 s) es subscriptions))
sorted-all [] es sorted = sorted
sorted-all (s ∷ subscriptions) es sorted = sorted-all subscriptions (put_number es s.site.0 s) (sorted_put nat_cmp nat_cmp_total s.site.0 s es sorted)

none-sorted : IsStrictlySortedBy nat_cmp []
unfolding IsStrictlySortedBy
none-sorted = tt

pub sites-keyed : (publication : Publication) → AreKeyed (by_site publication)
sites-keyed publication = keyed-all publication.subscriptions [] tt

pub sites-ascend : (publication : Publication) → IsStrictlySortedBy nat_cmp (keys_of (by_site publication))
sites-ascend publication = sorted-all publication.subscriptions [] none-sorted

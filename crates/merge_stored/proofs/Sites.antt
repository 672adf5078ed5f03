-- A site of a publication that a file can say has a number up to 63.
use Rattle.std.specs.List.{list_any}
use Rattle.std.specs.Prelude.{All, Bool, List, [], false, refl, true, ℕ, ◌==◌, ◌||◌, ◌≡◌, ◌≤◌, ◌∷◌}
use Rattle.std.proofs.Common.{arith}
use Rattle.std.proofs.lemmas.Bool.Decides.{nat_tests}
use Rattle.std.proofs.lemmas.List.Elements.{All-head, All-tail}
use Rattle.merge_schema.specs.Places.{is_subscription}
use Rattle.merge_schema.specs.Valid.{IsValid, IsValidSubscription}
use Rattle.merge_schema.specs.declared.publication.Publication.{Publication}
use Rattle.merge_schema.specs.declared.publication.Subscription.{Subscription}
use Rattle.merge_batch.specs.Lineages.{is_site}

first-or : (site other : ℕ) (b : Bool) (rest : Bool) → (other == site) ≡ b → (b || rest) ≡ true → other ≤ 63 → (rest ≡ true → site ≤ 63) → site ≤ 63
first-or site other true rest is some low more = (let same : other ≡ site = grind (arith, nat_tests, is) in omega (arith, same, low))
first-or site other false rest is some low more = more some

subscribed-low : (subscriptions : List Subscription) (site : ℕ) → All (λ (s : Subscription). IsValidSubscription s) subscriptions → list_any (λ (s : Subscription). s.site.0 == site) subscriptions ≡ true → site ≤ 63
subscribed-low [] site valid some = absurd cc
subscribed-low (s ∷ subscriptions) site valid some =
    first-or site s.site.0 (s.site.0 == site) (list_any (λ (x : Subscription). x.site.0 == site) subscriptions) refl some (All-head (λ (x : Subscription). IsValidSubscription x) s subscriptions valid).valid_site.1
    (λ later. subscribed-low subscriptions site (All-tail (λ (x : Subscription). IsValidSubscription x) s subscriptions valid) later)

pub subscription-low : (resolvers : ℕ) (publication : Publication) → IsValid resolvers publication → (site : ℕ) → is_subscription publication site ≡ true → site ≤ 63
subscription-low resolvers publication valid site is = subscribed-low publication.subscriptions site valid.valid_subscriptions is

site-by : (resolvers : ℕ) (publication : Publication) → IsValid resolvers publication → (site : ℕ) (b : Bool) → (site == 0) ≡ b → (b || is_subscription publication site) ≡ true → site ≤ 63
site-by resolvers publication valid site true is some = (let none : site ≡ 0 = grind (arith, nat_tests, is) in omega (arith, none))
site-by resolvers publication valid site false is some = subscription-low resolvers publication valid site some

pub site-low : (resolvers : ℕ) (publication : Publication) → IsValid resolvers publication → (site : ℕ) → is_site publication site ≡ true → site ≤ 63
site-low resolvers publication valid site is = site-by resolvers publication valid site (site == 0) refl is

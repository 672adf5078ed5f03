-- What holds of each subscriber, after one is put.
use Rattle.std.specs.Prelude.{Bool, List, Some, false, true, ℕ, ◌==◌, ◌≡◌}
use Rattle.std.proofs.Common.{ap, subst, sym, ◌∙◌}
use Rattle.merge_model.specs.Tables.Keys.{at_number, put_number}
use Rattle.merge_model.specs.Tables.{SubscriberTables}
use Rattle.merge_model.proofs.Lists.Finding.{at_put_other, at_put_same, some_same}
use Rattle.merge_laws.proofs.Received.Subscribing.{number-decided, same_number}

abbrev pub OfEach : (ℕ → SubscriberTables → Type 0) → List (ℕ × SubscriberTables) → Type 0
OfEach P subscribers = (n : ℕ) (s : SubscriberTables) → at_number subscribers n ≡ Some s → P n s

put-by : (P : ℕ → SubscriberTables → Type 0) (subscribers : List (ℕ × SubscriberTables)) (site n : ℕ) (t v : SubscriberTables) (b : Bool) → same_number n site b → P site t → ((k : ℕ) (s : SubscriberTables) → (k ≡ site → ⊥) → at_number subscribers k ≡ Some s → P k s)
    → at_number (put_number subscribers site t) n ≡ Some v → P n v
put-by P subscribers site n t v true same new others found =
    let put : at_number (put_number subscribers site t) n ≡ Some t = ap (λ (k : ℕ). at_number (put_number subscribers site t) k) same ∙ at_put_same site t subscribers in
    subst (λ (x : SubscriberTables). P n x) (some_same t v (sym put ∙ found)) (subst (λ (k : ℕ). P k t) (sym same) new)
put-by P subscribers site n t v false differs new others found = others n v differs (sym (at_put_other site n t subscribers differs) ∙ found)

-- one is put where another of its site stood
pub put-beside : (P : ℕ → SubscriberTables → Type 0) (subscribers : List (ℕ × SubscriberTables)) (s t : SubscriberTables) → t.site.0 ≡ s.site.0 → P s.site.0 t → ((n : ℕ) (x : SubscriberTables) → (n ≡ s.site.0 → ⊥) → at_number subscribers n ≡ Some x → P n x)
    → OfEach P (put_number subscribers t.site.0 t)
put-beside P subscribers s t same new others n v found =
    put-by P subscribers t.site.0 n t v (n == t.site.0) (number-decided n t.site.0) (subst (λ (k : ℕ). P k t) (sym same) new) (λ k x differs at. others k x (λ is. differs (is ∙ sym same)) at) found

pub put-each : (P : ℕ → SubscriberTables → Type 0) (subscribers : List (ℕ × SubscriberTables)) (s t : SubscriberTables) → t.site.0 ≡ s.site.0 → P s.site.0 t → OfEach P subscribers → OfEach P (put_number subscribers t.site.0 t)
put-each P subscribers s t same new all = put-beside P subscribers s t same new (λ n x differs at. all n x at)

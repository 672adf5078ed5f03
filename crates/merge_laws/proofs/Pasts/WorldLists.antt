-- What is said of each subscriber, after one was put.
use Rattle.std.specs.Prelude.{◌≡◌, ◌==◌, ℕ, List, Bool, true, false, Some}
use Rattle.std.proofs.Common.{subst, sym, ap, ◌∙◌}
use Rattle.merge_model.specs.Tables.Keys.{at_number, put_number}
use Rattle.merge_model.specs.Tables.{SubscriberTables}
use Rattle.merge_model.proofs.Lists.Finding.{at_put_other, at_put_same}
use Rattle.merge_laws.proofs.Received.Subscribing.{number-decided, same_number}

subscriber-cases : (S : ℕ → SubscriberTables → Type 0) (subscribers : List (ℕ × SubscriberTables)) (site : ℕ) (t v : SubscriberTables) (n : ℕ) (b : Bool) → same_number n site b → S site t
    → ((m : ℕ) (u : SubscriberTables) → (m ≡ site → ⊥) → at_number subscribers m ≡ Some u → S m u) → at_number (put_number subscribers site t) n ≡ Some v → S n v
subscriber-cases S subscribers site t v n true same new old found =
    let put : at_number (put_number subscribers site t) n ≡ Some t = ap (λ (m : ℕ). at_number (put_number subscribers site t) m) same ∙ at_put_same site t subscribers in
    let is_t : Some t ≡ Some v = sym put ∙ found in
    let both : t ≡ v = cc in
    subst (λ (x : SubscriberTables). S n x) both (subst (λ (m : ℕ). S m t) (sym same) new)
subscriber-cases S subscribers site t v n false differs new old found = old n v differs (sym (at_put_other site n t subscribers differs) ∙ found)

pub all-subscribers : (S : ℕ → SubscriberTables → Type 0) (subscribers : List (ℕ × SubscriberTables)) (site : ℕ) (t : SubscriberTables) → S site t
    → ((m : ℕ) (u : SubscriberTables) → (m ≡ site → ⊥) → at_number subscribers m ≡ Some u → S m u) → (n : ℕ) (v : SubscriberTables) → at_number (put_number subscribers site t) n ≡ Some v → S n v
all-subscribers S subscribers site t new old n v found = subscriber-cases S subscribers site t v n (n == site) (number-decided n site) new old found

-- Where what a site holds is found, after a holder or a subscriber is put.
use Rattle.std.specs.Prelude.{◌≡◌, ◌≤◌, ◌==◌, ℕ, zero, suc, List, [], Bool, true, false, Option, Some, option_map, unwrap_or}
use Rattle.std.proofs.Common.{arith, subst, sym, ap}
use Rattle.merge_ident.specs.Holders.{Holder, new_holder}
use Rattle.merge_model.specs.Tables.Keys.{at_number, put_number}
use Rattle.merge_model.specs.Tables.{SubscriberTables}
use Rattle.merge_laws.specs.Facts.Identities.{held_at, holders_at, holder_in}
use Rattle.merge_model.proofs.Lists.Finding.{at_put_same, at_put_other}
use Rattle.merge_laws.proofs.Received.Subscribing.{same_number, number-decided}

-- Of one site: a holder is put for an article.

at-article : (P : ℕ → Holder → Type 0) (held : List (ℕ × Holder)) (article : ℕ) (new : Holder) (other : ℕ) (b : Bool) → same_number other article b → P article new → ((other ≡ article → ⊥) → P other (holder_in held other))
    → P other (holder_in (put_number held article new) other)
at-article P held article new other true same here elsewhere =
    let put : at_number (put_number held article new) article ≡ Some new = at_put_same article new held in
    subst (λ (k : ℕ). P k (holder_in (put_number held article new) k)) (sym same) (subst (λ (o : Option Holder). P article (unwrap_or o (new_holder 0))) (sym put) here)
at-article P held article new other false differs here elsewhere =
    subst (λ (o : Option Holder). P other (unwrap_or o (new_holder 0))) (sym (at_put_other article other new held differs)) (elsewhere differs)

pub article-put : (P : ℕ → Holder → Type 0) (held : List (ℕ × Holder)) (article : ℕ) (new : Holder) → P article new → ((other : ℕ) → (other ≡ article → ⊥) → P other (holder_in held other)) → (other : ℕ) → P other (holder_in (put_number held article new) other)
article-put P held article new here elsewhere other = at-article P held article new other (other == article) (number-decided other article) here (elsewhere other)

pub found-holder : (held : List (ℕ × Holder)) (article : ℕ) (holder : Holder) → at_number held article ≡ Some holder → holder_in held article ≡ holder
found-holder held article holder at = ap (λ (o : Option Holder). unwrap_or o (new_holder 0)) at

-- Of all sites: the publisher's own holders are put, or a subscriber.

pub own-put : (P : ℕ → List (ℕ × Holder) → Type 0) (own after : List (ℕ × Holder)) (subscribers : List (ℕ × SubscriberTables)) → P 0 after → ((site : ℕ) → 1 ≤ site → P site (holders_at own subscribers site)) → (site : ℕ) → P site (holders_at after subscribers site)
own-put P own after subscribers here others zero = here
own-put P own after subscribers here others (suc k) = others (suc k) (omega arith)

at-site : (P : ℕ → List (ℕ × Holder) → Type 0) (subscribers : List (ℕ × SubscriberTables)) (n site : ℕ) (t : SubscriberTables) (b : Bool) → same_number site n b → (site ≡ n → P n t.held) → ((site ≡ n → ⊥) → P site (held_at subscribers site)) → P site (held_at (put_number subscribers n t) site)
at-site P subscribers n site t true same here others =
    let put : at_number (put_number subscribers n t) n ≡ Some t = at_put_same n t subscribers in
    subst (λ (k : ℕ). P k (held_at (put_number subscribers n t) k)) (sym same) (subst (λ (o : Option SubscriberTables). P n (unwrap_or (option_map (λ (s : SubscriberTables). s.held) o) [])) (sym put) (here same))
at-site P subscribers n site t false differs here others =
    subst (λ (o : Option SubscriberTables). P site (unwrap_or (option_map (λ (s : SubscriberTables). s.held) o) [])) (sym (at_put_other n site t subscribers differs)) (others differs)

pub subscriber-put : (P : ℕ → List (ℕ × Holder) → Type 0) (own : List (ℕ × Holder)) (subscribers : List (ℕ × SubscriberTables)) (n : ℕ) (t : SubscriberTables) → (1 ≤ n → P n t.held)
    → ((site : ℕ) → (site ≡ n → 1 ≤ n → ⊥) → P site (holders_at own subscribers site)) → (site : ℕ) → P site (holders_at own (put_number subscribers n t) site)
subscriber-put P own subscribers n t here others zero = others zero (λ same low. omega (arith, same, low))
subscriber-put P own subscribers n t here others (suc k) =
    at-site P subscribers n (suc k) t (suc k == n) (number-decided (suc k) n) (λ same. here (omega (arith, same))) (λ differs. others (suc k) (λ same low. differs same))

pub found-held : (own : List (ℕ × Holder)) (subscribers : List (ℕ × SubscriberTables)) (n : ℕ) (s : SubscriberTables) → 1 ≤ n → at_number subscribers n ≡ Some s → holders_at own subscribers n ≡ s.held
found-held own subscribers zero s low at = absurd (omega (arith, low))
found-held own subscribers (suc k) s low at = ap (λ (o : Option SubscriberTables). unwrap_or (option_map (λ (t : SubscriberTables). t.held) o) []) at

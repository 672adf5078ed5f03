-- Sites and messages as a part of the world goes on: the publisher, a subscriber, or the pool.
use Rattle.std.specs.Prelude.{◌≡◌, ◌==◌, ◌++◌, ℕ, List, [], ◌∷◌, Bool, true, false, Option, Some, None, IfSome, refl}
use Rattle.std.specs.List.{AllByRecursion}
use Rattle.std.proofs.Common.{arith, subst, sym, ap, ◌∙◌}
use Rattle.merge_schema.specs.declared.publication.Publication.{Publication}
use Rattle.merge_model.specs.History.{MadeChange}
use Rattle.merge_model.specs.Tables.Keys.{at_number, put_number}
use Rattle.merge_model.specs.Tables.{PublisherTables, SubscriberTables}
use Rattle.merge_model.specs.declared.letter.Letter.{Letter}
use Rattle.merge_model.specs.declared.letter.Message.{Message}
use Rattle.merge_laws.specs.Facts.Received.{LetterFits, MessageFits, joined_at}
use Rattle.merge_laws.specs.Facts.Settled.{LetterSettles, MessageSettles, SiteHolds, SitesSettle, made_in, site_view}
use Rattle.merge_model.proofs.Lists.Finding.{all-more, at_put_other, at_put_same}
use Rattle.merge_model.proofs.Lists.{all-both}
use Rattle.merge_laws.proofs.Settled.SettledSeen.{Keeps}
use Rattle.merge_laws.proofs.Received.Subscribing.{number-decided, same_number}

pub if-goes : {X : Type 0} (P Q : X → Type 0) (found : Option X) → ((v : X) → found ≡ Some v → P v → Q v) → IfSome found P → IfSome found Q
if-goes P Q None each f = tt
if-goes P Q (Some v) each f = each v refl f

pub if-any : {X : Type 0} (P : X → Type 0) (found : Option X) → ((v : X) → found ≡ Some v → P v) → IfSome found P
if-any P None each = tt
if-any P (Some v) each = each v refl

pub if-found : {X : Type 0} (P : X → Type 0) (found : Option X) (v : X) → found ≡ Some v → IfSome found P → P v
if-found {X = X} P found v at f = subst (λ (o : Option X). IfSome o P) at f

-- where one is put, by its number
pub if-put : (P Q : ℕ → SubscriberTables → Type 0) (site : ℕ) (s t : SubscriberTables) (subscribers : List (ℕ × SubscriberTables)) → at_number subscribers site ≡ Some s → (P site s → Q site t)
    → ((n : ℕ) (v : SubscriberTables) → (n ≡ site → ⊥) → at_number subscribers n ≡ Some v → P n v → Q n v) → (n : ℕ) (b : Bool) → same_number n site b → IfSome (at_number subscribers n) (P n) → IfSome (at_number (put_number subscribers site t) n) (Q n)
if-put P Q site s t subscribers at own others n true same f =
    let here : at_number subscribers n ≡ Some s = ap (λ (k : ℕ). at_number subscribers k) same ∙ at in
    let put : at_number (put_number subscribers site t) n ≡ Some t = ap (λ (k : ℕ). at_number (put_number subscribers site t) k) same ∙ at_put_same site t subscribers in
    subst (λ (o : Option SubscriberTables). IfSome o (Q n)) (sym put)
    (subst (λ (k : ℕ). Q k t) (sym same) (own (subst (λ (k : ℕ). P k s) same (if-found (P n) (at_number subscribers n) s here f))))
if-put P Q site s t subscribers at own others n false differs f =
    subst (λ (o : Option SubscriberTables). IfSome o (Q n)) (sym (at_put_other site n t subscribers differs))
    (if-goes (P n) (Q n) (at_number subscribers n) (λ v found. others n v differs found) f)

module _ (publication : Publication) where
  -- The publisher goes on, and the history.
  pub publisher-on : (p q : PublisherTables) (made after : List MadeChange) (subscribers : List (ℕ × SubscriberTables)) (pool : List Letter) → AllByRecursion (LetterFits subscribers p) pool
      → ((n : ℕ) (s : SubscriberTables) → at_number subscribers n ≡ Some s → Keeps (site_view publication p (made_in made n) n) (site_view publication q (made_in after n) n) s s)
      → SitesSettle publication p made subscribers pool → SitesSettle publication q after subscribers pool
  publisher-on p q made after subscribers pool known each i = record {
    sites = λ n. if-goes (SiteHolds (site_view publication p (made_in made n) n)) (SiteHolds (site_view publication q (made_in after n) n)) (at_number subscribers n) (λ s at f. (each n s at).site f) (i.sites n);
    letters = all-both (LetterFits subscribers p) (LetterSettles publication p made subscribers) (LetterSettles publication q after subscribers) (λ letter fits f. (
        let n : ℕ = letter.site.0 in
        if-goes (λ s. MessageSettles (site_view publication p (made_in made n) n) s letter.message) (λ s. MessageSettles (site_view publication q (made_in after n) n) s letter.message) (at_number subscribers n)
        (λ s at g. (each n s at).letters (joined_at p letter.site) letter.site letter.message (subst (λ (found : Option SubscriberTables). MessageFits (joined_at p letter.site) letter.site found letter.message) at fits) g) f)) pool known i.letters;
  }

  -- A subscriber goes on, and the history with its changes.
  module _ (p : PublisherTables) (made after : List MadeChange) (subscribers : List (ℕ × SubscriberTables)) (pool : List Letter) (s t : SubscriberTables) (at : at_number subscribers s.site.0 ≡ Some s) (none : at_number subscribers 0 ≡ None)
      (others : (n : ℕ) → (n ≡ 0 → ⊥) → (n ≡ s.site.0 → ⊥) → made_in after n ≡ made_in made n) (known : AllByRecursion (LetterFits subscribers p) pool)
      (keeps : Keeps (site_view publication p (made_in made s.site.0) s.site.0) (site_view publication p (made_in after s.site.0) s.site.0) s t) (i : SitesSettle publication p made subscribers pool) where
    named : (n : ℕ) (v : SubscriberTables) → at_number subscribers n ≡ Some v → n ≡ 0 → ⊥
    named n v found is = (let here = ap (λ (k : ℕ). at_number subscribers k) is in grind (arith, here, found, none))

    other-made : (n : ℕ) (v : SubscriberTables) → (n ≡ s.site.0 → ⊥) → at_number subscribers n ≡ Some v → made_in after n ≡ made_in made n
    other-made n v differs found = others n (named n v found) differs

    put-on : SitesSettle publication p after (put_number subscribers s.site.0 t) pool
    put-on = record {
      sites = λ n. if-put (λ (k : ℕ). SiteHolds (site_view publication p (made_in made k) k)) (λ (k : ℕ). SiteHolds (site_view publication p (made_in after k) k)) s.site.0 s t subscribers at keeps.site
          (λ k v differs found f. subst (λ (x : List MadeChange). SiteHolds (site_view publication p x k) v) (sym (other-made k v differs found)) f) n (n == s.site.0) (number-decided n s.site.0) (i.sites n);
      letters = all-both (LetterFits subscribers p) (LetterSettles publication p made subscribers) (LetterSettles publication p after (put_number subscribers s.site.0 t)) (λ letter fits f. (
          let n : ℕ = letter.site.0 in
          let message : Message = letter.message in
          let joined : ℕ = joined_at p letter.site in
          if-put (λ (k : ℕ) (v : SubscriberTables). MessageFits joined letter.site (Some v) message × MessageSettles (site_view publication p (made_in made k) k) v message) (λ (k : ℕ) (v : SubscriberTables). MessageSettles (site_view publication p (made_in after k) k) v message) s.site.0 s t subscribers at
          (λ both. keeps.letters joined letter.site message both.0 both.1)
          (λ k v differs found both. subst (λ (x : List MadeChange). MessageSettles (site_view publication p x k) v message) (sym (other-made k v differs found)) both.1) n (n == s.site.0) (number-decided n s.site.0)
          (if-goes (λ v. MessageSettles (site_view publication p (made_in made n) n) v message) (λ v. MessageFits joined letter.site (Some v) message × MessageSettles (site_view publication p (made_in made n) n) v message) (at_number subscribers n)
          (λ v found g. (subst (λ (o : Option SubscriberTables). MessageFits joined letter.site o message) found fits, g)) f))) pool known i.letters;
    }

    pub subscriber-on : t.site.0 ≡ s.site.0 → SitesSettle publication p after (put_number subscribers t.site.0 t) pool
    subscriber-on same = subst (λ (n : ℕ). SitesSettle publication p after (put_number subscribers n t) pool) (sym same) put-on

  -- A message more.
  pub posted-on : (p : PublisherTables) (made : List MadeChange) (subscribers : List (ℕ × SubscriberTables)) (pool : List Letter) (letter : Letter) → LetterSettles publication p made subscribers letter
      → SitesSettle publication p made subscribers pool → SitesSettle publication p made subscribers (pool ++ letter ∷ [])
  posted-on p made subscribers pool letter new i = record { sites = i.sites; letters = all-more (LetterSettles publication p made subscribers) pool letter i.letters new }

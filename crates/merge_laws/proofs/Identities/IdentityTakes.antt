-- A subscriber takes a value for an insert of its own, and receives ranges.
use Rattle.std.specs.Prelude.{◌≡◌, ◌≤◌, ◌≤ℤ◌, ◌==◌, ◌+◌, ℕ, ℤ, List, [], ◌∷◌, Bool, true, false, Option, Some, None, Result, Ok, Err, refl, IfOk, count_by, cond, option_map, map}
use Rattle.std.specs.List.{AllByRecursion, fold, list_all, list_any}
use Rattle.std.proofs.Common.{arith, subst, sym, ap, ◌∙◌}
use Rattle.std.proofs.lemmas.Bool.Decides.{nat_tests}
use Rattle.std.proofs.lemmas.Int.{ints}
use Rattle.merge_types.specs.declared.changes.Change.{Change}
use Rattle.merge_types.specs.declared.changes.Change.TheVariants.{Delete, Insert, Update}
use Rattle.merge_types.specs.declared.values.Value.{Value}
use Rattle.merge_types.specs.declared.values.Value.TheVariants.{Null}
use Rattle.merge_ident.specs.declared.grants.Grant.{Grant}
use Rattle.merge_ident.specs.declared.ranges.IdentityUsedUp.{IdentityUsedUp as IdentityEnd}
use Rattle.merge_ident.specs.Grants.{is_in}
use Rattle.merge_ident.specs.Holders.{Holder, after_receive, after_take, answer_to_take}
use Rattle.merge_batch.specs.Replies.{broken_by_reply, grant_fits, granted_article}
use Rattle.merge_batch.specs.Search.{are_distinct}
use Rattle.merge_batch.specs.Uploads.{whole_number}
use Rattle.merge_batch.specs.declared.refusal.Refusal.{Refusal}
use Rattle.merge_batch.specs.declared.reply.RangeGrant.{RangeGrant}
use Rattle.merge_batch.specs.declared.reply.Ranged.{Ranged}
use Rattle.merge_batch.specs.declared.reply.Reply.TheVariants as reply
use Rattle.merge_batch.specs.declared.request.Outstanding.{Outstanding}
use Rattle.merge_batch.specs.declared.request.Outstanding.TheVariants as ask
use Rattle.merge_schema.specs.declared.publication.Publication.{Publication}
use Rattle.merge_model.specs.Tables.Changes.{key_of}
use Rattle.merge_model.specs.World.Faults.{reply_fault}
use Rattle.merge_model.specs.History.{MadeChange}
use Rattle.merge_model.specs.Tables.Keys.{at_number, put_number}
use Rattle.merge_model.specs.Subscriber.{subscriber_drawn, subscriber_next_dot, taken_value}
use Rattle.merge_model.specs.Tables.{SubscriberTables}
use Rattle.merge_model.specs.Subscriber.Taking.{with_grant}
use Rattle.merge_model.specs.declared.letter.Letter.{Letter}
use Rattle.merge_laws.specs.Facts.Identities.{gives_heard, gives_numbered, holders_at, holder_in, Held, IsTold, Identities, told_range}
use Rattle.merge_model.proofs.Lists.Finding.{at_put_other}
use Rattle.merge_laws.proofs.Identities.IdentityCalls.{counts-cons, held-receive, held-take, held-with}
use Rattle.merge_laws.proofs.Identities.IdentityNotes.{none-taken}
use Rattle.merge_laws.proofs.Identities.IdentityPlaces.{article-put, found-held, found-holder, subscriber-put}
use Rattle.merge_laws.proofs.Identities.IdentityDraws.{other-article, other-site, taken-there}

-- Ranges are received.

abbrev pub heard_in : List (ℕ × Holder) → ℕ → Option ℕ
heard_in held article = option_map (λ (holder : Holder). holder.have) (at_number held article)

-- of a subscriber: with one more received, it has heard of the next grant
heard-next : (site article have : ℕ) (value : ℤ) (grants : List Grant) → 1 ≤ site
    → count_by (gives_heard site article have value) grants + count_by (gives_numbered site article (have + 1) value) grants ≤ count_by (gives_heard site article (have + 1) value) grants
heard-next site article have value [] low = omega arith
heard-next site article have value (grant ∷ grants) low =
    grind (arith, nat_tests, low, heard-next site article have value grants low, counts-cons (gives_heard site article have value) grant grants, counts-cons (gives_numbered site article (have + 1) value) grant grants, counts-cons (gives_heard site article (have + 1) value) grant grants)

told-counts : (b : Bool) (n : ℕ) → (b ≡ true → 1 ≤ n) → cond b 1 0 ≤ n
told-counts true n some = some refl
told-counts false n some = omega arith

next-number : (told : RangeGrant) (holder : Holder) (found : Option ℕ) (heard : ℕ → Option ℕ) → heard told.article ≡ found → found ≡ Some holder.have → grant_fits heard told ≡ true → told.number ≡ holder.have + 1
next-number told holder found heard is at fits = grind (arith, nat_tests, is, at, fits)

some-values : (told : RangeGrant) (heard : ℕ → Option ℕ) → grant_fits heard told ≡ true → told.begin ≤ℤ told.end
some-values told heard fits = grind (arith, ints, nat_tests, fits)

-- the others tell of other articles
pub heard-other : (held : List (ℕ × Holder)) (told : RangeGrant) (found : Option Holder) (article : ℕ) → (article ≡ told.article → ⊥)
    → (let after : List (ℕ × Holder) = elim found [ None ↦ held | Some holder ↦ put_number held told.article (after_receive holder (told_range told)) ] in heard_in after article ≡ heard_in held article)
heard-other held told None article differs = refl
heard-other held told (Some holder) article differs = ap (λ (o : Option Holder). option_map (λ (h : Holder). h.have) o) (at_put_other told.article article (after_receive holder (told_range told)) held differs)

fits-other : (before after : ℕ → Option ℕ) (told : RangeGrant) → after told.article ≡ before told.article → grant_fits before told ≡ true → grant_fits after told ≡ true
fits-other before after told same fits = grind (arith, nat_tests, same, fits)

pub others-fit : (before after : ℕ → Option ℕ) (article : ℕ) → ((other : ℕ) → (other ≡ article → ⊥) → after other ≡ before other) → (told : List RangeGrant) → list_any (λ (m : ℕ). m == article) (map granted_article told) ≡ false
    → list_all (grant_fits before) told ≡ true → list_all (grant_fits after) told ≡ true
others-fit before after article same [] none fits = refl
others-fit before after article same (first ∷ told) none fits =
    let differs : first.article ≡ article → ⊥ = λ e. grind (arith, nat_tests, none, e) in
    let now : grant_fits after first ≡ true = fits-other before after first (same first.article differs) (grind (arith, fits)) in
    let rest : list_all (grant_fits after) told ≡ true = others-fit before after article same told (grind (arith, none)) (grind (arith, fits)) in
    grind (arith, now, rest)

module _ (grants : List Grant) (made : List MadeChange) (site : ℕ) (low : 1 ≤ site) where
  abbrev Holds : List (ℕ × Holder) → Type 0
  Holds held = (article : ℕ) → Held grants made site article (holder_in held article)

  one-received : (held : List (ℕ × Holder)) (told : RangeGrant) (found : Option Holder) → at_number held told.article ≡ found → grant_fits (heard_in held) told ≡ true → IsTold grants site told → Holds held
      → (let after : List (ℕ × Holder) = elim found [ None ↦ held | Some holder ↦ put_number held told.article (after_receive holder (told_range told)) ] in Holds after)
  one-received held told None at fits is holds = holds
  one-received held told (Some holder) at fits is holds =
      let heard : heard_in held told.article ≡ Some holder.have = ap (λ (o : Option Holder). option_map (λ (h : Holder). h.have) o) at in
      let number : told.number ≡ holder.have + 1 = next-number told holder (heard_in held told.article) (heard_in held) refl heard fits in
      let here : Held grants made site told.article holder = subst (λ (h : Holder). Held grants made site told.article h) (found-holder held told.article holder at) (holds told.article) in
      article-put (λ (article : ℕ) (h : Holder). Held grants made site article h) held told.article (after_receive holder (told_range told))
      (held-receive grants grants made site told.article holder (told_range told) (some-values told (heard_in held) fits)
      (λ value. (let some : cond (is_in value (told_range told)) 1 0 ≤ count_by (gives_numbered site told.article (holder.have + 1) value) grants = told-counts (is_in value (told_range told)) (count_by (gives_numbered site told.article (holder.have + 1) value) grants)
      (λ within. subst (λ (k : ℕ). 1 ≤ count_by (gives_numbered site told.article k value) grants) number (is value within)) in
      omega (arith, some, heard-next site told.article holder.have value grants low))) here)
      (λ other differs. holds other)

  pub all-received : (told : List RangeGrant) (held : List (ℕ × Holder)) → list_all (grant_fits (heard_in held)) told ≡ true → are_distinct (map granted_article told) ≡ true → AllByRecursion (IsTold grants site) told → Holds held → Holds (fold with_grant held told)
  all-received [] held fits distinct all holds = holds
  all-received (first ∷ told) held fits distinct all holds =
      all-received told (with_grant held first)
      (others-fit (heard_in held) (heard_in (with_grant held first)) first.article (λ other differs. heard-other held first (at_number held first.article) other differs) told (grind (arith, distinct)) (grind (arith, fits)))
      (grind (arith, distinct)) all.1 (one-received held first (at_number held first.article) refl (grind (arith, fits)) all.0 holds)

-- what makes a reply fit
pub ranged-fits : (publication : Publication) (sent : Outstanding) (m : Ranged) (s : SubscriberTables) → reply_fault publication sent (reply.Ranged m) s ≡ None
    → (list_all (grant_fits (heard_in s.held)) m.grants ≡ true) × (are_distinct (map granted_article m.grants) ≡ true)
unfolding broken_by_reply
ranged-fits publication ask.Ranges m s e = (grind (arith, e), grind (arith, e))
ranged-fits publication ask.Join m s e = absurd (grind (arith, e))
ranged-fits publication (ask.Upload from to) m s e = absurd (grind (arith, e))
ranged-fits publication (ask.Download from) m s e = absurd (grind (arith, e))

-- Of the whole world: a subscriber goes on.

module _ (publication : Publication) (grants : List Grant) (own : List (ℕ × Holder)) (subscribers : List (ℕ × SubscriberTables)) (pool : List Letter) (made : List MadeChange) (i : Identities publication grants own subscribers pool made)
    (s : SubscriberTables) (at : at_number subscribers s.site.0 ≡ Some s) where
  abbrev Gone : SubscriberTables → List MadeChange → Type 0
  Gone t after = Identities publication grants own (put_number subscribers s.site.0 t) pool after

  pub own-held : 1 ≤ s.site.0 → (article : ℕ) → Held grants made s.site.0 article (holder_in s.held article)
  own-held low article = subst (λ (held : List (ℕ × Holder)). Held grants made s.site.0 article (holder_in held article)) (found-held own subscribers s.site.0 s low at) (i.held s.site.0 article)

  -- what it holds is what it holds then, and the values taken are the same
  pub holding : (t : SubscriberTables) → (1 ≤ s.site.0 → (article : ℕ) → Held grants made s.site.0 article (holder_in t.held article)) → Gone t made
  holding t holds = record {
    book = i.book;
    held = subscriber-put (λ (site : ℕ) (held : List (ℕ × Holder)). (article : ℕ) → Held grants made site article (holder_in held article)) own subscribers s.site.0 t holds (λ site differs. i.held site);
    letters = i.letters;
  }

  pub same-held : (t : SubscriberTables) → t.held ≡ s.held → Gone t made
  same-held t same = holding t (λ low article. subst (λ (held : List (ℕ × Holder)). Held grants made s.site.0 article (holder_in held article)) (sym same) (own-held low article))

  -- it takes no value, or one
  same-grants : (test : Grant → Bool) → count_by test grants ≤ count_by test grants
  same-grants test = omega arith

  none-took : (t : SubscriberTables) (change : MadeChange) → t.held ≡ s.held → change.identity ≡ None → Gone t (change ∷ made)
  none-took t change same none = (let gone : Gone t made = same-held t same in record {
    book = i.book;
    held = λ site article. held-with grants grants made (change ∷ made) site article (holder_in (holders_at own (put_number subscribers s.site.0 t) site) article) same-grants (none-taken change made none site article) (gone.held site article);
    letters = i.letters;
  })

  one-took : (t : SubscriberTables) (change : MadeChange) (article : ℕ) (holder : Holder) (value : ℤ) → 1 ≤ s.site.0 → at_number s.held article ≡ Some holder → answer_to_take holder ≡ Ok value → t.held ≡ put_number s.held article (after_take holder)
      → change.dot.site.0 ≡ s.site.0 → change.key.article ≡ article → change.identity ≡ Some value → Gone t (change ∷ made)
  one-took t change article holder value low found answers same same_site same_article takes = record {
    book = i.book;
    held = subscriber-put (λ (site : ℕ) (held : List (ℕ × Holder)). (other : ℕ) → Held grants (change ∷ made) site other (holder_in held other)) own subscribers s.site.0 t
        (λ some. subst (λ (held : List (ℕ × Holder)). (other : ℕ) → Held grants (change ∷ made) s.site.0 other (holder_in held other)) (sym same)
        (article-put (λ (other : ℕ) (h : Holder). Held grants (change ∷ made) s.site.0 other h) s.held article (after_take holder)
        (held-take grants made (change ∷ made) s.site.0 article holder value answers (λ v. taken-there change made s.site.0 article value v same_site same_article takes)
        (subst (λ (h : Holder). Held grants made s.site.0 article h) (found-holder s.held article holder found) (own-held low article)))
        (λ other differs. held-with grants grants made (change ∷ made) s.site.0 other (holder_in s.held other) same-grants (λ v. other-article change made s.site.0 other v (λ e. differs (e ∙ same_article))) (own-held low other))))
        (λ site differs other. held-with grants grants made (change ∷ made) site other (holder_in (holders_at own subscribers site) other) same-grants (λ v. other-site change made site other v (λ e. differs (e ∙ same_site) low)) (i.held site other));
    letters = i.letters;
  }

  value-took : (article : ℕ) (holder : Holder) (result : Result ℤ IdentityEnd) → 1 ≤ s.site.0 → at_number s.held article ≡ Some holder → answer_to_take holder ≡ result
      → IfOk (taken_value s article holder result) (λ d. (t : SubscriberTables) (change : MadeChange) → t.held ≡ d.1 → change.dot.site.0 ≡ s.site.0 → change.key.article ≡ article → change.identity ≡ whole_number (Some d.0) → Gone t (change ∷ made))
  value-took article holder (Ok value) low found is = λ t change same same_site same_article takes. one-took t change article holder value low found is same same_site same_article takes
  value-took article holder (Err used_up) low found is = tt

  found-took : (article : ℕ) (found : Option Holder) → 1 ≤ s.site.0 → at_number s.held article ≡ found
      → (let draw : Result (Value × List (ℕ × Holder)) Refusal = elim found [ None ↦ Ok (Null, s.held) | Some holder ↦ taken_value s article holder (answer_to_take holder) ] in
      IfOk draw (λ d. (t : SubscriberTables) (change : MadeChange) → t.held ≡ d.1 → change.dot.site.0 ≡ s.site.0 → change.key.article ≡ article → change.identity ≡ whole_number (Some d.0) → Gone t (change ∷ made)))
  found-took article None low at = λ t change same same_site same_article none. none-took t change same none
  found-took article (Some holder) low at = value-took article holder (answer_to_take holder) low at refl

  pub draw-took : (change : Change) → 1 ≤ s.site.0
      → IfOk (subscriber_drawn s change) (λ d. (t : SubscriberTables) (c : MadeChange) → t.held ≡ d.1 → c.dot.site.0 ≡ s.site.0 → c.key.article ≡ (key_of (subscriber_next_dot s) change).article → c.identity ≡ whole_number (Some d.0) → Gone t (c ∷ made))
  draw-took (Insert article values) low = found-took article (at_number s.held article) low refl
  draw-took (Update article row values) low = λ t c same same_site same_article none. none-took t c same none
  draw-took (Delete article row) low = λ t c same same_site same_article none. none-took t c same none

-- The publisher draws a value for an insert of its own, from a range that it has or grants itself.
use Rattle.std.specs.Prelude.{◌≡◌, ◌≤◌, ◌+◌, ℕ, ℤ, List, [], ◌∷◌, Bool, Option, Some, None, Result, Ok, Err, refl, IfOk, count_by, cond}
use Rattle.std.specs.List.{AllByRecursion}
use Rattle.std.specs.Ordering.{int_eq}
use Rattle.std.proofs.Common.{arith, subst, ap, ◌∙◌}
use Rattle.std.proofs.lemmas.Bool.Decides.{nat_tests}
use Rattle.merge_types.specs.declared.identifiers.SiteId.{SiteId}
use Rattle.merge_types.specs.declared.changes.Change.{Change}
use Rattle.merge_types.specs.declared.changes.Change.TheVariants.{Delete, Insert, Update}
use Rattle.merge_ident.specs.declared.grants.Ask.{Ask}
use Rattle.merge_ident.specs.declared.grants.Grant.{Grant}
use Rattle.merge_ident.specs.declared.grants.GrantAnswer.TheVariants.{Granted, Kept, NotDue}
use Rattle.merge_ident.specs.declared.grants.Range.{Range}
use Rattle.merge_ident.specs.declared.ranges.IdentityUsedUp.{IdentityUsedUp as IdentityEnd}
use Rattle.merge_ident.specs.Answers.{Answer, answer_of, grants_after, new_grant}
use Rattle.merge_ident.specs.Books.{IsBook, IsNextIfAny}
use Rattle.merge_ident.specs.Grants.{is_in, with_grant}
use Rattle.merge_ident.specs.Holders.{Holder, after_receive, after_take, answer_to_take}
use Rattle.merge_ident.proofs.Added.{count_by-with_grant}
use Rattle.merge_ident.proofs.Plans.{book-with_plan, plans_follow}
use Rattle.merge_batch.specs.Uploads.{whole_number}
use Rattle.merge_batch.specs.declared.refusal.Refusal.{Refusal}
use Rattle.merge_batch.specs.declared.reply.Reply.TheVariants as reply
use Rattle.merge_batch.specs.declared.request.Request.TheVariants as request
use Rattle.merge_schema.specs.declared.publication.Publication.{Publication}
use Rattle.merge_model.specs.Tables.Changes.{key_of}
use Rattle.merge_model.specs.History.{MadeChange}
use Rattle.merge_model.specs.Tables.Keys.{at_number, put_number}
use Rattle.merge_model.specs.Tables.Publications.{rules_of}
use Rattle.merge_model.specs.Publisher.PublisherLocal.{Drawn, after_answer, draw_for_change, drawn_from, next_dot, no_draw, own_ask, taken_from}
use Rattle.merge_model.specs.Tables.{PublisherTables, SubscriberTables}
use Rattle.merge_model.specs.declared.letter.Message.TheVariants.{Asks, Replies}
use Rattle.merge_model.specs.declared.letter.Letter.{Letter}
use Rattle.merge_model.specs.declared.letter.Message.{Message}
use Rattle.merge_laws.specs.Facts.Identities.{takes_at, gives_heard, gives_to, holders_at, holder_in, Held, MessageTells, LetterTells, Identities}
use Rattle.merge_model.proofs.Lists.Finding.{all-weaker}
use Rattle.merge_laws.proofs.Identities.IdentityCalls.{held-receive, held-take, held-with}
use Rattle.merge_laws.proofs.Identities.IdentityGrants.{Grows, all-told, with_new-grows}
use Rattle.merge_laws.proofs.Identities.IdentityNotes.{elsewhere-taken, none-taken, one-taken}
use Rattle.merge_laws.proofs.Identities.IdentityPlaces.{article-put, found-holder, own-put}

-- letters, as more is granted
message-grows : (grants more : List Grant) (site : SiteId) (message : Message) → Grows grants more → MessageTells grants site message → MessageTells more site message
message-grows grants more site (Asks (request.Ranges m)) grow tells = tells
message-grows grants more site (Asks (request.Join m)) grow tells = tt
message-grows grants more site (Asks (request.Upload m)) grow tells = tt
message-grows grants more site (Asks (request.Download m)) grow tells = tt
message-grows grants more site (Replies (reply.Ranged m)) grow tells = all-told grants more site.0 grow m.grants tells
message-grows grants more site (Replies (reply.Joined m)) grow tells = tt
message-grows grants more site (Replies (reply.Uploaded m)) grow tells = tt
message-grows grants more site (Replies (reply.Downloaded m)) grow tells = tt
message-grows grants more site (Replies (reply.Refused number values)) grow tells = tt

pub letters-grow : (grants more : List Grant) (pool : List Letter) → Grows grants more → AllByRecursion (LetterTells grants) pool → AllByRecursion (LetterTells more) pool
letters-grow grants more pool grow all = all-weaker (LetterTells grants) (LetterTells more) (λ letter tells. message-grows grants more letter.site letter.message grow tells) pool all

-- a change of a site in an article, with the value that it takes

pub taken-there : (change : MadeChange) (made : List MadeChange) (site article : ℕ) (taken value : ℤ) → change.dot.site.0 ≡ site → change.key.article ≡ article → change.identity ≡ Some taken
    → count_by (takes_at site article value) (change ∷ made) ≡ count_by (takes_at site article value) made + cond (int_eq value taken) 1 0
taken-there change made site article taken value same_site same_article takes =
    subst (λ (k : ℕ). count_by (takes_at k article value) (change ∷ made) ≡ count_by (takes_at k article value) made + cond (int_eq value taken) 1 0) same_site
    (subst (λ (a : ℕ). count_by (takes_at change.dot.site.0 a value) (change ∷ made) ≡ count_by (takes_at change.dot.site.0 a value) made + cond (int_eq value taken) 1 0) same_article
    (one-taken change made value taken takes))

pub other-article : (change : MadeChange) (made : List MadeChange) (site article : ℕ) (value : ℤ) → (article ≡ change.key.article → ⊥) → count_by (takes_at site article value) (change ∷ made) ≡ count_by (takes_at site article value) made
other-article change made site article value differs = elsewhere-taken site article change made value (grind (arith, nat_tests, differs))

pub other-site : (change : MadeChange) (made : List MadeChange) (site article : ℕ) (value : ℤ) → (site ≡ change.dot.site.0 → ⊥) → count_by (takes_at site article value) (change ∷ made) ≡ count_by (takes_at site article value) made
other-site change made site article value differs = elsewhere-taken site article change made value (grind (arith, nat_tests, differs))

module _ (publication : Publication) (p : PublisherTables) (subscribers : List (ℕ × SubscriberTables)) (pool : List Letter) (made : List MadeChange) (i : Identities publication p.grants p.held subscribers pool made) where
  abbrev After : List Grant → List (ℕ × Holder) → MadeChange → Type 0
  After grants own change = Identities publication grants own subscribers pool (change ∷ made)

  same-grants : Grows p.grants p.grants
  same-grants test = omega arith

  none-drawn : (change : MadeChange) → change.identity ≡ None → After p.grants p.held change
  none-drawn change none = record {
    book = i.book;
    held = λ site article. held-with p.grants p.grants made (change ∷ made) site article (holder_in (holders_at p.held subscribers site) article) same-grants (none-taken change made none site article) (i.held site article);
    letters = i.letters;
  }

  -- a value is taken from what the publisher holds of an article, where more was granted or not

  module _ (grants : List Grant) (grow : Grows p.grants grants) (book : IsBook (rules_of publication) grants) (article : ℕ) (holder : Holder) (here : Held grants made 0 article holder) where
    one-drawn : (change : MadeChange) (value : ℤ) → answer_to_take holder ≡ Ok value → change.dot.site.0 ≡ 0 → change.key.article ≡ article → change.identity ≡ Some value → After grants (put_number p.held article (after_take holder)) change
    one-drawn change value answers same_site same_article takes = record {
      book = book;
      held = own-put (λ (site : ℕ) (held : List (ℕ × Holder)). (other : ℕ) → Held grants (change ∷ made) site other (holder_in held other)) p.held (put_number p.held article (after_take holder)) subscribers
          (article-put (λ (other : ℕ) (h : Holder). Held grants (change ∷ made) 0 other h) p.held article (after_take holder)
          (held-take grants made (change ∷ made) 0 article holder value answers (λ v. taken-there change made 0 article value v same_site same_article takes) here)
          (λ other differs. held-with p.grants grants made (change ∷ made) 0 other (holder_in p.held other) grow (λ v. other-article change made 0 other v (λ same. differs (same ∙ same_article))) (i.held 0 other)))
          (λ site low other. held-with p.grants grants made (change ∷ made) site other (holder_in (holders_at p.held subscribers site) other) grow (λ v. other-site change made site other v (λ same. omega (arith, low, same, same_site))) (i.held site other));
      letters = letters-grow p.grants grants pool grow i.letters;
    }

    from-held : (result : Result ℤ IdentityEnd) → answer_to_take holder ≡ result
        → IfOk (taken_from p grants article holder result) (λ d. (change : MadeChange) → change.dot.site.0 ≡ 0 → change.key.article ≡ article → change.identity ≡ whole_number (Some d.value) → After d.grants d.held change)
    from-held (Ok value) is = λ change same_site same_article takes. one-drawn change value is same_site same_article takes
    from-held (Err used_up) is = tt

  -- the publisher grants itself a range

  own-counted : (new : Grant) (article : ℕ) (value : ℤ) → new.site.0 ≡ 0 → new.article ≡ article → gives_to 0 article value new ≡ is_in value new.range
  own-counted new article value same_site same_article = grind (arith, nat_tests, same_site, same_article)

  own-grows : (article have number : ℕ) (range : Range) (value : ℤ) → (let new : Grant = record { article = article; site = record { 0 = 0 }; number = number; range = range } in
      count_by (gives_heard 0 article have value) p.grants + cond (is_in value range) 1 0 ≤ count_by (gives_heard 0 article (have + 1) value) (with_grant p.grants new))
  own-grows article have number range value =
      let new : Grant = record { article = article; site = record { 0 = 0 }; number = number; range = range } in
      let gives : gives_to 0 article value new ≡ is_in value range = own-counted new article value refl refl in
      let more : count_by (gives_to 0 article value) (with_grant p.grants new) ≡ cond (is_in value range) 1 0 + count_by (gives_to 0 article value) p.grants =
      count_by-with_grant (gives_to 0 article value) new p.grants ∙ ap (λ (b : Bool). cond b 1 0 + count_by (gives_to 0 article value) p.grants) gives in
      omega (arith, more)

  after-answered : (article : ℕ) (holder : Holder) → Held p.grants made 0 article holder → (answer : Answer) → answer_of (rules_of publication) p.grants (own_ask p article) ≡ answer
      → IfOk (after_answer p article holder answer) (λ d. (change : MadeChange) → change.dot.site.0 ≡ 0 → change.key.article ≡ article → change.identity ≡ whole_number (Some d.value) → After d.grants d.held change)
  after-answered article holder here (Ok (Granted number range)) is =
      let ask : Ask = own_ask p article in
      let grants : List Grant = grants_after p.grants ask (Ok (Granted number range)) in
      let book : IsBook (rules_of publication) grants = subst (λ (a : Answer). IsBook (rules_of publication) (grants_after p.grants ask a)) is (book-with_plan (rules_of publication) p.grants ask i.book) in
      let next : IsNextIfAny p.grants (new_grant ask (Ok (Granted number range))) = subst (λ (a : Answer). IsNextIfAny p.grants (new_grant ask a)) is (plans_follow (rules_of publication) p.grants (ask ∷ []) i.book).0 in
      let new : Grant = record { article = article; site = record { 0 = 0 }; number = number; range = range } in
      from-held grants (with_new-grows p.grants (Some new)) book article (after_receive holder range)
      (held-receive p.grants grants made 0 article holder range next.values.some (own-grows article holder.have number range) here)
      (answer_to_take (after_receive holder range)) refl
  after-answered article holder here (Ok (Kept number range)) is = from-held p.grants same-grants i.book article holder here (answer_to_take holder) refl
  after-answered article holder here (Ok NotDue) is = from-held p.grants same-grants i.book article holder here (answer_to_take holder) refl
  after-answered article holder here (Err fault) is = from-held p.grants same-grants i.book article holder here (answer_to_take holder) refl

  from-drawn : (article : ℕ) (holder : Holder) → Held p.grants made 0 article holder → (result : Result ℤ IdentityEnd) → answer_to_take holder ≡ result
      → IfOk (drawn_from publication p article holder result) (λ d. (change : MadeChange) → change.dot.site.0 ≡ 0 → change.key.article ≡ article → change.identity ≡ whole_number (Some d.value) → After d.grants d.held change)
  from-drawn article holder here (Ok value) is = from-held p.grants same-grants i.book article holder here (Ok value) is
  from-drawn article holder here (Err used_up) is = after-answered article holder here (answer_of (rules_of publication) p.grants (own_ask p article)) refl

  found-drawn : (article : ℕ) (found : Option Holder) → at_number p.held article ≡ found
      → (let draw : Result Drawn Refusal = elim found [ None ↦ Ok (no_draw p) | Some holder ↦ drawn_from publication p article holder (answer_to_take holder) ] in
      IfOk draw (λ d. (change : MadeChange) → change.dot.site.0 ≡ 0 → change.key.article ≡ article → change.identity ≡ whole_number (Some d.value) → After d.grants d.held change))
  found-drawn article None at = λ change same_site same_article none. none-drawn change none
  found-drawn article (Some holder) at =
      from-drawn article holder (subst (λ (h : Holder). Held p.grants made 0 article h) (found-holder p.held article holder at) (i.held 0 article)) (answer_to_take holder) refl

  pub draw-keeps : (change : Change) → IfOk (draw_for_change publication p change) (λ d. (c : MadeChange) → c.dot.site.0 ≡ 0 → c.key.article ≡ (key_of (next_dot p) change).article → c.identity ≡ whole_number (Some d.value) → After d.grants d.held c)
  draw-keeps (Insert article values) = found-drawn article (at_number p.held article) refl
  draw-keeps (Update article row values) = λ c same_site same_article none. none-drawn c none
  draw-keeps (Delete article row) = λ c same_site same_article none. none-drawn c none

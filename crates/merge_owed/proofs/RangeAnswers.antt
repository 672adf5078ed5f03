-- What a site's range requests are answered for one article, whatever others it asks for with it.
use Rattle.std.specs.List.{AllByRecursion, cons_option, fold, list_all, list_any}
use Rattle.std.specs.Prelude.{Bool, Err, List, None, Ok, Option, Some, [], cond, false, filter_map, find, if◌then◌else◌, map, max, refl, true, ℕ, ◌&&◌, ◌+◌, ◌==◌, ◌||◌, ◌≡◌, ◌∷◌}
use Rattle.std.specs.BTreeMap.{is_at}
use Rattle.std.specs.Ordering.{nat_cmp}
use Rattle.std.proofs.Common.{arith, ap, inl, inr, subst, sym, ◌∙◌, ◌⊎◌}
use Rattle.std.proofs.lemmas.Bool.Decides.{nat_tests}
use Rattle.merge_types.specs.declared.identifiers.SiteId.{SiteId}
use Rattle.merge_ident.specs.Answers.{Answer, answer_by, answer_of, ask_of, grants_after, grants_with_all, kept_answer, plans_of, rule_of, ruled_answer}
use Rattle.merge_ident.specs.Grants.{greatest_end, granted_to, is_numbered, is_of, natural, with_grant}
use Rattle.merge_ident.specs.Holders.{Holder, after_receive, is_due}
use Rattle.merge_ident.specs.declared.grants.Ask.{Ask}
use Rattle.merge_ident.specs.declared.grants.Grant.{Grant}
use Rattle.merge_ident.specs.declared.grants.GrantAnswer.TheVariants.{Granted, Kept, NotDue}
use Rattle.merge_ident.specs.declared.grants.GrantPlan.{GrantPlan}
use Rattle.merge_ident.specs.declared.grants.IdentityFault.TheVariants.{TooMany}
use Rattle.merge_ident.specs.declared.grants.Rule.{Rule}
use Rattle.merge_ident.proofs.Added.{count_by-with_grant, find-with_other, greatest_end-with_grant}
use Rattle.merge_batch.specs.Asks.{wanted_article}
use Rattle.merge_batch.specs.Search.{are_distinct}
use Rattle.merge_batch.specs.declared.reply.RangeGrant.{RangeGrant}
use Rattle.merge_model.specs.Tables.Keys.{at_number, put_number}
use Rattle.merge_model.specs.Publisher.PublisherRanges.{ask_by, grant_of, granted_by}
use Rattle.merge_model.specs.Subscriber.Sending.{want_of}
use Rattle.merge_model.specs.Subscriber.Taking.{with_grant as receives}
use Rattle.merge_model.proofs.Lists.Finding.{at_put_other, at_put_same, some_same}
use Rattle.merge_model.proofs.Lists.Tests.{number-itself, numbers-same}

-- what a holder of an article is answered that asks, over these grants
abbrev pub answered : List Rule → SiteId → List Grant → ℕ → Holder → Answer
answered rules site grants article holder = answer_of rules grants (ask_of site article holder.have (is_due holder))

-- what is planned for all that a site holds
abbrev pub planned : List Rule → SiteId → List Grant → List (ℕ × Holder) → List GrantPlan
planned rules site grants entries = plans_of rules grants (map (ask_by site) (map want_of entries))

-- and the ranges that the reply brings
abbrev pub brought : List GrantPlan → List RangeGrant
brought plans = filter_map (λ (plan : GrantPlan). granted_by plan.ask.article plan.answer) plans

abbrev pub articles_in : List (ℕ × Holder) → List ℕ
articles_in entries = map wanted_article (map want_of entries)

-- the holder with what its answer brings
abbrev pub received : Answer → Holder → Holder
received (Ok (Granted number range)) holder = after_receive holder range
received (Ok (Kept number range)) holder = after_receive holder range
received answer holder = holder

-- how many grants the publisher makes
abbrev pub made_by : Answer → ℕ
made_by (Ok (Granted number range)) = 1
made_by answer = 0

abbrev pub FitsIfAny : (RangeGrant → Bool) → Option RangeGrant → Type 0
FitsIfAny fits None = Unit {0}
FitsIfAny fits (Some grant) = fits grant ≡ true

-- Two lists of grants that are the same for an article and a site, as far as an answer reads them.
pub record SameAt (article site : ℕ) (grants others : List Grant) : Type 0 where
  pub count : granted_to article site others ≡ granted_to article site grants
  pub found : (number : ℕ) → find (is_numbered article site number) others ≡ find (is_numbered article site number) grants
  pub end : greatest_end article others ≡ greatest_end article grants

same-here : (article site : ℕ) (grants : List Grant) → SameAt article site grants grants
same-here article site grants = record { count = refl; found = λ number. refl; end = refl }

same-through : (article site : ℕ) (a b c : List Grant) → SameAt article site a b → SameAt article site b c → SameAt article site a c
same-through article site a b c one two = record { count = two.count ∙ one.count; found = λ number. two.found number ∙ one.found number; end = two.end ∙ one.end }

pub same-answer : (rules : List Rule) (site : SiteId) (a b : List Grant) (article have : ℕ) (due : Bool) → SameAt article site.0 a b → answer_of rules b (ask_of site article have due) ≡ answer_of rules a (ask_of site article have due)
same-answer rules site a b article have due same =
    let by : ℕ → Option Grant → ℕ → Answer = λ (count : ℕ) (found : Option Grant) (end : ℕ). answer_by (nat_cmp have count) due (kept_answer found) (Err (TooMany count)) (ruled_answer (rule_of rules article) site.0 (have + 1) end) in
    ap (λ (count : ℕ). by count (find (is_numbered article site.0 (have + 1)) b) (greatest_end article b)) same.count
    ∙ ap (λ (found : Option Grant). by (granted_to article site.0 a) found (greatest_end article b)) (same.found (have + 1))
    ∙ ap (λ (end : ℕ). by (granted_to article site.0 a) (find (is_numbered article site.0 (have + 1)) a) end) same.end

-- A grant of another article changes nothing of it.
same-grant : (article site : ℕ) (new : Grant) (grants : List Grant) → (new.article == article) ≡ false → SameAt article site grants (with_grant grants new)
same-grant article site new grants other =
    let apart : is_of article site new ≡ false = ap (λ (b : Bool). b && (new.site.0 == site)) other in
    record {
      count = (let more = count_by-with_grant (is_of article site) new grants ∙ ap (λ (b : Bool). cond b 1 0 + granted_to article site grants) apart in omega (arith, more));
      found = λ number. find-with_other (is_numbered article site number) new grants (ap (λ (b : Bool). b && (new.number == number)) apart);
      end = greatest_end-with_grant article new grants ∙ ap (λ (b : Bool). if b then max (natural new.range.end) (greatest_end article grants) else greatest_end article grants) other;
    }

same-after : (article site : ℕ) (grants : List Grant) (ask : Ask) (answer : Answer) → (ask.article == article) ≡ false → SameAt article site grants (grants_after grants ask answer)
same-after article site grants ask (Ok (Granted number range)) other = same-grant article site (record { article = ask.article; site = ask.site; number = number; range = range }) grants other
same-after article site grants ask (Ok (Kept number range)) other = same-here article site grants
same-after article site grants ask (Ok NotDue) other = same-here article site grants
same-after article site grants ask (Err fault) other = same-here article site grants

-- one of the article and the site is counted
count-after : (grants : List Grant) (ask : Ask) (answer : Answer) → granted_to ask.article ask.site.0 (grants_after grants ask answer) ≡ granted_to ask.article ask.site.0 grants + made_by answer
count-after grants ask (Ok (Granted number range)) =
    let new : Grant = record { article = ask.article; site = ask.site; number = number; range = range } in
    let own : is_of ask.article ask.site.0 new ≡ true = grind (arith, nat_tests) in
    let more = count_by-with_grant (is_of ask.article ask.site.0) new grants ∙ ap (λ (b : Bool). cond b 1 0 + granted_to ask.article ask.site.0 grants) own in
    omega (arith, more)
count-after grants ask (Ok (Kept number range)) = omega arith
count-after grants ask (Ok NotDue) = omega arith
count-after grants ask (Err fault) = omega arith

none-after : (article : ℕ) (grants : List Grant) (ask : Ask) (answer : Answer) → granted_by article answer ≡ None → grants_after grants ask answer ≡ grants
none-after article grants ask (Ok (Granted number range)) none = absurd cc
none-after article grants ask (Ok (Kept number range)) none = refl
none-after article grants ask (Ok NotDue) none = refl
none-after article grants ask (Err fault) none = refl

-- Articles that are asked for.

-- none of these is the article
abbrev pub Without : ℕ → List (ℕ × Holder) → Type 0
Without article entries = AllByRecursion (λ (entry : ℕ × Holder). (entry.0 == article) ≡ false) entries

-- one is, with this holder
abbrev pub Own : ℕ → Holder → List (ℕ × Holder) → Type 0
Own article holder [] = ⊥
Own article holder (entry ∷ entries) = ((entry ≡ (article, holder)) × Without article entries) ⊎ (((entry.0 == article) ≡ false) × Own article holder entries)

or-none : (a b : Bool) → (a || b) ≡ false → (a ≡ false) × (b ≡ false)
or-none true b none = absurd cc
or-none false b none = (refl, none)

pub and-both : (a b : Bool) → (a && b) ≡ true → (a ≡ true) × (b ≡ true)
and-both true b both = (refl, both)
and-both false b both = absurd cc

first-at : (n q : ℕ) → is_at (nat_cmp q) n ≡ (n == q)
first-at n q = grind (arith, nat_tests)

differs-of : (n q : ℕ) → (n == q) ≡ false → q ≡ n → ⊥
differs-of n q other same = absurd (grind (arith, nat_tests, other, same))

none-any : (article : ℕ) (entries : List (ℕ × Holder)) → list_any (λ (m : ℕ). m == article) (articles_in entries) ≡ false → Without article entries
none-any article [] none = tt
none-any article (entry ∷ entries) none =
    let two = or-none (entry.0 == article) (list_any (λ (m : ℕ). m == article) (articles_in entries)) none in
    (two.0, none-any article entries two.1)

distinct-parts : (entry : ℕ × Holder) (entries : List (ℕ × Holder)) → are_distinct (articles_in (entry ∷ entries)) ≡ true → Without entry.0 entries × (are_distinct (articles_in entries) ≡ true)
distinct-parts entry entries distinct =
    let any : Bool = list_any (λ (m : ℕ). m == entry.0) (articles_in entries) in
    let two = and-both _ (are_distinct (articles_in entries)) distinct in
    (none-any entry.0 entries (grind (arith, two.0)), two.1)

-- what is found is its own
own-by : (b : Bool) (n article : ℕ) (x holder : Holder) (entries : List (ℕ × Holder)) → (n == article) ≡ b → Without n entries → (at_number entries article ≡ Some holder → Own article holder entries)
    → (let found : Option Holder = cond b (Some x) (at_number entries article) in found) ≡ Some holder → Own article holder ((n, x) ∷ entries)
own-by true n article x holder entries is none more at =
    let here : n ≡ article = numbers-same n article is in
    let same : x ≡ holder = some_same x holder at in
    inl (ap (λ (k : ℕ). (k, x)) here ∙ ap (λ (h : Holder). (article, h)) same, subst (λ (k : ℕ). Without k entries) here none)
own-by false n article x holder entries is none more at = inr (is, more at)

first-found : (n article : ℕ) (x : Holder) (entries : List (ℕ × Holder)) → at_number ((n, x) ∷ entries) article ≡ (let found : Option Holder = cond (n == article) (Some x) (at_number entries article) in found)
first-found n article x entries = ap (λ (b : Bool). (let found : Option Holder = cond b (Some x) (at_number entries article) in found)) (first-at n article)

pub own-found : (article : ℕ) (holder : Holder) (entries : List (ℕ × Holder)) → are_distinct (articles_in entries) ≡ true → at_number entries article ≡ Some holder → Own article holder entries
own-found article holder [] distinct at = absurd cc
own-found article holder ((n, x) ∷ entries) distinct at =
    let parts = distinct-parts (n, x) entries distinct in
    own-by (n == article) n article x holder entries refl parts.0 (λ there. own-found article holder entries parts.1 there) (sym (first-found n article x entries) ∙ at)

without-by : (b : Bool) (n article : ℕ) (x : Holder) (entries : List (ℕ × Holder)) → (n == article) ≡ b → (at_number entries article ≡ None → Without article entries)
    → (let found : Option Holder = cond b (Some x) (at_number entries article) in found) ≡ None → Without article ((n, x) ∷ entries)
without-by true n article x entries is more at = absurd cc
without-by false n article x entries is more at = (is, more at)

pub none-without : (article : ℕ) (entries : List (ℕ × Holder)) → at_number entries article ≡ None → Without article entries
none-without article [] at = tt
none-without article ((n, x) ∷ entries) at = without-by (n == article) n article x entries refl (λ there. none-without article entries there) (sym (first-found n article x entries) ∙ at)

without-none : (article : ℕ) (entries : List (ℕ × Holder)) → Without article entries → at_number entries article ≡ None
without-none article [] none = refl
without-none article ((n, x) ∷ entries) none = first-found n article x entries ∙ ap (λ (b : Bool). (let found : Option Holder = cond b (Some x) (at_number entries article) in found)) none.0 ∙ without-none article entries none.1

later-by : (b : Bool) (n article : ℕ) (x holder : Holder) (entries : List (ℕ × Holder)) → (n == article) ≡ b → Without n entries → at_number entries article ≡ Some holder
    → (let found : Option Holder = cond b (Some x) (at_number entries article) in found) ≡ Some holder
later-by true n article x holder entries is none at =
    let gone : at_number entries article ≡ None = ap (λ (k : ℕ). at_number entries k) (sym (numbers-same n article is)) ∙ without-none n entries none in
    absurd cc
later-by false n article x holder entries is none at = at

later-found : (n article : ℕ) (x holder : Holder) (entries : List (ℕ × Holder)) → Without n entries → at_number entries article ≡ Some holder → at_number ((n, x) ∷ entries) article ≡ Some holder
later-found n article x holder entries none at = first-found n article x entries ∙ later-by (n == article) n article x holder entries refl none at

itself-found : (n : ℕ) (x : Holder) (entries : List (ℕ × Holder)) → at_number ((n, x) ∷ entries) n ≡ Some x
itself-found n x entries = first-found n n x entries ∙ ap (λ (b : Bool). (let found : Option Holder = cond b (Some x) (at_number entries n) in found)) (number-itself n)

-- The ranges come.

grant-elsewhere : (held : List (ℕ × Holder)) (grant : RangeGrant) (article : ℕ) (found : Option Holder) → (grant.article == article) ≡ false
    → (let after : List (ℕ × Holder) = elim found [ None ↦ held | Some holder ↦ put_number held grant.article (after_receive holder (record { begin = grant.begin; end = grant.end })) ] in at_number after article) ≡ at_number held article
grant-elsewhere held grant article None other = refl
grant-elsewhere held grant article (Some holder) other = at_put_other grant.article article (after_receive holder (record { begin = grant.begin; end = grant.end })) held (differs-of grant.article article other)

grant-here : (held : List (ℕ × Holder)) (grant : RangeGrant) (holder : Holder) → at_number held grant.article ≡ Some holder → at_number (receives held grant) grant.article ≡ Some (after_receive holder (record { begin = grant.begin; end = grant.end }))
grant-here held grant holder at =
    let new : Holder = after_receive holder (record { begin = grant.begin; end = grant.end }) in
    subst (λ (found : Option Holder). (let after : List (ℕ × Holder) = elim found [ None ↦ held | Some x ↦ put_number held grant.article (after_receive x (record { begin = grant.begin; end = grant.end })) ] in at_number after grant.article) ≡ Some new)
    (sym at) (at_put_same grant.article new held)

-- those of another article first
elsewhere-first : (n article : ℕ) (answer : Answer) (rest : List RangeGrant) (held : List (ℕ × Holder)) (found : Option Holder) → (n == article) ≡ false
    → ((h : List (ℕ × Holder)) → at_number h article ≡ at_number held article → at_number (fold receives h rest) article ≡ found) → at_number (fold receives held (cons_option (granted_by n answer) rest)) article ≡ found
elsewhere-first n article (Ok (Granted number range)) rest held found other more = more (receives held (grant_of n number range)) (grant-elsewhere held (grant_of n number range) article (at_number held n) other)
elsewhere-first n article (Ok (Kept number range)) rest held found other more = more (receives held (grant_of n number range)) (grant-elsewhere held (grant_of n number range) article (at_number held n) other)
elsewhere-first n article (Ok NotDue) rest held found other more = more held refl
elsewhere-first n article (Err fault) rest held found other more = more held refl

-- or its own
own-first : (article : ℕ) (answer : Answer) (holder : Holder) (rest : List RangeGrant) (held : List (ℕ × Holder)) → at_number held article ≡ Some holder
    → ((h : List (ℕ × Holder)) → at_number (fold receives h rest) article ≡ at_number h article) → at_number (fold receives held (cons_option (granted_by article answer) rest)) article ≡ Some (received answer holder)
own-first article (Ok (Granted number range)) holder rest held at more = more (receives held (grant_of article number range)) ∙ grant-here held (grant_of article number range) holder at
own-first article (Ok (Kept number range)) holder rest held at more = more (receives held (grant_of article number range)) ∙ grant-here held (grant_of article number range) holder at
own-first article (Ok NotDue) holder rest held at more = more held ∙ at
own-first article (Err fault) holder rest held at more = more held ∙ at

first-fits : (fits : RangeGrant → Bool) (found : Option RangeGrant) (rest : List RangeGrant) → list_all fits (cons_option found rest) ≡ true → FitsIfAny fits found × (list_all fits rest ≡ true)
first-fits fits None rest all = (tt, all)
first-fits fits (Some grant) rest all = and-both (fits grant) (list_all fits rest) all

-- What a request does for an article that is asked for.
pub record OwnAfter (article site : ℕ) (holder : Holder) (answer : Answer) (grants final : List Grant) (news : List RangeGrant) : Type 0 where
  pub held : (h : List (ℕ × Holder)) → at_number h article ≡ Some holder → at_number (fold receives h news) article ≡ Some (received answer holder)
  pub count : granted_to article site final ≡ granted_to article site grants + made_by answer
  pub same : granted_by article answer ≡ None → SameAt article site grants final
  pub fits : (fits : RangeGrant → Bool) → list_all fits news ≡ true → FitsIfAny fits (granted_by article answer)

module _ (rules : List Rule) (site : SiteId) where
  others-same : (article : ℕ) (entries : List (ℕ × Holder)) (grants : List Grant) → Without article entries → SameAt article site.0 grants (grants_with_all grants (planned rules site grants entries))
  others-same article [] grants none = same-here article site.0 grants
  others-same article (entry ∷ entries) grants none =
      let ask : Ask = ask_by site (want_of entry) in
      let after : List Grant = grants_after grants ask (answer_of rules grants ask) in
      same-through article site.0 grants after (grants_with_all after (planned rules site after entries)) (same-after article site.0 grants ask (answer_of rules grants ask) none.0) (others-same article entries after none.1)

  pub others-held : (article : ℕ) (entries : List (ℕ × Holder)) (grants : List Grant) (held : List (ℕ × Holder)) → Without article entries → at_number (fold receives held (brought (planned rules site grants entries))) article ≡ at_number held article
  others-held article [] grants held none = refl
  others-held article (entry ∷ entries) grants held none =
      let ask : Ask = ask_by site (want_of entry) in
      let after : List Grant = grants_after grants ask (answer_of rules grants ask) in
      elsewhere-first entry.0 article (answer_of rules grants ask) (brought (planned rules site after entries)) held (at_number held article) none.0 (λ h same. others-held article entries after h none.1 ∙ same)

  own-here : (article : ℕ) (holder : Holder) (entries : List (ℕ × Holder)) (grants : List Grant) → Without article entries
      → OwnAfter article site.0 holder (answered rules site grants article holder) grants (grants_with_all grants (planned rules site grants ((article, holder) ∷ entries))) (brought (planned rules site grants ((article, holder) ∷ entries)))
  own-here article holder entries grants none =
      let ask : Ask = ask_of site article holder.have (is_due holder) in
      let answer : Answer = answer_of rules grants ask in
      let after : List Grant = grants_after grants ask answer in
      let rest : List RangeGrant = brought (planned rules site after entries) in
      let final : List Grant = grants_with_all after (planned rules site after entries) in
      let others : SameAt article site.0 after final = others-same article entries after none in
      record {
        held = λ h at. own-first article answer holder rest h at (λ k. others-held article entries after k none);
        count = others.count ∙ count-after grants ask answer;
        same = λ nothing. same-through article site.0 grants after final (subst (λ (x : List Grant). SameAt article site.0 grants x) (sym (none-after article grants ask answer nothing)) (same-here article site.0 grants)) others;
        fits = λ fits all. (first-fits fits (granted_by article answer) rest all).0;
      }

  own-later : (article : ℕ) (holder : Holder) (answer : Answer) (n : ℕ) (other : Answer) (grants after final : List Grant) (rest : List RangeGrant) → (n == article) ≡ false → SameAt article site.0 grants after
      → OwnAfter article site.0 holder answer after final rest → OwnAfter article site.0 holder answer grants final (cons_option (granted_by n other) rest)
  own-later article holder answer n other grants after final rest apart same own = record {
    held = λ h at. elsewhere-first n article other rest h (Some (received answer holder)) apart (λ k same_at. own.held k (same_at ∙ at));
    count = own.count ∙ ap (λ (k : ℕ). k + made_by answer) same.count;
    same = λ nothing. same-through article site.0 grants after final same (own.same nothing);
    fits = λ fits all. own.fits fits (first-fits fits (granted_by n other) rest all).1;
  }

  pub own-after : (article : ℕ) (holder : Holder) (entries : List (ℕ × Holder)) (grants : List Grant) → Own article holder entries
      → OwnAfter article site.0 holder (answered rules site grants article holder) grants (grants_with_all grants (planned rules site grants entries)) (brought (planned rules site grants entries))
  own-after article holder [] grants own = absurd own
  own-after article holder (entry ∷ entries) grants (inl here) =
      subst (λ (e : ℕ × Holder). OwnAfter article site.0 holder (answered rules site grants article holder) grants (grants_with_all grants (planned rules site grants (e ∷ entries))) (brought (planned rules site grants (e ∷ entries))))
      (sym here.0) (own-here article holder entries grants here.1)
  own-after article holder (entry ∷ entries) grants (inr later) =
      let ask : Ask = ask_by site (want_of entry) in
      let other : Answer = answer_of rules grants ask in
      let after : List Grant = grants_after grants ask other in
      let final : List Grant = grants_with_all after (planned rules site after entries) in
      let rest : List RangeGrant = brought (planned rules site after entries) in
      let same : SameAt article site.0 grants after = same-after article site.0 grants ask other later.0 in
      subst (λ (answer : Answer). OwnAfter article site.0 holder answer grants final (cons_option (granted_by entry.0 other) rest)) (same-answer rules site grants after article holder.have (is_due holder) same)
      (own-later article holder (answered rules site after article holder) entry.0 other grants after final rest later.0 same (own-after article holder entries after later.1))

  -- where no article is granted any, the reply brings none
  pub none-brought : (entries : List (ℕ × Holder)) (grants : List Grant) → are_distinct (articles_in entries) ≡ true
      → ((article : ℕ) (holder : Holder) → at_number entries article ≡ Some holder → granted_by article (answered rules site grants article holder) ≡ None) → brought (planned rules site grants entries) ≡ []
  none-brought [] grants distinct none = refl
  none-brought ((n, x) ∷ entries) grants distinct none =
      let ask : Ask = ask_of site n x.have (is_due x) in
      let answer : Answer = answer_of rules grants ask in
      let after : List Grant = grants_after grants ask answer in
      let parts = distinct-parts (n, x) entries distinct in
      let first : granted_by n answer ≡ None = none n x (itself-found n x entries) in
      ap (λ (found : Option RangeGrant). cons_option found (brought (planned rules site after entries))) first
      ∙ ap (λ (g : List Grant). brought (planned rules site g entries)) (none-after n grants ask answer first)
      ∙ none-brought entries grants parts.1 (λ article holder at. none article holder (later-found n article x holder entries parts.0 at))

-- How near a site is to the end of the grants of an article.
use Rattle.std.specs.Prelude.{Bool, Err, List, None, Ok, Option, Some, [], drop, false, find, if◌then◌else◌, length, nat_le, pos, refl, suc, true, zero, ℕ, ◌*◌, ◌++◌, ◌+◌, ◌-◌, ◌<◌, ◌≡◌, ◌≤◌, ◌∷◌}
use Rattle.std.specs.Ordering.{nat_cmp}
use Rattle.std.specs.declared.cmp.Ordering.{Ordering}
use Rattle.std.specs.declared.cmp.Ordering.TheVariants.{Equal, Greater, Less}
use Rattle.std.proofs.Common.{ap, arith, inl, inr, sym, ◌∙◌, ◌⊎◌}
use Rattle.std.proofs.lemmas.Bool.Decides.{nat_tests}
use Rattle.std.proofs.Math.Nat.{le-mul_of_pos_right}
use Rattle.merge_types.specs.declared.identifiers.SiteId.{SiteId}
use Rattle.merge_ident.specs.Answers.{Answer, answer_by, kept_answer, next_end, next_begin, rule_of, ruled_answer}
use Rattle.merge_ident.specs.Grants.{greatest_end, granted_to, is_numbered, natural}
use Rattle.merge_ident.specs.Holders.{Holder, Received, after_receive, is_due, last_two, size_of, unused}
use Rattle.merge_ident.specs.declared.grants.Grant.{Grant}
use Rattle.merge_ident.specs.declared.grants.GrantAnswer.TheVariants.{Granted, Kept, NotDue}
use Rattle.merge_ident.specs.declared.grants.IdentityFault.TheVariants.{NoRange, TooMany}
use Rattle.merge_ident.specs.declared.grants.Range.{Range}
use Rattle.merge_ident.specs.declared.grants.Rule.{Rule}
use Rattle.merge_batch.specs.declared.reply.RangeGrant.{RangeGrant}
use Rattle.merge_model.specs.Publisher.PublisherRanges.{granted_by}
use Rattle.merge_laws.proofs.Identities.IdentityGrants.{ruled-kept}
use Rattle.merge_owed.proofs.RangeAnswers.{OwnAfter, SameAt, answered, received, same-answer}

-- the answer brings nothing
abbrev pub Stuck : List Rule → SiteId → List Grant → ℕ → Holder → Type 0
Stuck rules site grants article holder = granted_by article (answered rules site grants article holder) ≡ None

-- the last range that is held came unused, and has a value
pub record EndsFresh (holder : Holder) : Type 0 where
  pub before : List Received
  pub range : Range
  pub held : holder.held ≡ last_two (before ++ unused range ∷ [])
  pub some : 1 ≤ size_of range

-- at most so many more requests bring a range: those that were granted and not heard of, and then two
abbrev pub Left : ℕ → SiteId → List Grant → ℕ → Holder → Type 0
Left zero site grants article holder = ⊥
Left (suc zero) site grants article holder = (granted_to article site.0 grants ≤ holder.have) × EndsFresh holder
Left (suc (suc more)) site grants article holder = granted_to article site.0 grants ≤ holder.have + more

pub record Goes (rules : List Rule) (n : ℕ) (site : SiteId) (grants : List Grant) (article : ℕ) (holder : Holder) : Type 0 where
  pub threshold : 1 ≤ holder.threshold
  pub within : Stuck rules site grants article holder ⊎ Left n site grants article holder

-- What an answer tells of the numbers.

less-of : (a b : ℕ) → nat_cmp a b ≡ Less → a < b
less-of a b is = grind (arith, nat_tests, is)

equal-of : (a b : ℕ) → nat_cmp a b ≡ Equal → a ≡ b
equal-of a b is = grind (arith, nat_tests, is)

pub kept-granted : (found : Option Grant) (number : ℕ) (range : Range) → kept_answer found ≡ Ok (Granted number range) → ⊥
kept-granted None number range is = absurd cc
kept-granted (Some grant) number range is = absurd cc

granted-order : (o : Ordering) (due : Bool) (found : Option Grant) (count : ℕ) (next : Answer) (number : ℕ) (range : Range) → answer_by o due (kept_answer found) (Err (TooMany count)) next ≡ Ok (Granted number range) → o ≡ Equal
granted-order Less due found count next number range is = absurd (kept-granted found number range is)
granted-order Equal due found count next number range is = refl
granted-order Greater due found count next number range is = absurd cc

kept-order : (o : Ordering) (due : Bool) (kept : Answer) (count : ℕ) (rule : Option Rule) (site n greatest : ℕ) (number : ℕ) (range : Range)
    → answer_by o due kept (Err (TooMany count)) (ruled_answer rule site n greatest) ≡ Ok (Kept number range) → o ≡ Less
kept-order Less due kept count rule site n greatest number range is = refl
kept-order Equal true kept count rule site n greatest number range is = absurd (ruled-kept rule site n greatest number range is)
kept-order Equal false kept count rule site n greatest number range is = absurd cc
kept-order Greater due kept count rule site n greatest number range is = absurd cc

settled-order : (o : Ordering) (kept : Answer) (count article : ℕ) (next : Answer) → (o ≡ Less → ⊥) → granted_by article (answer_by o false kept (Err (TooMany count)) next) ≡ None
settled-order Less kept count article next up = absurd (up refl)
settled-order Equal kept count article next up = refl
settled-order Greater kept count article next up = refl

-- What is received.

last-skip : (first : Received) (rest : List Received) → 2 ≤ length rest → last_two (first ∷ rest) ≡ last_two rest
last-skip first rest two =
    let less : length (first ∷ rest) - 2 ≡ suc (length rest - 2) = omega (arith, two) in
    ap (λ (k : ℕ). drop k (first ∷ rest)) less

length-end : (xs : List Received) (x : Received) → 1 ≤ length (xs ++ x ∷ [])
length-end [] x = omega arith
length-end (y ∷ xs) x = (let more = length-end xs x in omega (arith, more))

ends-two : (first : Received) (rest : List Received) (x : Received) → (z : Received) × (last_two (first ∷ rest ++ x ∷ []) ≡ z ∷ x ∷ [])
ends-two first [] x = (first, refl)
ends-two first (second ∷ rest) x =
    let more = length-end rest x in
    let next = ends-two second rest x in
    (next.0, last-skip first (second ∷ rest ++ x ∷ []) (omega (arith, more)) ∙ next.1)

pub last-fresh : (before : List Received) (x y : Received) → last_two (last_two (before ++ x ∷ []) ++ y ∷ []) ≡ x ∷ y ∷ []
last-fresh [] x y = refl
last-fresh (first ∷ rest) x y = (let two = ends-two first rest x in ap (λ (held : List Received). last_two (held ++ y ∷ [])) two.1)

unused-due : (threshold size : ℕ) → 1 ≤ threshold → 1 ≤ size → nat_le (threshold * size) (0 * 100) ≡ false
unused-due threshold size low some = (let up : threshold ≤ threshold * size = le-mul_of_pos_right threshold some in grind (arith, nat_tests, up, low))

not-due : (holder : Holder) (range : Range) → 1 ≤ holder.threshold → EndsFresh holder → is_due (after_receive holder range) ≡ false
not-due holder range low fresh =
    let two : (after_receive holder range).held ≡ unused fresh.range ∷ unused range ∷ [] = ap (λ (held : List Received). last_two (held ++ unused range ∷ [])) fresh.held ∙ last-fresh fresh.before (unused fresh.range) (unused range) in
    ap (λ (held : List Received). is_due (record { threshold = holder.threshold; have = holder.have; last_end = holder.last_end; held = held })) two ∙ unused-due holder.threshold (size_of fresh.range) low fresh.some

-- A range has a value that a reply brings which fits.
abbrev pub HasSome : Answer → Type 0
HasSome (Ok (Granted number range)) = 1 ≤ size_of range
HasSome (Ok (Kept number range)) = 1 ≤ size_of range
HasSome answer = Unit {0}

module _ (rules : List Rule) (site : SiteId) (article : ℕ) (holder : Holder) (grants final : List Grant) (news : List RangeGrant) where
  settled : (x : Holder) → granted_to article site.0 final ≤ x.have → is_due x ≡ false → Stuck rules site final article x
  settled x up due =
      let kept : Answer = kept_answer (find (is_numbered article site.0 (x.have + 1)) final) in
      let count : ℕ = granted_to article site.0 final in
      let next : Answer = ruled_answer (rule_of rules article) site.0 (x.have + 1) (greatest_end article final) in
      ap (λ (b : Bool). granted_by article (answer_by (nat_cmp x.have count) b kept (Err (TooMany count)) next)) due
      ∙ settled-order (nat_cmp x.have count) kept count article next (λ less. (let low = less-of x.have count less in absurd (omega (arith, low, up))))

  fresh-after : (range : Range) → 1 ≤ size_of range → EndsFresh (after_receive holder range)
  fresh-after range some = record { before = holder.held; range = range; held = refl; some = some }

  -- a new one is granted
  granted-goes : (n number : ℕ) (range : Range) → holder.have ≡ granted_to article site.0 grants → granted_to article site.0 final ≡ granted_to article site.0 grants + 1 → 1 ≤ size_of range → 1 ≤ holder.threshold
      → Left (suc n) site grants article holder → Stuck rules site final article (after_receive holder range) ⊎ Left n site final article (after_receive holder range)
  granted-goes zero number range equal count some low left = inl (settled (after_receive holder range) (omega (arith, equal, count)) (not-due holder range low left.1))
  granted-goes (suc zero) number range equal count some low left = inr (omega (arith, equal, count), fresh-after range some)
  granted-goes (suc (suc n)) number range equal count some low left = inr (omega (arith, equal, count))

  -- or one that was not heard of comes again
  kept-goes : (n number : ℕ) (range : Range) → holder.have < granted_to article site.0 grants → granted_to article site.0 final ≡ granted_to article site.0 grants + 0
      → Left (suc n) site grants article holder → Stuck rules site final article (after_receive holder range) ⊎ Left n site final article (after_receive holder range)
  kept-goes zero number range below count left = (let up = left.0 in absurd (omega (arith, below, up)))
  kept-goes (suc zero) number range below count left = absurd (omega (arith, below, left))
  kept-goes (suc (suc n)) number range below count left = inr (omega (arith, below, count, left))

  granted-stuck : {grant : RangeGrant} → (let found : Option RangeGrant = Some grant in found) ≡ None → ⊥
  granted-stuck is = absurd cc

  rests : (answer : Answer) → answered rules site grants article holder ≡ answer → SameAt article site.0 grants final → granted_by article answer ≡ None → Stuck rules site final article holder
  rests answer is same none = ap (λ (a : Answer). granted_by article a) (same-answer rules site grants final article holder.have (is_due holder) same ∙ is) ∙ none

  -- each request comes one nearer
  pub goes-on : (n : ℕ) (answer : Answer) → answered rules site grants article holder ≡ answer → OwnAfter article site.0 holder answer grants final news → HasSome answer → Goes rules (suc n) site grants article holder
      → Goes rules n site final article (received answer holder)
  goes-on n (Ok (Granted number range)) is own some g = record {
    threshold = g.threshold;
    within = elim g.within [
      | inl stuck ↦ absurd (granted-stuck (sym (ap (λ (a : Answer). granted_by article a) is) ∙ stuck))
      | inr left ↦ granted-goes n number range (equal-of holder.have (granted_to article site.0 grants) (granted-order _ _ _ _ _ number range is)) own.count some g.threshold left
    ];
  }
  goes-on n (Ok (Kept number range)) is own some g = record {
    threshold = g.threshold;
    within = elim g.within [
      | inl stuck ↦ absurd (granted-stuck (sym (ap (λ (a : Answer). granted_by article a) is) ∙ stuck))
      | inr left ↦ kept-goes n number range (less-of holder.have (granted_to article site.0 grants) (kept-order _ (is_due holder) _ (granted_to article site.0 grants) (rule_of rules article) site.0 (holder.have + 1) (greatest_end article grants) number range is)) own.count left
    ];
  }
  goes-on n (Ok NotDue) is own some g = record { threshold = g.threshold; within = inl (rests (Ok NotDue) is (own.same refl) refl) }
  goes-on n (Err fault) is own some g = record { threshold = g.threshold; within = inl (rests (Err fault) is (own.same refl) refl) }

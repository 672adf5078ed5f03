-- The articles with an identity column: their rules, and the ranges that a publisher begins with.
use Rattle.std.specs.Prelude.{◌≡◌, ◌==◌, ◌+◌, ◌<◌, ◌≤◌, ℕ, zero, suc, List, [], ◌∷◌, ◌++◌, Bool, true, false, All, Option, Some, None, IsSome, refl, cond, filter_map, find, is_some, length, map, option_map, slice_get, take}
use Rattle.std.specs.BTreeMap.{insert_entry, is_at}
use Rattle.std.specs.List.{AllByRecursion, cons_option, enumerate_from}
use Rattle.std.specs.Map.{lookup}
use Rattle.std.specs.Option.{option_and_then}
use Rattle.std.specs.Ordering.{match_ordering, nat_cmp}
use Rattle.std.specs.declared.cmp.Ordering.{Ordering}
use Rattle.std.specs.declared.cmp.Ordering.TheVariants.{Greater}
use Rattle.std.proofs.Common.{arith, sym, ap, ◌∙◌, subst}
use Rattle.std.proofs.lemmas.Bool.Decides.{nat_tests}
use Rattle.std.proofs.lemmas.Int.{ints}
use Rattle.std.proofs.lemmas.List.{append-nil}
use mathlib.Core.List.{map-append}
use Rattle.merge_steps.specs.Beginning.{with_holder, with_rule}
use Rattle.std.proofs.lemmas.List.Elements.{All-from_recursion, recursion_from_All}
use Rattle.merge_types.specs.declared.values.Column.{Column}
use Rattle.merge_ident.specs.Books.{IsRule}
use Rattle.merge_schema.specs.Valid.{HasValidIdentity, IsValid, IsValidArticle, IsValidIdentity}
use Rattle.merge_ident.specs.Answers.{rule_of as rule_at}
use Rattle.merge_ident.specs.Holders.{Holder, new_holder}
use Rattle.merge_ident.specs.declared.grants.Rule.{Rule}
use Rattle.merge_schema.specs.declared.publication.Article.{Article}
use Rattle.merge_schema.specs.declared.publication.Identity.{Identity}
use Rattle.merge_schema.specs.declared.publication.Publication.{Publication}
use Rattle.merge_model.proofs.Entries.EntryLists.{all-taken}
use Rattle.merge_model.proofs.Lists.Finding.{some_same}
use Rattle.merge_model.specs.Tables.Keys.{at_number}
use Rattle.merge_model.specs.Tables.Publications.{identities, identity_column, identity_of, rule_of, rules_of}
use Rattle.merge_model.specs.Publisher.{holder_for, new_holders}

abbrev identities_from : ℕ → List Article → List (ℕ × Identity)
identities_from start articles = filter_map identity_of (enumerate_from start articles)

abbrev named : ℕ → Option Identity → Option (ℕ × Identity)
named place identity = option_map (λ (i : Identity). (place, i)) identity

from-zero : (n : ℕ) → 0 + n ≡ n
from-zero n = omega arith

-- Where a holder is put behind all others.

last-step : (start place : ℕ) (identity : Option Identity) (holder : Holder) (rest : List (ℕ × Identity)) → start < place → insert_entry nat_cmp (map holder_for rest) place holder ≡ map holder_for rest ++ (place, holder) ∷ []
    → insert_entry nat_cmp (map holder_for (cons_option (named start identity) rest)) place holder ≡ map holder_for (cons_option (named start identity) rest) ++ (place, holder) ∷ []
last-step start place None holder rest later same = same
last-step start place (Some identity) holder rest later same =
    let greater : nat_cmp place start ≡ Greater = grind (arith, nat_tests, later) in
    let first : ℕ × Holder = holder_for (start, identity) in
    ap (λ (r : Ordering). (let new : List (ℕ × Holder) = match_ordering r ((place, holder) ∷ first ∷ map holder_for rest) ((start, holder) ∷ map holder_for rest) (first ∷ insert_entry nat_cmp (map holder_for rest) place holder) in new)) greater
    ∙ ap (λ (es : List (ℕ × Holder)). first ∷ es) same

pub put-last : (start place : ℕ) (articles : List Article) (holder : Holder) → start + length articles ≤ place → insert_entry nat_cmp (map holder_for (identities_from start articles)) place holder ≡ map holder_for (identities_from start articles) ++ (place, holder) ∷ []
put-last start place [] holder later = refl
put-last start place (a ∷ articles) holder later = last-step start place a.identity holder (identities_from (start + 1) articles) (omega (arith, later)) (put-last (start + 1) place articles holder (omega (arith, later)))

-- One article more.

cons-append : {X : Type 0} (o : Option X) (xs ys : List X) → cons_option o xs ++ ys ≡ cons_option o (xs ++ ys)
cons-append None xs ys = refl
cons-append (Some x) xs ys = refl

place-same : (start : ℕ) (n : ℕ) → start + 1 + n ≡ start + suc n
place-same start n = omega arith

place-more : (start : ℕ) (x : Article) (articles : List Article) → start + 1 + length articles ≡ start + length (x ∷ articles)
place-more start x articles = omega arith

pub one-more : (start : ℕ) (articles : List Article) (a : Article) → identities_from start (articles ++ a ∷ []) ≡ identities_from start articles ++ cons_option (named (start + length articles) a.identity) []
one-more start [] a = ap (λ (n : ℕ). cons_option (named n a.identity) []) (let same : start ≡ start + 0 = omega arith in same)
one-more start (x ∷ articles) a =
    ap (λ (rest : List (ℕ × Identity)). cons_option (named start x.identity) rest)
    (one-more (start + 1) articles a ∙ ap (λ (n : ℕ). identities_from (start + 1) articles ++ cons_option (named n a.identity) []) (place-more start x articles))
    ∙ sym (cons-append (named start x.identity) (identities_from (start + 1) articles) (cons_option (named (start + length (x ∷ articles)) a.identity) []))

take-one : (xs : List Article) (n : ℕ) (x : Article) → slice_get xs n ≡ Some x → take (suc n) xs ≡ take n xs ++ x ∷ []
take-one [] zero x there = absurd cc
take-one [] (suc n) x there = absurd cc
take-one (y ∷ xs) zero x there = ap (λ (z : Article). z ∷ []) (some_same y x there)
take-one (y ∷ xs) (suc n) x there = ap (λ (zs : List Article). y ∷ zs) (take-one xs n x there)

took-all : (xs : List Article) (n : ℕ) (x : Article) → slice_get xs n ≡ Some x → length (take n xs) ≡ n
took-all [] zero x there = refl
took-all [] (suc n) x there = absurd cc
took-all (y ∷ xs) zero x there = refl
took-all (y ∷ xs) (suc n) x there = ap (λ (m : ℕ). suc m) (took-all xs n x there)

one-taken : (articles : List Article) (n : ℕ) (a : Article) → slice_get articles n ≡ Some a → identities_from 0 (take (n + 1) articles) ≡ identities_from 0 (take n articles) ++ cons_option (named n a.identity) []
one-taken articles n a there =
    ap (λ (m : ℕ). identities_from 0 (take m articles)) (let more : n + 1 ≡ suc n = omega arith in more)
    ∙ ap (λ (taken : List Article). identities_from 0 taken) (take-one articles n a there)
    ∙ one-more 0 (take n articles) a
    ∙ ap (λ (m : ℕ). identities_from 0 (take n articles) ++ cons_option (named m a.identity) []) (from-zero (length (take n articles)) ∙ took-all articles n a there)

with-one : (rules : List (ℕ × Identity)) (place : ℕ) (identity : Option Identity) → with_rule (map rule_of rules) place identity ≡ map rule_of (rules ++ cons_option (named place identity) [])
with-one rules place None = ap (λ (rs : List (ℕ × Identity)). map rule_of rs) (sym (append-nil rules))
with-one rules place (Some identity) = sym (map-append rule_of rules ((place, identity) ∷ []))

pub rules-step : (articles : List Article) (n : ℕ) (a : Article) (rules new : List Rule) → rules ≡ map rule_of (identities_from 0 (take n articles)) → slice_get articles n ≡ Some a → new ≡ with_rule rules n a.identity → new ≡ map rule_of (identities_from 0 (take (n + 1) articles))
rules-step articles n a rules new before there is =
    is ∙ ap (λ (rs : List Rule). with_rule rs n a.identity) before ∙ with-one (identities_from 0 (take n articles)) n a.identity ∙ ap (λ (ids : List (ℕ × Identity)). map rule_of ids) (sym (one-taken articles n a there))

hold-one : (place : ℕ) (identity : Option Identity) (articles : List Article) → length articles ≡ place → with_holder (map holder_for (identities_from 0 articles)) place identity ≡ map holder_for (identities_from 0 articles ++ cons_option (named place identity) [])
hold-one place None articles same = ap (λ (ids : List (ℕ × Identity)). map holder_for ids) (sym (append-nil (identities_from 0 articles)))
hold-one place (Some identity) articles same =
    put-last 0 place articles (new_holder identity.threshold) (omega (arith, same)) ∙ sym (map-append holder_for (identities_from 0 articles) ((place, identity) ∷ []))

pub holders-step : (articles : List Article) (n : ℕ) (a : Article) (held new : List (ℕ × Holder)) → held ≡ map holder_for (identities_from 0 (take n articles)) → slice_get articles n ≡ Some a → new ≡ with_holder held n a.identity → new ≡ map holder_for (identities_from 0 (take (n + 1) articles))
holders-step articles n a held new before there is =
    is ∙ ap (λ (rows : List (ℕ × Holder)). with_holder rows n a.identity) before ∙ hold-one n a.identity (take n articles) (took-all articles n a there)
    ∙ ap (λ (ids : List (ℕ × Identity)). map holder_for ids) (sym (one-taken articles n a there))

-- What is found of an article.

abbrev found_at : List Article → ℕ → Option Identity
found_at articles n = option_and_then (λ (article : Article). article.identity) (slice_get articles n)

-- below the first nothing stands
none-below : (n start : ℕ) (articles : List Article) → n < start → at_number (map holder_for (identities_from start articles)) n ≡ None
none-below n start [] below = refl
none-below n start (a ∷ articles) below = head a.identity (none-below n (start + 1) articles (omega (arith, below)))
  where
    head : (identity : Option Identity) → at_number (map holder_for (identities_from (start + 1) articles)) n ≡ None → at_number (map holder_for (cons_option (named start identity) (identities_from (start + 1) articles))) n ≡ None
    head None none = none
    head (Some identity) none =
        let other : is_at (nat_cmp n) start ≡ false = grind (arith, nat_tests, below) in
        ap (λ (b : Bool). (let o : Option Holder = cond b (Some (new_holder identity.threshold)) (at_number (map holder_for (identities_from (start + 1) articles)) n) in o)) other ∙ none

abbrev holder_of : Identity → Holder
holder_of identity = new_holder identity.threshold

pub holder-at : (start n : ℕ) (articles : List Article) → at_number (map holder_for (identities_from start articles)) (start + n) ≡ option_map holder_of (found_at articles n)
holder-at start n [] = none-found n
  where
    none-found : (n : ℕ) → None ≡ option_map holder_of (found_at [] n)
    none-found zero = refl
    none-found (suc n) = refl
holder-at start zero (a ∷ articles) = head a.identity
  where
    head : (identity : Option Identity) → at_number (map holder_for (cons_option (named start identity) (identities_from (start + 1) articles))) (start + 0) ≡ option_map holder_of identity
    head None = none-below (start + 0) (start + 1) articles (omega arith)
    head (Some identity) =
        let here : is_at (nat_cmp (start + 0)) start ≡ true = grind (arith, nat_tests) in
        ap (λ (b : Bool). (let o : Option Holder = cond b (Some (new_holder identity.threshold)) (at_number (map holder_for (identities_from (start + 1) articles)) (start + 0)) in o)) here
holder-at start (suc n) (a ∷ articles) = head a.identity (ap (λ (m : ℕ). at_number (map holder_for (identities_from (start + 1) articles)) m) (sym (place-same start n)) ∙ holder-at (start + 1) n articles)
  where
    head : (identity : Option Identity) → at_number (map holder_for (identities_from (start + 1) articles)) (start + suc n) ≡ option_map holder_of (found_at articles n)
        → at_number (map holder_for (cons_option (named start identity) (identities_from (start + 1) articles))) (start + suc n) ≡ option_map holder_of (found_at articles n)
    head None rest = rest
    head (Some identity) rest =
        let other : is_at (nat_cmp (start + suc n)) start ≡ false = grind (arith, nat_tests) in
        ap (λ (b : Bool). (let o : Option Holder = cond b (Some (new_holder identity.threshold)) (at_number (map holder_for (identities_from (start + 1) articles)) (start + suc n)) in o)) other ∙ rest

some-rule : (start n : ℕ) (articles : List Article) → is_some (found_at articles n) ≡ true → IsSome (find (λ (rule : Rule). rule.article == (start + n)) (map rule_of (identities_from start articles)))
some-rule start n [] some = none n some
  where
    none : (n : ℕ) → is_some (found_at [] n) ≡ true → IsSome (find (λ (rule : Rule). rule.article == (start + n)) [])
    none zero some = absurd cc
    none (suc n) some = absurd cc
some-rule start zero (a ∷ articles) some = head a.identity some
  where
    head : (identity : Option Identity) → is_some identity ≡ true → IsSome (find (λ (rule : Rule). rule.article == (start + 0)) (map rule_of (cons_option (named start identity) (identities_from (start + 1) articles))))
    head None none = absurd cc
    head (Some identity) is =
        let here : (start == (start + 0)) ≡ true = grind (arith, nat_tests) in
        rw here refl
some-rule start (suc n) (a ∷ articles) some = head a.identity (subst (λ (m : ℕ). IsSome (find (λ (rule : Rule). rule.article == m) (map rule_of (identities_from (start + 1) articles)))) (place-same start n) (some-rule (start + 1) n articles some))
  where
    head : (identity : Option Identity) → IsSome (find (λ (rule : Rule). rule.article == (start + suc n)) (map rule_of (identities_from (start + 1) articles)))
        → IsSome (find (λ (rule : Rule). rule.article == (start + suc n)) (map rule_of (cons_option (named start identity) (identities_from (start + 1) articles))))
    head None rest = rest
    head (Some identity) rest =
        let other : (start == (start + suc n)) ≡ false = grind (arith, nat_tests) in
        rw other rest

some-column : (found : Option Identity) → is_some (option_map (λ (i : Identity). i.column) found) ≡ is_some found
some-column None = refl
some-column (Some identity) = refl

some-holder : (found : Option Identity) → is_some (option_map holder_of found) ≡ is_some found
some-holder None = refl
some-holder (Some identity) = refl

holder-of : (publication : Publication) (article : ℕ) → at_number (new_holders publication) article ≡ option_map holder_of (found_at publication.articles article)
holder-of publication article = ap (λ (n : ℕ). at_number (new_holders publication) n) (sym (from-zero article)) ∙ holder-at 0 article publication.articles

-- the ranges that a publisher begins with are of the articles with an identity column
pub begin-held : (publication : Publication) (article : ℕ) → is_some (at_number (new_holders publication) article) ≡ is_some (identity_column publication article)
begin-held publication article = ap (λ (o : Option Holder). is_some o) (holder-of publication article) ∙ some-holder (found_at publication.articles article) ∙ sym (some-column (found_at publication.articles article))

nothing-heard : (found : Option Identity) (holder : Holder) → option_map holder_of found ≡ Some holder → holder.have ≡ 0
nothing-heard None holder e = absurd cc
nothing-heard (Some identity) holder e = sym (ap (λ (h : Holder). h.have) (some_same (holder_of identity) holder e))

pub begin-heard : (publication : Publication) (article : ℕ) (holder : Holder) → at_number (new_holders publication) article ≡ Some holder → holder.have ≡ 0
begin-heard publication article holder found = nothing-heard (found_at publication.articles article) holder (sym (holder-of publication article) ∙ found)

-- an article with an identity column has a rule
pub has-rule : (publication : Publication) (article : ℕ) → is_some (identity_column publication article) ≡ true → IsSome (rule_at (rules_of publication) article)
has-rule publication article some = subst (λ (n : ℕ). IsSome (rule_at (rules_of publication) n)) (from-zero article) (some-rule 0 article publication.articles (sym (some-column (found_at publication.articles article)) ∙ some))

-- The rules of a valid publication.

rule-fits : (place : ℕ) (columns : List Column) (identity : Identity) → IsValidIdentity columns identity → IsRule (rule_of (place, identity))
rule-fits place columns identity valid =
    let ranges = valid.1 in
    let seed = ranges.seed in
    let greatest = ranges.greatest in
    record {
      seed = grind (arith, ints, nat_tests, seed);
      range = ranges.range.0;
      pub_range = ranges.pub_range.0;
      greatest = grind (arith, ints, nat_tests, seed, greatest);
    }

rule-head : (place : ℕ) (columns : List Column) (identity : Option Identity) (rest : List (ℕ × Identity)) → HasValidIdentity columns identity → AllByRecursion IsRule (map rule_of rest) → AllByRecursion IsRule (map rule_of (cons_option (named place identity) rest))
rule-head place columns None rest valid all = all
rule-head place columns (Some identity) rest valid all = (rule-fits place columns identity valid, all)

rules-from : (resolvers : ℕ) (all : List Article) (start : ℕ) (articles : List Article) → AllByRecursion (IsValidArticle resolvers all) articles → AllByRecursion IsRule (map rule_of (identities_from start articles))
rules-from resolvers all start [] valid = tt
rules-from resolvers all start (a ∷ articles) valid = rule-head start a.columns a.identity (identities_from (start + 1) articles) valid.0.valid_identity (rules-from resolvers all (start + 1) articles valid.1)

pub taken-fit : (publication : Publication) → (resolvers : ℕ) × IsValid resolvers publication → (n : ℕ) → All IsRule (map rule_of (identities_from 0 (take n publication.articles)))
taken-fit publication valid n =
    let articles = publication.articles in
    All-from_recursion IsRule (map rule_of (identities_from 0 (take n articles)))
    (rules-from valid.0 articles 0 (take n articles) (all-taken (IsValidArticle valid.0 articles) n articles (recursion_from_All (IsValidArticle valid.0 articles) articles valid.1.valid_articles)))

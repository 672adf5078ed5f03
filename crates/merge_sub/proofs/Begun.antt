-- The ranges with which a subscriber begins: by article, and of each with an identity column.
use Rattle.std.specs.Prelude.{◌≡◌, ◌+◌, ◌<◌, ◌≤◌, ◌++◌, ℕ, zero, suc, Bool, true, false, List, [], ◌∷◌, None, Option, Some, is_some, length, map, option_map, refl, slice_get, drop}
use Rattle.std.specs.BTreeMap.{insert_entry, is_at}
use Rattle.std.specs.List.Sorted.{IsStrictlySortedBy}
use Rattle.std.specs.Map.{keys_of, lookup}
use Rattle.std.specs.Option.{option_and_then}
use Rattle.std.specs.Ordering.{nat_cmp}
use Rattle.std.proofs.Common.{ap, arith, rules, sym, ◌∙◌}
use Rattle.std.proofs.lemmas.Bool.Decides.{nat_tests}
use Rattle.std.proofs.lemmas.List.{append_assoc}
use Rattle.std.proofs.lemmas.Cmp.{nat_cmp_total}
use Rattle.merge_table.proofs.Room.{AreAbove}
use Rattle.merge_table.proofs.Slots.{lookup_above}
use Rattle.merge_table.proofs.Takes.{insert_last}
use Rattle.merge_ident.specs.Holders.{Holder, new_holder}
use Rattle.merge_schema.specs.declared.publication.Article.{Article}
use Rattle.merge_schema.specs.declared.publication.Identity.{Identity}
use Rattle.merge_schema.specs.declared.publication.Publication.{Publication}
use Rattle.merge_schema.specs.Places.{article_at}
use Rattle.merge_batch.specs.LocalChanges.{identity_column}
use Rattle.merge_model.specs.Tables.Keys.{at_number, put_number}
use Rattle.merge_model.specs.Publisher.{new_holders}
use Rattle.merge_model.specs.Subscriber.{empty_subscriber}
use Rattle.merge_model.specs.Tables.{SubscriberTables}
use Rattle.merge_schema.specs.Valid.{IsValid}
use Rattle.merge_gens.specs.Entries.{entry_cmp}
use Rattle.merge_types.specs.declared.identifiers.SiteId.{SiteId}
use Rattle.std.specs.FinSet as set
use Rattle.merge_sub.specs.Begin.{holders_from, with_ranges}
use Rattle.merge_sub.specs.Held.{AreFitting, AreIndexed, AreMade, AreNumbered, AreRanged, IsSound, KeepOpened}

-- the ranges of one article, in front of others
abbrev pub with_article : ℕ → Option Identity → List (ℕ × Holder) → List (ℕ × Holder)
with_article number None rest = rest
with_article number (Some identity) rest = (number, new_holder identity.threshold) ∷ rest

pub holders-step : (number : ℕ) (article : Article) (articles : List Article) (identity : Option Identity) → article.identity ≡ identity → holders_from number (article ∷ articles) ≡ with_article number identity (holders_from (number + 1) articles)
holders-step number article articles None is = rw is refl
holders-step number article articles (Some identity) is = rw is refl

above-article : (low number : ℕ) (identity : Option Identity) (rest : List (ℕ × Holder)) → low < number → AreAbove nat_cmp low (keys_of rest) → AreAbove nat_cmp low (keys_of (with_article number identity rest))
above-article low number None rest less above = above
above-article low number (Some identity) rest less above = (grind (arith, nat_tests, less), above)

holders-above : (low number : ℕ) (articles : List Article) → low < number → AreAbove nat_cmp low (keys_of (holders_from number articles))
holders-above low number [] less = tt
holders-above low number (article ∷ articles) less = rw (holders-step number article articles article.identity refl) (above-article low number article.identity (holders_from (number + 1) articles) less (holders-above low (number + 1) articles (omega (arith, less))))

sorted-article : (number : ℕ) (identity : Option Identity) (rest : List (ℕ × Holder)) → AreAbove nat_cmp number (keys_of rest) → IsStrictlySortedBy nat_cmp (keys_of rest) → IsStrictlySortedBy nat_cmp (keys_of (with_article number identity rest))
unfolding IsStrictlySortedBy
sorted-article number None rest above sorted = sorted
sorted-article number (Some identity) rest above sorted = (above, sorted)

pub holders-ascend : (number : ℕ) (articles : List Article) → IsStrictlySortedBy nat_cmp (keys_of (holders_from number articles))
unfolding IsStrictlySortedBy
holders-ascend number [] = tt
holders-ascend number (article ∷ articles) = rw (holders-step number article articles article.identity refl) (sorted-article number article.identity (holders_from (number + 1) articles) (holders-above number (number + 1) articles (omega arith)) (holders-ascend (number + 1) articles))

-- what the loop keeps
abbrev pub Beginning : List Article → List (ℕ × Holder) → ℕ → Type 0
Beginning articles held place = held ++ holders_from place (drop place articles) ≡ holders_from 0 articles

begin-at : (articles : List Article) (held : List (ℕ × Holder)) (place : ℕ) (article : Article) (identity : Option Identity) → article.identity ≡ identity → drop place articles ≡ article ∷ drop (place + 1) articles
    → Beginning articles held place → Beginning articles (with_ranges place identity held) (place + 1)
begin-at articles held place article None is next so_far =
    let step : holders_from place (drop place articles) ≡ holders_from (place + 1) (drop (place + 1) articles) = ap (holders_from place) next ∙ holders-step place article (drop (place + 1) articles) None is in
    ap (λ (rest : List (ℕ × Holder)). held ++ rest) (sym step) ∙ so_far
begin-at articles held place article (Some identity) is next so_far =
    let rest : List (ℕ × Holder) = holders_from (place + 1) (drop (place + 1) articles) in
    let entry : ℕ × Holder = (place, new_holder identity.threshold) in
    let step : holders_from place (drop place articles) ≡ entry ∷ rest = ap (holders_from place) next ∙ holders-step place article (drop (place + 1) articles) (Some identity) is in
    let all : held ++ entry ∷ rest ≡ holders_from 0 articles = ap (λ (more : List (ℕ × Holder)). held ++ more) (sym step) ∙ so_far in
    let sorted : IsStrictlySortedBy nat_cmp (keys_of (held ++ entry ∷ rest)) = rw all (holders-ascend 0 articles) in
    let last : put_number held place (new_holder identity.threshold) ≡ held ++ entry ∷ [] = insert_last nat_cmp nat_cmp_total held place (new_holder identity.threshold) rest sorted in
    ap (λ (front : List (ℕ × Holder)). front ++ rest) last ∙ append_assoc held (entry ∷ []) rest ∙ all

pub begin-step : (articles : List Article) (held : List (ℕ × Holder)) (place : ℕ) (article : Article) → drop place articles ≡ article ∷ drop (place + 1) articles → Beginning articles held place
    → Beginning articles (with_ranges place article.identity held) (place + 1)
begin-step articles held place article next so_far = begin-at articles held place article article.identity refl next so_far

-- the lookups
at-article : (key number : ℕ) (identity : Option Identity) (rest : List (ℕ × Holder)) → number < key → at_number (with_article number identity rest) key ≡ at_number rest key
at-article key number None rest less = refl
at-article key number (Some identity) rest less = let differs : is_at (nat_cmp key) number ≡ false = grind (arith, nat_tests, less) in rw differs refl

at-own : (key : ℕ) (identity : Option Identity) (rest : List (ℕ × Holder)) → AreAbove nat_cmp key (keys_of rest) → is_some (at_number (with_article key identity rest) key) ≡ is_some identity
at-own key None rest above = rw (lookup_above nat_cmp key rest above) refl
at-own key (Some identity) rest above = let same : is_at (nat_cmp key) key ≡ true = grind (arith, nat_tests) in rw same refl

abbrev identity_in : List Article → ℕ → Option Identity
identity_in articles place = option_and_then (λ (article : Article). article.identity) (slice_get articles place)

holders-at : (key number : ℕ) (articles : List Article) (place : ℕ) → key ≡ number + place → is_some (at_number (holders_from number articles) key) ≡ is_some (identity_in articles place)
holders-at key number [] place is = refl
holders-at key number (article ∷ articles) zero is =
    let same : key ≡ number = omega (arith, is) in
    rw (holders-step number article articles article.identity refl, same) (at-own number article.identity (holders_from (number + 1) articles) (holders-above number (number + 1) articles (omega arith)))
holders-at key number (article ∷ articles) (suc place) is =
    rw (holders-step number article articles article.identity refl)
    (ap is_some (at-article key number article.identity (holders_from (number + 1) articles) (omega (arith, is))) ∙ holders-at key (number + 1) articles place (omega (arith, is)))

mapped-some : (identity : Option Identity) → is_some identity ≡ is_some (option_map (λ (identity : Identity). identity.column) identity)
mapped-some None = refl
mapped-some (Some identity) = refl

pub begun-ranged : (publication : Publication) → AreRanged publication (new_holders publication)
unfolding AreRanged
begun-ranged publication article = holders-at article 0 publication.articles article (omega arith) ∙ mapped-some (identity_in publication.articles article)

pub begun-sound : (publication : Publication) (site : SiteId) → ((resolvers : ℕ) × IsValid resolvers publication) → (s : SubscriberTables) → s ≡ empty_subscriber publication site
    → (entries : set.FinSet entry_cmp) → entries ≡ set.empty → IsSound publication s entries
unfolding AreIndexed AreFitting AreMade AreNumbered KeepOpened
begun-sound publication site valid s is entries none = rw (is, none) (record {
  valid = valid;
  indexed = λ key generation. set.contains-empty entry_cmp _;
  fitting = λ key row held. absurd cc;
  made = λ key row held. absurd cc;
  opened = λ key row held. absurd cc;
  within = omega arith;
  limited = omega arith;
  ranged = begun-ranged publication;
  numbered = tt;
})

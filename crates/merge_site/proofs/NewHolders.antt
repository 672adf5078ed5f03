-- What a site holds before it received a range is what a start begins with, and no start gives it further articles.
use Rattle.std.specs.Prelude.{◌≡◌, ◌≤◌, ◌<◌, ◌^◌, ◌==◌, ◌||◌, ℕ, Bool, List, [], ◌∷◌, None, Option, Some, is_some, length, map, option_map, refl}
use Rattle.std.specs.BTreeMap.{is_at}
use Rattle.std.specs.List.{AllByRecursion, list_any}
use Rattle.std.specs.Map.{keys_of}
use Rattle.std.specs.Option.{option_and_then}
use Rattle.std.specs.Ordering.{nat_cmp}
use Rattle.std.proofs.Common.{ap, arith, subst, sym, ◌∙◌}
use Rattle.std.proofs.lemmas.Bool.Decides.{nat_tests}
use Rattle.std.proofs.lemmas.Map.Made.{is_some-lookup}
use Rattle.merge_ident.specs.Holders.{Holder}
use Rattle.merge_schema.specs.Places.{article_at}
use Rattle.merge_schema.specs.declared.publication.Article.{Article}
use Rattle.merge_schema.specs.declared.publication.Identity.{Identity}
use Rattle.merge_schema.specs.declared.publication.Publication.{Publication}
use Rattle.merge_batch.specs.LocalChanges.{identity_column}
use Rattle.merge_model.specs.Tables.Publications.{identities}
use Rattle.merge_model.specs.Publisher.{holder_for, new_holders}
use Rattle.merge_record.specs.Reading.{◌>>=◌}
use Rattle.merge_keeper.specs.Encoded.{AllKeys}
use Rattle.merge_keeper.specs.Given.{IsBeginning, has_holder}
use Rattle.merge_keeper.specs.Start.{identity_at}
use Rattle.merge_sub.specs.Held.{AreRanged}
use Rattle.merge_sub.proofs.Begun.{begun-ranged, holders-ascend}
use Rattle.merge_site.proofs.Bare.{new_keys}

none-received : (xs : List (ℕ × Identity)) → AllByRecursion (λ (p : ℕ × Holder). p.1.have ≡ 0) (map holder_for xs)
none-received [] = tt
none-received (x ∷ xs) = (refl, none-received xs)

key-at : (article key : ℕ) → is_at (nat_cmp article) key ≡ (key == article)
key-at article key = grind (arith, nat_tests)

holder-among : (article : ℕ) (held : List (ℕ × Holder)) → list_any (is_at (nat_cmp article)) (keys_of held) ≡ has_holder held article
holder-among article [] = refl
holder-among article (p ∷ held) =
    ap (λ (here : Bool). here || list_any (is_at (nat_cmp article)) (keys_of held)) (key-at article p.0)
    ∙ ap (λ (behind : Bool). (p.0 == article) || behind) (holder-among article held)

-- an article that has an identity has the column of it
mapped : (identity : Option Identity) → is_some identity ≡ is_some (option_map (λ (identity : Identity). identity.column) identity)
mapped None = refl
mapped (Some identity) = refl

column-of : (article : Option Article) → is_some (article >>= λ article. article.identity) ≡ is_some (option_map (λ (identity : Identity). identity.column) (option_and_then (λ (article : Article). article.identity) article))
column-of None = refl
column-of (Some article) = mapped article.identity

column-there : (publication : Publication) (place : ℕ) → is_some (identity_at publication place) ≡ is_some (identity_column publication place)
column-there publication place = column-of (article_at publication place)

pub new-beginning : (publication : Publication) → IsBeginning publication (new_holders publication)
unfolding AreRanged
new-beginning publication = record {
  ascends = holders-ascend 0 publication.articles;
  none = none-received (identities publication);
  each = λ article has.
      sym (holder-among article (new_holders publication))
      ∙ sym (is_some-lookup (is_at (nat_cmp article)) (new_holders publication))
      ∙ begun-ranged publication article
      ∙ sym (column-there publication article)
      ∙ has;
}

keys-all : {V : Type 0} (P : ℕ → Type 0) (xs : List (ℕ × V)) → AllKeys P xs → AllByRecursion P (keys_of xs)
keys-all P [] all = tt
keys-all P (x ∷ xs) all = (all.0, keys-all P xs all.1)

all-keys : {V : Type 0} (P : ℕ → Type 0) (xs : List (ℕ × V)) → AllByRecursion P (keys_of xs) → AllKeys P xs
all-keys P [] all = tt
all-keys P (x ∷ xs) all = (all.0, all-keys P xs all.1)

pub held-keyed : (publication : Publication) → length publication.articles ≤ 32 → (held : List (ℕ × Holder)) → keys_of held ≡ keys_of (new_holders publication) → AllKeys (λ n. n < 2 ^ 8) held
held-keyed publication few held same = all-keys (λ n. n < 2 ^ 8) held (subst (λ (keys : List ℕ). AllByRecursion (λ n. n < 2 ^ 8) keys) (sym same) (keys-all (λ n. n < 2 ^ 8) (new_holders publication) (new_keys publication few)))

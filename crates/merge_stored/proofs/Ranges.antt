-- Grants, and what the sites hold of ranges, after every list of events.
use Rattle.std.specs.List.{AllByRecursion}
use Rattle.std.specs.List.Sorted.{IsStrictlySortedBy}
use Rattle.std.specs.Map.{keys_of}
use Rattle.std.specs.Option.{option_map}
use Rattle.std.specs.Ordering.{nat_cmp}
use Rattle.std.specs.Prelude.{List, None, Option, Some, [], is_some, nat_lt, pos, refl, slice_get, true, ℕ, ℤ, ◌<◌, ◌^◌, ◌≡◌}
use Rattle.std.proofs.Common.{ap, arith, subst, sym, ◌∙◌}
use Rattle.merge_ident.specs.Books.{IsBook}
use Rattle.merge_ident.specs.Holders.{Holder, Received, new_holder}
use Rattle.merge_ident.specs.declared.grants.Grant.{Grant}
use Rattle.merge_schema.specs.Valid.{IsValid}
use Rattle.merge_schema.specs.declared.publication.Article.{Article}
use Rattle.merge_schema.specs.declared.publication.Identity.{Identity}
use Rattle.merge_schema.specs.declared.publication.Publication.{Publication}
use Rattle.merge_keeper.specs.Entries.{held_ranges, was_received}
use Rattle.merge_keeper.specs.Start.{holder_of, identity_at}
use Rattle.merge_keeper.specs.Stored.{HasGrantKey}
use Rattle.merge_keeper.specs.SubscriberStart.{held_is_sound}
use Rattle.merge_record.specs.Reading.{◌>>=◌}
use Rattle.merge_model.specs.History.Model.{Model}
use Rattle.merge_model.specs.Tables.Publications.{identities, rules_of}
use Rattle.merge_model.specs.Publisher.{new_holders}
use Rattle.merge_model.specs.Failing.Runs.{model_behind}
use Rattle.merge_model.proofs.Lists.Finding.{all-weaker}
use Rattle.merge_model.proofs.Lists.{all-both, all-kept}
use Rattle.merge_typed.specs.Typed.{GrantIsTyped}
use Rattle.merge_laws.specs.Laws.{OfEveryValidRun}
use Rattle.merge_laws.proofs.Runs.ValidRules.{valid-rules}
use Rattle.merge_honest.proofs.HeldRanges.{new-well}
use Rattle.merge_honest.proofs.Rules.{Known, known-always}
use Rattle.merge_stored.specs.Ranges.{AllHeldLoad, GrantsLoad, HeldLoads, RangesLoad}
use Rattle.merge_stored.proofs.GrantsKnown.{GrantIsKnown, grants-known}
use Rattle.merge_stored.proofs.HeldKeys.{HasKeys, IsFresh, IsOfIdentity, all-held, each-identity, identities-at, keys-same}
use Rattle.merge_stored.proofs.HeldWalk.{own-keys, sub-keys}
use Rattle.merge_stored.proofs.HoldersWell.{IsWell, holder-back, kept-well}
use Rattle.merge_stored.proofs.Sites.{site-low}
use Rattle.merge_stored.proofs.Versions.{article-low}

-- An article with an identity column is one of the publication's.
identity-there : (found : Option Article) (identity : Identity) → (found >>= λ article. article.identity) ≡ Some identity → is_some found ≡ true
identity-there None identity is = absurd cc
identity-there (Some article) identity is = refl

article-fits : (resolvers : ℕ) (publication : Publication) → IsValid resolvers publication → (article : ℕ) (identity : Identity) → identity_at publication article ≡ Some identity → article < 2 ^ 8
article-fits resolvers publication valid article identity is =
    let low = article-low publication.articles article (identity-there (slice_get publication.articles article) identity is) in
    let few = valid.some_articles.1 in
    omega (arith, low, few)

-- What is held of an article.

module _ (resolvers : ℕ) (publication : Publication) (valid : IsValid resolvers publication) where
  fresh-of : (entry : ℕ × Holder) → IsWell entry.1 → IsFresh entry
  fresh-of entry well none = (let fresh = well.fresh none in same-new entry.1 fresh.0 fresh.1 none)
    where
      same-new : (holder : Holder) → holder.held ≡ [] → holder.last_end ≡ pos 0 → holder.have ≡ 0 → holder ≡ new_holder holder.threshold
      same-new holder held end have =
          ap (λ (l : List Received). record holder { held = l }) held ∙ (ap (λ (z : ℤ). record holder { held = []; last_end = z }) end ∙ ap (λ (n : ℕ). record holder { held = []; last_end = pos 0; have = n }) have)

  entry-sound : (entry : ℕ × Holder) → IsOfIdentity publication entry → IsWell entry.1 → was_received entry ≡ true → held_is_sound publication entry.0 (held_ranges entry.1) ≡ true
  unfolding held_is_sound
  entry-sound entry of well some =
      let one : is_some (identity_at publication entry.0) ≡ true = ap (λ (found : Option Identity). is_some found) of.found in
      let two = kept-well entry.1 well in
      let three : nat_lt 0 entry.1.have ≡ true = some in
      grind (arith, one, two, three)

  entry-loads : (entry : ℕ × Holder) → IsOfIdentity publication entry → IsWell entry.1 → was_received entry ≡ true → HeldLoads publication entry
  entry-loads entry of well some = record {
    article = article-fits resolvers publication valid entry.0 of.identity of.found;
    sound = entry-sound entry of well some;
    same = ap (λ (found : Option Identity). option_map (λ (identity : Identity). holder_of identity (held_ranges entry.1)) found) of.found ∙ ap (λ (h : Holder). (let found : Option Holder = Some h in found)) (holder-back of.identity entry.1 of.threshold well);
  }

  pub held-loads : (held : List (ℕ × Holder)) → HasKeys publication held → AllByRecursion (λ (entry : ℕ × Holder). IsWell entry.1) held → AllHeldLoad publication held
  held-loads held keys well =
      let sorted : IsStrictlySortedBy nat_cmp (keys_of held) = subst (λ (k : List ℕ). IsStrictlySortedBy nat_cmp k) (sym (keys-same held (new_holders publication) keys)) (new-well publication 0).ascend in
      record {
        received = all-kept (HeldLoads publication) was_received held
            (all-both (IsOfIdentity publication) (λ (entry : ℕ × Holder). IsWell entry.1) (λ (entry : ℕ × Holder). was_received entry ≡ true → HeldLoads publication entry) (λ entry of w some. entry-loads entry of w some) held
            (each-identity publication held (identities publication) keys (identities-at publication)) well);
        all_held = all-held held (identities publication) keys sorted (all-weaker (λ (entry : ℕ × Holder). IsWell entry.1) IsFresh (λ entry w. fresh-of entry w) held well);
      }

-- Grants.

pub grants-load : (resolvers : ℕ) (publication : Publication) → IsValid resolvers publication → (grants : List Grant) → IsBook (rules_of publication) grants → AllByRecursion (GrantIsKnown publication) grants → GrantsLoad grants
grants-load resolvers publication valid grants book known = record {
  in_order = book.in_order;
  granted = book.grants_fit;
  keyed = λ typed. all-both (GrantIsKnown publication) GrantIsTyped HasGrantKey (λ grant is fits. key-of grant is fits) grants known typed;
}
  where
    article-of : (grant : Grant) (found : Option Identity) → identity_at publication grant.article ≡ found → is_some found ≡ true → grant.article < 2 ^ 8
    article-of grant None is there = absurd cc
    article-of grant (Some identity) is there = article-fits resolvers publication valid grant.article identity is

    key-of : (grant : Grant) → GrantIsKnown publication grant → GrantIsTyped grant → HasGrantKey grant
    key-of grant is fits = (article-of grant (identity_at publication grant.article) refl is.0, ((let low = site-low resolvers publication valid grant.site.0 is.1 in omega (arith, low)), fits.1))

pub ranges-load : OfEveryValidRun RangesLoad
ranges-load resolvers publication valid says tallies slips events =
    let m : Model = model_behind publication says tallies slips events in
    let k : Known publication m = known-always publication says tallies slips events (resolvers, valid) in
    let rules = valid-rules resolvers publication valid in
    let own = own-keys publication rules says tallies slips events (resolvers, valid) in record {
      grants = grants-load resolvers publication valid m.world.publisher.grants k.held.book (grants-known publication says tallies slips events (resolvers, valid));
      publisher = held-loads resolvers publication valid m.world.publisher.held own.0 own.1;
      subscribers = λ n s at. (let keys = sub-keys publication rules says tallies slips events (resolvers, valid) n s at in held-loads resolvers publication valid s.held keys.0 keys.1);
    }

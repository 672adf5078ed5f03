-- A membership without rows.
use Rattle.std.proofs.Common.{◌≡◌, ◌<◌, ◌≤◌, arith, length, ℕ, true, false, List, [], None, Some, sym, ◌∙◌}
use Rattle.merge_schema.specs.declared.publication.Publication.{Publication}
use Rattle.merge_schema.specs.EvaluationOrder.{IsEvaluationOrder}
use Rattle.merge_schema.specs.Valid.{IsValid}
use Rattle.merge_schema.proofs.ValidParts.{filters_fit, sites_are_distinct}
use Rattle.merge_part.specs.declared.link.Link.{Link}
use Rattle.merge_part.specs.Draft.{no_sites}
use Rattle.merge_part.specs.Rules.{AreRules, IsKept, links_of}
use Rattle.merge_part.specs.Sites.{has_site}
use Rattle.merge_types.specs.declared.values.Value.TheVariants.{Null}
use Rattle.merge_schema.specs.Partition.{are_joined}
use Rattle.merge_part.proofs.Bits.{no_site}
use Rattle.merge_part.proofs.Entries.{at_link-false, null_joins}
use Rattle.merge_part.proofs.Orders.{links_within, none_itself, all_among, parents_first}

pub few_articles : (resolvers : ℕ) (publication : Publication) → IsValid resolvers publication → length publication.articles ≤ 256
few_articles resolvers publication valid = omega (arith, valid.some_articles.1)

few_subscriptions : (n : ℕ) → n ≤ 63 → n < 64
few_subscriptions n few = omega (arith, few)

pub begun_rules : (resolvers : ℕ) (publication : Publication) (links : List Link) (order : List ℕ) → IsValid resolvers publication → IsEvaluationOrder publication order → links ≡ links_of publication
    → AreRules publication (record { links = links; order = order })
begun_rules resolvers publication links order valid is links_are = record {
  few = few_subscriptions (length publication.subscriptions) valid.few_subscriptions;
  filters = filters_fit resolvers publication valid;
  sites = sites_are_distinct resolvers publication valid;
  evaluation = (order, is);
  links_are = links_are;
  order = parents_first publication order is links links_are;
  apart = none_itself publication order is links links_are;
  within = links_within publication order is links links_are;
  all = all_among publication order is links links_are;
}

none_marked : (place : ℕ) → has_site no_sites place ≡ true → true ≡ false
none_marked place h = sym h ∙ no_site place

pub begun_kept : (publication : Publication) (links : List Link) → IsKept publication links [] [] [] []
begun_kept publication links = record {
  met = λ key. record {
    reason = λ place h. let bad : true ≡ false = none_marked place h in absurd cc;
    reached = λ place content live why. let bad : None ≡ Some content = live in absurd cc;
  };
  filtered = λ key content live place. let bad : None ≡ Some content = live in absurd cc;
  indexed = record {
    as_children = λ entry. sym (at_link-false links entry.join (λ link. are_joined entry.value Null) (λ link. null_joins entry.value));
    as_parents = λ entry. sym (at_link-false links entry.join (λ link. are_joined entry.value Null) (λ link. null_joins entry.value));
  };
}

-- The publications of three runs are valid, with the five resolvers of the program.
use Rattle.std.proofs.Common.{arith, false, lit<, lit≤, refl, suc, zero, ℕ, ◌<◌, ◌≡◌}
use Rattle.std.specs.List.{Contains, IsDistinct}
use Rattle.std.specs.Prelude.{All, Bool, List, map, ◌==◌}
use Rattle.std.proofs.lemmas.Bool.Decides.{Decides-eqb}
use Rattle.std.proofs.lemmas.List.Elements.{All-from_recursion, All-nil}
use Rattle.std.proofs.lemmas.Map.Made.{AllPairs-from_IsDistinct}
use Rattle.merge_types.specs.Names.{is_name_text}
use Rattle.merge_types.specs.declared.values.Column.{Column}
use Rattle.merge_schema.specs.Ancestors.{is_ancestor}
use Rattle.merge_schema.specs.Checks.{column_names}
use Rattle.merge_schema.specs.Partition.{joins_at}
use Rattle.merge_schema.specs.Valid.{IsValid, IsValidArticle, IsValidJoin, IsValidSubscription}
use Rattle.merge_schema.specs.declared.publication.Article.{Article}
use Rattle.merge_schema.specs.declared.publication.JoinFilter.{JoinFilter}
use Rattle.merge_schema.specs.declared.publication.Publication.{Publication}
use Rattle.merge_schema.specs.declared.publication.Subscription.{Subscription}
use Rattle.merge_schema.proofs.Distinct.{distinct_names}
use Rattle.merge_schema.proofs.Orders.{evaluation_order_is}
use Rattle.merge_worked.proofs.Happened.{all-pass}
use Rattle.merge_worked.specs.EverythingHappens as everything
use Rattle.merge_worked.specs.SessionsFail as sessions
use Rattle.merge_worked.specs.StepsFail as failing

-- whether a column has a name, and the names of articles
abbrev is_named : Column → Bool
is_named column = is_name_text column.name

abbrev article_names : Publication → List (List ℕ)
article_names publication = map (λ (article : Article). article.name) publication.articles

abbrev sites : Publication → List ℕ
sites publication = map (λ (subscription : Subscription). subscription.site.0) publication.subscriptions

abbrev AreValid : List Subscription → Type 0
AreValid subscriptions = All (λ (subscription : Subscription). IsValidSubscription subscription) subscriptions

-- The run in which everything happens.

stock-valid : IsValidArticle 5 everything.publication.articles everything.stock
stock-valid = record {
  named = refl;
  some_columns = (lit≤ tt, lit≤ tt);
  named_columns = all-pass is_named everything.stock.columns refl;
  distinct_columns = distinct_names (column_names everything.stock.columns) refl;
  few_joins = lit≤ tt;
  valid_joins = All-nil (IsValidJoin everything.publication.articles everything.stock.columns);
  valid_resolver = lit< tt;
  valid_decider = (lit< tt, refl);
  valid_identity = (refl, record { seed = refl; greatest = refl; fits = refl; range = (lit≤ tt, lit≤ tt); pub_range = (lit≤ tt, lit≤ tt); threshold = (lit≤ tt, lit≤ tt) });
  filter_fits = tt;
}

client-valid : IsValidArticle 5 everything.publication.articles everything.client
client-valid = record {
  named = refl;
  some_columns = (lit≤ tt, lit≤ tt);
  named_columns = all-pass is_named everything.client.columns refl;
  distinct_columns = distinct_names (column_names everything.client.columns) refl;
  few_joins = lit≤ tt;
  valid_joins = All-nil (IsValidJoin everything.publication.articles everything.client.columns);
  valid_resolver = lit< tt;
  valid_decider = λ is. absurd (cc is);
  valid_identity = tt;
  filter_fits = lit≤ tt;
}

none-own : (place : ℕ) → place < 2 → is_ancestor everything.publication.articles place place ≡ false
none-own zero less = refl
none-own (suc zero) less = refl
none-own (suc (suc place)) less = absurd (omega (arith, less))

no-parents : (place : ℕ) (join : JoinFilter) → Contains (joins_at everything.publication place) join → join.parent < 2
no-parents zero join (k, less, is) = absurd (omega (arith, less))
no-parents (suc zero) join (k, less, is) = absurd (omega (arith, less))
no-parents (suc (suc place)) join (k, less, is) = absurd (omega (arith, less))

sites-apart : IsDistinct (λ (a b : ℕ). a == b) (sites everything.publication)
unfolding IsDistinct
sites-apart = ((refl, (refl, tt)), ((refl, tt), (tt, tt)))

all-valid : AreValid everything.publication.subscriptions
all-valid = All-from_recursion (λ (subscription : Subscription). IsValidSubscription subscription) everything.publication.subscriptions (
  record { valid_site = (lit≤ tt, lit≤ tt); short_host = lit≤ tt; low_priority = lit≤ tt; no_client = λ is. absurd (cc is) },
  (
    record { valid_site = (lit≤ tt, lit≤ tt); short_host = lit≤ tt; low_priority = lit≤ tt; no_client = λ is. absurd (cc is) },
    (record { valid_site = (lit≤ tt, lit≤ tt); short_host = lit≤ tt; low_priority = lit≤ tt; no_client = λ is. refl }, tt),
  ),
)

pub everything-valid : IsValid 5 everything.publication
everything-valid = record {
  named = refl;
  valid_retention = (lit≤ tt, lit≤ tt);
  valid_conflict_retention = (lit≤ tt, lit≤ tt);
  some_articles = (lit≤ tt, lit≤ tt);
  distinct_articles = distinct_names (article_names everything.publication) refl;
  valid_articles = All-from_recursion (IsValidArticle 5 everything.publication.articles) everything.publication.articles (stock-valid, (client-valid, tt));
  in_order = evaluation_order_is everything.publication none-own no-parents;
  few_subscriptions = lit≤ tt;
  distinct_sites = AllPairs-from_IsDistinct Decides-eqb (sites everything.publication) sites-apart;
  valid_subscriptions = all-valid;
}

-- The run in which steps fail.

item-valid : IsValidArticle 5 failing.publication.articles failing.item
item-valid = record {
  named = refl;
  some_columns = (lit≤ tt, lit≤ tt);
  named_columns = all-pass is_named failing.item.columns refl;
  distinct_columns = distinct_names (column_names failing.item.columns) refl;
  few_joins = lit≤ tt;
  valid_joins = All-nil (IsValidJoin failing.publication.articles failing.item.columns);
  valid_resolver = lit< tt;
  valid_decider = λ is. absurd (cc is);
  valid_identity = tt;
  filter_fits = tt;
}

item-not-own : (place : ℕ) → place < 1 → is_ancestor failing.publication.articles place place ≡ false
item-not-own zero less = refl
item-not-own (suc place) less = absurd (omega (arith, less))

item-no-parent : (place : ℕ) (join : JoinFilter) → Contains (joins_at failing.publication place) join → join.parent < 1
item-no-parent zero join (k, less, is) = absurd (omega (arith, less))
item-no-parent (suc place) join (k, less, is) = absurd (omega (arith, less))

one-site : IsDistinct (λ (a b : ℕ). a == b) (sites failing.publication)
unfolding IsDistinct
one-site = (tt, tt)

site-valid : AreValid failing.publication.subscriptions
site-valid = All-from_recursion (λ (subscription : Subscription). IsValidSubscription subscription) failing.publication.subscriptions
    (record { valid_site = (lit≤ tt, lit≤ tt); short_host = lit≤ tt; low_priority = lit≤ tt; no_client = λ is. refl }, tt)

pub failing-valid : IsValid 5 failing.publication
failing-valid = record {
  named = refl;
  valid_retention = (lit≤ tt, lit≤ tt);
  valid_conflict_retention = (lit≤ tt, lit≤ tt);
  some_articles = (lit≤ tt, lit≤ tt);
  distinct_articles = distinct_names (article_names failing.publication) refl;
  valid_articles = All-from_recursion (IsValidArticle 5 failing.publication.articles) failing.publication.articles (item-valid, tt);
  in_order = evaluation_order_is failing.publication item-not-own item-no-parent;
  few_subscriptions = lit≤ tt;
  distinct_sites = AllPairs-from_IsDistinct Decides-eqb (sites failing.publication) one-site;
  valid_subscriptions = site-valid;
}

-- The run in which sessions fail.

adding-valid : IsValidArticle 5 sessions.publication.articles sessions.stock
adding-valid = record {
  named = refl;
  some_columns = (lit≤ tt, lit≤ tt);
  named_columns = all-pass is_named sessions.stock.columns refl;
  distinct_columns = distinct_names (column_names sessions.stock.columns) refl;
  few_joins = lit≤ tt;
  valid_joins = All-nil (IsValidJoin sessions.publication.articles sessions.stock.columns);
  valid_resolver = lit< tt;
  valid_decider = (lit< tt, refl);
  valid_identity = tt;
  filter_fits = tt;
}

adding-not-own : (place : ℕ) → place < 1 → is_ancestor sessions.publication.articles place place ≡ false
adding-not-own zero less = refl
adding-not-own (suc place) less = absurd (omega (arith, less))

adding-no-parent : (place : ℕ) (join : JoinFilter) → Contains (joins_at sessions.publication place) join → join.parent < 1
adding-no-parent zero join (k, less, is) = absurd (omega (arith, less))
adding-no-parent (suc place) join (k, less, is) = absurd (omega (arith, less))

only-site : IsDistinct (λ (a b : ℕ). a == b) (sites sessions.publication)
unfolding IsDistinct
only-site = (tt, tt)

only-valid : AreValid sessions.publication.subscriptions
only-valid = All-from_recursion (λ (subscription : Subscription). IsValidSubscription subscription) sessions.publication.subscriptions
    (record { valid_site = (lit≤ tt, lit≤ tt); short_host = lit≤ tt; low_priority = lit≤ tt; no_client = λ is. refl }, tt)

pub sessions-valid : IsValid 5 sessions.publication
sessions-valid = record {
  named = refl;
  valid_retention = (lit≤ tt, lit≤ tt);
  valid_conflict_retention = (lit≤ tt, lit≤ tt);
  some_articles = (lit≤ tt, lit≤ tt);
  distinct_articles = distinct_names (article_names sessions.publication) refl;
  valid_articles = All-from_recursion (IsValidArticle 5 sessions.publication.articles) sessions.publication.articles (adding-valid, tt);
  in_order = evaluation_order_is sessions.publication adding-not-own adding-no-parent;
  few_subscriptions = lit≤ tt;
  distinct_sites = AllPairs-from_IsDistinct Decides-eqb (sites sessions.publication) only-site;
  valid_subscriptions = only-valid;
}

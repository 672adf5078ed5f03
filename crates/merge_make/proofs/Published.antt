-- The publication of the script is valid, and its filter's text is a filter.
use Rattle.std.proofs.Common.{Err, List, Ok, Result, [], ap, arith, codes, false, get_or, inl, inr, length, lit<, lit≤, refl, subst, suc, sym, true, zero, ℕ, ◌<◌, ◌∙◌, ◌≡◌, ◌≢◌, ◌≤◌, ◌∷◌, ◌⊎◌}
use Rattle.std.specs.List.{All, AllPairs, Contains}
use Rattle.std.proofs.lemmas.List.Elements.{All-cons}
use Rattle.std.proofs.lemmas.List.Kept.{AllPairs-cons}
use Rattle.merge_types.specs.Names.{is_name_text}
use Rattle.merge_types.specs.declared.values.ColumnType.TheVariants as ty
use Rattle.merge_types.specs.declared.values.Column.{Column}
use Rattle.merge_filter.specs.Answers.{IsAnswer as IsFilterAnswer}
use Rattle.merge_filter.specs.Grammar.{column, compared, conj, filter, host, no_and, no_or}
use Rattle.merge_filter.specs.Syntax.{Syntax}
use Rattle.merge_filter.specs.declared.fault.FilterFault.{FilterFault}
use Rattle.merge_filter.specs.declared.fault.FilterFault.TheVariants as fault
use Rattle.merge_filter.specs.declared.word.Sign.TheVariants.{Equal}
use Rattle.merge_filter.specs.declared.word.Word.TheVariants as w
use Rattle.merge_schema.specs.Ancestors.{is_ancestor}
use Rattle.merge_schema.specs.Partition.{joins_at}
use Rattle.merge_schema.specs.Valid.{IsValid, IsValidArticle, IsValidJoin, IsValidSubscription}
use Rattle.merge_schema.specs.declared.publication.JoinFilter.{JoinFilter}
use Rattle.merge_schema.proofs.Orders.{evaluation_order_is}
use Rattle.merge_make.specs.Publication.{client, customer, customer_columns, made_publication, of_region, order_columns, orders, to_customer}

-- Lists.

all-none : {X : Type 0} (P : X → Type 0) → All P []
all-none P k d less = absurd (omega (arith, less))

pairs-none : {X : Type 0} (R : X → X → Type 0) → AllPairs R []
pairs-none R i j d less past = absurd (omega (arith, past))

module _ {X : Type 0} (P : X → Type 0) where
  all-one : (x : X) → P x → All P (x ∷ [])
  all-one x p = All-cons P x [] p (all-none P)

  all-two : (x y : X) → P x → P y → All P (x ∷ y ∷ [])
  all-two x y p q = All-cons P x (y ∷ []) p (all-one y q)

  all-three : (x y z : X) → P x → P y → P z → All P (x ∷ y ∷ z ∷ [])
  all-three x y z p q r = All-cons P x (y ∷ z ∷ []) p (all-two y z q r)

module _ {X : Type 0} where
  distinct-two : (x y : X) → x ≢ y → AllPairs (λ (a b : X). a ≢ b) (x ∷ y ∷ [])
  distinct-two x y ne = AllPairs-cons (λ (a b : X). a ≢ b) x (y ∷ []) (all-one (λ (b : X). x ≢ b) y ne) (AllPairs-cons (λ (a b : X). a ≢ b) y [] (all-none (λ (b : X). y ≢ b)) (pairs-none (λ (a b : X). a ≢ b)))

  distinct-three : (x y z : X) → x ≢ y → x ≢ z → y ≢ z → AllPairs (λ (a b : X). a ≢ b) (x ∷ y ∷ z ∷ [])
  distinct-three x y z xy xz yz = AllPairs-cons (λ (a b : X). a ≢ b) x (y ∷ z ∷ []) (all-two (λ (b : X). x ≢ b) y z xy xz) (distinct-two y z yz)

-- The filter.

pub of-region : IsFilterAnswer customer_columns (codes "region = HOST_NAME()") (Ok of_region)
of-region = (
  w.Name (codes "region") ∷ w.Sign Equal 7 ∷ w.HostName ∷ w.Open ∷ w.Close ∷ [],
  0 ∷ 7 ∷ 9 ∷ 18 ∷ 19 ∷ [],
  (some, refl, (lit≤ tt, refl), (some, refl, refl, (some, refl, (lit≤ tt, refl), (some, refl, refl, (some, refl, refl, refl))))),
  ((filter (conj (compared (column (codes "region")) Equal 7 host) no_and) no_or, refl, refl, lit≤ tt), refl),
)
  where
    some : {byte : ℕ} {more : List ℕ} → byte ∷ more ≢ []
    some is = absurd (cc is)

-- what is answered for this text is the filter, but for want of memory
abbrev answered : Result Syntax FilterFault → Syntax
answered (Ok tree) = tree
answered (Err why) = of_region

pub only-of-region : (found : Result Syntax FilterFault) → (found ≡ Err fault.NoMemory) ⊎ (found ≡ Ok of_region) → (tree : Syntax) → found ≡ Ok tree → tree ≡ of_region
only-of-region found (inl is) tree same = sym (ap answered same) ∙ ap answered is
only-of-region found (inr is) tree same = sym (ap answered same) ∙ ap answered is

-- Validity.

-- texts whose first bytes differ
apart : (a b : List ℕ) → (get_or a 0 0 ≡ get_or b 0 0 → ⊥) → a ≢ b
apart a b other is = other (ap (λ (l : List ℕ). get_or l 0 0) is)

differ : (m n : ℕ) → m < n → m ≡ n → ⊥
differ m n less is = omega (arith, less, is)

abbrev Named : Column → Type 0
Named c = is_name_text c.name ≡ true

customer-valid : IsValidArticle 1 made_publication.articles customer
customer-valid = record {
  named = refl;
  some_columns = (lit≤ tt, lit≤ tt);
  named_columns = all-three Named (record { name = codes "id"; ty = ty.Int }) (record { name = codes "region"; ty = ty.Text }) (record { name = codes "credit"; ty = ty.Int }) refl refl refl;
  distinct_columns = distinct-three (codes "id") (codes "region") (codes "credit") (apart _ _ (differ 105 114 (lit< tt))) (apart _ _ (λ is. differ 99 105 (lit< tt) (sym is))) (apart _ _ (λ is. differ 99 114 (lit< tt) (sym is)));
  few_joins = lit≤ tt;
  valid_joins = all-none (IsValidJoin made_publication.articles customer_columns);
  valid_resolver = lit< tt;
  valid_decider = λ is. absurd (cc is);
  valid_identity = tt;
  filter_fits = lit≤ tt;
}

join-valid : IsValidJoin made_publication.articles order_columns to_customer
join-valid = record { column = lit< tt; parent = lit< tt; parent_column = lit< tt; alike = refl }

orders-valid : IsValidArticle 1 made_publication.articles orders
orders-valid = record {
  named = refl;
  some_columns = (lit≤ tt, lit≤ tt);
  named_columns = all-two Named (record { name = codes "id"; ty = ty.Int }) (record { name = codes "cust"; ty = ty.Int }) refl refl;
  distinct_columns = distinct-two (codes "id") (codes "cust") (apart _ _ (λ is. differ 99 105 (lit< tt) (sym is)));
  few_joins = lit≤ tt;
  valid_joins = all-one (IsValidJoin made_publication.articles order_columns) to_customer join-valid;
  valid_resolver = lit< tt;
  valid_decider = λ is. absurd (cc is);
  valid_identity = tt;
  filter_fits = tt;
}

none-own : (place : ℕ) → place < 2 → is_ancestor made_publication.articles place place ≡ false
none-own zero less = refl
none-own (suc zero) less = refl
none-own (suc (suc place)) less = absurd (omega (arith, less))

parents-inside : (place : ℕ) (join : JoinFilter) → Contains (joins_at made_publication place) join → join.parent < 2
parents-inside zero join (k, less, is) = absurd (omega (arith, less))
parents-inside (suc zero) join (zero, less, is) = subst (λ (j : JoinFilter). j.parent < 2) is (lit< tt)
parents-inside (suc zero) join (suc k, less, is) = absurd (omega (arith, less))
parents-inside (suc (suc place)) join (k, less, is) = absurd (omega (arith, less))

client-valid : (site : ℕ) (name : List ℕ) → 1 ≤ site → site ≤ 63 → length name ≤ 128 → IsValidSubscription (client site name)
client-valid site name low high short = record { valid_site = (low, high); short_host = short; low_priority = lit≤ tt; no_client = λ is. refl }

pub made-valid : IsValid 1 made_publication
made-valid = record {
  named = refl;
  valid_retention = (lit≤ tt, lit≤ tt);
  valid_conflict_retention = (lit≤ tt, lit≤ tt);
  some_articles = (lit≤ tt, lit≤ tt);
  distinct_articles = distinct-two (codes "customer") (codes "orders") (apart _ _ (differ 99 111 (lit< tt)));
  valid_articles = all-two (IsValidArticle 1 made_publication.articles) customer orders customer-valid orders-valid;
  in_order = evaluation_order_is made_publication none-own parents-inside;
  few_subscriptions = lit≤ tt;
  distinct_sites = distinct-three 1 2 3 (differ 1 2 (lit< tt)) (differ 1 3 (lit< tt)) (differ 2 3 (lit< tt));
  valid_subscriptions = all-three IsValidSubscription (client 1 (codes "r0")) (client 2 (codes "r1")) (client 3 (codes "r2")) (client-valid 1 (codes "r0") (lit≤ tt) (lit≤ tt) (lit≤ tt)) (client-valid 2 (codes "r1") (lit≤ tt) (lit≤ tt) (lit≤ tt)) (client-valid 3 (codes "r2") (lit≤ tt) (lit≤ tt) (lit≤ tt));
}

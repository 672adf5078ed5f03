-- The keys of records of grants stand by article, site and number, behind what is held of the article.
use Rattle.std.specs.Cmp.Lexicographic.{slice_cmp}
use Rattle.std.specs.Int.{to_be_bytes, w16, w64, w8}
use Rattle.std.specs.Ordering.{nat_cmp, ordering_then}
use Rattle.std.specs.Prelude.{List, length, ℕ, ◌++◌, ◌%◌, ◌<◌, ◌≡◌}
use Rattle.std.specs.declared.cmp.Ordering.{Ordering}
use Rattle.std.specs.declared.cmp.Ordering.TheVariants.{Equal, Greater, Less}
use Rattle.std.proofs.Common.{ap, arith, sym, ◌∙◌}
use Rattle.std.proofs.lemmas.Bool.Decides.{nat_tests}
use Rattle.merge_ident.specs.declared.grants.Grant.{Grant}
use Rattle.merge_ports.specs.Entries.{entry_cmp}
use Rattle.merge_keeper.specs.Entries.{grant_key, held_key}
use Rattle.merge_keeper.specs.Stored.{HasGrantKey}
use Rattle.merge_keeper.proofs.Bytes.{be_order, fronts_order, length-to_be_bytes}

front-order : (xs ys us vs : List ℕ) (o p : Ordering) → length xs ≡ length ys → slice_cmp nat_cmp xs ys ≡ o → slice_cmp nat_cmp us vs ≡ p → slice_cmp nat_cmp (xs ++ us) (ys ++ vs) ≡ ordering_then o p
front-order xs ys us vs o p len e f = fronts_order xs ys us vs len ∙ ap (λ (q : Ordering). ordering_then q (slice_cmp nat_cmp us vs)) e ∙ ap (λ (q : Ordering). ordering_then o q) f

grant-order : (a b : Grant) → HasGrantKey a → HasGrantKey b → entry_cmp (grant_key a) (grant_key b) ≡ ordering_then (nat_cmp a.article b.article) (ordering_then (nat_cmp a.site.0 b.site.0) (nat_cmp a.number b.number))
grant-order a b fa fb =
    front-order (to_be_bytes w8 a.article) (to_be_bytes w8 b.article) (to_be_bytes w16 a.site.0 ++ to_be_bytes w64 a.number) (to_be_bytes w16 b.site.0 ++ to_be_bytes w64 b.number) _ _
    (length-to_be_bytes w8 a.article ∙ sym (length-to_be_bytes w8 b.article)) (be_order w8 a.article b.article fa.0 fb.0)
    (front-order (to_be_bytes w16 a.site.0) (to_be_bytes w16 b.site.0) (to_be_bytes w64 a.number) (to_be_bytes w64 b.number) _ _
    (length-to_be_bytes w16 a.site.0 ∙ sym (length-to_be_bytes w16 b.site.0)) (be_order w16 a.site.0 b.site.0 fa.1.0 fb.1.0) (be_order w64 a.number b.number fa.1.1 fb.1.1))

then-equal : (o p : Ordering) → o ≡ Equal → ordering_then o p ≡ Less → p ≡ Less
then-equal Less p is less = absurd cc
then-equal Equal p is less = less
then-equal Greater p is less = absurd cc

pub number-less : (a b : Grant) → HasGrantKey a → HasGrantKey b → a.article ≡ b.article → a.site.0 ≡ b.site.0 → entry_cmp (grant_key a) (grant_key b) ≡ Less → a.number < b.number
number-less a b fa fb article site less =
    let one : ordering_then (nat_cmp a.article b.article) (ordering_then (nat_cmp a.site.0 b.site.0) (nat_cmp a.number b.number)) ≡ Less = sym (grant-order a b fa fb) ∙ less in
    let two = then-equal (nat_cmp a.article b.article) (ordering_then (nat_cmp a.site.0 b.site.0) (nat_cmp a.number b.number)) (grind (arith, nat_tests, article)) one in
    let three : nat_cmp a.number b.number ≡ Less = then-equal (nat_cmp a.site.0 b.site.0) (nat_cmp a.number b.number) (grind (arith, nat_tests, site)) two in
    grind (arith, nat_tests, three)

then-greater : (o : Ordering) → o ≡ Equal → ordering_then o Greater ≡ Less → ⊥
then-greater Less is less = absurd cc
then-greater Equal is less = absurd cc
then-greater Greater is less = absurd cc

-- what is held of an article does not stand behind the article's grants
pub held-first : (grant : Grant) (article : ℕ) → grant.article ≡ article → entry_cmp (grant_key grant) (held_key article) ≡ Less → ⊥
held-first grant article is less = then-greater (nat_cmp (grant.article % 256) (article % 256)) (grind (arith, nat_tests, is)) less

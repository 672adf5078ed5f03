use Rattle.std.specs.Prelude.{List, ℕ}
use Rattle.std.proofs.Common.{ap, sym, ◌∙◌, rules}
use Rattle.std.specs.FinSet as set
use Rattle.merge_gens.specs.Entries.{entry_cmp, entry_of}
use Rattle.merge_ident.specs.Grants.{granted_to}
use Rattle.merge_ident.specs.Holders.{Holder}
use Rattle.merge_ident.specs.declared.grants.Grant.{Grant}
use Rattle.merge_model.specs.Tables.Keys.{at_number}
use Rattle.merge_steps.specs.Indexed.{AreIndexed, AreMoved}
use Rattle.merge_steps.proofs.Identities.{begin-heard, begin-held}
use Rattle.merge_pub.proofs.publisher.Publisher.new.Goals as goal

pub invariant_of-result : goal.invariant_of-result
unfolding AreIndexed AreMoved
invariant_of-result c = record {
  valid = search rules;
  rules = search rules;
  live = search rules;
  indexed = λ key generation. rw (c.new-2.ensures.entries, c.new-4.ensures.rows) (set.contains-empty entry_cmp (entry_of generation key));
  moved = λ place generation. search rules;
  keeps = record {
    rows = rw c.new-4.ensures.rows tt;
    rising = rw c.new-8.ensures tt;
    conflicts = rw c.new-8.ensures tt;
    held = λ article. rw (c.in_ok-held.ensures, c.in_ok-membership.ensures.publication) (begin-held c.args.publication.now article);
    heard = λ article holder found.
        begin-heard c.args.publication.now article holder (ap (λ (rows : List (ℕ × Holder)). at_number rows article) (sym c.in_ok-held.ensures) ∙ found)
        ∙ ap (λ (grants : List Grant). granted_to article 0 grants) (sym c.new-9.ensures.grants);
  };
}

-- What is kept once a draft has taken its place.
use Rattle.std.proofs.Common.{◌≡◌, inl, inr, ℕ, Bool, true, false, cond, List, [], ◌∷◌, Option, Some, None, refl, sym, ap, ◌∙◌, subst, arith}
use Rattle.std.specs.Prelude.{◌==◌, unwrap_or, if◌then◌else◌}
use Rattle.std.specs.List.Sorted.{IsStrictlySortedBy}
use Rattle.std.specs.Map.{keys_of}
use Rattle.std.specs.BTreeMap.{is_at}
use Rattle.std.specs.Ordering.{is_eq}
use Rattle.std.specs.declared.cmp.Ordering.{Ordering}
use Rattle.std.specs.declared.cmp.Ordering.TheVariants.{Less, Equal, Greater}
use Rattle.std.proofs.lemmas.Bool.Decides.{nat_tests}
use Rattle.std.proofs.lemmas.Map.Keys.{sorted_tail}
use Rattle.merge_table.specs.declared.edit.Edit.{Edit}
use Rattle.merge_table.specs.declared.edit.Edit.TheVariants.{Put, Take}
use Rattle.merge_table.specs.Edits.{rows_after, rows_after_all}
use Rattle.merge_table.proofs.LookUps.{lookup-insert_entry, lookup-remove_entry}
use Rattle.merge_table.proofs.Room.{rest_above}
use Rattle.merge_table.proofs.Slots.{lookup_above}
use Rattle.merge_types.specs.declared.row_key.RowKey.{RowKey}
use Rattle.merge_part.specs.declared.sites.Sites.{Sites}
use Rattle.merge_part.specs.declared.content.Content.{Content}
use Rattle.merge_part.specs.declared.link.Link.{Link}
use Rattle.merge_types.specs.RowKeys.{key_cmp}
use Rattle.std.specs.Prelude.{◌↔◌, not}
use Rattle.std.specs.List.{Contains}
use Rattle.merge_schema.specs.declared.publication.Publication.{Publication}
use Rattle.merge_schema.specs.Partition.{is_in_at}
use Rattle.merge_part.specs.declared.change.Move.{Move}
use Rattle.merge_part.specs.declared.change.RowChange.{RowChange}
use Rattle.merge_part.specs.declared.index.Indexes.{Indexes}
use Rattle.merge_part.specs.declared.index.DraftIndexes.{DraftIndexes}
use Rattle.merge_part.specs.Index.{Entries, children_after, parents_after}
use Rattle.merge_part.specs.declared.link.Rules.{Rules}
use Rattle.merge_part.specs.Live.{live_of, live_rows, live_after_all}
use Rattle.merge_gens.specs.Moves.{is_left}
use Rattle.merge_part.specs.Moves.{move_cmp, all_moves, AreMoves}
use Rattle.merge_part.specs.Rules.{AreRules, IsKept, AreTaken}
use Rattle.merge_part.proofs.SitePartitions.{moves_differ}
use Rattle.merge_part.specs.Draft.{found, rows_in, no_sites, marks_of, marks_in, mark_edit, mark_edits}
use Rattle.merge_part.specs.Rule.{value_at, gives, Parent, Reason, Meets}
use Rattle.merge_part.specs.Sites.{has_site}
use Rattle.merge_part.proofs.Drafts.{key_total}
use Rattle.merge_table.proofs.Sorted.{sorted_after, sorted_after_all}

is_equal : (r : Ordering) → is_eq r ≡ true → r ≡ Equal
is_equal Less h = absurd cc
is_equal Equal h = refl
is_equal Greater h = absurd cc

empty_is : (sites : Sites) → (sites.0 == 0) ≡ true → no_sites ≡ sites
empty_is sites h = let f : ℕ → Sites = λ n. record { 0 = n } in let z : sites.0 ≡ 0 = grind (arith, nat_tests) in ap f (sym z)

none_put : (b : Bool) (sites : Sites) (rest : Option Sites) → no_sites ≡ sites → unwrap_or (cond b None rest) no_sites ≡ cond b sites (unwrap_or rest no_sites)
none_put true sites rest is = is
none_put false sites rest is = refl

some_put : (b : Bool) (sites : Sites) (rest : Option Sites) → unwrap_or (cond b (Some sites) rest) no_sites ≡ cond b sites (unwrap_or rest no_sites)
some_put true sites rest = refl
some_put false sites rest = refl

mark_step_by : (held : List (RowKey × Sites)) → IsStrictlySortedBy key_cmp (keys_of held) → (key : RowKey) (sites : Sites) (q : RowKey) → (b : Bool) → (sites.0 == 0) ≡ b
    → marks_of (rows_after key_cmp held (if b then Take key else Put key sites)) q ≡ cond (is_at (key_cmp q) key) sites (marks_of held q)
mark_step_by held sorted key sites q true is =
    ap (λ o. unwrap_or o no_sites) (lookup-remove_entry key_cmp key_total key q held sorted) ∙ none_put (is_at (key_cmp q) key) sites (found held q) (empty_is sites is)
mark_step_by held sorted key sites q false is =
    ap (λ o. unwrap_or o no_sites) (lookup-insert_entry key_cmp key_total key q sites held) ∙ some_put (is_at (key_cmp q) key) sites (found held q)

-- the marks after one drafted mark takes its place
mark_step : (held : List (RowKey × Sites)) → IsStrictlySortedBy key_cmp (keys_of held) → (key : RowKey) (sites : Sites) (q : RowKey) → marks_of (rows_after key_cmp held (mark_edit key sites)) q ≡ cond (is_at (key_cmp q) key) sites (marks_of held q)
mark_step held sorted key sites q = mark_step_by held sorted key sites q (sites.0 == 0) refl

over_step : (key : RowKey) (sites : Sites) (drafted : List (RowKey × Sites)) (q : RowKey) (held : Sites) → IsStrictlySortedBy key_cmp (keys_of ((key, sites) ∷ drafted)) → (b : Bool) → is_at (key_cmp q) key ≡ b
    → unwrap_or (found drafted q) (cond b sites held) ≡ unwrap_or (cond b (Some sites) (found drafted q)) held
over_step key sites drafted q held sorted true is =
    let none : found drafted q ≡ None = lookup_above key_cmp q drafted (rest_above key_cmp key_total q key (keys_of drafted) sorted (is_equal (key_cmp q key) is)) in
    ap (λ o. unwrap_or o sites) none
over_step key sites drafted q held sorted false is = refl

-- the marks after the drafted ones took their place
pub marks_after : (held drafted : List (RowKey × Sites)) → IsStrictlySortedBy key_cmp (keys_of held) → IsStrictlySortedBy key_cmp (keys_of drafted) → (q : RowKey)
    → marks_of (rows_after_all key_cmp held (mark_edits drafted)) q ≡ marks_in held drafted q
marks_after held [] sorted ordered q = refl
marks_after held ((key, sites) ∷ drafted) sorted ordered q =
    marks_after (rows_after key_cmp held (mark_edit key sites)) drafted (sorted_after key_cmp key_total held (mark_edit key sites) sorted) (sorted_tail key_cmp key (keys_of drafted) ordered) q
    ∙ ap (unwrap_or (found drafted q)) (mark_step held sorted key sites q)
    ∙ over_step key sites drafted q (marks_of held q) ordered (is_at (key_cmp q) key) refl

parent_same : (links : List Link) (rows : RowKey → Option Content) (marks marks' : RowKey → Sites) → ((k : RowKey) → marks' k ≡ marks k) → (key : RowKey) (content : Content) (place : ℕ)
    → Parent links rows marks key content place → Parent links rows marks' key content place
parent_same links rows marks marks' same key content place p = record {
  number = p.number;
  link = p.link;
  parent = p.parent;
  among = p.among;
  below = p.below;
  above = p.above;
  given = ap (λ s. gives (value_at content.values p.link.column) p.link (rows p.parent) s place) (same p.parent) ∙ p.given;
}

reason_same : (links : List Link) (rows : RowKey → Option Content) (marks marks' : RowKey → Sites) → ((k : RowKey) → marks' k ≡ marks k) → (key : RowKey) (content : Content) (place : ℕ)
    → Reason links rows marks key content place → Reason links rows marks' key content place
reason_same links rows marks marks' same key content place (inl h) = inl h
reason_same links rows marks marks' same key content place (inr p) = inr (parent_same links rows marks marks' same key content place p)

-- a row meets the rule with the same marks
pub meets_same : (links : List Link) (rows : RowKey → Option Content) (marks marks' : RowKey → Sites) → ((k : RowKey) → marks' k ≡ marks k) → (key : RowKey) → Meets links rows marks key → Meets links rows marks' key
meets_same links rows marks marks' same key meets = record {
  reason = λ place h.
      let why = meets.reason place (ap (λ s. has_site s place) (sym (same key)) ∙ h) in
      (why.0, why.1, reason_same links rows marks marks' same key why.0 place why.2);
  reached = λ place content live why.
      ap (λ s. has_site s place) (same key) ∙ meets.reached place content live (reason_same links rows marks' marks (λ k. sym (same k)) key content place why);
}

module _ (publication : Publication) (rules : Rules) (are : AreRules publication rules) (rows : List (RowKey × Content)) (marks drafted : List (RowKey × Sites))
    (sorted : IsStrictlySortedBy key_cmp (keys_of rows)) (sorted_marks : IsStrictlySortedBy key_cmp (keys_of marks)) (ordered : IsStrictlySortedBy key_cmp (keys_of drafted))
    (index : Indexes) (draft : DraftIndexes) (changes : List RowChange) (edits : List (Edit RowKey Content)) (waiting : List RowKey) (taken : AreTaken publication rules index draft rows marks changes edits waiting)
    (met : (key : RowKey) → Meets rules.links (rows_in rows edits) (marks_in marks drafted) key) where
  -- what is held after the plan agrees
  pub prepared_kept : IsKept publication rules.links (children_after index draft) (parents_after index draft) (rows_after_all key_cmp rows edits) (rows_after_all key_cmp marks (mark_edits drafted))
  prepared_kept = record {
    met = λ key. meets_same rules.links (rows_in rows edits) (marks_in marks drafted) (marks_of (rows_after_all key_cmp marks (mark_edits drafted))) (marks_after marks drafted sorted_marks ordered) key (met key);
    filtered = taken.filtered;
    indexed = taken.drafted.exact;
  }

  -- and the moves are the differences of the partitions
  pub prepared_moves : (children parents : Entries) → IsKept publication rules.links children parents rows marks → (moves : List Move) → IsStrictlySortedBy move_cmp moves
      → ((one : Move) → Contains moves one ↔ Contains (all_moves publication.subscriptions (marks_of marks) drafted) one)
      → AreMoves publication (live_rows (live_of rows)) (live_rows (live_after_all (live_of rows) changes)) moves
  prepared_moves children parents kept moves ascending each =
      let differ = moves_differ publication rules are marks drafted ordered rows (rows_after_all key_cmp rows edits) sorted (sorted_after_all key_cmp key_total rows edits sorted) kept.met kept.filtered met taken.filtered in
      let after : live_rows (live_of (rows_after_all key_cmp rows edits)) ≡ live_rows (live_after_all (live_of rows) changes) = ap live_rows taken.live in
      record {
        ascending = ascending;
        each = λ one. subst (λ live. Contains moves one ↔ ((is_in_at publication one.site (live_rows (live_of rows)) one.article one.row ≡ is_left one.kind) × (is_in_at publication one.site live one.article one.row ≡ not (is_left one.kind))))
            after (λ there. (differ one).0 ((each one).0 there), λ differs. (each one).1 ((differ one).1 differs));
      }

use Rattle.std.specs.List.{list_any}
use Rattle.merge_types.specs.declared.row_key.RowKey.{RowKey}
use Rattle.merge_join.specs.Index.{has, puts, set_after_all}
use Rattle.merge_part.specs.declared.content.Content.{Content}
use Rattle.merge_part.specs.declared.index.Indexes.{Indexes}
use Rattle.merge_part.specs.declared.index.DraftIndexes.{DraftIndexes}
use Rattle.merge_part.specs.declared.link.Link.{Link}
use Rattle.merge_part.specs.Index.{AreExact, AreDrafted}
use Rattle.std.proofs.Common.{List, [], Option, true, false, ℕ, ◌≡◌, ◌≤◌, ◌+◌, ◌*◌, ◌∷◌, drop, length, refl, sym, ap, ◌∙◌, subst, arith}
use Rattle.merge_part.specs.Draft.{rows_in, marks_of}
use Rattle.merge_part.specs.Live.{live_after_all}
use Rattle.merge_part.specs.Taking.{FitsArticle, living, count_if_some, key_of_change}
use Rattle.merge_part.proofs.LiveRows.{live_step, filtered_step, article_in_range}
use Rattle.merge_part.proofs.Values.{none_reached}
use Rattle.merge_part.proofs.Taken.{changed_to}
use Rattle.merge_part.proofs.Walks.{drop_next}
use Rattle.merge_part.proofs.taking.take_up_all.Goals as goal

-- no change is drafted
begun : (links : List Link) (index : Indexes) (draft : DraftIndexes) (rows : RowKey → Option Content) → draft.children.changes.items ≡ [] → draft.parents.changes.items ≡ [] → AreExact links index.children.set index.parents.set rows → AreDrafted links index draft rows
begun links index draft rows none_child none_parent exact = record {
  exact = record {
    as_children = λ e. ap (λ changes. has (set_after_all index.children.set changes) e) none_child ∙ exact.as_children e;
    as_parents = λ e. ap (λ changes. has (set_after_all index.parents.set changes) e) none_parent ∙ exact.as_parents e;
  };
  children_come = λ e h. let bad : false ≡ true = sym (ap (list_any (puts e)) none_child) ∙ h in absurd cc;
  parents_come = λ e h. let bad : false ≡ true = sym (ap (list_any (puts e)) none_parent) ∙ h in absurd cc;
}

pub loop-change-init : goal.loop-change-init
loop-change-init g c = rw (c.new.ensures, c.new-4.ensures.rows) record {
  reached = rw c.new-5.ensures.rows (none_reached _ _ []);
  marks = c.new-3.ensures.rows;
  live = refl;
  filtered = c.requires.kept.filtered;
  drafted = begun c.args.kept.now.rules.links c.args.kept.now.index c.new-2.result _ c.new-2.ensures.children c.new-2.ensures.parents c.requires.kept.indexed;
  met = λ k none. c.requires.kept.met k;
  cost = omega arith;
}

cost_step : (subscriptions count rest all before now next : ℕ) → next ≤ now + subscriptions * count → now + subscriptions * (count + rest) ≤ before + subscriptions * all → next + subscriptions * rest ≤ before + subscriptions * all
cost_step subscriptions count rest all before now next more so_far = omega arith

pub loop-change-preserved : goal.loop-change-preserved
loop-change-preserved g c =
    let split : drop c.loop-change.change-index c.args.changes.now ≡ c.change-item.result ∷ drop (c.loop-change.change-index + 1) c.args.changes.now
    = drop_next c.args.changes.now c.loop-change.change-index c.change-item.result c.loop-change-test.true c.change-item.is in
    let fits : FitsArticle c.args.publication.now c.change-item.result = subst (FitsArticle c.args.publication.now) (sym c.change-item.is) (c.requires.fits c.loop-change.change-index c.change-item.result c.loop-change-test.true) in
    let taken = c.in_ok-take_up.ensures.edits in
    record {
      reached = c.in_ok-take_up.ensures.reached;
      marks = ap (λ marks. marks.rows) c.in_ok-take_up.ensures.marks ∙ c.loop-change.invariant.marks;
      live =
          ap (λ live. live_after_all live (drop (c.loop-change.change-index + 1) c.args.changes.now)) (live_step c.args.publication.now c.change-item.result c.args.kept.now.held.rows.rows c.loop-change.draft.rows c.take_up.new.draft.rows taken)
          ∙ (rw split at c.loop-change.invariant.live);
      filtered = filtered_step c.args.publication.now c.change-item.result taken.0 (rows_in c.args.kept.now.held.rows.rows c.loop-change.draft.rows) (rows_in c.args.kept.now.held.rows.rows c.take_up.new.draft.rows) taken.2
          (λ q. ap (λ edits. rows_in c.args.kept.now.held.rows.rows edits q) taken.1 ∙ changed_to c.args.kept.now.held.rows.rows c.is_ordered.ensures.rows c.loop-change.draft.rows (key_of_change c.change-item.result) taken.0 q)
          c.loop-change.invariant.filtered;
      drafted = c.in_ok-take_up.ensures.drafted;
      met = (rw c.loop-change.invariant.marks at c.in_ok-take_up.ensures.met) c.requires.rules.within (c.requires.rules.all c.change-item.result.article (article_in_range c.args.publication.now c.change-item.result fits)) c.loop-change.invariant.met;
      cost = cost_step (length c.args.publication.now.subscriptions) (count_if_some c.change-item.result.new) (living (drop (c.loop-change.change-index + 1) c.args.changes.now)) (living c.args.changes.now) c.args.steps.now c.loop-change.steps c.take_up.new.steps
          c.in_ok-take_up.ensures.cost (rw split at c.loop-change.invariant.cost);
    }

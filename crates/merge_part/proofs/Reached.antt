-- How the children that a row reaches come to wait, link by link.
use Rattle.std.proofs.Common.{◌≡◌, ◌≢◌, ◌⊎◌, inl, inr, ◌<◌, ◌+◌, ℕ, List, Option, sym, subst, arith}
use Rattle.merge_types.specs.declared.values.Value.{Value}
use Rattle.merge_types.specs.declared.row_key.RowKey.{RowKey}
use Rattle.merge_part.specs.declared.content.Content.{Content}
use Rattle.merge_part.specs.declared.link.Link.{Link}
use Rattle.merge_part.specs.Rule.{parent_value, IsAt}
use Rattle.merge_part.specs.Index.{Entries}
use Rattle.merge_part.specs.declared.sites.Sites.{Sites}
use Rattle.merge_part.specs.Waiting.{KeepsWaiting, ChildrenWait, AreSpared, ReachedAt, ReachedByRow}
use Rattle.merge_part.proofs.Reasons.{same_link}

children_kept : (children : Entries) (number : ℕ) (link : Link) (value : Value) (before after : List RowKey) → KeepsWaiting before after → ChildrenWait children number link value before → ChildrenWait children number link value after
children_kept children number link value before after kept wait = λ row entry some. kept _ (wait row entry some)

pub spared_kept : (rows : RowKey → Option Content) (marks : RowKey → Sites) (key : RowKey) (sites : Sites) (children : Entries) (number : ℕ) (link : Link) (value : Value) (before after : List RowKey) → KeepsWaiting before after
    → AreSpared rows marks key sites children number link value before → AreSpared rows marks key sites children number link value after
spared_kept rows marks key sites children number link value before after kept (inl wait) = inl (children_kept children number link value before after kept wait)
spared_kept rows marks key sites children number link value before after kept (inr covered) = inr covered

module _ (links : List Link) (rows : RowKey → Option Content) (marks : RowKey → Sites) (key : RowKey) (sites : Sites) (children : Entries) (old new : Option Content) where
  either_kept : (number : ℕ) (link : Link) (before after : List RowKey) → KeepsWaiting before after → ReachedAt rows marks key sites children number link old new before → ReachedAt rows marks key sites children number link old new after
  either_kept number link before after kept (inl same) = inl same
  either_kept number link before after kept (inr wait) =
      inr (spared_kept rows marks key sites children number link (parent_value link old) before after kept wait.0, spared_kept rows marks key sites children number link (parent_value link new) before after kept wait.1)

  at_last : (n : ℕ) (before after : List RowKey) → KeepsWaiting before after → ((link : Link) → IsAt links n link → link.parent ≡ key.article → ReachedAt rows marks key sites children n link old new after)
      → ReachedByRow links n rows marks key sites children old new before → (number : ℕ) (link : Link) → IsAt links number link → link.parent ≡ key.article → (number < n) ⊎ (number ≡ n) → ReachedAt rows marks key sites children number link old new after
  at_last n before after kept here so_far number link at parent (inl earlier) = either_kept number link before after kept (so_far number link earlier at parent)
  at_last n before after kept here so_far number link at parent (inr last) =
      subst (λ k. ReachedAt rows marks key sites children k link old new after) (sym last) (here link (subst (λ k. IsAt links k link) last at) parent)

  last_or_before : (k n : ℕ) → k < n + 1 → (k < n) ⊎ (k ≡ n)
  last_or_before k n less = grind arith

  -- one link more
  pub reached_next : (n : ℕ) (before after : List RowKey) → KeepsWaiting before after → ((link : Link) → IsAt links n link → link.parent ≡ key.article → ReachedAt rows marks key sites children n link old new after)
      → ReachedByRow links n rows marks key sites children old new before → ReachedByRow links (n + 1) rows marks key sites children old new after
  reached_next n before after kept here so_far = λ number link less at parent. at_last n before after kept here so_far number link at parent (last_or_before number n less)

  pub not_reached : (n : ℕ) (after : List RowKey) (one : Link) → IsAt links n one → one.parent ≢ key.article → (link : Link) → IsAt links n link → link.parent ≡ key.article → ReachedAt rows marks key sites children n link old new after
  not_reached n after one at apart link other parent = absurd (apart (subst (λ (l : Link). l.parent ≡ key.article) (same_link links n link one other at) parent))

pub kept_twice : (one two three : List RowKey) → KeepsWaiting one two → KeepsWaiting two three → KeepsWaiting one three
kept_twice one two three first second = λ key was. second key (first key was)

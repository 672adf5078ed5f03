use Rattle.std.proofs.Common.{◌≡◌, ℕ, ◌<◌, ◌≤◌, true, false, nat_le, length, get_or}
use Rattle.merge_ident.specs.declared.grants.Grant.{Grant}
use Rattle.merge_ident.specs.Lasts.{is_to}
use Rattle.merge_ident.proofs.halving.last_to.Given as goal

-- none of those behind is the site's, and those before are of articles up to this one
abbrev pub invariant-loop-behind : goal.invariant-loop-behind
invariant-loop-behind l = record {
  bound : l.behind ≤ length l.grants;
  none : (k : ℕ) (d : Grant) → l.behind ≤ k → k < length l.grants → is_to l.article l.site.0 (get_or l.grants k d) ≡ false;
  before : (k : ℕ) (d : Grant) → k < l.behind → k < length l.grants → nat_le (get_or l.grants k d).article l.article ≡ true;
}

abbrev pub decreases-loop-behind : goal.decreases-loop-behind
decreases-loop-behind l = l.behind

use Rattle.std.proofs.Common.{◌≡◌, ◌-◌, ◌+◌, ◌*◌}
use Rattle.merge_filter.specs.Syntax.{syntax, And, Or}
use Rattle.merge_filter.specs.Form.{neg_at, conj_of, filter_of, more, behind_and, behind_or, many}
use Rattle.merge_filter.proofs.form.+parser.Given as goal

abbrev pub decreases-neg : goal.decreases-neg
decreases-neg l = 3 * l.levels

abbrev pub decreases-conj : goal.decreases-conj
decreases-conj l = 3 * l.levels + 1

abbrev pub decreases-filter : goal.decreases-filter
decreases-filter l = 3 * l.levels + 2

abbrev pub invariant-conj-loop : goal.invariant-conj-loop
invariant-conj-loop l = more behind_and And (neg_at l.columns l.levels) (many - l.counter) (syntax l.left) l.rest ≡ conj_of (neg_at l.columns l.levels) l.words

abbrev pub invariant-filter-loop : goal.invariant-filter-loop
invariant-filter-loop l = more behind_or Or (conj_of (neg_at l.columns l.levels)) (many - l.counter) (syntax l.left) l.rest ≡ filter_of (neg_at l.columns l.levels) l.words

use Rattle.std.proofs.Common.{◌≡◌, ℕ, List, length, Some, sym, ap, String}
use Rattle.serde_json.specs.Data.{Data}
use Rattle.serde_json.specs.Find.{as_object}
use Rattle.serde_json.specs.View.{view, members_view}
use Rattle.serde_json.specs.declared.value.Value.{Value}
use Rattle.std.specs.declared.alloc.Global.{Global}
use Rattle.serde_json.proofs.Views.{members_len-members_view}
use Rattle.merge_json.specs.Values.{count_of}
use Rattle.merge_json.proofs.values.count.Goals as goal

counts : (d : Data) (es : List (String Global × Value)) (n : ℕ) → Some (members_view es) ≡ as_object d → n ≡ length es → count_of d ≡ Some n
unfolding count_of
counts d es n e h = rw (sym e, members_len-members_view es) (ap (λ (k : ℕ). Some k) (sym h))

pub returns-in-Some : goal.returns-in-Some
returns-in-Some c = counts (view c.args.value.now) c.in-Some.members.now.entries c.len.result c.in-Some.ensures c.len.ensures.len

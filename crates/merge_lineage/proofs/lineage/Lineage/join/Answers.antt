use Rattle.std.proofs.Common.{◌≡◌, subst, sym, arith}
use Rattle.std.proofs.lemmas.Grind.{common_steps}
use Rattle.merge_lineage.specs.Lineage.{IsAscending, joined, Joins}
use Rattle.merge_lineage.proofs.Joined.{ascending-joined, joins-joined}
use Rattle.merge_lineage.proofs.lineage.Lineage.join.Goals as goal

-- the dots are those of the join, which ascends
pub restore-requires : goal.restore-requires
restore-requires c =
    let made : c.add_joined.new.dots.items ≡ joined c.args.self.now c.args.other.now = grind (arith, common_steps) in
    let ours = subst IsAscending c.self.view_is c.self.invariant in
    let theirs = subst IsAscending c.other.view_is c.other.invariant in
    subst IsAscending (sym made) (ascending-joined c.args.self.now c.args.other.now ours theirs)

-- and has the greater number of each site
pub returns-clause-greater : goal.returns-clause-greater
returns-clause-greater c =
    let made : c.restore.result ≡ joined c.args.self.now c.args.other.now = grind (arith, common_steps) in
    let ours = subst IsAscending c.self.view_is c.self.invariant in
    let theirs = subst IsAscending c.other.view_is c.other.invariant in
    subst (Joins c.args.self.now c.args.other.now) (sym made) (joins-joined c.args.self.now c.args.other.now ours theirs)

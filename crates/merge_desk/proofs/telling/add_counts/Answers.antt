use Rattle.std.proofs.Common.{◌≡◌, ◌++◌, ◌∷◌, [], List, ℕ, append_assoc, codes, decimal, refl, string_bytes}
use Rattle.merge_desk.specs.Summary.{counts_line}
use Rattle.merge_desk.proofs.Lines.{two_added}
use Rattle.merge_desk.proofs.telling.add_counts.Goals as goal

pub returns : goal.returns
returns c =
    let a = c.args in
    let one : List ℕ = codes "calls " ++ (decimal a.calls ++ (codes " joins " ++ (decimal a.joins ++ (codes " uploads " ++ decimal a.uploads)))) in
    let two : List ℕ = codes " ranges " ++ (decimal a.ranges ++ (codes " downloads " ++ (decimal a.downloads ++ (codes " refused " ++ (decimal a.refused ++ 10 ∷ []))))) in
    let whole : counts_line a.calls a.joins a.uploads a.ranges a.downloads a.refused ≡ one ++ two = simp append_assoc refl in
    two_added (string_bytes a.text.now) one two c.in_ok-write.ensures.bytes c.in_ok-writeln.ensures.bytes whole

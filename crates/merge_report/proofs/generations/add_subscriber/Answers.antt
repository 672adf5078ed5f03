use Rattle.std.proofs.Common.{◌≡◌, ◌++◌, ◌∷◌, [], List, ℕ, codes, decimal, append_assoc, refl, string_bytes}
use Rattle.merge_model.specs.Script.Text.{subscriber_text}
use Rattle.merge_report.proofs.Words.{two_added}
use Rattle.merge_report.proofs.generations.add_subscriber.Goals as goal

pub returns : goal.returns
returns c =
    let marks = c.args.marks in
    let one : List ℕ = codes "closed " ++ (decimal marks.closed ++ (codes " open " ++ (decimal marks.filled ++ (codes " received " ++ (decimal marks.received ++ (codes " watermark " ++ decimal marks.watermark)))))) in
    let two : List ℕ = codes " seq " ++ (decimal marks.seq ++ (codes " outstanding " ++ (decimal marks.outstanding ++ (codes " unsent " ++ (decimal c.args.unsent ++ 10 ∷ []))))) in
    let whole : subscriber_text marks c.args.unsent ≡ one ++ two = simp append_assoc refl in
    two_added (string_bytes c.args.text.now) one two c.in_ok-write.ensures.bytes c.in_ok-writeln.ensures.bytes whole

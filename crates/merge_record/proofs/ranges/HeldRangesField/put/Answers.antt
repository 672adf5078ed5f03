use Rattle.std.proofs.Common.{◌≡◌, ◌∙◌, ℕ, List, ◌++◌, ap, append_assoc}
use Rattle.merge_record.proofs.ranges.HeldRangesField.put.Goals as goal

-- bytes behind bytes
behind : (old mid new a b : List ℕ) → mid ≡ old ++ a → new ≡ mid ++ b → new ≡ old ++ (a ++ b)
behind old mid new a b first second = second ∙ ap (λ (l : List ℕ). l ++ b) first ∙ append_assoc old a b

pub returns-clause-bytes : goal.returns-clause-bytes
returns-clause-bytes c = behind c.args.out.now.items c.put.new.out.items c.put_ranges.new.out.items _ _ c.in_ok-put.ensures.bytes c.in_ok-put_ranges.ensures.bytes

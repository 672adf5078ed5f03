use Rattle.std.proofs.Common.{◌≡◌, ◌-◌, ◌∙◌, ap, sym, ℕ, List, length, take, drop, map}
use Rattle.std.proofs.Math.Seq.{take-length}
use Rattle.std.proofs.lemmas.List.{length-drop}
use Rattle.std.specs.List.{drop-map}
use Rattle.merge_reading.proofs.events.words_from.Goals as goal

take_rest : {A : Type 0} (xs : List A) (n : ℕ) → take (length xs - n) (drop n xs) ≡ drop n xs
take_rest xs n = ap (λ (k : ℕ). take k (drop n xs)) (sym (length-drop n xs)) ∙ take-length (drop n xs)

pub returns : goal.returns
returns c = ap (map (λ w. w.now)) (take_rest c.args.words.now (c.args.number - 1)) ∙ sym (drop-map (λ w. w.now) (c.args.number - 1) c.args.words.now)

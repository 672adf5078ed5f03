-- A text of two pieces.
use Rattle.std.proofs.Common.{◌≡◌, ◌++◌, ◌∙◌, List, ℕ, ap, append_assoc, sym}

pub two_added : (old one two : List ℕ) {first second all : List ℕ} → first ≡ old ++ one → second ≡ first ++ two → all ≡ one ++ two → second ≡ old ++ all
two_added old one two a b whole = b ∙ (ap (λ (text : List ℕ). text ++ two) a ∙ (append_assoc old one two ∙ ap (λ (more : List ℕ). old ++ more) (sym whole)))

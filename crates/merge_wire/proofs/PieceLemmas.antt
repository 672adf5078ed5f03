-- Pieces that are written one behind the other.
use Rattle.std.proofs.Common.{◌≡◌, ◌∙◌, ◌<◌, ◌≤◌, ◌+◌, ℕ, suc, min, List, [], ◌∷◌, ◌++◌, length, map, take, drop, get_or, Bor, refl, sym, ap, subst, append_assoc, arith}
use Rattle.std.specs.declared.option.Option.{Option}
use Rattle.std.specs.Io.KnownBytes.{Appends}
use Rattle.std.proofs.lemmas.List.{append-nil, map-append, take_more, take_min, take-append-drop, take-append-le}
use Rattle.std.proofs.Math.Seq.{take-append-add}
use Rattle.merge_ports.specs.Parts.{AppendsFront}
use Rattle.merge_ports.proofs.Known.{Appends-append}
use Rattle.merge_wire.specs.Written.{joined}
use Rattle.merge_wire.specs.Pieces.{joined_pieces}

joined-append : (xs ys : List (List ℕ)) → joined (xs ++ ys) ≡ joined xs ++ joined ys
joined-append [] ys = refl
joined-append (x ∷ xs) ys = ap (λ (l : List ℕ). x ++ l) (joined-append xs ys) ∙ sym (append_assoc x (joined xs) (joined ys))

pieces-append : (xs ys : List (Bor (List ℕ))) → joined_pieces (xs ++ ys) ≡ joined_pieces xs ++ joined_pieces ys
pieces-append xs ys = ap joined (map-append (λ (p : Bor (List ℕ)). p.now) xs ys) ∙ joined-append (map (λ (p : Bor (List ℕ)). p.now) xs) (map (λ (p : Bor (List ℕ)). p.now) ys)

-- one piece more
pub one_more : (ps : List (Bor (List ℕ))) (i : ℕ) (d : Bor (List ℕ)) → i < length ps → joined_pieces (take (i + 1) ps) ≡ joined_pieces (take i ps) ++ (get_or ps i d).now
one_more ps i d lt =
    ap joined_pieces (take_more ps i d lt) ∙ pieces-append (take i ps) (get_or ps i d ∷ []) ∙ ap (λ (l : List ℕ). joined_pieces (take i ps) ++ l) (append-nil ((get_or ps i d).now))

take_short : (n : ℕ) (l : List ℕ) → take n l ≡ take (min n (length l)) l
take_short n l = sym (take_min n l)

-- a front of a piece behind the pieces before is a front of all
pub front_more : (old mid new : Option (List ℕ)) (ps : List (Bor (List ℕ))) (i : ℕ) (d : Bor (List ℕ)) → i < length ps → Appends old mid (joined_pieces (take i ps)) → AppendsFront mid new ((get_or ps i d).now)
    → AppendsFront old new (joined_pieces ps)
front_more old mid new ps i d lt before front =
    let piece = (get_or ps i d).now in
    let m = min front.0 (length piece) in
    let rest = joined_pieces (drop (i + 1) ps) in
    let whole : joined_pieces ps ≡ joined_pieces (take i ps) ++ (piece ++ rest) =
    ap joined_pieces (sym (take-append-drop (i + 1) ps)) ∙ pieces-append (take (i + 1) ps) (drop (i + 1) ps) ∙ ap (λ (l : List ℕ). l ++ rest) (one_more ps i d lt) ∙ append_assoc (joined_pieces (take i ps)) piece rest in
    let cut : take (length (joined_pieces (take i ps)) + m) (joined_pieces ps) ≡ joined_pieces (take i ps) ++ take front.0 piece =
    ap (λ (l : List ℕ). take (length (joined_pieces (take i ps)) + m) l) whole
    ∙ take-append-add (joined_pieces (take i ps)) (piece ++ rest) m
    ∙ ap (λ (l : List ℕ). joined_pieces (take i ps) ++ l) (take-append-le m piece rest (omega arith) ∙ sym (take_short front.0 piece)) in
    (length (joined_pieces (take i ps)) + m, subst (λ (l : List ℕ). Appends old new l) (sym cut) (Appends-append old mid new (joined_pieces (take i ps)) (take front.0 piece) before front.1))

-- eight pieces, one by one
pub eight : (a b c d e f g h a' b' c' d' e' f' g' h' : List ℕ) → a ≡ a' → b ≡ b' → c ≡ c' → d ≡ d' → e ≡ e' → f ≡ f' → g ≡ g' → h ≡ h'
    → joined (a ∷ b ∷ c ∷ d ∷ e ∷ f ∷ g ∷ h ∷ []) ≡ joined (a' ∷ b' ∷ c' ∷ d' ∷ e' ∷ f' ∷ g' ∷ h' ∷ [])
eight a b c d e f g h a' b' c' d' e' f' g' h' p q r s t u v w = rw (p, q, r, s, t, u, v, w) refl

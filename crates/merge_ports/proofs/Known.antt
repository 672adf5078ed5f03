-- Bytes moved after bytes, where a port tells them.
use Rattle.std.proofs.Common.{ℕ, ◌+◌, ◌≤◌, List, ◌++◌, take, drop, append_assoc, refl, arith, length, ◌-◌, length-append, length-drop, length-take}
use Rattle.std.proofs.KnownBytes.{Consumes-kept}
use Rattle.std.proofs.Math.Seq.{take-add, take-length}
use Rattle.std.specs.Prelude.{Some, None}
use Rattle.std.specs.declared.option.Option.{Option}
use Rattle.std.specs.Io.KnownBytes.{Appends, Consumes, Keeps}
use Rattle.merge_ports.specs.Parts.{ConsumesAtMost}

-- bytes behind bytes
pub Appends-append : (a b c : Option (List ℕ)) (xs ys : List ℕ) → Appends a b xs → Appends b c ys → Appends a c (xs ++ ys)
Appends-append None b c xs ys p q = tt
Appends-append (Some x) None c xs ys p q = absurd p
Appends-append (Some x) (Some y) None xs ys p q = absurd q
Appends-append (Some x) (Some y) (Some z) xs ys p q = rw (q, p, append_assoc) refl

-- the next bytes of a piece behind its front, in the form that `&piece[i..]` gives
pub Appends-take : (a b c : Option (List ℕ)) (bytes : List ℕ) (i n : ℕ) → Appends a b (take i bytes) → Appends b c (take n (take (length bytes - i) (drop i bytes))) → Appends a c (take (i + n) bytes)
Appends-take a b c bytes i n p q =
    rw (take-add i n bytes) (Appends-append a b c (take i bytes) (take n (drop i bytes)) p (rw (← length-drop i bytes, take-length) at q))

-- bytes taken after bytes
pub Consumes-append : (a b c : Option (List ℕ)) (xs ys : List ℕ) → Consumes a b xs → Consumes b c ys → Consumes a c (xs ++ ys)
Consumes-append None b c xs ys p q = tt
Consumes-append (Some x) None c xs ys p q = absurd p
Consumes-append (Some x) (Some y) None xs ys p q = absurd q
Consumes-append (Some x) (Some y) (Some z) xs ys p q = rw (p, q, append_assoc) refl

-- the front of a piece taken after bytes
pub ConsumesAtMost-piece : (most room n : ℕ) (a b c : Option (List ℕ)) (xs piece : List ℕ) → Consumes a b xs → length xs ≤ most → Consumes b c (take n piece) → length piece ≤ room → ConsumesAtMost (most + room) a c
ConsumesAtMost-piece most room n a b c xs piece p few q short =
    (xs ++ take n piece, Consumes-append a b c xs (take n piece) p q, omega (arith, length-append xs (take n piece), length-take n piece))

-- nothing taken after bytes
pub ConsumesAtMost-kept : (most room : ℕ) (a b c : Option (List ℕ)) (xs : List ℕ) → Consumes a b xs → length xs ≤ most → Keeps b c → ConsumesAtMost (most + room) a c
ConsumesAtMost-kept most room a b c xs p few q = (xs, Consumes-kept a b c xs p q, omega arith)

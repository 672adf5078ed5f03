-- Counts of faults that rise.
use Rattle.std.proofs.Common.{arith, ℕ, ◌+◌, ◌≤◌, ◌-◌}
use Rattle.merge_ports.specs.Faults.{Rose}
use Rattle.merge_program.specs.Stores.{RoseBy}

pub rose-on : (n m a b c : ℕ) → RoseBy n a b → RoseBy m b c → RoseBy (n + m) a c
rose-on n m a b c p q = omega (arith, p, q)

pub rose-less : (n m a b : ℕ) → n ≤ m → RoseBy m a b → RoseBy n a b
rose-less n m a b le p = omega (arith, le, p)

pub rose-one : (n a b : ℕ) → 1 ≤ n → RoseBy n a b → Rose a b
rose-one n a b le p = omega (arith, le, p)

-- The bytes so far.
use Rattle.std.proofs.Common.{ℕ, ◌<◌, slice_index}
use Rattle.merge_site.proofs.loading.are_bytes.Given as goal

abbrev pub invariant-loop-i : goal.invariant-loop-i
invariant-loop-i l = (k : ℕ) → k < l.i → slice_index l.octets k < 256

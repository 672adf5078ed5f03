-- The lines of the articles so far, and those that are left.
use Rattle.std.proofs.Common.{◌≡◌, ◌++◌, drop, string_bytes}
use Rattle.merge_model.specs.Script.Play.{names_of}
use Rattle.merge_model.specs.Script.Text.{counts_from}
use Rattle.merge_report.proofs.rows.add_counts.Given as goal

abbrev pub invariant-loop-place : goal.invariant-loop-place
invariant-loop-place l = string_bytes l.text ++ counts_from (names_of l.publication) l.place (drop l.place l.counts) ≡ string_bytes l.initial.text ++ counts_from (names_of l.publication) 0 l.counts

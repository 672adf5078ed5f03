use Rattle.std.proofs.Common.{◌≡◌, ◌<◌, ◌^◌, max, drop}
use Rattle.merge_ident.specs.Grants.{greatest_end}
use Rattle.merge_ident.proofs.asks.greatest_of.Given as goal

-- the greatest so far, and that of what is left
abbrev pub invariant-loop-grant : goal.invariant-loop-grant
invariant-loop-grant l = record {
  greatest : max l.greatest (greatest_end l.article (drop l.grant-index l.grants)) ≡ greatest_end l.article l.grants;
  bound : l.greatest < 2 ^ 63;
}

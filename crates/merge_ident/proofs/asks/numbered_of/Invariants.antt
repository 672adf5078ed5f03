use Rattle.std.proofs.Common.{◌≡◌, find, drop}
use Rattle.merge_ident.specs.Grants.{is_numbered}
use Rattle.merge_ident.proofs.asks.numbered_of.Given as goal

-- none of those so far has the number
abbrev pub invariant-loop-grant : goal.invariant-loop-grant
invariant-loop-grant l = find (is_numbered l.ask.article l.ask.site.0 l.number) (drop l.grant-index l.grants) ≡ find (is_numbered l.ask.article l.ask.site.0 l.number) l.grants

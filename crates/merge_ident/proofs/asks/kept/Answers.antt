use Rattle.std.proofs.Common.{sym, ◌∙◌, refl}
use Rattle.merge_ident.proofs.Added.{numbered_in_either, numbered_is_some}
use Rattle.merge_ident.proofs.asks.kept.Goals as goal

-- one grant has the number
pub unreachable-requires : goal.unreachable-requires
unreachable-requires c =
    let some = numbered_is_some c.args.grants.now c.args.planned.now c.args.ask.article c.args.ask.site.0 c.args.ask.have c.requires.numbered c.requires.below in
    let absent = rw (sym c.numbered_in.ensures ∙ c.in-None.is) at some in
    cc absent

pub returns : goal.returns
returns c =
    rw (numbered_in_either c.args.grants.now c.args.planned.now c.args.ask.article c.args.ask.site.0 c.args.ask.have c.requires.numbered c.requires.below, sym c.numbered_in.ensures ∙ c.in-Some.is) refl

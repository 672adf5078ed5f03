use Rattle.merge_part.proofs.Shown.{given_by_sibling, some_on}
use Rattle.merge_part.proofs.siblings.sites_by_sibling.Goals as goal

pub returns-then-is_only_link : goal.returns-then-is_only_link
returns-then-is_only_link c =
    some_on c.sites_by_children.result _ _ (λ sites shown.
    given_by_sibling c.args.kept.now.rules.links _ _ _ c.args.number c.args.link.now c.args.value.now shown.0 sites c.requires.link (rw c.as_slice.ensures at c.is_only_link.ensures c.if-is_only_link.true) shown.1 shown.3 (c.requires.met shown.0 shown.2))
    c.sites_by_children.ensures

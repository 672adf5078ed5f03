use Rattle.std.proofs.Common.{◌≡◌, false, refl, rules, true}
use Rattle.std.proofs.lemmas.List.{append-nil}
use Rattle.merge_table.specs.Edits.{IsReady}
use Rattle.merge_pub.proofs.publisher.Publisher.draft_granting.Goals as goal

pub returns-clause-ready : goal.returns-clause-ready
unfolding IsReady
returns-clause-ready c = record {
  rows = search rules;
  mappings = search rules;
  sites = search rules;
  held = search rules;
  gens = search rules;
  conflicts = search rules;
  grants = search rules;
  plan = search rules;
  changed = search rules;
  moved = search rules;
  live = search rules;
  indexed = search rules;
  move_indexed = search rules;
  keeps = rw c.grant_draft.ensures.changes (let keeps = rw (← c.self.view_is) at c.requires.keeps in record {
    rows = keeps.rows;
    rising = rw (append-nil c.self.inside.conflicts.rows) keeps.rising;
    conflicts = rw (append-nil c.self.inside.conflicts.rows) keeps.conflicts;
    held = keeps.held;
    heard = keeps.heard;
  });
}

-- what takes no memory is not refused
pub returns-in_err-gens-clause-nothing : goal.returns-in_err-gens-clause-nothing
returns-in_err-gens-clause-nothing c = let no : false ≡ true = c.in_err-gens.ensures.nothing refl in absurd cc

use Rattle.std.proofs.Common.{◌≡◌, false, true}
use Rattle.merge_pub.specs.Held.{publication_of, tables_of}
use Rattle.merge_pub.proofs.Asked.{acts-behind, joined-acts, joined-still}
use Rattle.merge_pub.proofs.publisher.Publisher.draft_join.Goals as goal

pub returns-clause-made : goal.returns-clause-made
returns-clause-made c =
    joined-acts (publication_of c.args.self.now) c.args.now c.args.m.now (tables_of c.args.self.now) _ _ c.joined_state.result c.moment_at-latest.result c.in_ok-state.ensures.refusal c.in_ok-state.ensures.state
    c.if-m-state.false c.moment_at-latest.ensures c.joined_state.ensures c.in_ok-draft-2.ensures.made

pub returns-then-m-state-clause-made : goal.returns-then-m-state-clause-made
returns-then-m-state-clause-made c =
    joined-still (publication_of c.args.self.now) c.args.now c.args.m.now (tables_of c.args.self.now) _ _ c.moment_at-latest.result c.in_ok-state.ensures.refusal c.in_ok-state.ensures.state
    c.if-m-state.true c.moment_at-latest.ensures c.in_ok-draft.ensures.made

-- one that does not act takes no memory
pub returns-in_err-draft-clause-nothing : goal.returns-in_err-draft-clause-nothing
returns-in_err-draft-clause-nothing c = λ still why was. let no : false ≡ true = c.in_err-draft.ensures.nothing in absurd cc

pub returns-in_err-draft-2-clause-nothing : goal.returns-in_err-draft-2-clause-nothing
returns-in_err-draft-2-clause-nothing c = λ still why was. absurd (acts-behind c.args.m.now (tables_of c.args.self.now) c.in_ok-state.state c.in_ok-state.ensures.state c.if-m-state.false still)

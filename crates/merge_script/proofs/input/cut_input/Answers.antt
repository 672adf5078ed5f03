use Rattle.std.proofs.Common.{arith, sym, ◌∙◌}
use Rattle.merge_script.proofs.Bars.{publication_here, script_here, publication_more, script_more}
use Rattle.merge_script.proofs.input.cut_input.Goals as goal

pub returns-then-is_bar-clause-publication : goal.returns-then-is_bar-clause-publication
returns-then-is_bar-clause-publication c =
    c.split_at.ensures.front
    ∙ publication_here c.args.input.now c.split_at.result.1.now c.split_at-in-loop-at.result.0.now c.loop-at.at c.line_end-end.result c.split_at.ensures.back c.split_at-in-loop-at.ensures.front c.line_end-end.ensures.value
    c.line_end-end.ensures.within (sym c.is_bar.ensures ∙ c.if-is_bar.true) c.loop-at.invariant.publication

pub returns-then-is_bar-clause-script : goal.returns-then-is_bar-clause-script
returns-then-is_bar-clause-script c =
    c.split_at-then-is_bar.ensures.back
    ∙ script_here c.args.input.now c.split_at.result.1.now c.split_at-in-loop-at.result.0.now c.loop-at.at c.line_end-end.result c.min-behind.result c.split_at.ensures.back c.split_at-in-loop-at.ensures.front c.line_end-end.ensures.value
    c.line_end-end.ensures.within (sym c.is_bar.ensures ∙ c.if-is_bar.true) c.min-behind.ensures c.loop-at.invariant.script

pub loop-at-preserved : goal.loop-at-preserved
loop-at-preserved c = record {
  within = omega (arith, c.min-behind.ensures, c.split_at.ensures.back_len);
  publication = publication_more c.args.input.now c.split_at.result.1.now c.split_at-in-loop-at.result.0.now c.loop-at.at c.line_end-end.result c.min-behind.result c.split_at.ensures.back c.split_at-in-loop-at.ensures.front
      c.line_end-end.ensures.value c.line_end-end.ensures.within (sym c.is_bar.ensures ∙ c.if-is_bar.false) c.min-behind.ensures c.loop-at.invariant.publication;
  script = script_more c.args.input.now c.split_at.result.1.now c.split_at-in-loop-at.result.0.now c.loop-at.at c.line_end-end.result c.min-behind.result c.split_at.ensures.back c.split_at-in-loop-at.ensures.front
      c.line_end-end.ensures.value c.line_end-end.ensures.within (sym c.is_bar.ensures ∙ c.if-is_bar.false) c.min-behind.ensures c.loop-at.invariant.script;
}

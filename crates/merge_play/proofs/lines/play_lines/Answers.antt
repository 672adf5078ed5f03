use Rattle.std.proofs.Common.{◌≡◌, ◌∙◌, arith, refl}
use Rattle.std.proofs.lemmas.Grind.{common_steps}
use Rattle.merge_world.specs.Restarts.{IsDamagedAt}
use Rattle.merge_play.proofs.SoFar.{line-lost, lost-before, so-far-at-start, so-far-cut, so-far-done, so-far-ends, so-far-more, so-far-ordered, so-far-stops, so-far-wrong}
use Rattle.merge_play.proofs.lines.play_lines.Goals as goal

pub loop-rest-init : goal.loop-rest-init
loop-rest-init g c = record { so_far = so-far-at-start _ _ _ _; counted = omega arith; early = omega arith; later = omega arith; writes = omega arith }

pub play_line-requires-clause-ordered : goal.play_line-requires-clause-ordered
play_line-requires-clause-ordered g c = so-far-ordered _ _ _ _ _ _ _ _ _ c.loop-rest.invariant.so_far c.requires.ordered

pub loop-rest-preserved : goal.loop-rest-preserved
loop-rest-preserved g c = let i = c.loop-rest.invariant in let ok = c.in_ok-play_line.ensures in let less = c.cut_line.ensures.less in record {
  so_far = so-far-more _ _ _ _ _ _ _ _ _ _ _ _ _ (rw c.cut_line.ensures.line at i.so_far) ok.ok;
  counted = let counted = i.counted in omega (arith, counted, less);
  early = let early = i.early in let soon = ok.soon in omega (arith, early, soon, less);
  later = let later = i.later in let on = ok.later in omega (arith, later, on);
  writes = let writes = i.writes in let on = ok.writes in omega (arith, writes, on);
}

pub returns-in_err-play_line-clause-part : goal.returns-in_err-play_line-clause-part
returns-in_err-play_line-clause-part g c = so-far-cut _ _ _ _ _ _ _ _ _ _ _ _ _ c.in_err-play_line.ensures.later (rw c.cut_line.ensures.line at c.loop-rest.invariant.so_far) c.in_err-play_line.ensures.part

pub returns-clause-part : goal.returns-clause-part
returns-clause-part g c = so-far-stops _ _ _ _ _ _ _ _ _ _ _ _ refl refl refl c.loop-rest.invariant.so_far

pub returns-in_err-play_line-clause-before : goal.returns-in_err-play_line-clause-before
returns-in_err-play_line-clause-before g c = λ line word is.
    let said = c.in_err-play_line.ensures.no_event line word (grind (arith, common_steps, is, c.from_residual.ensures)) in
    so-far-wrong _ _ _ _ _ _ _ _ _ _ _ _ _ word said.1 (rw c.cut_line.ensures.line at c.loop-rest.invariant.so_far) c.in_err-play_line.ensures.part

pub returns-in_err-play_line-clause-ended : goal.returns-in_err-play_line-clause-ended
returns-in_err-play_line-clause-ended g c = λ why is.
    let done = c.in_err-play_line.ensures.ended why (grind (arith, common_steps, is, c.from_residual.ensures)) in
    lost-before why _ _ _ c.loop-rest.invariant.later (line-lost _ _ _ _ _ why done)

pub returns-in_err-play_line-clause-restart : goal.returns-in_err-play_line-clause-restart
returns-in_err-play_line-clause-restart g c = λ why is.
    let done = c.in_err-play_line.ensures.ended why (grind (arith, common_steps, is, c.from_residual.ensures)) in
    let damaged = IsDamagedAt g.P.PublisherSite.Damage g.S.SubscriberSite.Damage (λ s. (g.S.SubscriberSite.view s).tables.site.0) c.play_line.new.sites.publisher c.play_line.new.sites.subscribers.items in
    so-far-ends _ _ _ _ _ _ _ _ _ _ _ _ damaged _ _ why c.in_err-play_line.ensures.damaged (grind (arith, common_steps, is, c.from_residual.ensures)) c.in_err-play_line.ensures.later (rw c.cut_line.ensures.line at c.loop-rest.invariant.so_far) done (line-lost _ _ _ _ _ why done)

pub returns-clause-done : goal.returns-clause-done
returns-clause-done g c = so-far-done _ c.loop-rest.rest.now (grind (arith, common_steps, c.is_empty.ensures, c.loop-rest-test.false)) _ _ _ _ _ _ _ c.loop-rest.invariant.so_far

pub returns-in_err-play_line-clause-stays : goal.returns-in_err-play_line-clause-stays
returns-in_err-play_line-clause-stays g c = c.in_err-play_line.ensures.stays ∙ c.loop-rest.invariant.so_far.happened.sites

pub returns-clause-stays : goal.returns-clause-stays
returns-clause-stays g c = c.loop-rest.invariant.so_far.happened.sites

pub returns-in_err-play_line-clause-alike : goal.returns-in_err-play_line-clause-alike
returns-in_err-play_line-clause-alike g c = c.in_err-play_line.ensures.alike ∙ c.loop-rest.invariant.so_far.happened.publications

pub returns-clause-alike : goal.returns-clause-alike
returns-clause-alike g c = c.loop-rest.invariant.so_far.happened.publications

pub returns-in_err-play_line-clause-publication : goal.returns-in_err-play_line-clause-publication
returns-in_err-play_line-clause-publication g c = c.in_err-play_line.ensures.publication ∙ c.loop-rest.invariant.so_far.happened.publication

pub returns-clause-publication : goal.returns-clause-publication
returns-clause-publication g c = c.loop-rest.invariant.so_far.happened.publication

use Rattle.std.proofs.Common.{◌≡◌, true, rules, sym}
use Rattle.merge_units.specs.declared.version.Body.TheVariants.{Live}
use Rattle.merge_units.specs.Version.{has_news_over}
use Rattle.merge_units.proofs.Fits.{live_case_of}
use Rattle.merge_units.proofs.case.classify.Goals as goal

-- both live, and have news
pub returns-in_ok-sides-in-Live-Live-clause-case : goal.returns-in_ok-sides-in-Live-Live-clause-case
returns-in_ok-sides-in-Live-Live-clause-case c =
    let here : c.args.publisher.now.body ≡ Live c.in-Live-Live.ours = search rules in
    let there : c.args.incoming.now.body ≡ Live c.in-Live-Live.theirs = search rules in
    let news_here : has_news_over c.args.publisher.now c.args.incoming.now ≡ true = search rules in
    let news_there : has_news_over c.args.incoming.now c.args.publisher.now ≡ true = search rules in
    rw (c.live_case.ensures, c.in_ok-sides-in-Live-Live.ensures, c.as_slice.ensures, c.as_slice-in-Live-Live.ensures)
    (sym (live_case_of c.args.publisher.now c.args.incoming.now c.in-Live-Live.ours c.in-Live-Live.theirs here there news_here news_there))

use Rattle.std.specs.Prelude.{◌≡◌, ◌++◌, map}
use Rattle.merge_model.specs.Subscriber.Sending.{want_of}
use Rattle.merge_sub.proofs.sending.wants.Given as goal

abbrev pub invariant-loop-article : goal.invariant-loop-article
invariant-loop-article l = l.wants ++ map want_of l.article-iterator ≡ map want_of l.held.rows

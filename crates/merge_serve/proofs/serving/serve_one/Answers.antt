-- What was attended may be closed.
use Rattle.merge_serve.proofs.Ends.{served_by}
use Rattle.merge_serve.proofs.serving.serve_one.Goals as goal

pub close-requires : goal.close-requires
close-requires g c = served_by _ _ _ _ _ _ c.attend.result c.requires.noted c.attend.ensures.noted c.requires.fresh c.attend.ensures.attended

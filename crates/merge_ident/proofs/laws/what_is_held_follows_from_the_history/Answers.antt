use Rattle.std.proofs.Common.{[]}
use Rattle.merge_ident.proofs.History.{holder-history}
use Rattle.merge_ident.proofs.laws.what_is_held_follows_from_the_history.Goals as goal

pub returns : goal.returns
returns c = λ threshold events fit. holder-history events threshold [] tt fit

use Rattle.std.proofs.Common.{◌≡◌, ◌∙◌, Bool, true, false, not, refl, sym}
use Rattle.std.proofs.lemmas.Result.{IfOk-weaker}
use Rattle.merge_sqlite.proofs.keeper.opened.Goals as goal

pub returns-clause-unlimited : goal.returns-clause-unlimited
returns-clause-unlimited c =
    IfOk-weaker c.prepared.result _ _ (λ keeper same. same ∙ c.make_table.ensures.limit ∙ c.in_ok-conn.ensures.fresh.unlimited) c.prepared.ensures.limit

is_idle : (autocommit within : Bool) → autocommit ≡ true → autocommit ≡ not within → within ≡ false
is_idle autocommit false tested is = refl
is_idle autocommit true tested is = sym tested ∙ is

pub returns-clause-idle : goal.returns-clause-idle
returns-clause-idle c =
    c.prepared.ensures.idle (is_idle c.is_autocommit.result c.make_table.new.conn.in_transaction c.if-not-is_autocommit.false c.is_autocommit.ensures.value)

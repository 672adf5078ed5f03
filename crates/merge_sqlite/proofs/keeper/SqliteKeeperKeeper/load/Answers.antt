use Rattle.merge_sqlite.specs.Causes.{fault_of}
use Rattle.merge_sqlite.proofs.Loading.{loaded, not_loaded}
use Rattle.merge_sqlite.proofs.keeper.SqliteKeeperKeeper.load.Goals as goal

pub returns-in-Ok-clause-loaded : goal.returns-in-Ok-clause-loaded
returns-in-Ok-clause-loaded g c =
    loaded g.S.Store c.args.self.now.all.text c.args.self.now.conn c.read_all.new.conn c.in-Ok.entries c.in-Ok.ensures.read c.read_all.ensures.idle c.read_all.ensures.crash

pub returns-in-Err-clause-loaded : goal.returns-in-Err-clause-loaded
returns-in-Err-clause-loaded g c =
    not_loaded g.S.Store c.args.self.now.all.text c.args.self.now.conn c.read_all.new.conn (fault_of c.in-Err.stop) c.noted.result c.noted.ensures.fault c.in-Err.ensures.err c.read_all.ensures.idle c.read_all.ensures.crash

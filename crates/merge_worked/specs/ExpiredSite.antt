-- A site expires behind the retention, and a generation is forgotten one day later.
use Rattle.std.specs.Prelude.{codes}
use Rattle.merge_worked.specs.Publications.{item_for_one}
use Rattle.merge_worked.specs.Worked.{WorkedScript}

abbrev pub expired_site : WorkedScript
expired_site = record {
  publication = item_for_one;
  input = codes "---\nsync 1\ninsert 0 item qty=1\nwait 1209600\nsync 1\nwait 1209601\nsync 1\nwait 86399\npurge\nwait 1\npurge\nreinit 1\nsync 1\n";
  answers = codes "done 0 0 0\nrow 00000000-0000-8000-8000-000000000001\nnow 1209600\ndone 0 1 1\nnow 2419201\nstopped 0 0 refused 2 expired 1209600 2419201\nnow 2505600\npurged 0 0 0\nnow 2505601\npurged 0 0 1\ndiscarded 0\ndone 0 1 1\n";
}

use Rattle.merge_batch.proofs.Valid.{valid_upload, fitting_download}
use Rattle.merge_batch.proofs.Counts.{equal_counts}
use Rattle.merge_batch.proofs.laws.validity_laws.Goals as goal

pub returns : goal.returns
returns c = record { upload = valid_upload; download = fitting_download; counts = equal_counts }

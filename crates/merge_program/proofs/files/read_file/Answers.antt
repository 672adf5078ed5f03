-- A file is opened, read, and given back with its faults.
use Rattle.std.proofs.Common.{refl}
use Rattle.merge_program.proofs.Readings.{file-unread, file-whole, unopened-so}
use Rattle.merge_program.proofs.files.read_file.Goals as goal

pub returns-in-Err-clause-unread : goal.returns-in-Err-clause-unread
returns-in-Err-clause-unread g c = unopened-so _ _ _ _ _ c.unopened_text.ensures _ refl c.in-Err.ensures.cause

pub returns-clause-whole : goal.returns-clause-whole
returns-clause-whole g c = file-whole _ _ c.in-Ok.ensures.left _ c.read_input-read.ensures.whole

pub returns-clause-unread : goal.returns-clause-unread
returns-clause-unread g c = file-unread _ _ c.in-Ok.ensures.left _ _ c.in-Ok.ensures.fresh _ _ _ c.in-Ok.ensures.cause.kept c.text_back.ensures.counts _ c.read_input-read.ensures.unread

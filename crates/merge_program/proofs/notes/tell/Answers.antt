-- What was told, by the ending.
use Rattle.std.proofs.Common.{refl, string_bytes}
use Rattle.merge_program.proofs.Tellings.{told, told-made}
use Rattle.merge_program.proofs.notes.tell.Goals as goal

pub returns-in-Refused : goal.returns-in-Refused
returns-in-Refused g c = told-made _ _ _ _ (λ text. string_bytes text) _ _ c.in-Refused.is refl c.refused_note.result c.refused_note.ensures c.write_made-in-Refused.ensures.ok c.write_made-in-Refused.ensures.err

pub returns-in-ReadFault : goal.returns-in-ReadFault
returns-in-ReadFault g c = told _ _ _ _ _ _ c.in-ReadFault.is c.write_note.ensures

pub returns-in-WriteFault : goal.returns-in-WriteFault
returns-in-WriteFault g c = told _ _ _ _ _ _ c.in-WriteFault.is c.write_note-in-WriteFault.ensures

pub returns-in-StoreFault : goal.returns-in-StoreFault
returns-in-StoreFault g c = told _ _ _ _ _ _ c.in-StoreFault.is c.write_note-in-StoreFault.ensures

pub returns-in-UnknownArticle : goal.returns-in-UnknownArticle
returns-in-UnknownArticle g c = told _ _ _ _ _ _ c.in-UnknownArticle.is c.write_note-in-UnknownArticle.ensures

pub returns-in-TooLong : goal.returns-in-TooLong
returns-in-TooLong g c = told _ _ _ _ _ _ c.in-TooLong.is c.write_note-in-TooLong.ensures

pub returns-in-LinkFault : goal.returns-in-LinkFault
returns-in-LinkFault g c = told _ _ _ _ _ _ c.in-LinkFault.is c.write_note-in-LinkFault.ensures

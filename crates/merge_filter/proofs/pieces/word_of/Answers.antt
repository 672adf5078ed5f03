-- The words of four kinds don't depend on their place.
use Rattle.merge_filter.proofs.pieces.word_of.Goals as goal

pub returns-in-Number : goal.returns-in-Number
returns-in-Number c = rw c.in-Number.is c.number_of.ensures

pub returns-in-Hex : goal.returns-in-Hex
returns-in-Hex c = rw c.in-Hex.is c.bytes_of.ensures

pub returns-in-Quoted : goal.returns-in-Quoted
returns-in-Quoted c = rw c.in-Quoted.is c.text_of.ensures

pub returns-in-Bracketed : goal.returns-in-Bracketed
returns-in-Bracketed c = rw c.in-Bracketed.is c.bracketed.ensures

-- What the notes are told of an ending.
use Rattle.std.specs.Prelude.{◌≡◌, ◌⊎◌, ◌++◌, ◌∷◌, Bool, IsTrue, List, Option, [], codes, false, true, unwrap_or, ℕ}
use Rattle.std.specs.Fmt.{decimal}
use Rattle.std.specs.Io.KnownBytes.{Appends}
use Rattle.hex.specs.Hex.{encode_lower}
use Rattle.merge_ports.specs.Faults.{Rose}
use Rattle.merge_ports.specs.Parts.{AppendsFront}
use Rattle.merge_schema.specs.Faults.{number_of, words_of}
use Rattle.merge_program.specs.declared.ending.Ending.{Ending}
use Rattle.merge_program.specs.declared.ending.Ending.TheVariants.{BadReply, Damaged, Declined, Done, Expired, LinkFault, NoEvent, NoMemory, NotTaken, ReadFault, Refused, StoreFault, TooLong, UnknownArticle, UnknownSite, Usage, WriteFault}

-- a key in hexadecimal, and `-` where it is empty
abbrev pub key_text : List ℕ → List ℕ
key_text [] = codes "-"
key_text (byte ∷ key) = encode_lower (byte ∷ key)

-- One line for each ending but the good one, where `help` is the program's help. The help has lines of its own.
abbrev pub note_of : (help : List ℕ) → Ending → List ℕ
note_of help Done = []
note_of help Usage = codes "usage\n" ++ help
note_of help (NotTaken line) = codes "usage\n" ++ help
note_of help (Refused fault) = codes "publication refused: " ++ decimal (unwrap_or (number_of fault) 0) ++ 32 ∷ words_of fault ++ 10 ∷ []
note_of help (NoEvent line word) = codes "line " ++ decimal line ++ codes " word " ++ decimal word ++ codes ": no event\n"
note_of help ReadFault = codes "read fault\n"
note_of help WriteFault = codes "write fault\n"
note_of help StoreFault = codes "store fault\n"
note_of help (Damaged table key) = codes "damaged " ++ decimal table ++ 32 ∷ key_text key ++ 10 ∷ []
note_of help NoMemory = codes "no memory\n"
note_of help UnknownSite = codes "refused 1\n"
note_of help UnknownArticle = codes "refused 18\n"
note_of help TooLong = codes "input too long\n"
note_of help LinkFault = codes "link fault\n"
note_of help (Expired last_sync now) = codes "expired " ++ decimal last_sync.0 ++ 32 ∷ decimal now.0 ++ 10 ∷ []
note_of help (BadReply place) = codes "bad reply " ++ decimal place ++ 10 ∷ []
note_of help (Declined number) = codes "refused " ++ decimal number ++ 10 ∷ []

-- A note that has the help, or what its ending carries, is put together, and that takes memory. The others are fixed.
abbrev pub is_put_together : Ending → Bool
is_put_together Usage = true
is_put_together (NotTaken line) = true
is_put_together (Refused fault) = true
is_put_together (NoEvent line word) = true
is_put_together (Damaged table key) = true
is_put_together (Expired last_sync now) = true
is_put_together (BadReply place) = true
is_put_together (Declined number) = true
is_put_together other = false

-- The notes got the whole of a text; or a front of it, since a write failed.
abbrev pub IsTold : List ℕ → (old new : Option (List ℕ)) → (before after : ℕ) → Type 0
IsTold note old new before after = Appends old new note ⊎ (AppendsFront old new note × Rose before after)

-- What the notes got of an ending: its note, or nothing, where memory was wanting to put that together.
pub record EndingIsTold (ending : Ending) (old new : Option (List ℕ)) (before after : ℕ) : Type 0 where
  pub help : List ℕ
  pub told : IsTold (note_of help ending) old new before after ⊎ (IsTrue (is_put_together ending) × (new ≡ old))

-- Texts in memory by their paths.
use Rattle.std.specs.Prelude.{ℕ, Bool, ◌||◌, List, bytes_eq, is_none, option_map}
use Rattle.std.specs.List.{find}
use Rattle.std.specs.declared.option.Option.{Option}
use Rattle.merge_ports.specs.Faults.{is_listed}
use Rattle.merge_ports.specs.declared.memory.MemorySource.{MemorySource}
use Rattle.merge_outside.specs.declared.memory.MemoryText.{MemoryText}

-- the first text at a path
abbrev pub text_at : List MemoryText → List ℕ → Option MemoryText
text_at texts path = find (λ (text : MemoryText). bytes_eq text.path path) texts

abbrev pub bytes_at : List MemoryText → List ℕ → Option (List ℕ)
bytes_at texts path = option_map (λ (text : MemoryText). text.bytes) (text_at texts path)

-- a text of which nothing was read yet
abbrev pub source_of : MemoryText → MemorySource
source_of text = record { bytes = text.bytes; taken = 0; failing = text.failing; calls = 0; faults = 0 }

-- the opening of a text fails: its number is listed, or no text has the path
abbrev pub text_fails : List ℕ → ℕ → List MemoryText → List ℕ → Bool
text_fails failing call texts path = is_listed failing call || is_none (text_at texts path)

-- What seats were told is held against the journal.
use Rattle.std.specs.Prelude.{List, [], false, filter, map, ℕ, ◌==◌, ◌∷◌, ◌≡◌, ◌≢◌, ◌⊎◌, replicate}
use Rattle.std.specs.List.{AllByRecursion}
use Rattle.merge_desk.specs.Replay.{mark_in}
use Rattle.merge_desk.specs.Views.{SeatView}
use Rattle.merge_desk.specs.declared.entry.Entry.{Entry}
use Rattle.merge_desk.specs.declared.mark.Mark.{Mark}

-- the marks that the journal has of a seat, in order
abbrev pub kept_marks : ℕ → List Entry → List Mark
kept_marks seat journal = map mark_in (filter (λ (e : Entry). e.seat == seat) journal)

abbrev pub no_digest : List ℕ
no_digest = replicate 32 0

-- what stands for a mark that there is not, beside one that there is
abbrev pub mark_for_missing : Mark → Mark
mark_for_missing other = record { place = 0; moment = other.moment; kind = other.kind; refused = false; asked = no_digest; digest = no_digest }

-- two lists of marks differ, and these are the first two that do
abbrev pub FirstDiffer : List Mark → List Mark → Mark → Mark → Type 0
FirstDiffer [] [] a b = ⊥
FirstDiffer (t ∷ ts) [] a b = (a ≡ t) × (b ≡ mark_for_missing t)
FirstDiffer [] (k ∷ ks) a b = (a ≡ mark_for_missing k) × (b ≡ k)
FirstDiffer (t ∷ ts) (k ∷ ks) a b = ((t ≡ k) × FirstDiffer ts ks a b) ⊎ ((t ≢ k) × (a ≡ t) × (b ≡ k))

-- each seat was told what the journal has of it
abbrev pub AllToldAsKept : List Entry → List SeatView → Type 0
AllToldAsKept journal seats = AllByRecursion (λ (s : SeatView). s.told ≡ kept_marks s.number journal) seats

-- the first seat that was told something else, with the first two marks that differ
abbrev pub FirstDiffering : List Entry → List SeatView → ℕ → Mark → Mark → Type 0
FirstDiffering journal [] seat told kept = ⊥
FirstDiffering journal (s ∷ seats) seat told kept =
    ((s.told ≡ kept_marks s.number journal) × FirstDiffering journal seats seat told kept)
    ⊎ ((seat ≡ s.number) × FirstDiffer s.told (kept_marks s.number journal) told kept)

-- What is printed of a journal.
use Rattle.std.specs.Fmt.{decimal}
use Rattle.std.specs.Prelude.{Bool, List, [], codes, count_by, false, length, true, ℕ, ◌∷◌}
use Rattle.merge_batch.specs.Heads.{kind_of}
use Rattle.merge_batch.specs.declared.request.Kind.{Kind}
use Rattle.merge_batch.specs.declared.request.Kind.TheVariants as kind
use Rattle.merge_model.specs.Script.Text.{line}
use Rattle.merge_desk.specs.declared.entry.Entry.{Entry}

abbrev pub same_kind : Kind → Kind → Bool
same_kind kind.Join kind.Join = true
same_kind kind.Upload kind.Upload = true
same_kind kind.Ranges kind.Ranges = true
same_kind kind.Download kind.Download = true
same_kind kind.Refused kind.Refused = true
same_kind _ _ = false

abbrev pub is_of : Kind → Entry → Bool
is_of asked e = same_kind (kind_of e.request) asked

abbrev pub is_refusal : Entry → Bool
is_refusal e = e.mark.refused

-- one line: how many calls there are, how many have a request of each kind, and how many a reply that is a refusal
abbrev pub counts_line : (calls joins uploads ranges downloads refused : ℕ) → List ℕ
counts_line calls joins uploads ranges downloads refused = line (
    codes "calls" ∷ decimal calls
    ∷ codes "joins" ∷ decimal joins
    ∷ codes "uploads" ∷ decimal uploads
    ∷ codes "ranges" ∷ decimal ranges
    ∷ codes "downloads" ∷ decimal downloads
    ∷ codes "refused" ∷ decimal refused
    ∷ [])

abbrev pub summary_text : List Entry → List ℕ
summary_text journal = counts_line (length journal)
    (count_by (is_of kind.Join) journal) (count_by (is_of kind.Upload) journal) (count_by (is_of kind.Ranges) journal) (count_by (is_of kind.Download) journal)
    (count_by is_refusal journal)

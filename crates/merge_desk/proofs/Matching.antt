-- Marks that were told are held against a journal, entry by entry.
use Rattle.std.proofs.Common.{◌≡◌, ◌∷◌, ◌==◌, ◌∙◌, List, ℕ, true, false, inl, refl, sym, ap}
use Rattle.merge_desk.specs.Comparing.{AllToldAsKept, FirstDiffer, FirstDiffering, kept_marks}
use Rattle.merge_desk.specs.Views.{SeatView}
use Rattle.merge_desk.specs.declared.entry.Entry.{Entry}
use Rattle.merge_desk.specs.declared.mark.Mark.{Mark}

-- What is still to be compared decides: the rest of what was told, and the rest of the journal.
pub record Decides (number : ℕ) (told : List Mark) (journal : List Entry) (rest : List Mark) (behind : List Entry) : Type 0 where
  pub same : rest ≡ kept_marks number behind → told ≡ kept_marks number journal
  pub differ : (a b : Mark) → FirstDiffer rest (kept_marks number behind) a b → FirstDiffer told (kept_marks number journal) a b

pub kept-of-it : (number : ℕ) (e : Entry) (es : List Entry) → (e.seat == number) ≡ true → kept_marks number (e ∷ es) ≡ e.mark ∷ kept_marks number es
kept-of-it number e es h = rw h refl

pub kept-of-another : (number : ℕ) (e : Entry) (es : List Entry) → (e.seat == number) ≡ false → kept_marks number (e ∷ es) ≡ kept_marks number es
kept-of-another number e es h = rw h refl

pub behind-differs : (number : ℕ) (e : Entry) (es : List Entry) (rest : List Mark) (a b : Mark) → (e.seat == number) ≡ true
    → ((more : List Mark) → FirstDiffer rest (e.mark ∷ more) a b) → FirstDiffer rest (kept_marks number (e ∷ es)) a b
behind-differs number e es rest a b h differs = rw (kept-of-it number e es h) (differs (kept_marks number es))

pub decides-next : (number : ℕ) (told : List Mark) (journal : List Entry) (rest others : List Mark) (e : Entry) (es : List Entry) → (e.seat == number) ≡ true → rest ≡ e.mark ∷ others
    → Decides number told journal rest (e ∷ es) → Decides number told journal others es
decides-next number told journal rest others e es h is d = record {
  same = λ same. d.same (is ∙ ap (λ ms. e.mark ∷ ms) same ∙ sym (kept-of-it number e es h));
  differ = λ a b differ. d.differ a b (rw (is, kept-of-it number e es h) (inl (refl, differ)));
}

pub decides-past : (number : ℕ) (told : List Mark) (journal : List Entry) (rest : List Mark) (e : Entry) (es : List Entry) → (e.seat == number) ≡ false
    → Decides number told journal rest (e ∷ es) → Decides number told journal rest es
decides-past number told journal rest e es h d = record {
  same = λ same. d.same (same ∙ sym (kept-of-another number e es h));
  differ = λ a b differ. d.differ a b (rw (kept-of-another number e es h) differ);
}

-- The seats that are still to be compared decide.
pub record DecidesAll (journal : List Entry) (seats rest : List SeatView) : Type 0 where
  pub same : AllToldAsKept journal rest → AllToldAsKept journal seats
  pub differ : (n : ℕ) (a b : Mark) → FirstDiffering journal rest n a b → FirstDiffering journal seats n a b

pub decides-all-next : (journal : List Entry) (seats : List SeatView) (s : SeatView) (rest : List SeatView) → s.told ≡ kept_marks s.number journal
    → DecidesAll journal seats (s ∷ rest) → DecidesAll journal seats rest
decides-all-next journal seats s rest is d = record {
  same = λ same. d.same (is, same);
  differ = λ n a b differ. d.differ n a b (inl (is, differ));
}

-- The two laws of all of the words.
use Rattle.std.proofs.Common.{◌≡◌, ℕ, ◌≤◌, List, [], ◌∷◌, ◌++◌, length, Ok, refl, sym, ap, ◌∙◌, arith}
use Rattle.std.proofs.lemmas.List.{append-nil}
use Rattle.merge_types.specs.declared.values.Column.{Column}
use Rattle.merge_filter.specs.declared.word.Word.{Word}
use Rattle.merge_filter.specs.Syntax.{Syntax}
use Rattle.merge_filter.specs.Form.{filter_of, neg_at, many, syntax_if_ended, all_of}
use Rattle.merge_filter.specs.Grammar.{IsFilter, filter_words}
use Rattle.merge_filter.proofs.Complete.{filter_reads}
use Rattle.merge_filter.proofs.Heads.{no_word}
use Rattle.merge_filter.proofs.Sound.{all_sound, bind_ok}

ended_is : (x : Syntax) (ws : List Word) (t : Syntax) → syntax_if_ended x ws ≡ Ok t → (x ≡ t) × (ws ≡ [])
ended_is x [] t e = (cc, refl)
ended_is x (v ∷ ws) t e = absurd cc

pub found : (columns : List Column) (d : ℕ) (ws : List Word) (t : Syntax) → all_of columns d ws ≡ Ok t → IsFilter columns d ws t
unfolding all_of
found columns d ws t e =
    let b = bind_ok (filter_of (neg_at columns d) ws) (λ x. syntax_if_ended x.0 x.1) t e in
    let n = ended_is b.0.0 b.0.1 t b.2 in
    let f = all_sound columns d ws b.0.1 b.0.0 b.1 in
    (f.0, sym (append-nil (filter_words f.0)) ∙ ap (λ (us : List Word). filter_words f.0 ++ us) (sym n.1) ∙ f.1, f.2 ∙ n.0, f.3)

pub only : (columns : List Column) (d : ℕ) (ws : List Word) (t : Syntax) → length ws ≤ many → IsFilter columns d ws t → all_of columns d ws ≡ Ok t
unfolding all_of
only columns d ws t fits (f, e, g, h) =
    let short : length (filter_words f) ≤ many = omega (arith, ap length e) in
    let r = filter_reads columns f d [] short h no_word.0 no_word.1 in
    let s = ap (filter_of (neg_at columns d)) (sym (append-nil (filter_words f))) ∙ r in
    rw (← e, s, g) refl

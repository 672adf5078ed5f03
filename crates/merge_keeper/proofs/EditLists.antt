-- Lists of edits, one behind the other.
use Rattle.std.proofs.Common.{◌≡◌, ◌∙◌, ℕ, List, [], ◌∷◌, ◌++◌, map, refl, sym, ap, append_assoc}
use Rattle.merge_table.specs.declared.edit.Edit.{Edit}
use Rattle.merge_ident.specs.Holders.{Holder}
use Rattle.merge_ports.specs.declared.entry.EntryKey.{EntryKey}
use Rattle.merge_keeper.specs.Encoded.{encoded_edit}
use Rattle.merge_keeper.specs.Entries.{held_key, held_value}
use Rattle.merge_keeper.specs.Stored.{held_edits, held_put}

-- the edits of ranges that are put
pub held_map : (held : List (ℕ × Holder)) → map (λ (p : ℕ × Holder). encoded_edit held_key held_value (held_put p)) held ≡ held_edits held
held_map [] = refl
held_map (p ∷ held) = ap (λ (es : List (Edit EntryKey (List ℕ))). encoded_edit held_key held_value (held_put p) ∷ es) (held_map held)

-- changes of a list that is another one
pub of_list : {X Y : Type 0} (l m : List Y) (f : X → Y) (xs ys : List X) → m ≡ l ++ map f xs → xs ≡ ys → m ≡ l ++ map f ys
of_list {X = X} l m f xs ys is same = is ∙ ap (λ (zs : List X). l ++ map f zs) same

module _ {X : Type 0} where
  next : (l m a : List X) → m ≡ l ++ a → (rest : List X) → m ++ rest ≡ l ++ (a ++ rest)
  next l m a is rest = ap (λ (xs : List X). xs ++ rest) is ∙ append_assoc l a rest

  -- four lists behind a first member, the last of them in another form
  pub four_behind : (x : X) (l0 l1 l2 l3 l4 a b d e e' : List X) → l0 ≡ x ∷ [] → l1 ≡ l0 ++ a → l2 ≡ l1 ++ b → l3 ≡ l2 ++ d → l4 ≡ l3 ++ e → e ≡ e' → l4 ≡ x ∷ (a ++ (b ++ (d ++ e')))
  four_behind x l0 l1 l2 l3 l4 a b d e e' h0 h1 h2 h3 h4 form =
      h4 ∙ next l2 l3 d h3 e ∙ next l1 l2 b h2 (d ++ e) ∙ next l0 l1 a h1 (b ++ (d ++ e)) ∙ ap (λ (xs : List X). xs ++ (a ++ (b ++ (d ++ e)))) h0
      ∙ ap (λ (xs : List X). x ∷ (a ++ (b ++ (d ++ xs)))) form

  -- seven lists behind it, the fifth and the sixth together, and the fifth in another form
  pub seven_behind : (x : X) (l0 l1 l2 l3 l4 l5 l6 l7 a b d e f f' g h : List X) → l0 ≡ x ∷ [] → l1 ≡ l0 ++ a → l2 ≡ l1 ++ b → l3 ≡ l2 ++ d → l4 ≡ l3 ++ e → l5 ≡ l4 ++ f → f ≡ f' → l6 ≡ l5 ++ g → l7 ≡ l6 ++ h
      → l7 ≡ x ∷ (a ++ (b ++ (d ++ (e ++ ((f' ++ g) ++ h)))))
  seven_behind x l0 l1 l2 l3 l4 l5 l6 l7 a b d e f f' g h h0 h1 h2 h3 h4 h5 form h6 h7 =
      h7 ∙ next l5 l6 g h6 h ∙ next l4 l5 f h5 (g ++ h) ∙ next l3 l4 e h4 (f ++ (g ++ h)) ∙ next l2 l3 d h3 (e ++ (f ++ (g ++ h))) ∙ next l1 l2 b h2 (d ++ (e ++ (f ++ (g ++ h))))
      ∙ next l0 l1 a h1 (b ++ (d ++ (e ++ (f ++ (g ++ h))))) ∙ ap (λ (xs : List X). xs ++ (a ++ (b ++ (d ++ (e ++ (f ++ (g ++ h))))))) h0
      ∙ ap (λ (xs : List X). x ∷ (a ++ (b ++ (d ++ (e ++ xs))))) (sym (append_assoc f g h))
      ∙ ap (λ (xs : List X). x ∷ (a ++ (b ++ (d ++ (e ++ ((xs ++ g) ++ h)))))) form

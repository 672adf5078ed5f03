-- The first word says what goes on.
use Rattle.std.proofs.Common.{◌≡◌, suc, List, [], ◌∷◌, ◌++◌, length, Err, None, refl}
use Rattle.merge_filter.specs.declared.form.Stuck.{Stuck}
use Rattle.merge_filter.specs.declared.form.Stuck.TheVariants.{BadForm}
use Rattle.merge_filter.specs.declared.word.Word.{Word}
use Rattle.merge_filter.specs.declared.word.Word.TheVariants as w
use Rattle.merge_filter.specs.Form.{behind_and, behind_or, behind_not, behind_open, behind_close}

-- nothing begins with AND or OR
pub no_word : (behind_and [] ≡ None) × (behind_or [] ≡ None)
unfolding behind_and behind_or
no_word = (refl, refl)

pub no_and_at_or : (ws : List Word) → behind_and (w.Or ∷ ws) ≡ None
unfolding behind_and
no_and_at_or ws = refl

-- the first word alone says which of these it is
pub not_head : (v : Word) (us vs : List Word) → behind_not (v ∷ us) ≡ None → behind_not (v ∷ vs) ≡ None
unfolding behind_not
not_head w.Not us vs h = absurd cc
not_head v us vs h = refl

pub open_head : (v : Word) (us vs : List Word) → behind_open (v ∷ us) ≡ None → behind_open (v ∷ vs) ≡ None
unfolding behind_open
open_head w.Open us vs h = absurd cc
open_head v us vs h = refl

pub and_head : (v : Word) (us vs : List Word) → behind_and (v ∷ us) ≡ None → behind_and (v ∷ vs) ≡ None
unfolding behind_and
and_head w.And us vs h = absurd cc
and_head v us vs h = refl

pub or_head : (v : Word) (us vs : List Word) → behind_or (v ∷ us) ≡ None → behind_or (v ∷ vs) ≡ None
unfolding behind_or
or_head w.Or us vs h = absurd cc
or_head v us vs h = refl

pub not_same : (front : List Word) (v : Word) (us vs : List Word) → behind_not (front ++ v ∷ us) ≡ None → behind_not (front ++ v ∷ vs) ≡ None
not_same [] v us vs h = not_head v us vs h
not_same (x ∷ front) v us vs h = not_head x (front ++ v ∷ us) (front ++ v ∷ vs) h

pub open_same : (front : List Word) (v : Word) (us vs : List Word) → behind_open (front ++ v ∷ us) ≡ None → behind_open (front ++ v ∷ vs) ≡ None
open_same [] v us vs h = open_head v us vs h
open_same (x ∷ front) v us vs h = open_head x (front ++ v ∷ us) (front ++ v ∷ vs) h

pub close_wrong : (v : Word) (us vs : List Word) (f : Stuck) → behind_close (v ∷ us) ≡ Err f → (f ≡ BadForm (suc (length us))) × (behind_close (v ∷ vs) ≡ Err (BadForm (suc (length vs))))
unfolding behind_close
close_wrong w.Close us vs f h = absurd cc
close_wrong v us vs f h = (cc, refl)

pub close_end : (f : Stuck) → behind_close [] ≡ Err f → f ≡ BadForm 0
unfolding behind_close
close_end f h = cc

pub close_nil : behind_close [] ≡ Err (BadForm 0)
unfolding behind_close
close_nil = refl

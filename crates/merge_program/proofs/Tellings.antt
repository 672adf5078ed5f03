-- What the notes got.
use Rattle.std.proofs.Common.{Err, List, Ok, Option, Result, [], inl, inr, subst, sym, ℕ, ◌≡◌}
use Rattle.std.specs.Prelude.{IfOk, IsTrue, OnErr}
use Rattle.merge_program.specs.declared.ending.Ending.{Ending}
use Rattle.merge_program.specs.Notes.{EndingIsTold, IsTold, is_put_together, note_of}

module _ (old new : Option (List ℕ)) (before after : ℕ) where
  -- a note without help
  pub told : (ending other : Ending) → ending ≡ other → IsTold (note_of [] other) old new before after → EndingIsTold ending old new before after
  told ending other is t = record { help = []; told = inl (subst (λ (e : Ending). IsTold (note_of [] e) old new before after) (sym is) t) }

  -- one that was put together, or none where memory was wanting
  pub told-made : {T E : Type 0} (text : T → List ℕ) (ending other : Ending) → ending ≡ other → IsTrue (is_put_together other)
      → (r : Result T E) → IfOk r (λ note. text note ≡ note_of [] other) → IfOk r (λ note. IsTold (text note) old new before after) → OnErr r (new ≡ old) → EndingIsTold ending old new before after
  told-made text ending other is put (Ok note) made t err = told ending other is (subst (λ (l : List ℕ). IsTold l old new before after) made t)
  told-made text ending other is put (Err e) made t err = record { help = []; told = inr (subst (λ (e : Ending). IsTrue (is_put_together e)) (sym is) put, err) }

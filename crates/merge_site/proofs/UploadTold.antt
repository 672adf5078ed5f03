-- What holds of an upload that was worked out holds of it without what was decided.
use Rattle.std.proofs.Common.{◌≡◌, ◌∙◌, subst, sym}
use Rattle.std.specs.Prelude.{Err, IfOk, Ok, OnOk, Result}
use Rattle.merge_batch.specs.declared.refusal.Refusal.{Refusal}
use Rattle.merge_batch.specs.declared.reply.Uploaded.{Uploaded}
use Rattle.merge_steps.specs.declared.changes.Draft.{Draft}
use Rattle.merge_pub.specs.declared.uploading.UploadDraft.{UploadDraft}
use Rattle.merge_site.specs.Publishers.{told_alone}

made-alone : (P : Draft → Uploaded → Type 0) (drafted : Result UploadDraft Refusal) → IfOk drafted (λ d. P d.draft d.told) → IfOk (told_alone drafted) (λ d. P d.0 d.1)
made-alone P (Ok drafted) made = made
made-alone P (Err why) made = tt

refused-alone : (drafted : Result UploadDraft Refusal) (why : Refusal) → told_alone drafted ≡ Err why → drafted ≡ Err why
refused-alone (Ok drafted) why is = absurd cc
refused-alone (Err other) why is = cc

asked-alone : (P : Type 0) (drafted : Result UploadDraft Refusal) → OnOk drafted P → OnOk (told_alone drafted) P
asked-alone P (Ok drafted) asked = asked
asked-alone P (Err why) asked = tt

module _ (drafted : Result UploadDraft Refusal) (worked : Result (Draft × Uploaded) Refusal) (is : worked ≡ told_alone drafted) where
  pub told-made : (P : Draft → Uploaded → Type 0) → IfOk drafted (λ d. P d.draft d.told) → IfOk worked (λ d. P d.0 d.1)
  told-made P made = subst (λ (w : Result (Draft × Uploaded) Refusal). IfOk w (λ d. P d.0 d.1)) (sym is) (made-alone P drafted made)

  pub told-refused : (P : Refusal → Type 0) → ((why : Refusal) → drafted ≡ Err why → P why) → (why : Refusal) → worked ≡ Err why → P why
  told-refused P refused why told = refused why (refused-alone drafted why (sym is ∙ told))

  pub told-asked : (P : Type 0) → OnOk drafted P → OnOk worked P
  told-asked P asked = subst (λ (w : Result (Draft × Uploaded) Refusal). OnOk w P) (sym is) (asked-alone P drafted asked)

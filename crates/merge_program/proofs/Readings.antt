-- What is read of files and of the input, and why not.
use Rattle.std.proofs.Common.{Err, List, None, Ok, Option, Result, Some, ap, arith, min, refl, subst, sym, ℕ, ◌+◌, ◌-◌, ◌^◌, ◌∙◌, ◌≡◌, ◌≢◌}
use Rattle.std.proofs.lemmas.Result.{IfErr-weaker}
use Rattle.std.specs.Prelude.{IfErr, IfOk, IfSome}
use Rattle.merge_outside.specs.Offers.{HasTextCause, with_text_faults}
use Rattle.merge_ports.specs.Faults.{Rose}
use Rattle.merge_ports.specs.declared.outside.Counts.{Counts}
use Rattle.merge_ports.specs.declared.outside.OpenFault.{OpenFault}
use Rattle.merge_ports.specs.declared.outside.OpenFault.TheVariants as opening
use Rattle.merge_ports.specs.declared.whole.ReadFault.{ReadFault as Unread}
use Rattle.merge_ports.specs.declared.whole.ReadFault.TheVariants as reading
use Rattle.merge_schema.specs.Answers.{IsAnswer}
use Rattle.merge_schema.specs.declared.fault.SchemaFault.{SchemaFault}
use Rattle.merge_schema.specs.declared.fault.SchemaFault.TheVariants as schema
use Rattle.merge_schema.specs.declared.publication.Publication.{Publication}
use Rattle.merge_model.specs.World.Naming.{article_by, article_place}
use Rattle.merge_program.specs.declared.ending.Ending.{Ending}
use Rattle.merge_program.specs.declared.ending.Ending.TheVariants.{NoMemory, ReadFault, TooLong}
use Rattle.merge_program.specs.Endings.{ending_of_reading, refused_for, unopened_text}
use Rattle.merge_program.specs.Files.{IsLong, IsUnpublished, IsUnread}

module _ (told : Option (List ℕ)) (reads failed : ℕ) where
  unread-by : (fault : Unread) → (fault ≡ reading.TooLong → IsLong told) → (fault ≡ reading.Failed → Rose reads failed) → IsUnread (ending_of_reading fault) told reads failed
  unread-by reading.Failed long rose = rose refl
  unread-by reading.TooLong long rose = long refl
  unread-by reading.NoMemory long rose = tt

  pub unread-so : (fault : Unread) (ending : Ending) → ending ≡ ending_of_reading fault → (fault ≡ reading.TooLong → IsLong told) → (fault ≡ reading.Failed → Rose reads failed) → IsUnread ending told reads failed
  unread-so fault ending is long rose = subst (λ (e : Ending). IsUnread e told reads failed) (sym is) (unread-by fault long rose)

-- what holds unless a fault of the input was counted holds unless the run ends by it
pub counted-by : (fault : Unread) (ending : Ending) → ending ≡ ending_of_reading fault → (kept : Type 0) → (fault ≢ reading.Failed → kept) → ending ≢ ReadFault → kept
counted-by fault ending is kept by other = by (λ failed. other (is ∙ ap ending_of_reading failed))

-- and by each call through which its ending is passed
pub counted-through : {T U : Type 0} (kept : Type 0) (ending : Ending) (r : Result T Ending) (s : Result U Ending) → r ≡ Err ending → s ≡ Err ending → (r ≢ Err ReadFault → kept) → s ≢ Err ReadFault → kept
counted-through kept ending r s was is by other = by (λ fault. let same : ending ≡ ReadFault = cc (was, fault) in other (cc (is, same)))

-- a file that could not be opened
unopened-by : {T : Type 0} (told : Option (List ℕ)) (old new : Counts) (fault : OpenFault) (r : Result T OpenFault) → r ≡ Err fault → HasTextCause old new r → IsUnread (unopened_text fault) told old.texts new.texts
unopened-by told old new opening.Failed r is cause = cause.failed is
unopened-by told old new opening.NoMemory r is cause = tt

pub unopened-so : {T : Type 0} (told : Option (List ℕ)) (old new : Counts) (fault : OpenFault) (ending : Ending) → ending ≡ unopened_text fault → (r : Result T OpenFault) → r ≡ Err fault → HasTextCause old new r → IsUnread ending told old.texts new.texts
unopened-so told old new fault ending is r was cause = subst (λ (e : Ending). IsUnread e told old.texts new.texts) (sym is) (unopened-by told old new fault r was cause)

-- a file that was opened, read, and given back
module _ (left told : Option (List ℕ)) (is : left ≡ told) where
  pub file-whole : {E : Type 0} (r : Result (List ℕ) E) → IfOk r (λ (text : List ℕ). IfSome left (λ (l : List ℕ). text ≡ l)) → IfOk r (λ (text : List ℕ). IfSome told (λ (l : List ℕ). text ≡ l))
  file-whole r whole = subst (λ (o : Option (List ℕ)). IfOk r (λ (text : List ℕ). IfSome o (λ (l : List ℕ). text ≡ l))) is whole

  module _ (first count : ℕ) (none : first ≡ 0) (before : ℕ) (mid new : Counts) (opened : mid.texts ≡ before) (back : new ≡ with_text_faults count mid) where
    unread-file : (ending : Ending) → IsUnread ending left first count → IsUnread ending told before new.texts
    unread-file ReadFault rose = let texts : new.texts ≡ min (mid.texts + count) (2 ^ 64 - 1) = ap (λ (c : Counts). c.texts) back in omega (arith, rose, none, opened, texts)
    unread-file TooLong long = subst IsLong is long
    unread-file NoMemory p = tt
    unread-file other p = absurd p

    pub file-unread : {T : Type 0} (r : Result T Ending) → IfErr r (λ (e : Ending). IsUnread e left first count) → IfErr r (λ (e : Ending). IsUnread e told before new.texts)
    file-unread r p = IfErr-weaker r _ _ unread-file p

-- a text that is no publication
module _ (resolvers : ℕ) (text : List ℕ) where
  unpublished-by : (fault : SchemaFault) → ((fault ≡ schema.NoMemory → ⊥) → IsAnswer resolvers text (Err fault)) → IsUnpublished (refused_for fault) resolvers text
  unpublished-by schema.NoMemory answer = tt
  unpublished-by schema.NotToml answer = (answer (λ e. absurd (cc e)), λ e. absurd (cc e))
  unpublished-by (schema.Missing key) answer = (answer (λ e. absurd (cc e)), λ e. absurd (cc e))
  unpublished-by (schema.BadValue key) answer = (answer (λ e. absurd (cc e)), λ e. absurd (cc e))
  unpublished-by (schema.Duplicate name) answer = (answer (λ e. absurd (cc e)), λ e. absurd (cc e))
  unpublished-by (schema.UnknownArticle name) answer = (answer (λ e. absurd (cc e)), λ e. absurd (cc e))
  unpublished-by (schema.JoinCycle article) answer = (answer (λ e. absurd (cc e)), λ e. absurd (cc e))
  unpublished-by (schema.JoinTypes article) answer = (answer (λ e. absurd (cc e)), λ e. absurd (cc e))
  unpublished-by (schema.TooMany what number) answer = (answer (λ e. absurd (cc e)), λ e. absurd (cc e))

  pub unpublished-so : (fault : SchemaFault) (ending : Ending) → ending ≡ refused_for fault → ((fault ≡ schema.NoMemory → ⊥) → IsAnswer resolvers text (Err fault)) → IsUnpublished ending resolvers text
  unpublished-so fault ending is answer = subst (λ (e : Ending). IsUnpublished e resolvers text) (sym is) (unpublished-by fault answer)

-- the article of a name
module _ (publication : Publication) (name : List ℕ) where
  pub article-found : (place : ℕ) → article_place publication name ≡ Some place → article_by publication name ≡ Ok place
  article-found place is = ap (λ (o : Option ℕ). elim o as (λ (x : Option ℕ). Result ℕ (List ℕ)) [ None ↦ Err name | Some found ↦ Ok found ]) is

  pub article-lost : article_place publication name ≡ None → article_by publication name ≡ Err name
  article-lost is = ap (λ (o : Option ℕ). elim o as (λ (x : Option ℕ). Result ℕ (List ℕ)) [ None ↦ Err name | Some found ↦ Ok found ]) is

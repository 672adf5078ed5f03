-- What a step notes beside its lines leaves the lines.
use Rattle.std.specs.Prelude.{◌≡◌, List, Option, Some, None, refl}
use Rattle.std.specs.List.{fold}
use Rattle.merge_types.specs.declared.identifiers.SiteId.{SiteId}
use Rattle.merge_batch.specs.declared.reply.Reply.{Reply}
use Rattle.merge_types.specs.declared.row_key.RowKey.{RowKey as Key}
use Rattle.merge_model.specs.Tables.{SubscriberTables}
use Rattle.merge_model.specs.Publisher.Acts.{Act}
use Rattle.merge_model.specs.Publisher.Entries.{Entries}
use Rattle.merge_model.specs.World.{Judges}
use Rattle.merge_model.specs.History.{History, Past}
use Rattle.merge_model.specs.History.Noting
use Rattle.merge_laws.proofs.Walking.NotesLeave.{acts-leave, anew-leave, fold-leave, taker-leave}

-- Uploads: the items that act.

pub acts-lines : (incoming : List (Key × Past)) (entries : Entries) (acts : List Act) (h : History) → (fold (Noting.with_act incoming entries) h acts).lines ≡ h.lines
acts-lines incoming entries acts h = acts-leave (λ (x : History). x.lines) (λ x lost. refl) (λ x made pasts. refl) (λ x accepted. refl) incoming entries acts h

-- A purge: the tombstones.

pub purged-lines : (keys : List Key) (h : History) → (fold Noting.with_purged h keys).lines ≡ h.lines
purged-lines keys h = fold-leave (λ (x : History). x.lines) Noting.with_purged (λ x key. refl) keys h

-- What subscribers do.

pub taken-lines : (judges : Judges) (site : SiteId) (incoming : List (Key × Past)) (m : Reply) (found : Option SubscriberTables) (h : History)
    → (let k : History = elim found [ None ↦ h | Some s ↦ Noting.noted_reply (judges.subscriber site s) site incoming m h ] in k.lines ≡ h.lines)
taken-lines judges site incoming m found h = taker-leave (λ (x : History). x.lines) (λ x pasts. refl) judges site incoming m found h

pub anew-lines : (judges : Judges) (site : SiteId) (found : Option SubscriberTables) (h : History)
    → (let k : History = elim found [ None ↦ h | Some s ↦ Noting.noted_anew (judges.subscriber site s) s h ] in k.lines ≡ h.lines)
anew-lines judges site found h = anew-leave (λ (x : History). x.lines) (λ x pasts. refl) (λ x lost. refl) judges site found h

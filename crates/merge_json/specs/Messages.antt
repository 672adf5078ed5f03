-- Messages of the bytes of a body, and which place is bad where the body is none.
use Rattle.std.specs.Prelude.{◌≡◌, ℕ, zero, suc, List, codes, Some}
use Rattle.serde_json.specs.Data.{Data, array, Items}
use Rattle.serde_json.specs.Find.{get}
use Rattle.merge_batch.specs.Heads.{kind_of, answered_kind}
use Rattle.merge_batch.specs.declared.request.Kind.{Kind}
use Rattle.merge_batch.specs.declared.request.Kind.TheVariants as kind
use Rattle.merge_batch.specs.declared.request.Request.{Request}
use Rattle.merge_batch.specs.declared.request.Request.TheVariants as request
use Rattle.merge_batch.specs.declared.request.Upload.{Upload}
use Rattle.merge_batch.specs.declared.reply.Reply.{Reply}
use Rattle.merge_batch.specs.declared.reply.Reply.TheVariants as reply
use Rattle.merge_batch.specs.declared.reply.Downloaded.{Downloaded}
use Rattle.merge_json.specs.declared.fault.BodyFault.{BodyFault}
use Rattle.merge_json.specs.declared.fault.BodyFault.TheVariants as fault
use Rattle.merge_json.specs.Requests.{path_of}
use Rattle.merge_json.specs.Bodies.{data_at}
use Rattle.merge_json.specs.Forms.{HasBadMember}
use Rattle.merge_json.specs.RequestForms.{IsUploadItem, IsUploadFront, IsRequest}
use Rattle.merge_json.specs.ReplyForms.{IsDownloadItem, IsDownloadedHead, IsReply}

-- the body is a JSON text in UTF-8, and its value is such
abbrev pub Tells : List ℕ → (Data → Type 0) → Type 0
Tells body Is = (d : Data) × (data_at body ≡ Some d) × Is d

-- the value has a list of items, and is such beside them
abbrev pub HasItems : Data → (Items → Type 0) → Type 0
HasItems d Are = (ds : Items) × (get (codes "items") d ≡ Some (array ds)) × Are ds

-- the value is of such a request, whatever its items are
abbrev pub IsButItems : Request → Data → Type 0
IsButItems (request.Upload upload) d = IsUploadFront upload d × HasItems d (λ ds. Unit {0})
IsButItems other d = IsRequest other d

abbrev pub IsReplyButItems : Reply → Data → Type 0
IsReplyButItems (reply.Downloaded downloaded) d = IsDownloadedHead downloaded d × HasItems d (λ ds. Unit {0})
IsReplyButItems other d = IsReply other d

-- a request went to its path, and its body tells it
abbrev pub IsSent : List ℕ → List ℕ → Request → Type 0
IsSent path body r = (path ≡ path_of (kind_of r)) × Tells body (IsRequest r)

-- the place of what is bad: the number of the first bad item of an upload, and 0 where anything but the items is bad
abbrev pub IsSentBad : List ℕ → List ℕ → ℕ → Type 0
IsSentBad path body zero = (r : Request) → path ≡ path_of (kind_of r) → Tells body (IsButItems r) → ⊥
IsSentBad path body (suc n) = (u : Upload) × (path ≡ path_of kind.Upload) × Tells body (λ d. IsUploadFront u d × HasItems d (HasBadMember IsUploadItem n))

-- the body tells a reply of this kind
abbrev pub IsAnswered : Kind → List ℕ → Reply → Type 0
IsAnswered asked body r = (asked ≡ answered_kind r) × Tells body (IsReply r)

abbrev pub IsAnsweredBad : Kind → List ℕ → ℕ → Type 0
IsAnsweredBad asked body zero = (r : Reply) → asked ≡ answered_kind r → Tells body (IsReplyButItems r) → ⊥
IsAnsweredBad asked body (suc n) = (w : Downloaded) × (asked ≡ kind.Download) × Tells body (λ d. IsDownloadedHead w d × HasItems d (HasBadMember IsDownloadItem n))

-- the fault tells a bad place
abbrev pub IsFault : (ℕ → Type 0) → BodyFault → Type 0
IsFault IsBad fault.NoMemory = Unit {0}
IsFault IsBad (fault.BadBody place) = IsBad place

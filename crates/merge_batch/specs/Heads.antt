-- What each message says of itself.
use Rattle.std.specs.Prelude.{ℕ, Option, Some, None}
use Rattle.merge_types.specs.declared.identifiers.SiteId.{SiteId}
use Rattle.merge_batch.specs.declared.request.Kind.{Kind}
use Rattle.merge_batch.specs.declared.request.Kind.TheVariants as kind
use Rattle.merge_batch.specs.declared.request.Request.{Request}
use Rattle.merge_batch.specs.declared.request.Request.TheVariants as request
use Rattle.merge_batch.specs.declared.reply.Reply.{Reply}
use Rattle.merge_batch.specs.declared.reply.Reply.TheVariants as reply

abbrev pub site_of : Request → SiteId
site_of (request.Join m) = m.site
site_of (request.Upload m) = m.site
site_of (request.Ranges m) = m.site
site_of (request.Download m) = m.site

abbrev pub seq_of : Request → ℕ
seq_of (request.Join m) = m.seq
seq_of (request.Upload m) = m.seq
seq_of (request.Ranges m) = m.seq
seq_of (request.Download m) = m.seq

abbrev pub kind_of : Request → Kind
kind_of (request.Join m) = kind.Join
kind_of (request.Upload m) = kind.Upload
kind_of (request.Ranges m) = kind.Ranges
kind_of (request.Download m) = kind.Download

-- a refusal has no number of a message
abbrev pub answered_seq : Reply → Option ℕ
answered_seq (reply.Joined m) = Some m.seq
answered_seq (reply.Uploaded m) = Some m.seq
answered_seq (reply.Ranged m) = Some m.seq
answered_seq (reply.Downloaded m) = Some m.seq
answered_seq (reply.Refused number values) = None

abbrev pub answered_kind : Reply → Kind
answered_kind (reply.Joined m) = kind.Join
answered_kind (reply.Uploaded m) = kind.Upload
answered_kind (reply.Ranged m) = kind.Ranges
answered_kind (reply.Downloaded m) = kind.Download
answered_kind (reply.Refused number values) = kind.Refused

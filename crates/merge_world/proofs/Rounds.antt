-- The loops of a session, and its parts one after the other, of all sites with their resolvers.
use Rattle.std.proofs.Common.{◌≡◌, ◌≤◌, ◌<◌, ◌+◌, ◌-◌, ℕ, Bool, true, false, Option, Some, None, if◌then◌else◌, is_some, length, nat_le, unwrap_or, refl, ap, sym, subst, arith}
use Rattle.std.proofs.lemmas.Bool.Decides.{nat_tests}
use Rattle.merge_types.specs.declared.identifiers.SiteId.{SiteId}
use Rattle.merge_batch.specs.declared.refusal.Refusal.{Refusal}
use Rattle.merge_batch.specs.declared.refusal.Refusal.TheVariants.{NoMemory}
use Rattle.merge_batch.specs.declared.reply.Downloaded.{Downloaded}
use Rattle.merge_model.specs.World.Steps.{SendDownload, SendJoin, SendRanges, SendUpload, Sending}
use Rattle.merge_world.specs.Sessions.{AllDownloads, AllRanges, AllUploads, Downloads, Exchanges, Goes, Joins, Ranges, SitesExchange, SitesGo, SitesSync, Stage, Stands, Uploads, download_in, grants, is_past, joined_at, last_in, left_in, one_if, unsent_at}
use Rattle.merge_world.specs.Views.{HandedView, Keeps, SitesView, tables_at, world_of}
use Rattle.merge_world.specs.declared.exchange.Exchanged.{Exchanged}
use Rattle.merge_world.specs.declared.exchange.Exchanged.TheVariants.{Answered, Taken, Unanswered}
use Rattle.merge_world.specs.declared.exchange.Span.{Span}
use Rattle.merge_world.proofs.Doing.{same-count}
use Rattle.merge_world.proofs.Loops as loop
use Rattle.merge_world.proofs.Sessions.{keeps-same, keeps-then}
use Rattle.merge_world.proofs.Turns.{ends-at-downloads, ends-at-join, ends-at-ranges, ends-at-uploads, first-answered, first-more, first-only, first-unanswered, goes-by, join-answered, join-taken, join-unanswered, joined-before, meets-by, wants-downloads, wants-ranges, wants-uploads}

-- what was met by the publication and the resolvers of a world is met by those of the world before
met-before : (site : SiteId) (sending : Sending) (u v w : SitesView) (f g h : HandedView) (exchanged : Exchanged) → Keeps u v f g → SitesExchange site sending v w g h exchanged
    → Exchanges u.publication f.says site sending (world_of v g.tallies) (world_of w h.tallies) exchanged v.faults w.faults
met-before site sending u v w f g h exchanged keeps met = meets-by v.publication u.publication g.says f.says keeps.stays.publication keeps.says site sending (world_of v g.tallies) (world_of w h.tallies) exchanged v.faults w.faults met.goes

ran-before : (site : SiteId) (stage : Stage) (u v w : SitesView) (f g h : HandedView) (x y i j : ℕ) (stop : Option Refusal) → Keeps u v f g → SitesGo site stage v w g h x y i j stop
    → Goes u.publication f.says site stage (world_of v g.tallies) (world_of w h.tallies) x y i j stop v.faults w.faults
ran-before site stage u v w f g h x y i j stop keeps ran = goes-by v.publication u.publication g.says f.says keeps.stays.publication keeps.says site stage (world_of v g.tallies) (world_of w h.tallies) x y i j stop v.faults w.faults ran.goes

-- the same counts in other words
pub ran-so : (site : SiteId) (stage : Stage) (u v : SitesView) (f g : HandedView) (x y i j j' : ℕ) (stop : Option Refusal) → j ≡ j' → SitesGo site stage u v f g x y i j' stop → SitesGo site stage u v f g x y i j stop
ran-so site stage u v f g x y i j j' stop e ran = subst (λ (n : ℕ). SitesGo site stage u v f g x y i n stop) (sym e) ran

pub stands-so : (site : SiteId) (stage left : Stage) (u v : SitesView) (f g : HandedView) (x y i j j' : ℕ) → j ≡ j' → Stands site stage left u v f g x y i j' → Stands site stage left u v f g x y i j
stands-so site stage left u v f g x y i j j' e stands = subst (λ (n : ℕ). Stands site stage left u v f g x y i n) (sym e) stands

pub left-beyond : (found : Option Downloaded) (span : Span) → Some span ≡ left_in found → span.from < span.last
left-beyond None span e = absurd (let none : true ≡ false = ap is_some e in cc)
left-beyond (Some m) span e = by (nat_le m.last m.from) refl e
  where
    by : (past : Bool) → nat_le m.last m.from ≡ past → Some span ≡ (if past then None else Some (record { from = m.from; last = m.last })) → span.from < span.last
    by true is e = absurd (let none : true ≡ false = ap is_some e in cc)
    by false is e = let same : span ≡ record { from = m.from; last = m.last } = ap (λ (s : Option Span). unwrap_or s span) e in
        subst (λ (s : Span). s.from < s.last) (sym same) (grind (arith, nat_tests, is))

-- A loop that stands somewhere, and one turn more.
module _ (site : SiteId) (most i : ℕ) (u v w : SitesView) (f g h : HandedView) (lt : i < most) where
  module _ (count : ℕ) (so_far : Stands site (Uploads most) (Uploads (most - i)) u v f g 0 0 count 0) where
    pub uploads-more : (flag : Bool) → SitesExchange site SendUpload v w g h (Taken flag) → Stands site (Uploads most) (Uploads (most - (i + 1))) u w f h 0 0 (count + 1) 0
    uploads-more flag met = record {
      leaves = loop.uploads-more u.publication f.says site most i (world_of u f.tallies) (world_of v g.tallies) (world_of w h.tallies) u.faults v.faults w.faults count so_far.leaves lt flag
          (met-before site SendUpload u v w f g h (Taken flag) so_far.keeps met);
      keeps = keeps-then u v w f g h so_far.keeps met.keeps;
    }

    pub uploads-answered : (flag : Bool) (stop : Option Refusal) → SitesExchange site SendUpload v w g h (Answered flag stop) → SitesGo site (Uploads most) u w f h 0 0 (count + 1) 0 stop
    uploads-answered flag stop met = record {
      goes = loop.uploads-answered u.publication f.says site most i (world_of u f.tallies) (world_of v g.tallies) (world_of w h.tallies) u.faults v.faults w.faults count so_far.leaves lt flag stop
          (met-before site SendUpload u v w f g h (Answered flag stop) so_far.keeps met);
      keeps = keeps-then u v w f g h so_far.keeps met.keeps;
    }

    pub uploads-unanswered : (stop : Option Refusal) → SitesExchange site SendUpload v w g h (Unanswered stop) → SitesGo site (Uploads most) u w f h 0 0 count 0 stop
    uploads-unanswered stop met = record {
      goes = loop.uploads-unanswered u.publication f.says site most i (world_of u f.tallies) (world_of v g.tallies) (world_of w h.tallies) u.faults v.faults w.faults count so_far.leaves lt stop
          (met-before site SendUpload u v w f g h (Unanswered stop) so_far.keeps met);
      keeps = keeps-then u v w f g h so_far.keeps met.keeps;
    }

  module _ (x y : ℕ) (so_far : Stands site (Ranges most) (Ranges (most - i)) u v f g x y x y) where
    pub ranges-more : (flag : Bool) → true ≡ grants (last_in w.pool) → SitesExchange site SendRanges v w g h (Taken flag) → Stands site (Ranges most) (Ranges (most - (i + 1))) u w f h x y x y
    ranges-more flag granted met = record {
      leaves = loop.ranges-more u.publication f.says site most i (world_of u f.tallies) (world_of v g.tallies) (world_of w h.tallies) u.faults v.faults w.faults x y so_far.leaves lt flag granted
          (met-before site SendRanges u v w f g h (Taken flag) so_far.keeps met);
      keeps = keeps-then u v w f g h so_far.keeps met.keeps;
    }

    pub ranges-last : (flag : Bool) → false ≡ grants (last_in w.pool) → SitesExchange site SendRanges v w g h (Taken flag) → SitesGo site (Ranges most) u w f h x y x y None
    ranges-last flag granted met = record {
      goes = loop.ranges-last u.publication f.says site most i (world_of u f.tallies) (world_of v g.tallies) (world_of w h.tallies) u.faults v.faults w.faults x y so_far.leaves lt flag granted
          (met-before site SendRanges u v w f g h (Taken flag) so_far.keeps met);
      keeps = keeps-then u v w f g h so_far.keeps met.keeps;
    }

    pub ranges-answered : (flag : Bool) (stop : Option Refusal) → SitesExchange site SendRanges v w g h (Answered flag stop) → SitesGo site (Ranges most) u w f h x y x y stop
    ranges-answered flag stop met = record {
      goes = loop.ranges-answered u.publication f.says site most i (world_of u f.tallies) (world_of v g.tallies) (world_of w h.tallies) u.faults v.faults w.faults x y so_far.leaves lt flag stop
          (met-before site SendRanges u v w f g h (Answered flag stop) so_far.keeps met);
      keeps = keeps-then u v w f g h so_far.keeps met.keeps;
    }

    pub ranges-unanswered : (stop : Option Refusal) → SitesExchange site SendRanges v w g h (Unanswered stop) → SitesGo site (Ranges most) u w f h x y x y stop
    ranges-unanswered stop met = record {
      goes = loop.ranges-unanswered u.publication f.says site most i (world_of u f.tallies) (world_of v g.tallies) (world_of w h.tallies) u.faults v.faults w.faults x y so_far.leaves lt stop
          (met-before site SendRanges u v w f g h (Unanswered stop) so_far.keeps met);
      keeps = keeps-then u v w f g h so_far.keeps met.keeps;
    }

  module _ (target x y z : ℕ) (so_far : Stands site (Downloads most target) (Downloads (most - i) target) u v f g x y x z) where
    pub downloads-more : (flag : Bool) → false ≡ is_past target (download_in (last_in w.pool)) → SitesExchange site SendDownload v w g h (Taken flag)
        → Stands site (Downloads most target) (Downloads (most - (i + 1)) target) u w f h x y x (z + one_if flag)
    downloads-more flag past met = record {
      leaves = loop.downloads-more u.publication f.says site most i (world_of u f.tallies) (world_of v g.tallies) (world_of w h.tallies) u.faults v.faults w.faults target x y z so_far.leaves lt flag past
          (met-before site SendDownload u v w f g h (Taken flag) so_far.keeps met);
      keeps = keeps-then u v w f g h so_far.keeps met.keeps;
    }

    pub downloads-last : (flag : Bool) → true ≡ is_past target (download_in (last_in w.pool)) → SitesExchange site SendDownload v w g h (Taken flag) → SitesGo site (Downloads most target) u w f h x y x (z + one_if flag) None
    downloads-last flag past met = record {
      goes = loop.downloads-last u.publication f.says site most i (world_of u f.tallies) (world_of v g.tallies) (world_of w h.tallies) u.faults v.faults w.faults target x y z so_far.leaves lt flag past
          (met-before site SendDownload u v w f g h (Taken flag) so_far.keeps met);
      keeps = keeps-then u v w f g h so_far.keeps met.keeps;
    }

    pub downloads-answered : (flag : Bool) (stop : Option Refusal) → SitesExchange site SendDownload v w g h (Answered flag stop) → SitesGo site (Downloads most target) u w f h x y x (z + one_if flag) stop
    downloads-answered flag stop met = record {
      goes = loop.downloads-answered u.publication f.says site most i (world_of u f.tallies) (world_of v g.tallies) (world_of w h.tallies) u.faults v.faults w.faults target x y z so_far.leaves lt flag stop
          (met-before site SendDownload u v w f g h (Answered flag stop) so_far.keeps met);
      keeps = keeps-then u v w f g h so_far.keeps met.keeps;
    }

    pub downloads-unanswered : (stop : Option Refusal) → SitesExchange site SendDownload v w g h (Unanswered stop) → SitesGo site (Downloads most target) u w f h x y x z stop
    downloads-unanswered stop met = record {
      goes = loop.downloads-unanswered u.publication f.says site most i (world_of u f.tallies) (world_of v g.tallies) (world_of w h.tallies) u.faults v.faults w.faults target x y z so_far.leaves lt stop
          (met-before site SendDownload u v w f g h (Unanswered stop) so_far.keeps met);
      keeps = keeps-then u v w f g h so_far.keeps met.keeps;
    }

-- A loop that made all its turns, and one that made none.
module _ (site : SiteId) (most i : ℕ) (u v : SitesView) (f g : HandedView) (le : most ≤ i) where
  pub uploads-done : (count : ℕ) → Stands site (Uploads most) (Uploads (most - i)) u v f g 0 0 count 0 → SitesGo site (Uploads most) u v f g 0 0 count 0 None
  uploads-done count so_far = record {
    goes = loop.uploads-done u.publication f.says site most i (world_of u f.tallies) (world_of v g.tallies) (world_of v g.tallies) u.faults v.faults v.faults count so_far.leaves le;
    keeps = so_far.keeps;
  }

  pub ranges-done : (x y : ℕ) → Stands site (Ranges most) (Ranges (most - i)) u v f g x y x y → SitesGo site (Ranges most) u v f g x y x y None
  ranges-done x y so_far = record {
    goes = loop.ranges-done u.publication f.says site most i (world_of u f.tallies) (world_of v g.tallies) (world_of v g.tallies) u.faults v.faults v.faults x y so_far.leaves le;
    keeps = so_far.keeps;
  }

  pub downloads-done : (target x y z : ℕ) → Stands site (Downloads most target) (Downloads (most - i) target) u v f g x y x z → SitesGo site (Downloads most target) u v f g x y x z None
  downloads-done target x y z so_far = record {
    goes = loop.downloads-done u.publication f.says site most i (world_of u f.tallies) (world_of v g.tallies) (world_of v g.tallies) u.faults v.faults v.faults target x y z so_far.leaves le;
    keeps = so_far.keeps;
  }

module _ (site : SiteId) (v : SitesView) (h : HandedView) where
  pub uploads-begin : (most : ℕ) → Stands site (Uploads most) (Uploads (most - 0)) v v h h 0 0 0 0
  uploads-begin most = record { leaves = loop.begins-uploads v.publication h.says site (world_of v h.tallies) 0 0 v.faults v.faults (same-count v.faults) most; keeps = keeps-same v h }

  pub ranges-begin : (most x y : ℕ) → Stands site (Ranges most) (Ranges (most - 0)) v v h h x y x y
  ranges-begin most x y = record { leaves = loop.begins-ranges v.publication h.says site (world_of v h.tallies) x y v.faults v.faults (same-count v.faults) most; keeps = keeps-same v h }

  pub downloads-begin : (most target x y : ℕ) → Stands site (Downloads most target) (Downloads (most - 0) target) v v h h x y x y
  downloads-begin most target x y = record { leaves = loop.begins-downloads v.publication h.says site (world_of v h.tallies) x y v.faults v.faults (same-count v.faults) most target; keeps = keeps-same v h }

  -- memory is wanting before the first turn
  pub uploads-want : (most : ℕ) → 0 < most → SitesGo site (Uploads most) v v h h 0 0 0 0 (Some NoMemory)
  uploads-want most lt = record { goes = wants-uploads v.publication h.says site (world_of v h.tallies) v.faults most lt; keeps = keeps-same v h }

  pub ranges-want : (most x y : ℕ) → 0 < most → SitesGo site (Ranges most) v v h h x y x y (Some NoMemory)
  ranges-want most x y lt = record { goes = wants-ranges v.publication h.says site (world_of v h.tallies) v.faults most x y lt; keeps = keeps-same v h }

  pub downloads-want : (most target x y : ℕ) → 0 < most → SitesGo site (Downloads most target) v v h h x y x y (Some NoMemory)
  downloads-want most target x y lt = record { goes = wants-downloads v.publication h.says site (world_of v h.tallies) v.faults most target x y lt; keeps = keeps-same v h }

  -- a site that has joined
  pub join-none : true ≡ joined_at (tables_at v site) → SitesGo site Joins v v h h 0 0 0 0 None
  join-none joined = record { goes = joined-before v.publication h.says site (world_of v h.tallies) 0 0 v.faults joined; keeps = keeps-same v h }

module _ (site : SiteId) (u v : SitesView) (f g : HandedView) (joined : false ≡ joined_at (tables_at u site)) where
  pub joins-taken : (flag : Bool) → SitesExchange site SendJoin u v f g (Taken flag) → SitesGo site Joins u v f g 0 0 0 0 None
  joins-taken flag met = record { goes = join-taken u.publication f.says site (world_of u f.tallies) 0 0 u.faults (world_of v g.tallies) flag v.faults joined met.goes; keeps = met.keeps }

  pub joins-answered : (flag : Bool) (stop : Option Refusal) → SitesExchange site SendJoin u v f g (Answered flag stop) → SitesGo site Joins u v f g 0 0 0 0 stop
  joins-answered flag stop met = record { goes = join-answered u.publication f.says site (world_of u f.tallies) 0 0 u.faults (world_of v g.tallies) flag v.faults joined stop met.goes; keeps = met.keeps }

  pub joins-unanswered : (stop : Option Refusal) → SitesExchange site SendJoin u v f g (Unanswered stop) → SitesGo site Joins u v f g 0 0 0 0 stop
  joins-unanswered stop met = record { goes = join-unanswered u.publication f.says site (world_of u f.tallies) 0 0 u.faults (world_of v g.tallies) true v.faults joined stop met.goes; keeps = met.keeps }

-- The first download.
module _ (site : SiteId) (u v : SitesView) (f g : HandedView) (x : ℕ) where
  pub firsts-only : (flag : Bool) → None ≡ left_in (download_in (last_in v.pool)) → SitesExchange site SendDownload u v f g (Taken flag) → SitesGo site AllDownloads u v f g x 0 x (one_if flag) None
  firsts-only flag left met = record { goes = first-only u.publication f.says site (world_of u f.tallies) (world_of v g.tallies) flag x u.faults v.faults left met.goes; keeps = met.keeps }

  pub firsts-answered : (flag : Bool) (stop : Option Refusal) → SitesExchange site SendDownload u v f g (Answered flag stop) → SitesGo site AllDownloads u v f g x 0 x (one_if flag) stop
  firsts-answered flag stop met = record { goes = first-answered u.publication f.says site (world_of u f.tallies) (world_of v g.tallies) flag x u.faults v.faults stop met.goes; keeps = met.keeps }

  pub firsts-unanswered : (stop : Option Refusal) → SitesExchange site SendDownload u v f g (Unanswered stop) → SitesGo site AllDownloads u v f g x 0 x 0 stop
  firsts-unanswered stop met = record { goes = first-unanswered u.publication f.says site (world_of u f.tallies) (world_of v g.tallies) true x u.faults v.faults stop met.goes; keeps = met.keeps }

  pub firsts-more : (flag : Bool) (w : SitesView) (h : HandedView) (span : Span) (j : ℕ) (stop : Option Refusal) → SitesExchange site SendDownload u v f g (Taken flag) → Some span ≡ left_in (download_in (last_in v.pool))
      → SitesGo site (Downloads (span.last + 1 - span.from) span.last) v w g h x (one_if flag) x j stop → SitesGo site AllDownloads u w f h x 0 x j stop
  firsts-more flag w h span j stop met left more = record {
    goes = first-more u.publication f.says site (world_of u f.tallies) (world_of v g.tallies) flag x u.faults v.faults (world_of w h.tallies) span j stop w.faults left met.goes
        (ran-before site (Downloads (span.last + 1 - span.from) span.last) u v w f g h x (one_if flag) x j stop met.keeps more);
    keeps = keeps-then u v w f g h met.keeps more.keeps;
  }

-- A whole session.
module _ (site : SiteId) (u v : SitesView) (f g : HandedView) where
  pub syncs-join : (refusal : Refusal) → SitesGo site Joins u v f g 0 0 0 0 (Some refusal) → SitesSync site u v f g 0 0 (Some refusal)
  syncs-join refusal first = record { syncs = ends-at-join u.publication f.says site (world_of u f.tallies) (world_of v g.tallies) refusal u.faults v.faults first.goes; keeps = first.keeps }

  module _ (first : SitesGo site Joins u v f g 0 0 0 0 None) (w : SitesView) (h : HandedView) (x : ℕ) where
    pub syncs-uploads : (refusal : Refusal) → SitesGo site AllUploads v w g h 0 0 x 0 (Some refusal) → SitesSync site u w f h x 0 (Some refusal)
    syncs-uploads refusal second = record {
      syncs = ends-at-uploads u.publication f.says site (world_of u f.tallies) (world_of v g.tallies) (world_of w h.tallies) x refusal u.faults v.faults w.faults first.goes
          (ran-before site AllUploads u v w f g h 0 0 x 0 (Some refusal) first.keeps second);
      keeps = keeps-then u v w f g h first.keeps second.keeps;
    }

    module _ (second : SitesGo site AllUploads v w g h 0 0 x 0 None) (t : SitesView) (k : HandedView) where
      so-far : Keeps u w f h
      so-far = keeps-then u v w f g h first.keeps second.keeps

      pub syncs-ranges : (refusal : Refusal) → SitesGo site AllRanges w t h k x 0 x 0 (Some refusal) → SitesSync site u t f k x 0 (Some refusal)
      syncs-ranges refusal third = record {
        syncs = ends-at-ranges u.publication f.says site (world_of u f.tallies) (world_of v g.tallies) (world_of w h.tallies) (world_of t k.tallies) x refusal u.faults v.faults w.faults t.faults first.goes
            (ran-before site AllUploads u v w f g h 0 0 x 0 None first.keeps second) (ran-before site AllRanges u w t f h k x 0 x 0 (Some refusal) so-far third);
        keeps = keeps-then u w t f h k so-far third.keeps;
      }

      pub syncs-downloads : SitesGo site AllRanges w t h k x 0 x 0 None → (s : SitesView) (m : HandedView) (y : ℕ) (stop : Option Refusal) → SitesGo site AllDownloads t s k m x 0 x y stop → SitesSync site u s f m x y stop
      syncs-downloads third s m y stop fourth = record {
        syncs = ends-at-downloads u.publication f.says site (world_of u f.tallies) (world_of v g.tallies) (world_of w h.tallies) (world_of t k.tallies) (world_of s m.tallies) x y stop u.faults v.faults w.faults t.faults s.faults first.goes
            (ran-before site AllUploads u v w f g h 0 0 x 0 None first.keeps second) (ran-before site AllRanges u w t f h k x 0 x 0 None so-far third)
            (ran-before site AllDownloads u t s f k m x 0 x y stop (keeps-then u w t f h k so-far third.keeps) fourth);
        keeps = keeps-then u t s f k m (keeps-then u w t f h k so-far third.keeps) fourth.keeps;
      }

-- All uploads and all requests for ranges are as many as the world says.
module _ (site : SiteId) (u v : SitesView) (f g : HandedView) (x y i j : ℕ) (stop : Option Refusal) (most : ℕ) where
  pub uploads-all : most ≡ unsent_at (tables_at u site) → SitesGo site (Uploads most) u v f g x y i j stop → SitesGo site AllUploads u v f g x y i j stop
  uploads-all e ran = record {
    goes = loop.all-uploads u.publication f.says site (world_of u f.tallies) (world_of v g.tallies) x y i j stop u.faults v.faults
        (subst (λ (n : ℕ). Goes u.publication f.says site (Uploads n) (world_of u f.tallies) (world_of v g.tallies) x y i j stop u.faults v.faults) e ran.goes);
    keeps = ran.keeps;
  }

  pub ranges-all : most ≡ length u.publisher.grants + 4 → SitesGo site (Ranges most) u v f g x y i j stop → SitesGo site AllRanges u v f g x y i j stop
  ranges-all e ran = record {
    goes = loop.all-ranges u.publication f.says site (world_of u f.tallies) (world_of v g.tallies) x y i j stop u.faults v.faults
        (subst (λ (n : ℕ). Goes u.publication f.says site (Ranges n) (world_of u f.tallies) (world_of v g.tallies) x y i j stop u.faults v.faults) e ran.goes);
    keeps = ran.keeps;
  }

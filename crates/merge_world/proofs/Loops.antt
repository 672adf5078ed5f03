-- The loops of a session: how they begin, go on and end.
use Rattle.std.proofs.Common.{◌≡◌, ◌≤◌, ◌<◌, ◌+◌, ◌-◌, ℕ, Bool, true, false, Option, None, length, subst, arith}
use Rattle.merge_types.specs.declared.identifiers.SiteId.{SiteId}
use Rattle.merge_schema.specs.declared.publication.Publication.{Publication}
use Rattle.merge_batch.specs.declared.refusal.Refusal.{Refusal}
use Rattle.merge_model.specs.Failing.{Faulty, Slips}
use Rattle.merge_model.specs.Failing.Reach.{Reaches, at}
use Rattle.merge_model.specs.World.Session.{Session}
use Rattle.merge_model.specs.World.Steps.{SendDownload, SendRanges, SendUpload}
use Rattle.merge_model.specs.World.{Saying, World, subscriber_at}
use Rattle.merge_model.proofs.Failing.Reached.{stays}
use Rattle.merge_world.specs.Sessions.{AllRanges, AllUploads, Downloads, Exchanges, Goes, Leaves, Ranges, Uploads, download_in, grants, is_past, last_in, one_if, part_of, unsent_at}
use Rattle.merge_world.specs.declared.exchange.Exchanged.TheVariants.{Answered, Taken, Unanswered}
use Rattle.merge_world.proofs.Turns.{ask-answered, ask-granted, ask-last, ask-unanswered, download-answered, download-last, download-more, download-unanswered, turns-done, turns-end, turns-more, upload-answered, upload-taken, upload-unanswered}

from-start : (most : ℕ) → most ≡ most - 0
from-start most = omega arith

module _ (p : Publication) (says : Saying) (site : SiteId) (most i : ℕ) (w v u : World) (a b c : ℕ) where
  -- a session that nothing ended
  abbrev here : World → ℕ → ℕ → Slips → Session (Faulty World)
  here x m n slips = at p says x m n None slips

  module _ (count : ℕ) (so_far : Leaves p says site (Uploads most) (Uploads (most - i)) w v 0 0 count 0 a b) where
    pub uploads-more : i < most → (flag : Bool) → Exchanges p says site SendUpload v u (Taken flag) b c → Leaves p says site (Uploads most) (Uploads (most - (i + 1))) w u 0 0 (count + 1) 0 a c
    unfolding Leaves
    uploads-more lt flag met = turns-more (λ n. part_of p says site (Uploads n)) most i (here w 0 0) (here v count 0) (here u (count + 1) 0) a b c lt so_far (λ n. upload-taken p says site v u flag n count b c met)

    pub uploads-answered : i < most → (flag : Bool) (stop : Option Refusal) → Exchanges p says site SendUpload v u (Answered flag stop) b c → Goes p says site (Uploads most) w u 0 0 (count + 1) 0 stop a c
    unfolding Leaves Goes
    uploads-answered lt flag stop met = turns-end (λ n. part_of p says site (Uploads n)) most i (here w 0 0) (here v count 0) (at p says u (count + 1) 0 stop) a b c lt so_far (λ n. upload-answered p says site v u flag n count b c stop met)

    pub uploads-unanswered : i < most → (stop : Option Refusal) → Exchanges p says site SendUpload v u (Unanswered stop) b c → Goes p says site (Uploads most) w u 0 0 count 0 stop a c
    unfolding Leaves Goes
    uploads-unanswered lt stop met = turns-end (λ n. part_of p says site (Uploads n)) most i (here w 0 0) (here v count 0) (at p says u count 0 stop) a b c lt so_far (λ n. upload-unanswered p says site v u true n count b c stop met)

    pub uploads-done : most ≤ i → Goes p says site (Uploads most) w v 0 0 count 0 None a b
    unfolding Leaves Goes
    uploads-done le = turns-done (λ n. part_of p says site (Uploads n)) most i (here w 0 0) (here v count 0) a b le so_far

  module _ (x y : ℕ) (so_far : Leaves p says site (Ranges most) (Ranges (most - i)) w v x y x y a b) where
    pub ranges-more : i < most → (flag : Bool) → true ≡ grants (last_in u.pool) → Exchanges p says site SendRanges v u (Taken flag) b c → Leaves p says site (Ranges most) (Ranges (most - (i + 1))) w u x y x y a c
    unfolding Leaves
    ranges-more lt flag granted met = turns-more (λ n. part_of p says site (Ranges n)) most i (here w x y) (here v x y) (here u x y) a b c lt so_far (λ n. ask-granted p says site v u flag n x y b c granted met)

    pub ranges-last : i < most → (flag : Bool) → false ≡ grants (last_in u.pool) → Exchanges p says site SendRanges v u (Taken flag) b c → Goes p says site (Ranges most) w u x y x y None a c
    unfolding Leaves Goes
    ranges-last lt flag granted met = turns-end (λ n. part_of p says site (Ranges n)) most i (here w x y) (here v x y) (at p says u x y None) a b c lt so_far (λ n. ask-last p says site v u flag n x y b c granted met)

    pub ranges-answered : i < most → (flag : Bool) (stop : Option Refusal) → Exchanges p says site SendRanges v u (Answered flag stop) b c → Goes p says site (Ranges most) w u x y x y stop a c
    unfolding Leaves Goes
    ranges-answered lt flag stop met = turns-end (λ n. part_of p says site (Ranges n)) most i (here w x y) (here v x y) (at p says u x y stop) a b c lt so_far (λ n. ask-answered p says site v u flag n x y b c stop met)

    pub ranges-unanswered : i < most → (stop : Option Refusal) → Exchanges p says site SendRanges v u (Unanswered stop) b c → Goes p says site (Ranges most) w u x y x y stop a c
    unfolding Leaves Goes
    ranges-unanswered lt stop met = turns-end (λ n. part_of p says site (Ranges n)) most i (here w x y) (here v x y) (at p says u x y stop) a b c lt so_far (λ n. ask-unanswered p says site v u true n x y b c stop met)

    pub ranges-done : most ≤ i → Goes p says site (Ranges most) w v x y x y None a b
    unfolding Leaves Goes
    ranges-done le = turns-done (λ n. part_of p says site (Ranges n)) most i (here w x y) (here v x y) a b le so_far

  module _ (target x y z : ℕ) (so_far : Leaves p says site (Downloads most target) (Downloads (most - i) target) w v x y x z a b) where
    pub downloads-more : i < most → (flag : Bool) → false ≡ is_past target (download_in (last_in u.pool)) → Exchanges p says site SendDownload v u (Taken flag) b c
        → Leaves p says site (Downloads most target) (Downloads (most - (i + 1)) target) w u x y x (z + one_if flag) a c
    unfolding Leaves
    downloads-more lt flag past met = turns-more (λ n. part_of p says site (Downloads n target)) most i (here w x y) (here v x z) (here u x (z + one_if flag)) a b c lt so_far (λ n. download-more p says site v u flag x z b c n target past met)

    pub downloads-last : i < most → (flag : Bool) → true ≡ is_past target (download_in (last_in u.pool)) → Exchanges p says site SendDownload v u (Taken flag) b c
        → Goes p says site (Downloads most target) w u x y x (z + one_if flag) None a c
    unfolding Leaves Goes
    downloads-last lt flag past met = turns-end (λ n. part_of p says site (Downloads n target)) most i (here w x y) (here v x z) (at p says u x (z + one_if flag) None) a b c lt so_far (λ n. download-last p says site v u flag x z b c n target past met)

    pub downloads-answered : i < most → (flag : Bool) (stop : Option Refusal) → Exchanges p says site SendDownload v u (Answered flag stop) b c → Goes p says site (Downloads most target) w u x y x (z + one_if flag) stop a c
    unfolding Leaves Goes
    downloads-answered lt flag stop met = turns-end (λ n. part_of p says site (Downloads n target)) most i (here w x y) (here v x z) (at p says u x (z + one_if flag) stop) a b c lt so_far (λ n. download-answered p says site v u flag x z b c n target stop met)

    pub downloads-unanswered : i < most → (stop : Option Refusal) → Exchanges p says site SendDownload v u (Unanswered stop) b c → Goes p says site (Downloads most target) w u x y x z stop a c
    unfolding Leaves Goes
    downloads-unanswered lt stop met = turns-end (λ n. part_of p says site (Downloads n target)) most i (here w x y) (here v x z) (at p says u x z stop) a b c lt so_far (λ n. download-unanswered p says site v u true x z b c n target stop met)

    pub downloads-done : most ≤ i → Goes p says site (Downloads most target) w v x y x z None a b
    unfolding Leaves Goes
    downloads-done le = turns-done (λ n. part_of p says site (Downloads n target)) most i (here w x y) (here v x z) a b le so_far

-- nothing was done yet
module _ (p : Publication) (says : Saying) (site : SiteId) (w : World) (x y a b : ℕ) (le : a ≤ b) where
  pub begins-uploads : (most : ℕ) → Leaves p says site (Uploads most) (Uploads (most - 0)) w w x y x y a b
  unfolding Leaves
  begins-uploads most = subst (λ (n : ℕ). Reaches (λ l. part_of p says site (Uploads most) (at p says w x y None l)) (λ l. part_of p says site (Uploads n) (at p says w x y None l)) a b) (from-start most)
      (stays (λ l. part_of p says site (Uploads most) (at p says w x y None l)) a b le)

  pub begins-ranges : (most : ℕ) → Leaves p says site (Ranges most) (Ranges (most - 0)) w w x y x y a b
  unfolding Leaves
  begins-ranges most = subst (λ (n : ℕ). Reaches (λ l. part_of p says site (Ranges most) (at p says w x y None l)) (λ l. part_of p says site (Ranges n) (at p says w x y None l)) a b) (from-start most)
      (stays (λ l. part_of p says site (Ranges most) (at p says w x y None l)) a b le)

  pub begins-downloads : (most target : ℕ) → Leaves p says site (Downloads most target) (Downloads (most - 0) target) w w x y x y a b
  unfolding Leaves
  begins-downloads most target = subst (λ (n : ℕ). Reaches (λ l. part_of p says site (Downloads most target) (at p says w x y None l)) (λ l. part_of p says site (Downloads n target) (at p says w x y None l)) a b) (from-start most)
      (stays (λ l. part_of p says site (Downloads most target) (at p says w x y None l)) a b le)

-- all of a kind are as many as the world says
module _ (p : Publication) (says : Saying) (site : SiteId) (w v : World) (x y i j : ℕ) (stop : Option Refusal) (a b : ℕ) where
  pub all-uploads : Goes p says site (Uploads (unsent_at (subscriber_at w site))) w v x y i j stop a b → Goes p says site AllUploads w v x y i j stop a b
  unfolding Goes
  all-uploads goes = goes

  pub all-ranges : Goes p says site (Ranges (length w.publisher.grants + 4)) w v x y i j stop a b → Goes p says site AllRanges w v x y i j stop a b
  unfolding Goes
  all-ranges goes = goes

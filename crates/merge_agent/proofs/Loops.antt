-- Turns of one stage, one after the other.
use Rattle.std.proofs.Common.{◌≡◌, ℕ, ◌+◌, List, refl, sym, subst, arith}
use Rattle.std.specs.Prelude.{Option, None, Some, Ok, Bool, true, false, if◌then◌else◌, nat_le, unwrap_or}
use Rattle.merge_batch.specs.declared.reply.Downloaded.{Downloaded}
use Rattle.merge_batch.specs.declared.reply.Reply.{Reply}
use Rattle.merge_model.specs.World.Steps.{SendDownload, SendJoin, SendRanges, SendUpload}
use Rattle.merge_model.specs.declared.letter.Message.TheVariants.{Replies}
use Rattle.merge_world.specs.Sessions.{brings_found, download_in, grants, one_if}
use Rattle.merge_agent.specs.Meetings.{Meeting}
use Rattle.merge_agent.specs.Sessions.{Asks, Downloads, Fails, IsUnderWay, Joins, Leads, Over, Session, Stage, Uploads, at, sending_in, session_at_start, session_behind_reply, stage_behind, stage_to}
use Rattle.merge_agent.specs.Turns.{Broke, Exchanges, Skips, Turns}
use Rattle.merge_agent.specs.declared.fault.SessionFault.{SessionFault}
use Rattle.merge_agent.proofs.Steps.{broken, leads-fails, leads-none, leads-then, skipped, turned}

-- A site that has joined makes no turn, and another one makes one.

pub joins-none : (address : List ℕ) (a : Meeting) → a.tables.is_joined ≡ true → Leads address (session_at_start a.tables) (at Uploads a.tables 0 0) a a
joins-none address a e = subst (λ (b : Bool). Leads address (at (if b then Uploads else Joins) a.tables 0 0) (at Uploads a.tables 0 0) a a) (sym e) (leads-none address (at Uploads a.tables 0 0) a refl)

pub joins-breaks : (address : List ℕ) (a b : Meeting) (why : SessionFault) → a.tables.is_joined ≡ false → Broke address SendJoin a b why → Fails address (session_at_start a.tables) a b why
joins-breaks address a b why e k = subst (λ (f : Bool). Fails address (at (if f then Uploads else Joins) a.tables 0 0) a b why) (sym e) (broken address Joins 0 0 a b why tt k)

joins-turn : (address : List ℕ) (a b : Meeting) (found : Option Reply) → Exchanges address SendJoin a b (Ok found) → Leads address (at Joins a.tables 0 0) (at Uploads b.tables 0 0) a b
joins-turn address a b None k = skipped address Joins 0 0 a b tt k
joins-turn address a b (Some m) t = turned address Joins 0 0 a b m tt t refl

pub joins-done : (address : List ℕ) (a b : Meeting) (found : Option Reply) → a.tables.is_joined ≡ false → Exchanges address SendJoin a b (Ok found) → Leads address (session_at_start a.tables) (at Uploads b.tables 0 0) a b
joins-done address a b found e k = subst (λ (f : Bool). Leads address (at (if f then Uploads else Joins) a.tables 0 0) (at Uploads b.tables 0 0) a b) (sym e) (joins-turn address a b found k)

-- a stage ends where there is no message to make
pub stage-ends : (address : List ℕ) (s : Session) (stage : Stage) (x y : ℕ) (a b c : Meeting) → IsUnderWay stage → Leads address s (at stage b.tables x y) a b → Skips (sending_in stage) b c
    → Leads address s (at (stage_behind stage) c.tables x y) a c
stage-ends address s stage x y a b c way l k = leads-then address s (at stage b.tables x y) (at (stage_behind stage) c.tables x y) a b c l (skipped address stage x y b c way k)

-- and breaks off with a turn
pub stage-breaks : (address : List ℕ) (s : Session) (stage : Stage) (x y : ℕ) (a b c : Meeting) (why : SessionFault) → IsUnderWay stage → Leads address s (at stage b.tables x y) a b → Broke address (sending_in stage) b c why
    → Fails address s a c why
stage-breaks address s stage x y a b c why way l k = leads-fails address s (at stage b.tables x y) a b c why l (broken address stage x y b c why way k)

pub uploads-more : (address : List ℕ) (s : Session) (count y : ℕ) (a b c : Meeting) (m : Reply) → Leads address s (at Uploads b.tables count y) a b → Turns address SendUpload b c m
    → Leads address s (at Uploads c.tables (count + 1) y) a c
uploads-more address s count y a b c m l t = leads-then address s (at Uploads b.tables count y) (at Uploads c.tables (count + 1) y) a b c l (turned address Uploads count y b c m tt t refl)

pub asks-more : (address : List ℕ) (s : Session) (x y : ℕ) (a b c : Meeting) (m : Reply) (flag : Bool) → grants (Some (Replies m)) ≡ flag → Leads address s (at Asks b.tables x y) a b → Turns address SendRanges b c m
    → Leads address s (at (if flag then Asks else Downloads None) c.tables x y) a c
asks-more address s x y a b c m flag e l t =
    subst (λ (f : Bool). Leads address s (at (if f then Asks else Downloads None) c.tables x y) a c) e
    (leads-then address s (at Asks b.tables x y) (session_behind_reply (at Asks b.tables x y) c.tables m Asks) a b c l (turned address Asks x y b c m tt t refl))

downloads-answered : (address : List ℕ) (s : Session) (target : Option ℕ) (x y : ℕ) (a b c : Meeting) (m : Reply) (found : Option Downloaded) → download_in (Some (Replies m)) ≡ found
    → Leads address s (at (Downloads target) b.tables x y) a b → Turns address SendDownload b c m → Leads address s (at (stage_to target found) c.tables x (y + one_if (brings_found found))) a c
downloads-answered address s target x y a b c m found e l t =
    subst (λ (f : Option Downloaded). Leads address s (at (stage_to target f) c.tables x (y + one_if (brings_found f))) a c) e
    (leads-then address s (at (Downloads target) b.tables x y) (session_behind_reply (at (Downloads target) b.tables x y) c.tables m (Downloads target)) a b c l (turned address (Downloads target) x y b c m tt t refl))

-- a reply to a download that is none ends the session
pub downloads-stray : (address : List ℕ) (s : Session) (target : Option ℕ) (x y : ℕ) (a b c : Meeting) (m : Reply) → download_in (Some (Replies m)) ≡ None
    → Leads address s (at (Downloads target) b.tables x y) a b → Turns address SendDownload b c m → Leads address s (at Over c.tables x y) a c
downloads-stray address s target x y a b c m e l t =
    let none : y + 0 ≡ y = omega arith in
    subst (λ (n : ℕ). Leads address s (at Over c.tables x n) a c) none (downloads-answered address s target x y a b c m None e l t)

pub downloads-more : (address : List ℕ) (s : Session) (target : Option ℕ) (x y : ℕ) (a b c : Meeting) (m : Reply) (d : Downloaded) (n last : ℕ) (flag : Bool)
    → download_in (Some (Replies m)) ≡ Some d → n ≡ one_if (brings_found (Some d)) → last ≡ unwrap_or target d.last → nat_le last d.from ≡ flag
    → Leads address s (at (Downloads target) b.tables x y) a b → Turns address SendDownload b c m → Leads address s (at (if flag then Over else Downloads (Some last)) c.tables x (y + n)) a c
downloads-more address s target x y a b c m d n last flag e count later is_past l t =
    let k = downloads-answered address s target x y a b c m (Some d) e l t in
    let at_last = subst (λ (q : ℕ). Leads address s (at (if nat_le q d.from then Over else Downloads (Some q)) c.tables x (y + one_if (brings_found (Some d)))) a c) (sym later) k in
    let flagged = subst (λ (f : Bool). Leads address s (at (if f then Over else Downloads (Some last)) c.tables x (y + one_if (brings_found (Some d)))) a c) is_past at_last in
    subst (λ (q : ℕ). Leads address s (at (if flag then Over else Downloads (Some last)) c.tables x (y + q)) a c) (sym count) flagged

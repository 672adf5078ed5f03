-- The parts of a session, one after the other.
use Rattle.std.proofs.Common.{◌≡◌, ◌<◌, ℕ, Bool, [], List, Some, None, get_or, length, refl, sym, subst, ◌∙◌}
use Rattle.merge_types.specs.declared.identifiers.SiteId.{SiteId}
use Rattle.merge_schema.specs.declared.publication.Publication.{Publication}
use Rattle.merge_batch.specs.declared.refusal.Refusal.{Refusal}
use Rattle.merge_model.specs.Failing.{Slips, faulty}
use Rattle.merge_model.specs.Failing.Reach.{Acts, Asks, at, stepping}
use Rattle.merge_model.specs.World.Session.{answered_as, exchange, session_after_reply}
use Rattle.merge_model.specs.World.Steps.{Deliver, Send, Sending}
use Rattle.merge_model.specs.World.{Saying, World}
use Rattle.merge_model.specs.declared.outcome.Outcome.{Outcome}
use Rattle.merge_model.specs.declared.outcome.Outcome.TheVariants.{Closes, Discards, Forgot, Made, NoLetter, NoPost, Passed, Posted, Refuses, Took}
use Rattle.merge_model.specs.declared.outcome.Taken.{Taken as Reply}
use Rattle.merge_model.proofs.Failing.Reached.{same-end}
use Rattle.merge_model.proofs.Failing.ReachedSessions.{acts-by, answers, arrives, asked, asked-other}
use Rattle.merge_world.specs.Sessions.{Exchanges, Part, Reports, SitesExchange, brings_found, download_in, last_in}
use Rattle.merge_world.specs.Views.{Does, HandedView, IsOrdered, Keeps, Moves, SitesView, Stays, world_of}
use Rattle.merge_world.specs.declared.exchange.Exchanged.TheVariants.{Answered, Taken, Unanswered}

-- What stays, stays.

pub stays-then : (u v w : SitesView) → Stays u v → Stays v w → Stays u w
stays-then u v w first second = record {
  publication = second.publication ∙ first.publication;
  sites = second.sites ∙ first.sites;
  publications = second.publications ∙ first.publications;
  moment = second.moment ∙ first.moment;
}

pub keeps-then : (u v w : SitesView) (f g h : HandedView) → Keeps u v f g → Keeps v w g h → Keeps u w f h
keeps-then u v w f g h first second = record { stays = stays-then u v w first.stays second.stays; says = second.says ∙ first.says }

pub keeps-same : (v : SitesView) (h : HandedView) → Keeps v v h h
keeps-same v h = record { stays = record { publication = refl; sites = refl; publications = refl; moment = refl }; says = refl }

pub still-ordered : (u v : SitesView) → Stays u v → IsOrdered u → IsOrdered v
still-ordered u v same ordered = record {
  ascending = subst (λ (l : List ℕ). (i j : ℕ) → i < j → j < length l → get_or l i 0 < get_or l j 0) (sym same.sites) ordered.ascending;
  same = subst (λ (l : List Publication). (i : ℕ) → i < length l → get_or l i v.publication ≡ v.publication) (sym same.publications)
      (subst (λ (p : Publication). (i : ℕ) → i < length u.publications → get_or u.publications i p ≡ p) (sym same.publication) ordered.same);
}

-- A message of a site comes to the publisher.
module _ (site : SiteId) (sending : Sending) (u v w : SitesView) (h h' : HandedView) where
  pub reports-after : (number : ℕ) (outcome : Outcome) → Does (Send site sending) u v (Posted number) → Moves (Deliver number) v w h h' outcome → Reports site sending u w h h' outcome
  reports-after number outcome first second = record {
    asks = asked u.publication h.says site sending (world_of u h.tallies) (world_of v h.tallies) (world_of w h'.tallies) number outcome u.faults v.faults w.faults (first.acts h.says h.tallies)
        (acts-by v.publication u.publication h.says h.says first.stays.publication refl (Deliver number) (world_of v h.tallies) (world_of w h'.tallies) outcome v.faults w.faults second.acts);
    keeps = record { stays = stays-then u v w first.stays second.keeps.stays; says = second.keeps.says };
  }

-- there was none to make, or it was refused
module _ (site : SiteId) (sending : Sending) (u v : SitesView) (h : HandedView) where
  pub reports-other : (outcome : Outcome) → ((number : ℕ) → outcome ≡ Posted number → ⊥) → Does (Send site sending) u v outcome → Reports site sending u v h h outcome
  reports-other outcome other first = record {
    asks = asked-other u.publication h.says site sending (world_of u h.tallies) (world_of v h.tallies) outcome u.faults v.faults other (first.acts h.says h.tallies);
    keeps = record { stays = first.stays; says = refl };
  }

-- A message with its answer.
module _ (p : Publication) (says : Saying) (site : SiteId) where
  past-ask : (counted next : Part) (w v : World) (x y : ℕ) (l : Slips) (c : Outcome) → ((number : ℕ) → c ≡ Posted number → ⊥) → ((refusal : Refusal) → c ≡ Refuses refusal → ⊥)
      → answered_as (stepping p says) site counted next (at p says w x y None []) (faulty v l, c) ≡ at p says v x y None l
  past-ask counted next w v x y l Passed posted refused = refl
  past-ask counted next w v x y l (Made row) posted refused = refl
  past-ask counted next w v x y l (Closes generation) posted refused = refl
  past-ask counted next w v x y l (Posted number) posted refused = absurd (posted number refl)
  past-ask counted next w v x y l NoPost posted refused = refl
  past-ask counted next w v x y l (Took taken) posted refused = refl
  past-ask counted next w v x y l NoLetter posted refused = refl
  past-ask counted next w v x y l (Discards rows) posted refused = refl
  past-ask counted next w v x y l (Forgot forgotten) posted refused = refl
  past-ask counted next w v x y l (Refuses refusal) posted refused = absurd (refused refusal refl)

  past-arrival : (next : Part) (w v : World) (x y : ℕ) (l : Slips) (c : Outcome) → ((taken : Reply) → c ≡ Took taken → ⊥) → ((refusal : Refusal) → c ≡ Refuses refusal → ⊥)
      → session_after_reply (stepping p says) site next (at p says w x y None []) (faulty v l, c) ≡ at p says v x y None l
  past-arrival next w v x y l Passed took refused = refl
  past-arrival next w v x y l (Made row) took refused = refl
  past-arrival next w v x y l (Closes generation) took refused = refl
  past-arrival next w v x y l (Posted number) took refused = refl
  past-arrival next w v x y l NoPost took refused = refl
  past-arrival next w v x y l (Took taken) took refused = absurd (took taken refl)
  past-arrival next w v x y l NoLetter took refused = refl
  past-arrival next w v x y l (Discards rows) took refused = refl
  past-arrival next w v x y l (Forgot forgotten) took refused = refl
  past-arrival next w v x y l (Refuses refusal) took refused = absurd (refused refusal refl)

  module _ (sending : Sending) (w v u : World) (flag : Bool) (bringing : flag ≡ brings_found (download_in (last_in v.pool))) (number : ℕ) (a b c : ℕ) (first : Asks p says site sending w v (Posted number) a b) where
    pub exchange-taken : (taken : Reply) → Acts p says (Deliver number) v u (Took taken) b c → Exchanges p says site sending w u (Taken flag) a c
    unfolding Exchanges
    exchange-taken taken second = λ counted next x y i j counts. arrives p says site counted next sending w v u x y i j number (Took taken) a b c (λ l. counts v l (sym bringing)) first second

    pub exchange-refused : (refusal : Refusal) → Acts p says (Deliver number) v u (Refuses refusal) b c → Exchanges p says site sending w u (Answered flag (Some refusal)) a c
    unfolding Exchanges
    exchange-refused refusal second = λ counted next x y i j counts. arrives p says site counted next sending w v u x y i j number (Refuses refusal) a b c (λ l. counts v l (sym bringing)) first second

    pub exchange-stray : (k : Outcome) → ((taken : Reply) → k ≡ Took taken → ⊥) → ((refusal : Refusal) → k ≡ Refuses refusal → ⊥) → Acts p says (Deliver number) v u k b c → Exchanges p says site sending w u (Answered flag None) a c
    unfolding Exchanges
    exchange-stray k took refused second = λ counted next x y i j counts. same-end (λ l. exchange (stepping p says) site sending counted next (at p says w x y None l))
        (λ l. session_after_reply (stepping p says) site next (at p says v i j None []) (faulty u l, k)) (at p says u i j None) a c (λ l. past-arrival next v u i j l k took refused)
        (arrives p says site counted next sending w v u x y i j number k a b c (λ l. counts v l (sym bringing)) first second)

  module _ (sending : Sending) (w v : World) (a b : ℕ) where
    pub exchange-unmade : (refusal : Refusal) → Asks p says site sending w v (Refuses refusal) a b → Exchanges p says site sending w v (Unanswered (Some refusal)) a b
    unfolding Exchanges
    exchange-unmade refusal first = λ counted next x y. answers p says site counted next sending w v x y (Refuses refusal) a b first

    pub exchange-past : (k : Outcome) → ((number : ℕ) → k ≡ Posted number → ⊥) → ((refusal : Refusal) → k ≡ Refuses refusal → ⊥) → Asks p says site sending w v k a b → Exchanges p says site sending w v (Unanswered None) a b
    unfolding Exchanges
    exchange-past k posted refused first = λ counted next x y. same-end (λ l. exchange (stepping p says) site sending counted next (at p says w x y None l))
        (λ l. answered_as (stepping p says) site counted next (at p says w x y None []) (faulty v l, k)) (at p says v x y None) a b (λ l. past-ask counted next w v x y l k posted refused)
        (answers p says site counted next sending w v x y k a b first)

-- the same of sites with their resolvers
module _ (site : SiteId) (sending : Sending) (u v w : SitesView) (f g h : HandedView) where
  module _ (number : ℕ) (flag : Bool) (bringing : flag ≡ brings_found (download_in (last_in v.pool))) (first : Reports site sending u v f g (Posted number)) where
    carried : (outcome : Outcome) → Moves (Deliver number) v w g h outcome → Acts u.publication f.says (Deliver number) (world_of v g.tallies) (world_of w h.tallies) outcome v.faults w.faults
    carried outcome second = acts-by v.publication u.publication g.says f.says first.keeps.stays.publication first.keeps.says (Deliver number) (world_of v g.tallies) (world_of w h.tallies) outcome v.faults w.faults second.acts

    pub meets-taken : (taken : Reply) → Moves (Deliver number) v w g h (Took taken) → SitesExchange site sending u w f h (Taken flag)
    meets-taken taken second = record {
      goes = exchange-taken u.publication f.says site sending (world_of u f.tallies) (world_of v g.tallies) (world_of w h.tallies) flag bringing number u.faults v.faults w.faults first.asks taken (carried (Took taken) second);
      keeps = keeps-then u v w f g h first.keeps second.keeps;
    }

    pub meets-refused : (refusal : Refusal) → Moves (Deliver number) v w g h (Refuses refusal) → SitesExchange site sending u w f h (Answered flag (Some refusal))
    meets-refused refusal second = record {
      goes = exchange-refused u.publication f.says site sending (world_of u f.tallies) (world_of v g.tallies) (world_of w h.tallies) flag bringing number u.faults v.faults w.faults first.asks refusal (carried (Refuses refusal) second);
      keeps = keeps-then u v w f g h first.keeps second.keeps;
    }

    pub meets-stray : (k : Outcome) → ((taken : Reply) → k ≡ Took taken → ⊥) → ((refusal : Refusal) → k ≡ Refuses refusal → ⊥) → Moves (Deliver number) v w g h k → SitesExchange site sending u w f h (Answered flag None)
    meets-stray k took refused second = record {
      goes = exchange-stray u.publication f.says site sending (world_of u f.tallies) (world_of v g.tallies) (world_of w h.tallies) flag bringing number u.faults v.faults w.faults first.asks k took refused (carried k second);
      keeps = keeps-then u v w f g h first.keeps second.keeps;
    }

module _ (site : SiteId) (sending : Sending) (u v : SitesView) (f g : HandedView) where
  pub meets-unmade : (refusal : Refusal) → Reports site sending u v f g (Refuses refusal) → SitesExchange site sending u v f g (Unanswered (Some refusal))
  meets-unmade refusal first = record {
    goes = exchange-unmade u.publication f.says site sending (world_of u f.tallies) (world_of v g.tallies) u.faults v.faults refusal first.asks;
    keeps = first.keeps;
  }

  pub meets-past : (k : Outcome) → ((number : ℕ) → k ≡ Posted number → ⊥) → ((refusal : Refusal) → k ≡ Refuses refusal → ⊥) → Reports site sending u v f g k → SitesExchange site sending u v f g (Unanswered None)
  meets-past k posted refused first = record {
    goes = exchange-past u.publication f.says site sending (world_of u f.tallies) (world_of v g.tallies) u.faults v.faults k posted refused first.asks;
    keeps = first.keeps;
  }

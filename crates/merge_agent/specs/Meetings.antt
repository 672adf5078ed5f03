-- What a session meets: the tables of its site, and what the link and the clock tell.
use Rattle.std.specs.Prelude.{◌≡◌, ◌≤◌, ◌+◌, ℕ, List, [], ◌∷◌, ◌++◌, map, option_map}
use Rattle.std.specs.declared.option.Option.{Option}
use Rattle.std.specs.declared.option.Option.TheVariants.{None, Some}
use Rattle.merge_types.specs.declared.identifiers.Moment.{Moment}
use Rattle.merge_schema.specs.declared.publication.Publication.{Publication}
use Rattle.merge_model.specs.Tables.{SubscriberTables}
use Rattle.merge_world.specs.Views.{SubscriberView}
use Rattle.merge_link.specs.Moments.{Moments, next_moment, later_moments}
use Rattle.merge_link.specs.declared.link.Exchange.{Exchange}

pub record Meeting : Type 0 where
  pub publication : Publication
  pub tables : SubscriberTables
  -- how often the site's store failed, and how often the link did
  pub faults : ℕ
  pub links : ℕ
  -- the responses and the moments that are to come, and the exchanges so far, where they are told
  pub coming : Option (List (List ℕ))
  pub exchanges : Option (List Exchange)
  pub moments : Option Moments

abbrev pub meeting : SubscriberView → Option (List (List ℕ)) → Option (List Exchange) → ℕ → Option Moments → Meeting
meeting site coming exchanges links moments = record {
  publication = site.publication;
  tables = site.tables;
  faults = site.faults;
  links = links;
  coming = coming;
  exchanges = exchanges;
  moments = moments;
}

abbrev pub response_of : Exchange → List ℕ
response_of exchange = exchange.response

-- a clock that tells its moments gave these, one after the other
abbrev pub Gives : Option Moments → List Moment → Option Moments → Type 0
Gives None nows new = new ≡ None
Gives (Some told) [] new = new ≡ Some told
Gives (Some told) (now ∷ nows) new = (now ≡ next_moment told) × Gives (Some (later_moments told)) nows new

-- a link carried these exchanges, a clock gave these moments, and no count of faults fell
pub record Passes (exchanges : List Exchange) (nows : List Moment) (old new : Meeting) : Type 0 where
  pub publication : new.publication ≡ old.publication
  pub coming : old.coming ≡ option_map (λ later. map response_of exchanges ++ later) new.coming
  pub carried : new.exchanges ≡ option_map (λ earlier. earlier ++ exchanges) old.exchanges
  pub given : Gives old.moments nows new.moments
  pub faults : old.faults ≤ new.faults
  pub links : old.links ≤ new.links

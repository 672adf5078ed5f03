-- What the publisher granted to itself and holds.
use Rattle.std.specs.Option.{option_map}
use Rattle.std.specs.Prelude.{List, Some, [], find, ℕ, ◌≡◌, ◌∷◌}
use Rattle.merge_ident.specs.Grants.{granted_to, is_numbered}
use Rattle.merge_ident.specs.Holders.{Holder, Received}
use Rattle.merge_ident.specs.declared.grants.Grant.{Grant}
use Rattle.merge_schema.specs.declared.publication.Publication.{Publication}
use Rattle.merge_model.specs.Tables.Keys.{at_number}
use Rattle.merge_model.specs.History.Model.{Model}
use Rattle.merge_model.specs.World.{Saying}

-- none is held, or the one with this number
abbrev pub HoldsLast : List Grant → ℕ → ℕ → List Received → Type 0
HoldsLast grants article number [] = Unit {0}
HoldsLast grants article number (held ∷ []) = option_map (λ (grant : Grant). grant.range) (find (is_numbered article 0 number) grants) ≡ Some held.range
HoldsLast grants article number (held ∷ next ∷ rest) = ⊥

-- what was received of an article is what the publisher granted to itself, and of these no range is held or the last
pub record OwnIsHeld (grants : List Grant) (article : ℕ) (holder : Holder) : Type 0 where
  pub have : holder.have ≡ granted_to article 0 grants
  pub last : HoldsLast grants article holder.have holder.held

abbrev pub OwnAreHeld : Publication → Saying → Model → Type 0
OwnAreHeld publication says m = (article : ℕ) (holder : Holder) → at_number m.world.publisher.held article ≡ Some holder → OwnIsHeld m.world.publisher.grants article holder

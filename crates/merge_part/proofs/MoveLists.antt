-- Which moves stand in the lists that are made of marks.
use Rattle.std.proofs.Common.{◌≡◌, inl, inr, ◌+◌, ℕ, zero, suc, Bool, true, false, not, List, [], ◌∷◌, Some, refl, sym, ap, subst, arith}
use Rattle.std.specs.List.{Contains, slice_get}
use Rattle.std.proofs.lemmas.List.Elements.{Contains-append_left, Contains-append_right, Contains-append_cases}
use Rattle.merge_types.specs.declared.identifiers.SiteId.{SiteId}
use Rattle.merge_schema.specs.declared.publication.Subscription.{Subscription}
use Rattle.merge_schema.proofs.ListMembers.{contains_cases, contains_none}
use Rattle.merge_types.specs.declared.row_key.RowKey.{RowKey}
use Rattle.merge_part.specs.declared.sites.Sites.{Sites}
use Rattle.merge_part.specs.declared.change.Move.{Move}
use Rattle.merge_gens.specs.declared.moves.MoveKind.{MoveKind}
use Rattle.merge_gens.specs.declared.moves.MoveKind.TheVariants.{Entered, Left}
use Rattle.merge_gens.specs.Moves.{is_left}
use Rattle.merge_part.specs.Moves.{move_if, moves_from, all_moves}
use Rattle.merge_part.specs.Sites.{has_site}

abbrev pub key_of_move : Move → RowKey
key_of_move one = record { article = one.article; row = one.row }

-- the move is of this row at this site, where it was in and then is in
pub record IsMoveOf (key : RowKey) (site : SiteId) (before after : Bool) (one : Move) : Type 0 where
  pub row_is : key ≡ key_of_move one
  pub site_is : site ≡ one.site
  pub was : before ≡ is_left one.kind
  pub then_is : after ≡ not (is_left one.kind)

only_one : (x one : Move) → Contains (x ∷ []) one → x ≡ one
only_one x one there = elim (contains_cases x [] one there) [ inl same ↦ same | inr later ↦ absurd (contains_none one later) ]

move_is : (key : RowKey) (site : SiteId) (before after : Bool) (x one : Move) → IsMoveOf key site before after x → x ≡ one → IsMoveOf key site before after one
move_is key site before after x one is same = subst (IsMoveOf key site before after) same is

from_if : (key : RowKey) (site : SiteId) (before after : Bool) (one : Move) → Contains (move_if key site before after) one → IsMoveOf key site before after one
from_if key site false true one there =
    move_is key site false true (record { article = key.article; row = key.row; site = site; kind = Entered }) one (record { row_is = refl; site_is = refl; was = refl; then_is = refl }) (only_one _ one there)
from_if key site true false one there =
    move_is key site true false (record { article = key.article; row = key.row; site = site; kind = Left }) one (record { row_is = refl; site_is = refl; was = refl; then_is = refl }) (only_one _ one there)
from_if key site false false one there = absurd (contains_none one there)
from_if key site true true one there = absurd (contains_none one there)

to_if_kind : (key : RowKey) (site : SiteId) (kind : MoveKind) → Contains (move_if key site (is_left kind) (not (is_left kind))) (record { article = key.article; row = key.row; site = site; kind = kind })
to_if_kind key site Entered = (0, omega arith, refl)
to_if_kind key site Left = (0, omega arith, refl)

to_if : (key : RowKey) (site : SiteId) (before after : Bool) (one : Move) → IsMoveOf key site before after one → Contains (move_if key site before after) one
to_if key site before after one is =
    let here : Contains (move_if (key_of_move one) one.site (is_left one.kind) (not (is_left one.kind))) one = to_if_kind (key_of_move one) one.site one.kind in
    rw (is.row_is, is.site_is, is.was, is.then_is) here

-- a move of a row at a subscriber
pub record MovesAt (key : RowKey) (first : ℕ) (subscriptions : List Subscription) (before after : Sites) (one : Move) : Type 0 where
  pub place : ℕ
  pub subscription : Subscription
  pub stands : slice_get subscriptions place ≡ Some subscription
  pub number : ℕ
  pub number_is : number ≡ first + place
  pub is : IsMoveOf key subscription.site (has_site before number) (has_site after number) one

pub from_moves : (key : RowKey) (first : ℕ) (subscriptions : List Subscription) (before after : Sites) (one : Move) → Contains (moves_from key first subscriptions before after) one → MovesAt key first subscriptions before after one
from_moves key first [] before after one there = absurd (contains_none one there)
from_moves key first (subscription ∷ subscriptions) before after one there =
    elim (Contains-append_cases (move_if key subscription.site (has_site before first) (has_site after first)) (moves_from key (suc first) subscriptions before after) one there) [
      | inl here ↦ record { place = 0; subscription = subscription; stands = refl; number = first; number_is = omega arith; is = from_if key subscription.site (has_site before first) (has_site after first) one here }
      | inr later ↦
          let more = from_moves key (suc first) subscriptions before after one later in
          record { place = suc more.place; subscription = more.subscription; stands = more.stands; number = more.number; number_is = omega (arith, more.number_is); is = more.is }
    ]

pub to_moves : (key : RowKey) (first : ℕ) (subscriptions : List Subscription) (before after : Sites) (one : Move) (place : ℕ) (subscription : Subscription) → slice_get subscriptions place ≡ Some subscription
    → (number : ℕ) → number ≡ first + place → IsMoveOf key subscription.site (has_site before number) (has_site after number) one → Contains (moves_from key first subscriptions before after) one
to_moves key first [] before after one place subscription stands number at is = absurd cc
to_moves key first (next ∷ subscriptions) before after one zero subscription stands number at is =
    let same : next ≡ subscription = cc in
    let here : number ≡ first = omega (arith, at) in
    Contains-append_left (move_if key next.site (has_site before first) (has_site after first)) (moves_from key (suc first) subscriptions before after) one
    (to_if key next.site (has_site before first) (has_site after first) one
    (subst (λ (s : Subscription). IsMoveOf key s.site (has_site before first) (has_site after first) one) (sym same)
    (subst (λ n. IsMoveOf key subscription.site (has_site before n) (has_site after n) one) here is)))
to_moves key first (next ∷ subscriptions) before after one (suc place) subscription stands number at is =
    Contains-append_right (move_if key next.site (has_site before first) (has_site after first)) (moves_from key (suc first) subscriptions before after) one
    (to_moves key (suc first) subscriptions before after one place subscription stands number (omega (arith, at)) is)

-- a move of a row that gets these marks
pub record MovesBy (subscriptions : List Subscription) (marks : RowKey → Sites) (entries : List (RowKey × Sites)) (one : Move) : Type 0 where
  pub sites : Sites
  pub among : Contains entries (key_of_move one, sites)
  pub at : MovesAt (key_of_move one) 0 subscriptions (marks (key_of_move one)) sites one

moves_by : (subscriptions : List Subscription) (marks : RowKey → Sites) (key : RowKey) (after : Sites) (entries : List (RowKey × Sites)) (one : Move) → MovesAt key 0 subscriptions (marks key) after one → key ≡ key_of_move one
    → MovesBy subscriptions marks ((key, after) ∷ entries) one
moves_by subscriptions marks key after entries one at is = record {
  sites = after;
  among = (0, omega arith, ap (λ k. (k, after)) is);
  at = subst (λ k. MovesAt k 0 subscriptions (marks k) after one) is at;
}

pub from_all : (subscriptions : List Subscription) (marks : RowKey → Sites) (entries : List (RowKey × Sites)) (one : Move) → Contains (all_moves subscriptions marks entries) one → MovesBy subscriptions marks entries one
from_all subscriptions marks [] one there = absurd (contains_none one there)
from_all subscriptions marks ((key, after) ∷ entries) one there =
    elim (Contains-append_cases (moves_from key 0 subscriptions (marks key) after) (all_moves subscriptions marks entries) one there) [
      | inl here ↦ let at = from_moves key 0 subscriptions (marks key) after one here in moves_by subscriptions marks key after entries one at at.is.row_is
      | inr later ↦
          let more = from_all subscriptions marks entries one later in
          record { sites = more.sites; among = Contains-append_right ((key, after) ∷ []) entries (key_of_move one, more.sites) more.among; at = more.at }
    ]

pub to_all : (subscriptions : List Subscription) (marks : RowKey → Sites) (entries : List (RowKey × Sites)) (one : Move) (sites : Sites) → Contains entries (key_of_move one, sites)
    → Contains (moves_from (key_of_move one) 0 subscriptions (marks (key_of_move one)) sites) one → Contains (all_moves subscriptions marks entries) one
to_all subscriptions marks [] one sites among there = absurd (contains_none (key_of_move one, sites) among)
to_all subscriptions marks ((key, after) ∷ entries) one sites among there =
    elim (contains_cases (key, after) entries (key_of_move one, sites) among) [
      | inl same ↦
          Contains-append_left (moves_from key 0 subscriptions (marks key) after) (all_moves subscriptions marks entries) one
          (subst (λ (e : RowKey × Sites). Contains (moves_from e.0 0 subscriptions (marks e.0) e.1) one) (sym same) there)
      | inr later ↦
          Contains-append_right (moves_from key 0 subscriptions (marks key) after) (all_moves subscriptions marks entries) one (to_all subscriptions marks entries one sites later there)
    ]

-- What a link carried and a clock gave, and then more of it.
use Rattle.std.proofs.Common.{◌≡◌, ◌∙◌, ℕ, ◌+◌, ◌≤◌, List, [], ◌∷◌, ◌++◌, map, refl, sym, ap, subst, arith, append_assoc}
use Rattle.std.specs.Prelude.{IfSome, option_map}
use Rattle.std.specs.declared.option.Option.{Option}
use Rattle.std.specs.declared.option.Option.TheVariants.{None, Some}
use Rattle.std.proofs.lemmas.List.{append-nil, map-append}
use Rattle.merge_types.specs.declared.identifiers.Moment.{Moment}
use Rattle.merge_link.specs.Moments.{Moments, next_moment, later_moments}
use Rattle.merge_link.specs.declared.link.Exchange.{Exchange}
use Rattle.merge_world.specs.Views.{SubscriberView}
use Rattle.merge_link.specs.Carried.{before_response, with_exchange}
use Rattle.merge_agent.specs.Meetings.{Gives, Meeting, Passes, meeting, response_of}

abbrev pub in_front : List Exchange → List (List ℕ) → List (List ℕ)
in_front exchanges later = map response_of exchanges ++ later

abbrev pub behind : List Exchange → List Exchange → List Exchange
behind exchanges earlier = earlier ++ exchanges

both-in-front : (es fs : List Exchange) (later : List (List ℕ)) → in_front es (in_front fs later) ≡ in_front (es ++ fs) later
both-in-front es fs later = rw (map-append response_of es fs, append_assoc) refl

coming-then : (es fs : List Exchange) (x y z : Option (List (List ℕ))) → x ≡ option_map (in_front es) y → y ≡ option_map (in_front fs) z → x ≡ option_map (in_front (es ++ fs)) z
coming-then es fs x y None p q = p ∙ ap (option_map (in_front es)) q
coming-then es fs x y (Some later) p q = p ∙ ap (option_map (in_front es)) q ∙ ap (λ (l : List (List ℕ)). Some l) (both-in-front es fs later)

carried-then : (es fs : List Exchange) (x y z : Option (List Exchange)) → y ≡ option_map (behind es) x → z ≡ option_map (behind fs) y → z ≡ option_map (behind (es ++ fs)) x
carried-then es fs None y z p q = q ∙ ap (option_map (behind fs)) p
carried-then es fs (Some earlier) y z p q = q ∙ ap (option_map (behind fs)) p ∙ ap (λ (l : List Exchange). Some l) (append_assoc earlier es fs)

pub gives-then : (x : Option Moments) (ms : List Moment) (y : Option Moments) (ns : List Moment) (z : Option Moments) → Gives x ms y → Gives y ns z → Gives x (ms ++ ns) z
gives-then None ms y ns z p q = subst (λ (o : Option Moments). Gives o ns z) p q
gives-then (Some told) [] y ns z p q = subst (λ (o : Option Moments). Gives o ns z) p q
gives-then (Some told) (m ∷ ms) y ns z p q = (p.0, gives-then (Some (later_moments told)) ms y ns z p.1 q)

-- a clock that gave one moment
pub gives-one : (x y : Option Moments) (now : Moment) → IfSome x (λ told. now ≡ next_moment told) → y ≡ option_map later_moments x → Gives x (now ∷ []) y
gives-one None y now moment later = later
gives-one (Some told) y now moment later = (moment, later)

gives-none : (x : Option Moments) → Gives x [] x
gives-none None = refl
gives-none (Some told) = refl

coming-none : (x : Option (List (List ℕ))) → x ≡ option_map (in_front []) x
coming-none None = refl
coming-none (Some later) = refl

carried-none : (x : Option (List Exchange)) → x ≡ option_map (behind []) x
carried-none None = refl
carried-none (Some earlier) = ap (λ (l : List Exchange). Some l) (sym (append-nil earlier))

pub passes-none : (m : Meeting) → Passes [] [] m m
passes-none m = record {
  publication = refl;
  coming = coming-none m.coming;
  carried = carried-none m.exchanges;
  given = gives-none m.moments;
  faults = omega arith;
  links = omega arith;
}

pub passes-then : (es fs : List Exchange) (ms ns : List Moment) (a b c : Meeting) → Passes es ms a b → Passes fs ns b c → Passes (es ++ fs) (ms ++ ns) a c
passes-then es fs ms ns a b c p q = record {
  publication = q.publication ∙ p.publication;
  coming = coming-then es fs a.coming b.coming c.coming p.coming q.coming;
  carried = carried-then es fs a.exchanges b.exchanges c.exchanges p.carried q.carried;
  given = gives-then a.moments ms b.moments ns c.moments p.given q.given;
  faults = omega (arith, p.faults, q.faults);
  links = omega (arith, p.links, q.links);
}

-- A link that was asked nothing, or failed, and one that carried an exchange.

pub passes-still : (v w : SubscriberView) (co cn : Option (List (List ℕ))) (xo xn : Option (List Exchange)) (lo ln : ℕ) (mo mn : Option Moments) (ms : List Moment)
    → w.publication ≡ v.publication → v.faults ≤ w.faults → cn ≡ co → xn ≡ xo → lo ≤ ln → Gives mo ms mn → Passes [] ms (meeting v co xo lo mo) (meeting w cn xn ln mn)
passes-still v w co cn xo xn lo ln mo mn ms publication faults coming exchanges links given = record {
  publication = publication;
  coming = sym coming ∙ coming-none cn;
  carried = exchanges ∙ carried-none xo;
  given = given;
  faults = faults;
  links = links;
}

pub passes-over : (v w : SubscriberView) (co cn : Option (List (List ℕ))) (xo xn : Option (List Exchange)) (lo ln : ℕ) (mo mn : Option Moments) (ms : List Moment) (request response : List ℕ)
    → w.publication ≡ v.publication → v.faults ≤ w.faults → co ≡ before_response response cn → xn ≡ with_exchange request response xo → lo ≤ ln → Gives mo ms mn
    → Passes (record { request = request; response = response } ∷ []) ms (meeting v co xo lo mo) (meeting w cn xn ln mn)
passes-over v w co cn xo xn lo ln mo mn ms request response publication faults coming exchanges links given = record {
  publication = publication;
  coming = coming;
  carried = exchanges;
  given = given;
  faults = faults;
  links = links;
}

-- The first rule that is broken, and the first item that breaks one.
use Rattle.std.specs.Prelude.{ℕ, ◌+◌, ◌==◌, ◌&&◌, ◌||◌, Bool, true, false, not, nat_lt, List, [], ◌∷◌, Option, Some, None, option_map}
use Rattle.std.specs.Option.{option_or}
use Rattle.std.specs.List.{list_any}
use Rattle.merge_batch.specs.declared.rules.BrokenRule.{BrokenRule}

-- the number of the first rule that is not met. The rules come in order, each with whether it is met
abbrev pub first_broken : List (ℕ × Bool) → Option ℕ
first_broken [] = None
first_broken ((number, true) ∷ rules) = first_broken rules
first_broken ((number, false) ∷ rules) = Some number

-- the rule is broken at a place
abbrev pub broken_at : ℕ → ℕ → BrokenRule
broken_at place rule = record { item = place; rule = rule }

-- the first rule that the message as a whole breaks, which is item 0
abbrev pub broken_by_message : List (ℕ × Bool) → Option BrokenRule
broken_by_message rules = option_map (broken_at 0) (first_broken rules)

-- the first item that breaks a rule, with its place and the rule. Each item is held against the one before it
abbrev pub broken_from : {X : Type 0} → (Option X → X → List (ℕ × Bool)) → ℕ → Option X → List X → Option BrokenRule
broken_from rules place before [] = None
broken_from rules place before (item ∷ items) =
    option_or (option_map (broken_at place) (first_broken (rules before item))) (broken_from rules (place + 1) (Some item) items)

-- places count from 1
abbrev pub broken_by_items : {X : Type 0} → (Option X → X → List (ℕ × Bool)) → List X → Option BrokenRule
broken_by_items rules items = broken_from rules 1 None items

-- rows rise by article, and within an article by identifier
abbrev pub is_below : ℕ × ℕ → ℕ × ℕ → Bool
is_below a b = nat_lt a.0 b.0 || (a.0 == b.0 && nat_lt a.1 b.1)

-- a row is above the one before it, where there is one
abbrev pub is_above : Option (ℕ × ℕ) → ℕ × ℕ → Bool
is_above None row = true
is_above (Some before) row = is_below before row

-- no two members have one number
abbrev pub are_distinct : List ℕ → Bool
are_distinct [] = true
are_distinct (n ∷ ns) = not (list_any (λ m. m == n) ns) && are_distinct ns

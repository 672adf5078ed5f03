-- What the words of `serve` say.
use Rattle.std.specs.Prelude.{List, None, Option, Some, [], codes, if◌then◌else◌, nat_eq, nat_le, not, option_and_then, option_map, ℕ, ◌&&◌, ◌||◌, ◌∷◌}
use Rattle.std.specs.Cmp.Lexicographic.{pointwise}
use Rattle.merge_script.specs.Names.{decimal_of}
use Rattle.merge_program.specs.Commands.{is_address, is_dashed}
use Rattle.merge_program.specs.declared.order.Order.{Order}

-- how many workers a publisher has: a plain decimal from 1 to 16
abbrev pub workers_of : List ℕ → Option ℕ
workers_of word = option_and_then (λ (n : ℕ). if nat_le 1 n && nat_le n 16 then Some n else None) (decimal_of word)

-- how many requests it serves: a plain decimal from 1 to 1000000
abbrev pub requests_of : List ℕ → Option ℕ
requests_of word = option_and_then (λ (n : ℕ). if nat_le 1 n && nat_le n 1000000 then Some n else None) (decimal_of word)

-- no path and no address begins with a dash
abbrev pub order_by : (publication store address workers requests : List ℕ) → Option Order
order_by publication store address workers requests =
    if is_dashed publication || (is_dashed store || (is_dashed address || not (is_address address))) then None
    else option_and_then (λ (many : ℕ). option_map (λ (most : ℕ). record { publication = publication; store = store; address = address; workers = many; requests = most }) (requests_of requests)) (workers_of workers)

-- the order that words say: `serve`, a publication's path, a store's path, an address, a number of workers and one of requests
abbrev pub order_of : List (List ℕ) → Option Order
order_of (word ∷ publication ∷ store ∷ address ∷ workers ∷ requests ∷ []) = if pointwise nat_eq word (codes "serve") then order_by publication store address workers requests else None
order_of other = None

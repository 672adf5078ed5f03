-- The code of a tree: its parts in a list, each operation behind its operands, from which a stack makes it again.
use Rattle.std.specs.Prelude.{◌≡◌, ℕ, zero, suc, List, [], ◌∷◌, refl}
use Rattle.std.specs.Coded.{Coded, code_by, coded×, coded_ℕ, coded_list}
use Rattle.std.proofs.Common.{ap, ◌∙◌}
use Rattle.merge_filter.specs.declared.word.Sign.{Sign}
use Rattle.merge_filter.specs.declared.word.Sign.TheVariants.{Equal}
use Rattle.merge_filter.specs.declared.tree.Operand.{Operand}
use Rattle.merge_filter.specs.declared.tree.Operand.TheVariants as operands
use Rattle.merge_filter.specs.contracts.word.Sign as sign
use Rattle.merge_filter.specs.contracts.tree.Operand as operand
use Rattle.merge_filter.specs.Syntax.{Syntax, Or, And, Not, Compare, IsNull, IsNotNull}

-- which operation it is, a column, and a comparison
abbrev pub Item : Type 0
Item = ℕ × (ℕ × (Operand × (Sign × (ℕ × Operand))))

abbrev pub item_code : Coded Item
item_code = coded× coded_ℕ (coded× coded_ℕ (coded× (operand.the_row).coded (coded× (sign.the_row).coded (coded× coded_ℕ (operand.the_row).coded))))

abbrev pub plain_item : ℕ → ℕ → Item
plain_item n c = (n, (c, (operands.Host, (Equal, (0, operands.Host)))))

abbrev pub items : Syntax → List Item → List Item
items (Or a b) rest = items a (items b (plain_item 0 0 ∷ rest))
items (And a b) rest = items a (items b (plain_item 1 0 ∷ rest))
items (Not a) rest = items a (plain_item 2 0 ∷ rest)
items (IsNull c) rest = plain_item 3 c ∷ rest
items (IsNotNull c) rest = plain_item 4 c ∷ rest
items (Compare x s p y) rest = (5, (0, (x, (s, (p, y))))) ∷ rest

-- two trees from the top of the stack become one, and one becomes its negation
abbrev pub stack_after_join : (Syntax → Syntax → Syntax) → List Syntax → List Syntax
stack_after_join f [] = []
stack_after_join f (b ∷ []) = []
stack_after_join f (b ∷ a ∷ st) = f a b ∷ st

abbrev pub stack_after_not : List Syntax → List Syntax
stack_after_not [] = []
stack_after_not (a ∷ st) = Not a ∷ st

abbrev pub stack_after : ℕ → ℕ → Syntax → List Syntax → List Syntax
stack_after zero c t st = stack_after_join Or st
stack_after (suc zero) c t st = stack_after_join And st
stack_after (suc (suc zero)) c t st = stack_after_not st
stack_after (suc (suc (suc zero))) c t st = IsNull c ∷ st
stack_after (suc (suc (suc (suc zero)))) c t st = IsNotNull c ∷ st
stack_after (suc (suc (suc (suc (suc n))))) c t st = t ∷ st

abbrev pub stack_after_items : List Item → List Syntax → List Syntax
stack_after_items [] st = st
stack_after_items (i ∷ is) st = stack_after_items is (stack_after i.0 i.1.0 (Compare i.1.1.0 i.1.1.1.0 i.1.1.1.1.0 i.1.1.1.1.1) st)

abbrev pub top : List Syntax → Syntax
top [] = IsNull 0
top (t ∷ st) = t

pub run_items : (t : Syntax) (rest : List Item) (st : List Syntax) → stack_after_items (items t rest) st ≡ stack_after_items rest (t ∷ st)
run_items (Or a b) rest st = run_items a (items b (plain_item 0 0 ∷ rest)) st ∙ run_items b (plain_item 0 0 ∷ rest) (a ∷ st)
run_items (And a b) rest st = run_items a (items b (plain_item 1 0 ∷ rest)) st ∙ run_items b (plain_item 1 0 ∷ rest) (a ∷ st)
run_items (Not a) rest st = run_items a (plain_item 2 0 ∷ rest) st
run_items (IsNull c) rest st = refl
run_items (IsNotNull c) rest st = refl
run_items (Compare x s p y) rest st = refl

abbrev pub syntax_code : Coded Syntax
syntax_code = code_by (List Item) (coded_list item_code) (λ t. items t []) (λ is. top (stack_after_items is [])) (λ t. ap top (run_items t [] []))

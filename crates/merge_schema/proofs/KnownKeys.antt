-- The keys of a table beside its members.
use Rattle.std.proofs.Common.{◌≡◌, List, [], ◌∷◌, Bool, true, false, not, Option, Some, None, Result, Ok, Err, find, String, Global, string_bytes, refl, sym, ap, ◌∙◌}
use Rattle.std.specs.Map.{keys_of}
use Rattle.toml.specs.declared.value.Value.{Value}
use Rattle.toml.specs.View.{members_view}
use Rattle.merge_schema.specs.declared.fault.SchemaFault.{SchemaFault}
use Rattle.merge_schema.specs.declared.fault.SchemaFault.TheVariants.{BadValue}
use Rattle.merge_schema.specs.declared.keys.Shape.{Shape}
use Rattle.merge_schema.specs.Keys.{is_key, known_only}

abbrev pub is_unknown : Shape → String Global → Bool
is_unknown shape k = not (is_key shape (string_bytes k))

abbrev pub refused : Option (String Global) → Result (Unit {0}) SchemaFault
refused None = Ok tt
refused (Some k) = Err (BadValue (string_bytes k))

pub known_by_find : (shape : Shape) (es : List (String Global × Value)) → known_only shape (members_view es) ≡ refused (find (is_unknown shape) (keys_of es))
known_by_find shape [] = refl
known_by_find shape (e ∷ es) = by (is_key shape (string_bytes e.0)) refl (known_by_find shape es)
  where
    by : (b : Bool) → is_key shape (string_bytes e.0) ≡ b → known_only shape (members_view es) ≡ refused (find (is_unknown shape) (keys_of es)) → known_only shape (members_view (e ∷ es)) ≡ refused (find (is_unknown shape) (keys_of (e ∷ es)))
    by true h more = rw h more
    by false h more = rw h refl

-- with no unknown key the table passes, and else its first is refused
pub none_unknown : (shape : Shape) (es : List (String Global × Value)) → None ≡ find (is_unknown shape) (keys_of es) → known_only shape (members_view es) ≡ Ok tt
none_unknown shape es h = known_by_find shape es ∙ ap refused (sym h)

pub some_unknown : (shape : Shape) (es : List (String Global × Value)) (k : String Global) → Some k ≡ find (is_unknown shape) (keys_of es) → known_only shape (members_view es) ≡ Err (BadValue (string_bytes k))
some_unknown shape es k h = known_by_find shape es ∙ ap refused (sym h)

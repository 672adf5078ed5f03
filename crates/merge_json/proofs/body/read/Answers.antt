use Rattle.std.proofs.Common.{◌≡◌, ◌∙◌, ℕ, List, Bool, true, false, cond, Option, None, refl, ap, sym, subst}
use Rattle.std.specs.Str.{IsUtf8, is_utf8}
use Rattle.std.proofs.lemmas.Str.{is_utf8-from_IsUtf8, IsUtf8-from_is_utf8}
use Rattle.serde_json.specs.Data.{Data}
use Rattle.serde_json.specs.Read as json
use Rattle.serde_json.specs.View.{view}
use Rattle.merge_json.specs.Outcomes.{Gives}
use Rattle.merge_json.specs.Bodies.{data_at}
use Rattle.merge_json.proofs.body.read.Goals as goal

is_text : (body : List ℕ) → IsUtf8 body → data_at body ≡ json.read body
unfolding data_at
is_text body h = rw (is_utf8-from_IsUtf8 body h) refl

abbrev nothing : Option Data
nothing = None

no_text : (body : List ℕ) → (IsUtf8 body → ⊥) → data_at body ≡ None
unfolding data_at
no_text body h = by (is_utf8 body) refl
  where
    by : (b : Bool) → is_utf8 body ≡ b → cond b (json.read body) nothing ≡ nothing
    by true e = absurd (h (IsUtf8-from_is_utf8 body e))
    by false e = refl

pub returns-in-Ok : goal.returns-in-Ok
returns-in-Ok c = subst (λ (o : Option Data). Gives view c.read_text.result o) (ap json.read c.in-Ok.ensures.cases.0 ∙ sym (is_text c.args.body.now c.in-Ok.ensures.cases.1)) c.read_text.ensures

pub returns-in-Err : goal.returns-in-Err
returns-in-Err c = no_text c.args.body.now c.in-Err.ensures.cases.0

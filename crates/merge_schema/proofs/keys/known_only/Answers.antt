use Rattle.std.proofs.Common.{ap, sym, ◌∙◌, Err}
use Rattle.merge_schema.specs.declared.fault.SchemaFault.TheVariants.{BadValue}
use Rattle.merge_schema.proofs.KnownKeys.{none_unknown, some_unknown}
use Rattle.merge_schema.proofs.keys.known_only.Goals as goal

pub returns-in-None : goal.returns-in-None
returns-in-None c = none_unknown c.args.shape c.args.table.now.entries c.in-None.ensures

pub returns-in-Some : goal.returns-in-Some
returns-in-Some c =
    λ other. some_unknown c.args.shape c.args.table.now.entries c.in-Some.key.now c.in-Some.ensures ∙ ap (λ k. Err (BadValue k)) (sym c.as_str.ensures.value) ∙ ap Err (sym (c.bad_value.ensures other))

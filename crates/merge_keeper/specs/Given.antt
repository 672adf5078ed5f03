-- What a start is given: the entries of a keeper, and what a site holds of ranges before it received any.
use Rattle.std.specs.Prelude.{◌≡◌, ℕ, ◌==◌, Bool, true, List, is_some}
use Rattle.std.specs.List.{AllByRecursion, list_any}
use Rattle.std.specs.List.Sorted.{IsStrictlySortedBy}
use Rattle.std.specs.Map.{keys_of}
use Rattle.std.specs.Ordering.{nat_cmp}
use Rattle.merge_ident.specs.Holders.{Holder}
use Rattle.merge_schema.specs.declared.publication.Publication.{Publication}
use Rattle.merge_ports.specs.declared.entry.EntryKey.{EntryKey}
use Rattle.merge_ports.specs.Entries.{Map, entry_cmp}
use Rattle.merge_record.specs.Codec.{IsBytes}
use Rattle.merge_keeper.specs.Start.{identity_at}

abbrev pub Entry : Type 0
Entry = EntryKey × List ℕ

-- the key and the value are bytes
abbrev pub IsEntry : Entry → Type 0
IsEntry e = IsBytes e.0.key × IsBytes e.1

-- the keys ascend, as in every keeper
pub record IsMap (es : Map) : Type 0 where
  pub ascends : IsStrictlySortedBy entry_cmp (keys_of es)
  pub bytes : AllByRecursion IsEntry es

-- whether an article is among those that have a holder
abbrev pub has_holder : List (ℕ × Holder) → ℕ → Bool
has_holder held article = list_any (λ (p : ℕ × Holder). p.0 == article) held

-- by article: of none a range was received, and each article with an identity column is there
pub record IsBeginning (publication : Publication) (held : List (ℕ × Holder)) : Type 0 where
  pub ascends : IsStrictlySortedBy nat_cmp (keys_of held)
  pub none : AllByRecursion (λ p. p.1.have ≡ 0) held
  pub each : (article : ℕ) → is_some (identity_at publication article) ≡ true → has_holder held article ≡ true

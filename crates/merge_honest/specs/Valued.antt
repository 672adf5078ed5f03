-- An insert of an article with an identity column took a value, so its rows have one.
use Rattle.std.specs.List.{AllByRecursion}
use Rattle.std.specs.Prelude.{is_some, true, ◌≡◌}
use Rattle.merge_types.specs.declared.row_key.RowKey.{RowKey as Key}
use Rattle.merge_units.specs.declared.version.Body.{Body}
use Rattle.merge_units.specs.declared.version.Body.TheVariants.{Dead, Live}
use Rattle.merge_units.specs.declared.version.Version.{Version}
use Rattle.merge_schema.specs.declared.publication.Publication.{Publication}
use Rattle.merge_batch.specs.Uploads.{identity_value}
use Rattle.merge_model.specs.History.{MadeChange, Past}
use Rattle.merge_model.specs.History.Model.{Model}
use Rattle.merge_model.specs.World.{Saying}
use Rattle.merge_laws.specs.Facts.LineagesStand.{EveryVersion}
use Rattle.merge_owed.specs.Identity.{HasIdentity, IsMaker}

abbrev pub InsertsTook : Publication → Saying → Model → Type 0
InsertsTook publication says m = AllByRecursion (λ (change : MadeChange). IsMaker change → HasIdentity publication change.key → is_some change.identity ≡ true) m.history.made

-- a live version has a value in its article's identity column. Of a deleted row nothing is said
abbrev pub IsValued : Publication → Key → Body → Type 0
IsValued publication key (Live cells) = HasIdentity publication key → is_some (identity_value publication key.article (Live cells)) ≡ true
IsValued publication key (Dead top) = Unit {0}

-- at each site, in each message and in each conflict table
abbrev pub RowsAreValued : Publication → Saying → Model → Type 0
RowsAreValued publication says m = EveryVersion (λ (key : Key) (version : Version) (past : Past). IsValued publication key version.body) m

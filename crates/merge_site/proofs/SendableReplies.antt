-- A reply to a download has a form that can be sent: what it puts are rows of the publisher, which can all be printed.
use Rattle.std.specs.BTreeMap.{is_at}
use Rattle.std.specs.List.{AllByRecursion}
use Rattle.std.specs.Map.{lookup}
use Rattle.std.specs.Prelude.{◌≡◌, All, Bool, Err, IfOk, List, Option, Result, [], ◌∷◌, None, Some, Ok, true, false, filter, get_or, if◌then◌else◌, map, option_map}
use Rattle.std.proofs.Common.{subst}
use Rattle.std.proofs.lemmas.List.Elements.{All-map, All-nil, recursion_from_All}
use Rattle.merge_types.specs.declared.identifiers.Moment.{Moment}
use Rattle.merge_types.specs.RowKeys.{key_cmp}
use Rattle.merge_types.specs.declared.row_key.RowKey.{RowKey as Key}
use Rattle.merge_units.specs.Version.{cells_of, is_live}
use Rattle.merge_units.specs.declared.site_row.PublisherRow.{PublisherRow}
use Rattle.merge_units.specs.declared.version.Body.{Body}
use Rattle.merge_units.specs.declared.version.Body.TheVariants.{Dead, Live}
use Rattle.merge_schema.specs.declared.publication.Publication.{Publication}
use Rattle.merge_batch.specs.Orders.{order_by}
use Rattle.merge_batch.specs.declared.refusal.Refusal.{Refusal}
use Rattle.merge_batch.specs.declared.reply.Act.{Act as Order}
use Rattle.merge_batch.specs.declared.reply.Act.TheVariants as order
use Rattle.merge_batch.specs.declared.reply.Downloaded.{Downloaded}
use Rattle.merge_batch.specs.declared.reply.Reply.TheVariants as reply
use Rattle.merge_batch.specs.declared.request.Download.{Download}
use Rattle.merge_json.specs.Sendable.{HasProperDays, IsProperAct, IsProperOrder, IsSendableReply}
use Rattle.merge_model.specs.Judge.ByNumbers.{by_numbers}
use Rattle.merge_model.specs.Tables.Keys.{row_at}
use Rattle.merge_model.specs.Script.Proper.{IsProperBody}
use Rattle.merge_model.specs.Publisher.{at_moment}
use Rattle.merge_model.specs.Publisher.PublisherDownload.{TouchedRow, download, download_refusal, is_between, item_of, reply_to, tables_after_download, touched_rows}
use Rattle.merge_model.specs.Tables.Refusals.{unless}
use Rattle.merge_model.specs.Tables.{PublisherTables}
use Rattle.merge_steps.specs.declared.changes.Draft.{Draft}
use Rattle.merge_world.specs.Printable.{ArePrintable}
use Rattle.merge_site.specs.Publishers.{tables_after_draft}

-- One row.

abbrev IsProperRow : Option PublisherRow → Type 0
IsProperRow None = Unit {0}
IsProperRow (Some row) = IsProperBody row.version.body

row-proper : (test : Key → Bool) (rows : List (Key × PublisherRow)) → AllByRecursion (λ (row : Key × PublisherRow). IsProperBody row.1.version.body) rows → IsProperRow (lookup test rows)
row-proper test [] all = tt
row-proper test (row ∷ rows) all = elim (test row.0) as (λ b. IsProperRow (let o : Option PublisherRow = if b then Some row.1 else lookup test rows in o)) [
  | true ↦ all.0
  | false ↦ row-proper test rows all.1
]

cells-proper : (body : Body) → IsProperBody body → All HasProperDays (cells_of body)
cells-proper (Live cells) proper = proper
cells-proper (Dead top) proper = All-nil HasProperDays

removed-proper : (live : Bool) → IsProperAct (let act : Order = if live then order.RemoveLeft else order.RemoveDeleted in act)
removed-proper true = tt
removed-proper false = tt

act-proper : (is_in : Bool) (o : Option PublisherRow) → IsProperRow o → IsProperAct (order_by is_in (option_map (λ (row : PublisherRow). row.version) o))
act-proper true (Some row) proper = cells-proper row.version.body proper
act-proper false (Some row) proper = removed-proper (is_live row.version.body)
act-proper true None proper = tt
act-proper false None proper = tt

-- All rows of a reply.

module _ (p : PublisherTables) (printable : ArePrintable (λ (row : PublisherRow). row.version) p.rows) where
  item-proper : (row : TouchedRow) → IsProperOrder (item_of p row)
  item-proper row =
      act-proper row.is_in (row_at p.rows row.key)
      (row-proper (is_at (key_cmp row.key)) p.rows (recursion_from_All (λ (row : Key × PublisherRow). IsProperBody row.1.version.body) p.rows printable))

  items-proper : (rows : List TouchedRow) → All IsProperOrder (map (item_of p) rows)
  items-proper rows = All-map IsProperOrder (item_of p) rows (λ k d less. item-proper (get_or rows k d))

done-is : {A : Type 0} (refusal : Option Refusal) (done made : A) → unless refusal done ≡ Ok made → done ≡ made
done-is None done made is = cc
done-is (Some why) done made is = absurd cc

download-sendable : (publication : Publication) (now : Moment) (m : Download) (p : PublisherTables) → ArePrintable (λ (row : PublisherRow). row.version) p.rows
    → (made : PublisherTables × Downloaded) → download publication (by_numbers p) now m p ≡ Ok made → IsSendableReply (reply.Downloaded made.1)
download-sendable publication now m p printable made is =
    let after : PublisherTables = tables_after_download m (at_moment now p) in
    subst (λ (d : PublisherTables × Downloaded). All IsProperOrder d.1.items) (done-is (download_refusal publication now m p) (after, reply_to publication (by_numbers p) m after) made is)
    (items-proper after printable (filter (is_between m.from (reply_to publication (by_numbers p) m after).to) (touched_rows publication (by_numbers p) m.site after)))

pub downloads-sendable : (publication : Publication) (now : Moment) (m : Download) (p : PublisherTables) → ArePrintable (λ (row : PublisherRow). row.version) p.rows
    → (worked : Result (Draft × Downloaded) Refusal) → IfOk worked (λ made. download publication (by_numbers p) now m p ≡ Ok (tables_after_draft p made)) → IfOk worked (λ made. IsSendableReply (reply.Downloaded made.1))
downloads-sendable publication now m p printable (Ok made) is = download-sendable publication now m p printable (tables_after_draft p made) is
downloads-sendable publication now m p printable (Err why) is = tt

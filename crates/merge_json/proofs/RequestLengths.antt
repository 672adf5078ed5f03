-- Requests within the limits of the product are short.
use Rattle.std.proofs.Common.{◌≡◌, ℕ, ◌+◌, ◌≤◌, List, length, codes, Some, Ok, arith}
use Rattle.std.specs.List.{AllByRecursion}
use Rattle.std.proofs.lemmas.List.Elements.{recursion_from_All}
use Rattle.serde_json.specs.Written.{compact_text}
use Rattle.serde_json.proofs.OnLiterals.{serde_json_on_literals}
use Rattle.merge_units.specs.declared.version.Body.{Body}
use Rattle.merge_units.specs.declared.version.Body.TheVariants.{Live, Dead}
use Rattle.merge_batch.specs.Heads.{kind_of}
use Rattle.merge_batch.specs.declared.request.Request.{Request}
use Rattle.merge_batch.specs.declared.request.Request.TheVariants as request
use Rattle.merge_batch.specs.declared.request.Upload.{Upload}
use Rattle.merge_batch.specs.declared.request.UploadItem.{UploadItem}
use Rattle.merge_batch.specs.declared.request.Want.{Want}
use Rattle.merge_json.specs.Bodies.{data_at}
use Rattle.merge_json.specs.Requests.{request_at}
use Rattle.merge_json.specs.Written.{list_of, cell_data}
use Rattle.merge_json.specs.WrittenRequests.{want_data, upload_item_data, upload_item_data_by, upload_data, request_data}
use Rattle.merge_json.specs.Forms.{IsCell}
use Rattle.merge_json.specs.RequestForms.{IsBody, IsUploadItem, IsUpload, IsRequest}
use Rattle.merge_json.specs.Limits.{body_limit, IsShortLineage, IsShortBody, IsShortItem, IsShortRequest}
use Rattle.merge_json.proofs.Weights.{weight, body_short, text_short}
use Rattle.merge_json.proofs.Lengths.{OwnCell, both_recursion, own_list, items_short, all_short, key_short, lineage_short, row_short, dot_short, cells_short}
use Rattle.merge_json.proofs.RequestForms.{request_found}

abbrev OwnBody : Body → Type 0
OwnBody (Live cells) = AllByRecursion OwnCell cells
OwnBody (Dead top) = Unit {0}

body_own : (i : UploadItem) (b : Body) → IsBody b (upload_item_data_by i b) → OwnBody b
unfolding serde_json_on_literals
body_own i (Live cells) is =
    let found : Some (list_of cell_data cells) ≡ Some is.0.0 = is.0.1 in
    let same : is.0.0 ≡ list_of cell_data cells = cc in
    own_list (λ c d. IsCell c d) cell_data cells is.0.0 same is.0.2
body_own i (Dead top) is = tt

item_short : (i : UploadItem) (b : Body) → IsShortLineage i.version.lineage → IsShortBody b → OwnBody b → weight (upload_item_data_by i b) + 1 ≤ 66_700
item_short i (Live cells) few short own =
    omega (
      arith,
      key_short (codes "article"),
      key_short (codes "generation"),
      key_short (codes "lineage"),
      key_short (codes "live"),
      key_short (codes "row"),
      lineage_short i.version.lineage few,
      cells_short cells short.few short.few_values short.short own,
      row_short i.row.0,
    )
item_short i (Dead top) few short own =
    omega (
      arith,
      key_short (codes "article"),
      key_short (codes "dead"),
      key_short (codes "generation"),
      key_short (codes "lineage"),
      key_short (codes "row"),
      lineage_short i.version.lineage few,
      dot_short top,
      row_short i.row.0,
    )

abbrev IsShortOwn : UploadItem → Type 0
IsShortOwn i = IsShortItem i × IsUploadItem i (upload_item_data i)

one_item_short : (i : UploadItem) → IsShortOwn i → weight (upload_item_data i) + 1 ≤ 66_700
one_item_short i is = item_short i i.version.body is.0.0 is.0.1 (body_own i i.version.body is.1.body)

items_own : (u : Upload) → IsUpload u (upload_data u) → AllByRecursion (λ i. IsUploadItem i (upload_item_data i)) u.items
unfolding serde_json_on_literals
items_own u is =
    let found : Some (list_of upload_item_data u.items) ≡ Some is.items.0 = is.items.1 in
    let same : is.items.0 ≡ list_of upload_item_data u.items = cc in
    own_list (λ i d. IsUploadItem i d) upload_item_data u.items is.items.0 same is.items.2

want_short : (w : Want) → weight (want_data w) + 1 ≤ 150
want_short w = omega (arith, key_short (codes "article"), key_short (codes "due"), key_short (codes "have"))

request_short : (r : Request) → IsShortRequest r → IsRequest r (request_data r) → weight (request_data r) ≤ body_limit
request_short (request.Join j) short is = omega (arith, key_short (codes "generation"), key_short (codes "number"), key_short (codes "seq"), key_short (codes "site"))
request_short (request.Upload u) short is =
    let own = both_recursion IsShortItem (λ i. IsUploadItem i (upload_item_data i)) u.items (recursion_from_All IsShortItem u.items short.1) (items_own u is) in
    let items = items_short upload_item_data IsShortOwn 66_700 one_item_short u.items own in
    omega (arith, key_short (codes "from"), key_short (codes "items"), key_short (codes "seq"), key_short (codes "site"), key_short (codes "through"), key_short (codes "to"), items, short.0)
request_short (request.Ranges a) short is =
    let wants = all_short want_data 150 want_short a.wants in
    omega (arith, key_short (codes "seq"), key_short (codes "site"), key_short (codes "wants"), wants, short)
request_short (request.Download w) short is = omega (arith, key_short (codes "from"), key_short (codes "seq"), key_short (codes "site"))

pub request_fits : (r : Request) (body : List ℕ) → data_at body ≡ Some (request_data r) → request_at (kind_of r) (request_data r) ≡ Ok r → IsShortRequest r → length (compact_text (request_data r)) ≤ body_limit
request_fits r body told again short =
    let is = request_found (kind_of r) (request_data r) r again in
    let text = text_short (request_data r) (body_short body (request_data r) told) in
    omega (arith, text, request_short r short is.1)

-- What is written has no float and nests little.
use Rattle.std.proofs.Common.{◌≡◌, ◌≤◌, ℕ, suc, max, ℤ, pos, negsuc, List, [], ◌∷◌, map, false, refl, arith}
use Rattle.std.proofs.Math.Nat.{max-le}
use Rattle.serde_json.specs.Data.{Data, depth, items_depth}
use Rattle.serde_json.specs.Find.{of_integer, is_float}
use Rattle.serde_json.specs.View.{items_of}
use Rattle.serde_json.specs.Written.{has_float, items_have_float}
use Rattle.merge_types.specs.declared.identifiers.Dot.{Dot}
use Rattle.merge_types.specs.declared.values.Value.{Value}
use Rattle.merge_types.specs.declared.values.Value.TheVariants.{Null, Int, Bit, Text, Day, Guid, Bytes}
use Rattle.merge_units.specs.declared.version.Cell.{Cell}
use Rattle.merge_units.specs.declared.version.Body.{Body}
use Rattle.merge_units.specs.declared.version.Body.TheVariants.{Live, Dead}
use Rattle.merge_batch.specs.declared.request.Request.{Request}
use Rattle.merge_batch.specs.declared.request.Request.TheVariants as request
use Rattle.merge_batch.specs.declared.request.UploadItem.{UploadItem}
use Rattle.merge_batch.specs.declared.reply.Reply.{Reply}
use Rattle.merge_batch.specs.declared.reply.Reply.TheVariants as reply
use Rattle.merge_batch.specs.declared.reply.RangeGrant.{RangeGrant}
use Rattle.merge_batch.specs.declared.reply.Ended.{Ended}
use Rattle.merge_batch.specs.declared.reply.DownloadItem.{DownloadItem}
use Rattle.merge_batch.specs.declared.reply.Act.{Act as Order}
use Rattle.merge_batch.specs.declared.reply.Act.TheVariants as order
use Rattle.merge_json.specs.Written.{whole, dot_data, value_data, cell_data}
use Rattle.merge_json.specs.WrittenRequests.{want_data, upload_item_data, upload_item_data_by, request_data}
use Rattle.merge_json.specs.WrittenReplies.{grant_data, ended_data, download_item_data, download_item_data_by, reply_data}

signed_plain : (z : ℤ) → is_float (of_integer z) ≡ false
signed_plain (pos n) = refl
signed_plain (negsuc n) = refl

items_plain : {A : Type 0} (f : A → Data) → ((x : A) → has_float (f x) ≡ false) → (xs : List A) → items_have_float (items_of (map f xs)) ≡ false
items_plain f h [] = refl
items_plain f h (x ∷ xs) = rw (h x) (items_plain f h xs)

items_flat : {A : Type 0} (f : A → Data) (n : ℕ) → ((x : A) → depth (f x) ≤ n) → (xs : List A) → items_depth (items_of (map f xs)) ≤ n
items_flat f n h [] = omega arith
items_flat f n h (x ∷ xs) = max-le (h x) (items_flat f n h xs)

-- how deep objects nest, by their members
cell_shape : (a : ℕ) → a ≤ 1 → suc (max (suc (max 0 (max 0 0))) (max (suc a) 0)) ≤ 3
cell_shape a h = omega (arith, h)

live_shape : (a b : ℕ) → a ≤ 1 → b ≤ 3 → suc (max 0 (max 0 (max (suc a) (max (suc b) (max 0 0))))) ≤ 5
live_shape a b h k = omega (arith, h, k)

dead_shape : (a : ℕ) → a ≤ 1 → suc (max 0 (max (suc (max 0 (max 0 0))) (max 0 (max (suc a) (max 0 0))))) ≤ 5
dead_shape a h = omega (arith, h)

put_shape : (a b : ℕ) → a ≤ 1 → b ≤ 3 → suc (max 0 (max (suc a) (max (suc b) (max 0 0)))) ≤ 5
put_shape a b h k = omega (arith, h, k)

items_shape : (a : ℕ) → a ≤ 5 → suc (max 0 (max (suc a) (max 0 (max 0 (max 0 (max 0 0)))))) ≤ 127
items_shape a h = omega (arith, h)

ask_shape : (a : ℕ) → a ≤ 1 → suc (max 0 (max 0 (max (suc a) 0))) ≤ 127
ask_shape a h = omega (arith, h)

ranged_shape : (a b : ℕ) → a ≤ 1 → b ≤ 1 → suc (max (suc a) (max (suc b) (max 0 0))) ≤ 127
ranged_shape a b h k = omega (arith, h, k)

refused_shape : (a : ℕ) → a ≤ 0 → suc (max 0 (max (suc a) 0)) ≤ 127
refused_shape a h = omega (arith, h)

value_plain : (v : Value) → has_float (value_data v) ≡ false
value_plain Null = refl
value_plain (Int z) = signed_plain z
value_plain (Bit b) = refl
value_plain (Text text) = refl
value_plain (Day day) = refl
value_plain (Guid n) = refl
value_plain (Bytes bytes) = refl

value_flat : (v : Value) → depth (value_data v) ≤ 1
value_flat Null = omega arith
value_flat (Int z) = omega arith
value_flat (Bit b) = omega arith
value_flat (Text text) = omega arith
value_flat (Day day) = omega arith
value_flat (Guid n) = omega arith
value_flat (Bytes bytes) = omega arith

cell_plain : (cell : Cell) → has_float (cell_data cell) ≡ false
cell_plain cell = rw (items_plain value_data value_plain cell.values) refl

cell_flat : (cell : Cell) → depth (cell_data cell) ≤ 3
cell_flat cell = cell_shape _ (items_flat value_data 1 value_flat cell.values)

dots_plain : (dots : List Dot) → items_have_float (items_of (map dot_data dots)) ≡ false
dots_plain dots = items_plain dot_data (λ d. refl) dots

dot_flat : (d : Dot) → depth (dot_data d) ≤ 1
dot_flat d = omega arith

dots_flat : (dots : List Dot) → items_depth (items_of (map dot_data dots)) ≤ 1
dots_flat dots = items_flat dot_data 1 dot_flat dots

cells_plain : (cells : List Cell) → items_have_float (items_of (map cell_data cells)) ≡ false
cells_plain cells = items_plain cell_data cell_plain cells

cells_flat : (cells : List Cell) → items_depth (items_of (map cell_data cells)) ≤ 3
cells_flat cells = items_flat cell_data 3 cell_flat cells

upload_item_plain : (i : UploadItem) (body : Body) → has_float (upload_item_data_by i body) ≡ false
upload_item_plain i (Live cells) = rw (dots_plain i.version.lineage, cells_plain cells) refl
upload_item_plain i (Dead top) = rw (dots_plain i.version.lineage) refl

upload_item_flat : (i : UploadItem) (body : Body) → depth (upload_item_data_by i body) ≤ 5
upload_item_flat i (Live cells) = live_shape _ _ (dots_flat i.version.lineage) (cells_flat cells)
upload_item_flat i (Dead top) = dead_shape _ (dots_flat i.version.lineage)

pub request_plain : (r : Request) → has_float (request_data r) ≡ false
request_plain (request.Join m) = refl
request_plain (request.Upload m) = rw (items_plain upload_item_data (λ i. upload_item_plain i i.version.body) m.items) refl
request_plain (request.Ranges m) = rw (items_plain want_data (λ w. refl) m.wants) refl
request_plain (request.Download m) = refl

pub request_flat : (r : Request) → depth (request_data r) ≤ 127
request_flat (request.Join m) = omega arith
request_flat (request.Upload m) = items_shape _ (items_flat upload_item_data 5 (λ i. upload_item_flat i i.version.body) m.items)
request_flat (request.Ranges m) = ask_shape _ (items_flat want_data 1 (λ w. omega arith) m.wants)
request_flat (request.Download m) = omega arith

grant_plain : (g : RangeGrant) → has_float (grant_data g) ≡ false
grant_plain g = rw (signed_plain g.begin, signed_plain g.end) refl

ended_plain : (e : Ended) → has_float (ended_data e) ≡ false
ended_plain e = rw (signed_plain e.greatest) refl

download_item_plain : (i : DownloadItem) (act : Order) → has_float (download_item_data_by i act) ≡ false
download_item_plain i (order.Put lineage live) = rw (dots_plain lineage, cells_plain live) refl
download_item_plain i order.RemoveDeleted = refl
download_item_plain i order.RemoveLeft = refl

download_item_flat : (i : DownloadItem) (act : Order) → depth (download_item_data_by i act) ≤ 5
download_item_flat i (order.Put lineage live) = put_shape _ _ (dots_flat lineage) (cells_flat live)
download_item_flat i order.RemoveDeleted = omega arith
download_item_flat i order.RemoveLeft = omega arith

pub reply_plain : (r : Reply) → has_float (reply_data r) ≡ false
reply_plain (reply.Joined m) = refl
reply_plain (reply.Uploaded m) = refl
reply_plain (reply.Ranged m) = rw (items_plain ended_data ended_plain m.ended, items_plain grant_data grant_plain m.grants) refl
reply_plain (reply.Downloaded m) = rw (items_plain download_item_data (λ i. download_item_plain i i.act) m.items) refl
reply_plain (reply.Refused n values) = rw (items_plain whole (λ k. refl) values) refl

pub reply_flat : (r : Reply) → depth (reply_data r) ≤ 127
reply_flat (reply.Joined m) = omega arith
reply_flat (reply.Uploaded m) = omega arith
reply_flat (reply.Ranged m) = ranged_shape _ _ (items_flat ended_data 1 (λ e. omega arith) m.ended) (items_flat grant_data 1 (λ g. omega arith) m.grants)
reply_flat (reply.Downloaded m) = items_shape _ (items_flat download_item_data 5 (λ i. download_item_flat i i.act) m.items)
reply_flat (reply.Refused n values) = refused_shape _ (items_flat whole 0 (λ k. omega arith) values)

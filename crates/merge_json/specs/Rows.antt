-- Changes, lineages and cells as they are read.
use Rattle.std.specs.Prelude.{List, codes, Option, Some, None, if◌then◌else◌}
use Rattle.serde_json.specs.Data.{Items, no_items, item}
use Rattle.serde_json.specs.Find.{as_str, as_array}
use Rattle.merge_types.specs.declared.identifiers.SiteId.{SiteId}
use Rattle.merge_types.specs.declared.identifiers.Dot.{Dot}
use Rattle.merge_types.specs.declared.identifiers.RowId.{RowId}
use Rattle.merge_units.specs.declared.version.Cell.{Cell}
use Rattle.merge_lineage.specs.Lineage.{ascending}
use Rattle.merge_json.specs.Reading.{◌>>=◌, Reader, field_at, whole_at, below_at, list_at}
use Rattle.merge_json.specs.Values.{guid_of, value_at}

unfoldable pub site_at : Reader SiteId
site_at d = below_at 65_536 d >>= λ n. Some (record { 0 = n })

-- a list of just a site and a number
abbrev pub pair_at : Items → Option Dot
pair_at (item a (item b no_items)) = site_at a >>= λ site. whole_at b >>= λ n. Some (record { site = site; number = n })
pair_at _ = None

unfoldable pub dot_at : Reader Dot
dot_at d = as_array d >>= pair_at

abbrev pub if_ascending : List Dot → Option (List Dot)
if_ascending dots = if ascending dots then Some dots else None

-- changes whose sites ascend
unfoldable pub lineage_at : Reader (List Dot)
lineage_at d = list_at dot_at d >>= if_ascending

unfoldable pub row_at : Reader RowId
row_at d = as_str d >>= λ text. guid_of text >>= λ n. Some (record { 0 = n })

unfoldable pub cell_at : Reader Cell
cell_at d = do
  top ← field_at (codes "top") dot_at d
  values ← field_at (codes "values") (list_at value_at) d
  Some (record { top = top; values = values })

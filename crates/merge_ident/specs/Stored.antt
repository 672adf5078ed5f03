-- Whether stored grants are those of a book, one after the other.
use Rattle.std.specs.Prelude.{◌+◌, Bool, ◌&&◌, ◌||◌, ◌==◌, not, pos, int_lt, int_le, List}
use Rattle.std.specs.List.{list_all}
use Rattle.merge_ident.specs.declared.grants.Grant.{Grant}
use Rattle.merge_ident.specs.Grants.{granted_to}

abbrev pub has_values : Grant → Bool
has_values grant = int_le (pos 1) grant.range.begin && int_le grant.range.begin grant.range.end

abbrev pub has_next_number : List Grant → Grant → Bool
has_next_number before grant = grant.number == granted_to grant.article grant.site.0 before + 1

-- the other grant is of another article, or ends before, or is to another site and begins behind
abbrev pub is_clear : Grant → Grant → Bool
is_clear grant other = not (other.article == grant.article) || int_lt other.range.end grant.range.begin || (not (other.site.0 == grant.site.0) && int_lt grant.range.end other.range.begin)

abbrev pub can_follow : List Grant → Grant → Bool
can_follow before grant = has_values grant && has_next_number before grant && list_all (is_clear grant) before

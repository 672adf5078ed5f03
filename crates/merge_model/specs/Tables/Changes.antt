-- Local changes: when a site refuses them, and what they make of a row.
pub use Rattle.merge_batch.specs.LocalChanges.{article_of, settings_of, is_insert, row_of_dot, key_of, new_value, new_values, version_after, lives, no_row, sets_identity, fits_type, wrong_type, long_value, length_after, long_row, too_many_rows, change_refusal}

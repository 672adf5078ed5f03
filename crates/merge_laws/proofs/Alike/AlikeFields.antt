-- What the publisher decides by its numbers and mappings is what its history says.
use Rattle.std.specs.Prelude.{◌≡◌, ◌≤◌, ℕ, Bool, true, false, refl}
use Rattle.std.proofs.Common.{sym, ◌∙◌}
use Rattle.merge_schema.specs.declared.publication.Publication.{Publication}
use Rattle.merge_types.specs.declared.identifiers.SiteId.{SiteId}
use Rattle.merge_model.specs.Judge.ByHistory.{has_acted_by_done, has_left_by_line, is_gap_by_done, is_unmet_by_done, received_by_done, received_number_by_done, touch_by_line}
use Rattle.merge_model.specs.Judge.ByNumbers.{has_acted_by_number, has_left_by_mapping, is_gap_by_number, is_unmet_by_number, received_by_number, received_number_by_number, touch_by_mapping}
use Rattle.merge_model.specs.History.{History}
use Rattle.merge_model.specs.Tables.Keys.{has_key}
use Rattle.merge_model.specs.History.Model.{Model}
use Rattle.merge_model.specs.Publisher.PublisherDownload.{inside_keys}
use Rattle.merge_types.specs.declared.row_key.RowKey.{RowKey as Key}
use Rattle.merge_model.specs.World.{World}
use Rattle.merge_model.proofs.Entries.Downloads.{inside-held}
use Rattle.merge_laws.proofs.Runs.Ground.{Ground}
use Rattle.merge_laws.proofs.Received.Models.{gap-is}
use Rattle.merge_laws.proofs.Numbered.Numbers.{unmet-by-number}
use Rattle.merge_laws.proofs.Numbered.Through.{last-is-done}
use Rattle.merge_laws.proofs.Received.Worlds.{received-is}
use Rattle.merge_laws.proofs.LastLines.LastLineReads.{inside-by-line, left-by-line, outside-by-line}

module _ (publication : Publication) (w : World) (h : History) (g : Ground publication w h) where
  pub received-alike : (site : ℕ) → received_by_number w.publisher site ≡ received_by_done h site
  received-alike site = sym (received-is h w.publisher site g.received.done)

  pub number-alike : (site : ℕ) → received_number_by_number w.publisher site ≡ received_number_by_done h site
  number-alike site = g.numbered.taken site ∙ sym (last-is-done h w.publisher site g.received.done (g.numbered.first site))

  pub acted-alike : (site generation : ℕ) → 1 ≤ generation → has_acted_by_number w.publisher site generation ≡ has_acted_by_done h site generation
  acted-alike site generation from = sym (g.received.done site generation from)

  pub gap-alike : (site from : ℕ) → is_gap_by_number w.publisher site from ≡ is_gap_by_done h site from
  gap-alike site from = gap-is h w.publisher site from g.received.done

  pub unmet-alike : (site number : ℕ) → 1 ≤ number → is_unmet_by_number w.publisher site number ≡ is_unmet_by_done h site number
  unmet-alike site number from = unmet-by-number w h g.received g.numbered site number from

  abbrev reached : Model
  reached = record { world = w; history = h }

  pub left-alike : (key : Key) (site : ℕ) → has_left_by_mapping w.publisher key site ≡ has_left_by_line h key site
  left-alike key site = left-by-line publication reached g.lines key site

  -- a row in a partition is held, and of a row outside only its moves are asked
  touch-test : (key : Key) (site : SiteId) (is_in : Bool) → has_key (inside_keys publication site w.publisher) key ≡ is_in → touch_by_mapping w.publisher key site.0 is_in ≡ touch_by_line h key site.0 is_in
  touch-test key site true is = inside-by-line publication reached g.lines key site.0 (inside-held publication site w.publisher key is)
  touch-test key site false is = outside-by-line publication reached g.lines key site.0

  pub touch-alike : (key : Key) (site : SiteId) → (let is_in : Bool = has_key (inside_keys publication site w.publisher) key in touch_by_mapping w.publisher key site.0 is_in ≡ touch_by_line h key site.0 is_in)
  touch-alike key site = touch-test key site (has_key (inside_keys publication site w.publisher) key) refl
